-- What holds of a result that was held and is there.
use Rattle.std.proofs.Common.{◌≡◌, false, Result, Ok, Err, IfOk, OnOk, subst}
use Rattle.std.specs.Prelude.{is_err}

-- what holds of a value if there is one
pub if_found : {A E : Type 0} (P : A → Type 0) (result : Result A E) (value : A) → result ≡ Ok value → IfOk result P → P value
if_found {A} {E} P result value is holds = subst (λ (r : Result A E). IfOk r P) is holds

-- what holds where a result is no error
pub if_no_error : {A E P : Type 0} (result : Result A E) → is_err result ≡ false → OnOk result P → P
if_no_error (Ok value) test holds = holds
if_no_error (Err error) test holds = absurd (cc)
