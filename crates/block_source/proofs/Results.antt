-- Facts of results, one made of another.
use Rattle.std.proofs.Common.{◌≡◌, Result, Ok, Err, IfOk, OnOk, OnErr, subst}

module _ {A E : Type 0} where
  pub ok_mapped : (r : Result A E) (P Q : A → Type 0) → ((x : A) → P x → Q x) → IfOk r P → IfOk r Q
  ok_mapped (Ok x) P Q f p = f x p
  ok_mapped (Err e) P Q f p = p

  pub on_ok : (r : Result A E) (P Q : Type 0) → (P → Q) → OnOk r P → OnOk r Q
  on_ok (Ok x) P Q f p = f p
  on_ok (Err e) P Q f p = p

  pub on_err : (r : Result A E) (P Q : Type 0) → (P → Q) → OnErr r P → OnErr r Q
  on_err (Ok x) P Q f p = p
  on_err (Err e) P Q f p = f p

  pub ok_at : (r : Result A E) (x : A) (P : A → Type 0) → r ≡ Ok x → IfOk r P → P x
  ok_at r x P is p = subst (λ t. IfOk t P) is p

  pub on_ok_at : (r : Result A E) (x : A) (P : Type 0) → r ≡ Ok x → OnOk r P → P
  on_ok_at r x P is p = subst (λ t. OnOk t P) is p
