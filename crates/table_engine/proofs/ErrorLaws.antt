-- The error of a call that a function hands on.
use Rattle.std.proofs.Common.{◌≡◌, ◌∙◌, Result, Ok, Err, sym, ap}

abbrev error_or : {T E : Type 0} → E → Result T E → E
error_or other (Ok x) = other
error_or other (Err error) = error

pub error_same : {T E : Type 0} {own error : E} (r : Result T E) (made : E) → r ≡ Err made → made ≡ own → r ≡ Err error → own ≡ error
error_same r made is same other = sym same ∙ ap (error_or made) (sym is ∙ other)
