-- Lists with no element and with one.
use Rattle.std.specs.Prelude.{List, [], ◌∷◌, Bool, true, false, Option, Some, None}

abbrev pub is_empty : {A : Type 0} → List A → Bool
is_empty [] = true
is_empty _ = false

-- the one element of a list
abbrev pub only : {A : Type 0} → List A → Option A
only (x ∷ []) = Some x
only _ = None
