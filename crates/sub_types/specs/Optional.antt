-- Values beside their validity, as columns keep them.
use Rattle.std.specs.Prelude.{List, [], ◌∷◌, Bool, true, false, Option, Some, None}

-- a value where it is valid, and null where it isn't
abbrev pub optional : {T : Type 0} → List T → List Bool → List (Option T)
optional (x ∷ xs) (true ∷ valid) = Some x ∷ optional xs valid
optional (x ∷ xs) (false ∷ valid) = None ∷ optional xs valid
optional _ _ = []
