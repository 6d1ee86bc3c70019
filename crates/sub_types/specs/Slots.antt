-- What the buffer of a column holds: its values, and a filler where there is none.
use Rattle.std.proofs.Common.{◌≡◌, List, [], ◌∷◌, ◌++◌, length, map, Option, Some, None, unwrap_or, is_some, refl, ap}
use Rattle.std.proofs.lemmas.List.{map-append, length-map}
use Rattle.sub_types.specs.Optional.{optional}

-- each value, and the filler where there is none
abbrev pub slots : {T : Type 0} → T → List (Option T) → List T
slots filler column = map (λ value. unwrap_or value filler) column

-- the slots and which of them are valid tell the column
pub optional-slots : {T : Type 0} (filler : T) (column : List (Option T)) → optional (slots filler column) (map is_some column) ≡ column
optional-slots filler [] = refl
optional-slots filler (Some x ∷ column) = ap (λ rest. Some x ∷ rest) (optional-slots filler column)
optional-slots filler (None ∷ column) = ap (λ rest. None ∷ rest) (optional-slots filler column)

-- a slot for each value
pub length-slots : {T : Type 0} (filler : T) (column : List (Option T)) → length (slots filler column) ≡ length column
length-slots filler column = length-map column (λ value. unwrap_or value filler)

-- the slots of one column behind another
pub slots-append : {T : Type 0} (filler : T) (front back : List (Option T)) → slots filler (front ++ back) ≡ slots filler front ++ slots filler back
slots-append filler front back = map-append (λ value. unwrap_or value filler) front back
