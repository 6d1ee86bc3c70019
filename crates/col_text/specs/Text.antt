-- The buffers of a column of texts (Arrow columnar format, variable-size binary layout), but for the first offset, 0.
use Rattle.std.specs.Prelude.{◌≡◌, ℕ, ◌+◌, ◌%◌, ◌^◌, ◌≤◌, nat_lt, List, [], ◌∷◌, Bool, true, false, Option, None, length, take, map, is_some, slice_index_or}
use Rattle.std.specs.List.{slice_range, concat}
use Rattle.sub_types.specs.Slots.{slots}

-- where each text ends, if the first begins at a place
abbrev pub ends_of : ℕ → List (List ℕ) → List ℕ
ends_of start [] = []
ends_of start (text ∷ texts) = (start + length text) ∷ ends_of (start + length text) texts

-- where the text at a place begins, if the first begins at 0
abbrev pub offset_of : List (List ℕ) → ℕ → ℕ
offset_of texts i = length (concat (take i texts))

-- the bytes between the ends, from a place on
abbrev pub pieces : ℕ → List ℕ → List ℕ → List (List ℕ)
pieces start [] bytes = []
pieces start (end ∷ ends) bytes = slice_range bytes start end ∷ pieces end ends bytes

-- the buffers of a column: its texts one behind the other, where each ends, and which are there; a null has no bytes
pub record HoldsTexts (column : List (Option (List ℕ))) (ends bytes : List ℕ) (valid : List Bool) : Type 0 where
  pub ends_are : ends ≡ ends_of 0 (slots [] column)
  pub bytes_are : bytes ≡ concat (slots [] column)
  pub valid_are : valid ≡ map is_some column

-- ends that never fall from a place on, up to so many bytes
abbrev pub Rise : ℕ → List ℕ → ℕ → Type 0
Rise start [] size = start ≡ size
Rise start (end ∷ ends) size = (start ≤ end) × Rise end ends size

-- the text of a null is empty
abbrev pub NullsAreEmpty : ℕ → List ℕ → List Bool → Type 0
NullsAreEmpty start (end ∷ ends) (true ∷ valid) = NullsAreEmpty end ends valid
NullsAreEmpty start (end ∷ ends) (false ∷ valid) = (end ≡ start) × NullsAreEmpty end ends valid
NullsAreEmpty start _ _ = Unit {0}

-- what the parts of a column have to be
pub record AreParts (ends bytes : List ℕ) (valid : List Bool) : Type 0 where
  pub rising : Rise 0 ends (length bytes)
  pub counted : length ends ≡ length valid
  pub empty : NullsAreEmpty 0 ends valid

-- the texts at some places
abbrev pub picked : List (List ℕ) → List ℕ → List (List ℕ)
picked texts at = map (λ i. slice_index_or texts i []) at

-- the values at some places, and their texts
abbrev pub values_at : List (Option (List ℕ)) → List ℕ → List (Option (List ℕ))
values_at column at = map (λ i. slice_index_or column i None) at

abbrev pub texts_at : List (Option (List ℕ)) → List ℕ → List (List ℕ)
texts_at column at = picked (slots [] column) at

-- whether an end is below 2^32 once it is moved by a number that wraps round
abbrev pub moves_below : ℕ → ℕ → Bool
moves_below shift end = nat_lt ((end + shift) % 2 ^ 64) (2 ^ 32)
