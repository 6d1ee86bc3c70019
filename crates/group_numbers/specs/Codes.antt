-- Keys of short texts as numbers. The digits of a key's code to base 256 are the bytes of its texts and, behind those of each, a digit
-- that says how many they are.
use Rattle.std.specs.Prelude.{◌≡◌, ◌<◌, ℕ, ◌+◌, ◌*◌, List, [], ◌∷◌, Option, Some, None, length, slice_index, slice_index_or}
use Rattle.std.specs.List.{All}
use Rattle.sub_types.specs.declared.value.Value.{Value}
use Rattle.sub_types.specs.declared.value.Value.TheVariants.{Null}
use Rattle.batch.specs.declared.batch.Batch.{Batch}
use Rattle.row_keys.specs.Keys.{key_of}

-- a code with these digits behind it
abbrev pub with_bytes : ℕ → List ℕ → ℕ
with_bytes code [] = code
with_bytes code (byte ∷ bytes) = with_bytes (code * 256 + byte) bytes

-- a code with a text behind it, and with a null
abbrev pub with_text : ℕ → Option (List ℕ) → ℕ
with_text code (Some bytes) = with_bytes code bytes * 256 + (length bytes + 1)
with_text code None = code * 256

-- the bytes, and how many they are, are digits
abbrev pub AreDigits : List ℕ → Type 0
AreDigits bytes = All (λ byte. byte < 256) bytes

abbrev pub HasDigits : Option (List ℕ) → Type 0
HasDigits (Some bytes) = AreDigits bytes × (length bytes + 1 < 256)
HasDigits None = Unit {0}

-- a code that has bytes, or a text, behind another
pub record IsWithBytes (code : ℕ) (bytes : List ℕ) (more : ℕ) : Type 0 where
  pub is : more ≡ with_bytes code bytes
  pub digits : AreDigits bytes

pub record IsWithText (code : ℕ) (text : Option (List ℕ)) (more : ℕ) : Type 0 where
  pub is : more ≡ with_text code text
  pub digits : HasDigits text

-- each code has the text at its place behind another
abbrev pub AreWithTexts : List ℕ → List ℕ → List (Option (List ℕ)) → Type 0
AreWithTexts old new column = (row : ℕ) → row < length old → IsWithText (slice_index old row) (slice_index_or column row None) (slice_index new row)

-- where codes are equal, those that they were made of are, and the values
abbrev pub TellValues : List ℕ → List ℕ → List Value → Type 0
TellValues old new column = (i j : ℕ) → i < length old → j < length old → slice_index new i ≡ slice_index new j
    → (slice_index old i ≡ slice_index old j) × (slice_index_or column i Null ≡ slice_index_or column j Null)

-- the rows have these codes, and only those with the same key have the same
pub record AreCodes (columns : List ℕ) (batch : Batch) (codes : List ℕ) : Type 0 where
  pub all : length codes ≡ batch.rows
  pub same : (i j : ℕ) → i < batch.rows → j < batch.rows → slice_index codes i ≡ slice_index codes j → key_of columns batch i ≡ key_of columns batch j
