-- Texts that stand one behind the other.
use Rattle.std.specs.Prelude.{ℕ, ◌<◌, List, [], Option, length}
use Rattle.std.specs.List.{concat}
use Rattle.std.specs.Str.{IsCharBoundary}
use Rattle.sub_types.specs.Slots.{slots}
use Rattle.col_text.specs.Text.{offset_of}

-- each text begins where a character of all of them does
abbrev pub BeginAtCharacters : List (Option (List ℕ)) → Type 0
BeginAtCharacters column = (i : ℕ) → i < length column → IsCharBoundary (concat (slots [] column)) (offset_of (slots [] column) i)
