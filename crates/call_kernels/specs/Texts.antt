-- The texts of an argument.
use Rattle.std.specs.Prelude.{ℕ, ◌≤◌, List, Option, length, replicate, slice_index_or, None, IfSome, option_copied}
use Rattle.std.specs.List.{All}
use Rattle.std.specs.Str.{IsUtf8}
use Rattle.call_kernels.specs.declared.texts.Texts.{Texts}
use Rattle.call_kernels.specs.declared.texts.Texts.TheVariants.{Column, Constant}

-- those of a column, or so many times a constant
abbrev pub listed : ℕ → Texts → List (Option (List ℕ))
listed n (Column column) = column.now
listed n (Constant text) = replicate n (option_copied text)

-- the one at a place
abbrev pub text_of : Texts → ℕ → Option (List ℕ)
text_of (Column column) i = slice_index_or column.now i None
text_of (Constant text) i = option_copied text

-- there is one at each of the first so many places
abbrev pub Reaches : Texts → ℕ → Type 0
Reaches (Column column) n = n ≤ length column.now
Reaches (Constant text) n = Unit {0}

-- each is UTF-8
abbrev pub AreTexts : Texts → Type 0
AreTexts (Column column) = All (λ text. IfSome text IsUtf8) column.now
AreTexts (Constant text) = IfSome (option_copied text) IsUtf8
