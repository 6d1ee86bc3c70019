-- The dictionaries of columns, as decoding sees them.
use Rattle.std.specs.Prelude.{◌≡◌, ℕ, List, true, Option}
use Rattle.std.specs.List.{list_all}
use Rattle.arrow_meta.specs.Values.{is_text}

-- each text is UTF-8
abbrev pub AreTexts : List (Option (List ℕ)) → Type 0
AreTexts texts = list_all is_text texts ≡ true
