-- Objects whose buffers were worked out by hand.
use Rattle.std.specs.Prelude.{ℕ, List, [], ◌∷◌}
use Rattle.fb_bytes.specs.Layout.{Laid, Number, Offset, table_laid, text_laid}

-- a table of numbers of all widths, in slots that leave one out
unfoldable pub widths : Laid
widths =
    table_laid (Number 0 1 0x11 ∷ Number 1 8 0x2222222222222222 ∷ Number 2 2 0x3333 ∷ Number 3 4 0x44444444 ∷ Number 5 1 0x55 ∷ Number 6 8 0x66 ∷ [])

-- a table with one text
abbrev pub one_text : List ℕ → Laid
one_text text = table_laid (Offset 0 (text_laid text) ∷ [])
