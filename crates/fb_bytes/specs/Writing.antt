-- What stands while a table or a vector is being written: an offset whose object doesn't stand yet is four zeros.
use Rattle.std.specs.Prelude.{List, map}
use Rattle.fb_bytes.specs.Layout.{Part, Number, Offset, Cell, Value}

abbrev pub blank : Part → Cell
blank (Number slot width value) = Value slot width value
blank (Offset slot object) = Value slot 4 0

abbrev pub blanks : List Part → List Cell
blanks parts = map blank parts
