-- A table's entries as a finite map.
use Rattle.std.specs.Prelude.{ℕ, List, map, Vec, String}
use Rattle.std.specs.declared.alloc.Global.{Global}
use Rattle.std.specs.String.{string_bytes}
use Rattle.std.specs.FinMap.{from_entries}
use Rattle.world.specs.Files.{Files}

-- the bytes of a name, and those of its file
abbrev pub file_entry : String Global × Vec ℕ Global → List ℕ × List ℕ
file_entry entry = (string_bytes entry.0, entry.1.items)

abbrev pub files_of : List (String Global × Vec ℕ Global) → Files
files_of entries = from_entries (map file_entry entries)
