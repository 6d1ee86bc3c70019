-- The row of the table that a call is of.
use Rattle.std.specs.Prelude.{ℕ, Bool, List, Option, map}
use Rattle.std.specs.List.{find, list_any, Contains}
use Rattle.std.specs.Option.{option_map}
use Rattle.sub_types.specs.declared.kind.Kind.{Kind}
use Rattle.func_table.specs.declared.row.Class.{Class}
use Rattle.func_table.specs.Entry.{Entry, Signature, is_named, fits}
use Rattle.func_table.specs.Table.{table}

-- the entry of a call: the first that fits, which is the only one
abbrev pub entry_for : List ℕ → List ℕ → List Kind → Class → Option Entry
entry_for file name kinds class = find (fits file name kinds class) table

-- the row of a call
abbrev pub row_for : List ℕ → List ℕ → List Kind → Class → Option Signature
row_for file name kinds class = option_map (λ entry. entry.row) (entry_for file name kinds class)

-- the file has a function of this name and class
abbrev pub is_known : List ℕ → List ℕ → Class → Bool
is_known file name class = list_any (is_named file name class) table

-- what is said of some row of the table
abbrev pub IsRow : Signature → Type 0
IsRow row = Contains (map (λ entry. entry.row) table) row
