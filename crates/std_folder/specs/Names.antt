-- Names of files as a set.
use Rattle.std.specs.Prelude.{ℕ, List, Option, Some, Result, Ok, Err, map, String}
use Rattle.std.specs.Ordering.{nat_cmp}
use Rattle.std.specs.Cmp.Lexicographic.{slice_cmp}
use Rattle.std.specs.FinSet.{FinSet, from_list, insert}
use Rattle.std.specs.String.{string_bytes}
use Rattle.std.specs.declared.alloc.Global.{Global}
use Rattle.world.specs.declared.error.FolderError.{FolderError}
use Rattle.world.specs.declared.error.FolderError.TheVariants.{NoMemory}

-- names by their bytes
abbrev pub Names : Type 0
Names = FinSet (slice_cmp nat_cmp)

abbrev pub entry_name : {X : Type 0} → String Global × X → List ℕ
entry_name entry = string_bytes entry.0

-- the names under which a table keeps something
abbrev pub names_of : {X : Type 0} → List (String Global × X) → Names
names_of entries = from_list (map entry_name entries)

-- the names of the open files once one was asked for: one that was found is open
abbrev pub open_after : {R : Type 0} → Result (Option R) FolderError → Names → List ℕ → Names
open_after (Ok (Some found)) open_names name = insert open_names name
open_after _ open_names name = open_names

-- a file that is open already is found, unless there is no memory to share it
abbrev pub IsShared : {R : Type 0} → Result (Option R) FolderError → Type 0
IsShared (Ok (Some found)) = Unit {0}
IsShared (Err NoMemory) = Unit {0}
IsShared _ = ⊥
