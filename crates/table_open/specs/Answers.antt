-- The answers of opening a table, against the definition.
use Rattle.std.specs.Prelude.{◌≡◌, ℕ, ◌≤◌, Result, Ok, Err}
use Rattle.world.specs.declared.error.FolderError.{FolderError}
use Rattle.world.specs.declared.error.FolderError.TheVariants as folder_errors
use Rattle.arrow_read.specs.declared.error.OpenError.{OpenError}
use Rattle.arrow_read.specs.declared.error.OpenError.TheVariants as open_errors
use Rattle.table_open.specs.declared.error.FileRule.{FileRule}
use Rattle.table_open.specs.declared.error.FileRule.TheVariants as rules
use Rattle.table_open.specs.declared.error.FileError.{FileError}
use Rattle.table_open.specs.declared.error.FileError.TheVariants as file_errors
use Rattle.table_open.specs.declared.error.TableError.{TableError}
use Rattle.table_open.specs.declared.error.TableError.TheVariants as table_errors

-- a call gives what is denoted, as it is seen, or why the file is refused; read faults and want of memory are free
abbrev pub FitsFile : {A B : Type 0} → (A → B) → Result A FileError → Result B FileRule → Type 0
FitsFile seen (Ok x) denoted = denoted ≡ Ok (seen x)
FitsFile seen (Err (file_errors.Refused rule)) denoted = denoted ≡ Err rule
FitsFile seen (Err file_errors.ReadFault) denoted = Unit {0}
FitsFile seen (Err file_errors.NoMemory) denoted = Unit {0}

-- the same of a table, whose refusals have the file's number
abbrev pub FitsTable : {A B : Type 0} → (A → B) → Result A TableError → Result B (ℕ × FileRule) → Type 0
FitsTable seen (Ok x) denoted = denoted ≡ Ok (seen x)
FitsTable seen (Err (table_errors.Refused file rule)) denoted = denoted ≡ Err (file, rule)
FitsTable seen (Err table_errors.ReadFault) denoted = Unit {0}
FitsTable seen (Err table_errors.NoMemory) denoted = Unit {0}

-- the rule refuses a file that is bound, for a table of this relation
abbrev pub IsFileRule : ℕ → FileRule → Type 0
IsFileRule relation (rules.Unbound at) = ⊥
IsFileRule relation (rules.NoColumn at column) = at ≡ relation
IsFileRule relation (rules.WrongType at column) = at ≡ relation
IsFileRule relation _ = Unit {0}

-- a refusal of a file is by such a rule
abbrev pub IsFileError : ℕ → FileError → Type 0
IsFileError relation (file_errors.Refused rule) = IsFileRule relation rule
IsFileError relation _ = Unit {0}

-- a refusal of a bound file by such a rule, with its number
abbrev pub IsBoundError : ℕ → ℕ → TableError → Type 0
IsBoundError relation number (table_errors.Refused file rule) = (file ≡ number) × IsFileRule relation rule
IsBoundError relation number _ = Unit {0}

-- a refusal as one of so many bound files, by such a rule
abbrev pub IsBoundRefusal : ℕ → ℕ → TableError → Type 0
IsBoundRefusal relation words (table_errors.Refused file rule) = (1 ≤ file) × (file ≤ words) × IsFileRule relation rule
IsBoundRefusal relation words _ = Unit {0}

-- the table of this relation is refused as file 0 where it is unbound, and else as one of so many bound files
abbrev pub IsTableRule : ℕ → ℕ → ℕ → FileRule → Type 0
IsTableRule relation words file (rules.Unbound at) = (file ≡ 0) × (at ≡ relation)
IsTableRule relation words file rule = (1 ≤ file) × (file ≤ words) × IsFileRule relation rule

-- a refusal of the table is by such a rule
abbrev pub IsTableError : ℕ → ℕ → TableError → Type 0
IsTableError relation words (table_errors.Refused file rule) = IsTableRule relation words file rule
IsTableError relation words _ = Unit {0}

-- what a failed call of a folder is to a table
abbrev pub folder_error : FolderError → TableError
folder_error folder_errors.Failed = table_errors.ReadFault
folder_error folder_errors.NoMemory = table_errors.NoMemory

-- what it is to a table that a file isn't an Arrow file
abbrev pub open_error : OpenError → FileError
open_error open_errors.NotArrow = file_errors.Refused rules.NotArrow
open_error (open_errors.BadFooter place) = file_errors.Refused (rules.BadFooter place)
open_error open_errors.Compressed = file_errors.Refused rules.Compressed
open_error (open_errors.Unsupported column) = file_errors.Refused (rules.Unsupported column)
open_error open_errors.ReadFault = file_errors.ReadFault
open_error open_errors.NoMemory = file_errors.NoMemory

-- the error of a file with its number
abbrev pub table_error : ℕ → FileError → TableError
table_error file (file_errors.Refused rule) = table_errors.Refused file rule
table_error file file_errors.ReadFault = table_errors.ReadFault
table_error file file_errors.NoMemory = table_errors.NoMemory
