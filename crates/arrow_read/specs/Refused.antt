-- Why a file isn't opened, against the definition.
use Rattle.std.specs.Prelude.{◌≡◌, Result, Ok, Err}
use Rattle.world.specs.declared.error.FolderError.{FolderError}
use Rattle.world.specs.declared.error.FolderError.TheVariants as folder_errors
use Rattle.arrow_meta.specs.Head.{Refusal, NotArrow, BadFooter, Unsupported, Compressed}
use Rattle.arrow_read.specs.declared.error.OpenError.{OpenError}
use Rattle.arrow_read.specs.declared.error.OpenError.TheVariants as open_errors
use Rattle.arrow_read.specs.declared.error.BlockError.{BlockError}
use Rattle.arrow_read.specs.declared.error.BlockError.TheVariants as block_errors

-- a call gives what is denoted, as it is seen, or why the file is refused; read faults and want of memory are free
abbrev pub Opens : {A B : Type 0} → (A → B) → Result A OpenError → Result B Refusal → Type 0
Opens seen (Ok x) denoted = denoted ≡ Ok (seen x)
Opens seen (Err open_errors.NotArrow) denoted = denoted ≡ Err NotArrow
Opens seen (Err (open_errors.BadFooter place)) denoted = denoted ≡ Err (BadFooter place)
Opens seen (Err open_errors.Compressed) denoted = denoted ≡ Err Compressed
Opens seen (Err (open_errors.Unsupported column)) denoted = denoted ≡ Err (Unsupported column)
Opens seen (Err open_errors.ReadFault) denoted = Unit {0}
Opens seen (Err open_errors.NoMemory) denoted = Unit {0}

-- what a failed read is to `open_file`
abbrev pub open_error : FolderError → OpenError
open_error folder_errors.Failed = open_errors.ReadFault
open_error folder_errors.NoMemory = open_errors.NoMemory

-- what a failed read is to `read_block`
abbrev pub block_error : FolderError → BlockError
block_error folder_errors.Failed = block_errors.ReadFault
block_error folder_errors.NoMemory = block_errors.NoMemory
