-- How many readers a folder has given and not got back.
use Rattle.std.specs.Prelude.{ℕ, ◌+◌, Option, Some, Result, Ok}
use Rattle.world.specs.declared.error.FolderError.{FolderError}

-- one more where a reader was given
abbrev pub lent_after : {R : Type 0} → Result (Option R) FolderError → ℕ → ℕ
lent_after (Ok (Some reader)) lent = lent + 1
lent_after _ lent = lent
