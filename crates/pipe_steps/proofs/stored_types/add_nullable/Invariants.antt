use Rattle.std.proofs.Common.{◌≡◌, ◌++◌, take}
use Rattle.well_typed.specs.Columns as spec
use Rattle.pipe_steps.proofs.stored_types.add_nullable.Given as goal

-- the first so many columns stand behind those that were there
abbrev pub invariant-loop-column : goal.invariant-loop-column
invariant-loop-column l = l.columns.items ≡ l.initial.columns.items ++ spec.nullable (take l.column-index l.more)
