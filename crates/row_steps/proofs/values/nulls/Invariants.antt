use Rattle.std.proofs.Common.{◌≡◌, ◌++◌, ◌-◌, replicate}
use Rattle.sub_types.specs.declared.value.Value.TheVariants.{Null}
use Rattle.row_steps.proofs.values.nulls.Given as goal

-- the nulls so far and those that are left
abbrev pub invariant-loop : goal.invariant-loop
invariant-loop l = l.row ++ replicate (l.width - l.counter) Null ≡ replicate l.fn.width Null
