use Rattle.std.proofs.Common.{◌≡◌}
use Rattle.plan_denote.specs.Join.{nulls}
use Rattle.set_rows.proofs.rows.null_key.Given as goal

-- the nulls so far
abbrev pub invariant-loop : goal.invariant-loop
invariant-loop l = l.key ≡ nulls l.counter
