use Rattle.std.proofs.Common.{◌≡◌, drop}
use Rattle.std.specs.List.{find}
use Rattle.func_table.specs.Seen.{seen}
use Rattle.plan_verdict.specs.Calls.{is_preferred}
use Rattle.plan_rules.proofs.options.first_preferred.Given as goal

-- none so far is honoured
abbrev pub invariant-loop-value : goal.invariant-loop-value
invariant-loop-value l = find (is_preferred (seen l.row) l.name) l.preference ≡ find (is_preferred (seen l.row) l.name) (drop l.value-index l.preference)
