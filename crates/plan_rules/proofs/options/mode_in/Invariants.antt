use Rattle.std.proofs.Common.{◌≡◌, drop}
use Rattle.func_table.specs.Seen.{seen}
use Rattle.plan_verdict.specs.Calls.{mode_in, mode_from}
use Rattle.plan_rules.proofs.options.mode_in.Given as goal

-- the options that are left, from the mode so far
abbrev pub invariant-loop-option : goal.invariant-loop-option
invariant-loop-option l = mode_in (seen l.row) l.options ≡ mode_from l.mode (seen l.row) (drop l.option-index l.options)
