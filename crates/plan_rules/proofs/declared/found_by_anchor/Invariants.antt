use Rattle.std.proofs.Common.{drop}
use Rattle.plan_rules.specs.Index.{IsFound}
use Rattle.plan_rules.proofs.declared.found_by_anchor.Given as goal

-- the declarations so far from the end
abbrev pub invariant-loop-i : goal.invariant-loop-i
invariant-loop-i l = IsFound l.files (drop l.i l.functions) l.found
