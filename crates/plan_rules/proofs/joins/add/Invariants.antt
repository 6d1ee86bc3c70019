use Rattle.std.proofs.Common.{◌≡◌, ◌++◌, take}
use Rattle.plan_rules.proofs.joins.add.Given as goal

-- the first so many columns stand behind those that were there
abbrev pub invariant-loop-column : goal.invariant-loop-column
invariant-loop-column l = l.columns ≡ l.initial.columns ++ take l.column-index l.more
