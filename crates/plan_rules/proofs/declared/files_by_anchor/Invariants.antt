use Rattle.std.proofs.Common.{drop}
use Rattle.plan_rules.specs.Index.{IsFiles}
use Rattle.plan_rules.proofs.declared.files_by_anchor.Given as goal

-- the files so far from the end
abbrev pub invariant-loop-i : goal.invariant-loop-i
invariant-loop-i l = IsFiles (drop l.i l.uris) l.files
