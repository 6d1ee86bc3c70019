-- What was there, and the read relations of the subqueries so far.
use Rattle.std.proofs.Common.{◌≡◌, ◌++◌, take}
use Rattle.std.specs.List.{flat_map}
use Rattle.plan_typed.specs.declared.sub.Sub.{Sub}
use Rattle.plan_reads.specs.Reads.{reads_in}
use Rattle.plan_reads.proofs.reads.push_subs.Given as goal

abbrev pub invariant-loop-sub : goal.invariant-loop-sub
invariant-loop-sub l = l.reads.items ≡ l.initial.reads.items ++ flat_map (λ (sub : Sub). reads_in sub.rel) (take l.sub-index l.subs)
