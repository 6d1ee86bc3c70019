-- What was there, and the read relations of the relations so far.
use Rattle.std.proofs.Common.{◌≡◌, ◌++◌, take}
use Rattle.std.specs.List.{flat_map}
use Rattle.plan_reads.specs.Reads.{reads_in}
use Rattle.plan_reads.proofs.reads.+reads.Given as goal

abbrev pub invariant-push_all-loop-rel : goal.invariant-push_all-loop-rel
invariant-push_all-loop-rel l = l.reads.items ≡ l.initial.reads.items ++ flat_map reads_in (take l.rel-index l.rels)
