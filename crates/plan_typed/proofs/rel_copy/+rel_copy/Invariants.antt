-- The loop has copied the first so many relations.
use Rattle.std.proofs.Common.{◌≡◌, take}
use Rattle.plan_typed.proofs.rel_copy.+rel_copy.Given as goal

abbrev pub invariant-copy_rels-loop-rel : goal.invariant-copy_rels-loop-rel
invariant-copy_rels-loop-rel l = l.copies.items ≡ take l.rel-index l.rels
