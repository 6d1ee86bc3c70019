use Rattle.std.proofs.Common.{◌≡◌, take}
use Rattle.arrow_read.proofs.copies.metas_copy.Given as goal

abbrev pub invariant-loop-meta : goal.invariant-loop-meta
invariant-loop-meta l = l.copy.items ≡ take l.meta-index l.metas
