-- The kinds of the first so many expressions.
use Rattle.std.proofs.Common.{◌≡◌, take}
use Rattle.eval_row.specs.Lists.{kinds_of}
use Rattle.eval_batch.proofs.lists.kinds_in.Given as goal

abbrev pub invariant-loop-arg : goal.invariant-loop-arg
invariant-loop-arg l = l.kinds.items ≡ kinds_of (take l.arg-index l.args)
