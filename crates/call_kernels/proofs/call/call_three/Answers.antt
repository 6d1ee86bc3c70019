-- The constants are the same at each place.
use Rattle.call_kernels.proofs.call.call_three.Goals as goal

pub call_with_two-requires-clause-in_kind : goal.call_with_two-requires-clause-in_kind
call_with_two-requires-clause-in_kind c = rw c.in-Constant-c.is at (rw c.in-Constant.is at c.requires.in_kind)
