use Rattle.std.proofs.Common.{◌≡◌, ◌≤◌, ◌*◌, length}
use Rattle.sub_types.specs.BitSteps.{Continues}
use Rattle.sub_types.proofs.bits.fill.Given as goal

abbrev pub invariant-loop-i : goal.invariant-loop-i
invariant-loop-i l = record { filled : Continues l.fn.bytes l.bytes l.more l.len l.from (8 * l.i); next : l.len ≤ 8 * l.i; len : length l.bytes ≡ length l.fn.bytes }
