use Rattle.std.proofs.Common.{◌≡◌, length, get_or}
use Rattle.sub_types.specs.Bits.{bit_of}
use Rattle.sub_types.specs.BitSteps.{IsMade}
use Rattle.sub_types.proofs.bits.pick.Given as goal

abbrev pub invariant-loop-i : goal.invariant-loop-i
invariant-loop-i l = record { made : IsMade (λ k. bit_of l.source (get_or l.at k 0)) (length l.at) l.bytes l.i; len : length l.bytes ≡ length l.initial.bytes }
