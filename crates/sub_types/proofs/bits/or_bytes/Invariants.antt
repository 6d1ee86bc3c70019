use Rattle.std.proofs.Common.{◌≡◌, ◌||◌, length}
use Rattle.sub_types.specs.BitSteps.{IsZipped}
use Rattle.sub_types.proofs.bits.or_bytes.Given as goal

abbrev pub invariant-loop-i : goal.invariant-loop-i
invariant-loop-i l = record { zipped : IsZipped ◌||◌ l.initial.bytes l.which l.bytes l.i; len : length l.bytes ≡ length l.initial.bytes }
