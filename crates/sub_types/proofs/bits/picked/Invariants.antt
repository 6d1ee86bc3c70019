use Rattle.std.proofs.Common.{◌≡◌, ◌<◌, ◌+◌, ◌-◌, ℕ, get_or}
use Rattle.sub_types.specs.Bits.{bit_of}
use Rattle.sub_types.specs.BitSteps.{is_set}
use Rattle.sub_types.proofs.bits.picked.Given as goal

abbrev pub invariant-loop-j : goal.invariant-loop-j
invariant-loop-j l = (m : ℕ) → m < l.j → is_set l.byte m ≡ bit_of l.source (get_or l.at (l.from + (l.count - l.j + m)) 0)
