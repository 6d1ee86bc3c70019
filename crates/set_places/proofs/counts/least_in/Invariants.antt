use Rattle.std.proofs.Common.{◌≡◌, ◌≤◌, ℕ, Bool, drop, length}
use Rattle.hash_chains.specs.First.{rows_where}
use Rattle.set_places.specs.Taken.{times, times_each, AreEnds, least}
use Rattle.set_places.proofs.CountLaws.{IsLeast}
use Rattle.set_places.proofs.counts.least_in.Given as goal

abbrev pub invariant-loop-end : goal.invariant-loop-end
invariant-loop-end l = record {
  within : l.at ≤ length l.alike;
  least : (test : ℕ → Bool) (count start : ℕ) → l.alike ≡ rows_where test count → AreEnds start l.ends count → l.from ≡ times test 0 start
      → IsLeast test count l.at l.least (drop l.end-index l.ends) (least l.initial.least (times_each test start l.ends));
}
