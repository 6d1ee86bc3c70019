-- The values so far, and what is to come of the values that each column has left.
use Rattle.std.proofs.Common.{◌≡◌, ℕ, length, get_or}
use Rattle.batch_nodes.specs.Found.{found_at}
use Rattle.batch_nodes.proofs.ChosenLaws.{IsScatteredSoFar}
use Rattle.batch_nodes.proofs.scattering.scatter.Given as goal

abbrev pub invariant-loop-i : goal.invariant-loop-i
invariant-loop-i l =
    (l.built.ty ≡ l.fn.ty) × (length l.next.items ≡ length l.columns) × IsScatteredSoFar (found_at l.columns) l.rows l.choices l.stop l.i (λ (j : ℕ). get_or l.next.items j 0) l.built.values
