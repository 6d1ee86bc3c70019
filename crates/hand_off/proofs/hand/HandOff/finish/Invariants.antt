use Rattle.std.proofs.Common.{◌≡◌, ℕ, ◌+◌, sum_by, All, vec_len}
use Rattle.hand_off.proofs.hand.HandOff.finish.Given as goal

abbrev pub invariant-loop-pass : goal.invariant-loop-pass
invariant-loop-pass g l = record {
  of : All (λ p. p.of ≡ l.self) l.passes.items;
  mine : l.all.of ≡ l.self;
  shares : l.all.share + sum_by (λ p. p.share) l.passes.items ≡ l.self.passes;
  offered : (f : g.row.T.Denot → ℕ) → sum_by f l.all.offered + sum_by (λ p. sum_by f p.offered) l.passes.items ≡ sum_by (λ p. sum_by f p.offered) l.fn.passes.items;
  taken : (f : g.row.T.Denot → ℕ) → sum_by f l.all.taken + sum_by (λ p. sum_by f p.taken) l.passes.items ≡ sum_by (λ p. sum_by f p.taken) l.fn.passes.items;
}

abbrev pub decreases-loop-pass : goal.decreases-loop-pass
decreases-loop-pass g l = vec_len l.passes
