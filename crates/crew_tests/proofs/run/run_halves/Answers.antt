use Rattle.std.proofs.Common.{ℕ, ◌/◌, refl, rules, ap, sym, ◌∙◌}
use Rattle.crew_tests.proofs.Fresh.{fresh_new}
use Rattle.crew_tests.proofs.run.run_halves.Goals as goal

pub run_round-requires-clause-fresh : goal.run_round-requires-clause-fresh
run_round-requires-clause-fresh g c = let fresh = fresh_new c.in_ok-labours.labours.items c.in_ok-labours.ensures.fresh in search rules

pub returns-clause-halves : goal.returns-clause-halves
returns-clause-halves g c = λ k d below.
    let f = c.in_ok-round.ensures.fair (tt, tt) (λ j e low. refl) k d below in
    f.3.0 ∙ ap (λ (n : ℕ). n / 2) (f.1 ∙ sym f.3.1)
