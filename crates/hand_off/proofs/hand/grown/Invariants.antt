use Rattle.std.proofs.Common.{◌≡◌}
use Rattle.crossbeam_queue.specs.Passes.{view, IsPassOf}
use Rattle.hand_off.specs.Rule.{fresh}
use Rattle.hand_off.proofs.hand.grown.Given as goal

abbrev pub invariant-loop : goal.invariant-loop
invariant-loop g l = record { of : IsPassOf l.line l.pass; all : view l.pass ≡ fresh l.counter l.counter }
