use Rattle.aggregate.specs.States.{IsFor}
use Rattle.aggregate_tests.specs.Typed.{numbers}
use Rattle.aggregate_tests.proofs.trial.folded.Given as goal

abbrev pub invariant-loop-part : goal.invariant-loop-part
invariant-loop-part l = IsFor numbers l.spec l.partial
