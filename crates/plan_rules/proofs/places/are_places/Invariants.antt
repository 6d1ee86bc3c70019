use Rattle.std.proofs.Common.{◌≡◌, length, drop}
use Rattle.plan_verdict.specs.Aggregates as spec
use Rattle.plan_rules.proofs.MarkLaws.{are_fresh}
use Rattle.plan_rules.proofs.places.are_places.Given as goal

-- what is left stands against the marks as the whole set against none
abbrev pub invariant-loop-one : goal.invariant-loop-one
invariant-loop-one l = record {
  len : length l.seen ≡ l.count;
  rest : are_fresh l.seen (drop l.one-index l.set) ≡ spec.are_places l.count l.set;
}
