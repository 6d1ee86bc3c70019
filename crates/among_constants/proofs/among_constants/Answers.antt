use Rattle.std.proofs.Common.{rules, ◌≡◌, [], Option, subst}
use Rattle.std.specs.Option.{IfSome}
use Rattle.value_sets.specs.declared.set.ValueSet.{ValueSet}
use Rattle.value_sets.specs.Sets.{IsSetOf}
use Rattle.among_constants.proofs.UntilLaws.{one_of_some}
use Rattle.among_constants.proofs.among_constants.Goals as goal

pub returns-clause-answers : goal.returns-clause-answers
returns-clause-answers c = λ value batch rows kind stop is.
    let some : c.args.options.now ≡ [] → ⊥ = λ none. search rules in
    one_of_some c.in-Some.set c.args.options.now some (subst (λ (found : Option ValueSet). IfSome found (λ set. IsSetOf set c.args.options.now)) c.in-Some.is c.in_ok-set.ensures)
    value c.args.ty batch rows kind c.args.values.now stop c.in_ok-answers.field-0 is c.in_ok-answers.ensures.values c.in_ok-answers.ensures.ty c.requires
