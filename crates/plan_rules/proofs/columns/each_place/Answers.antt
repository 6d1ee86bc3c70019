use Rattle.std.proofs.Common.{rules, pos, ℤ, ◌∙◌, sym, ap, refl, get_or, Result, Ok, Err, map, ℕ}
use Rattle.std.specs.Option.{ok_or}
use Rattle.sub_types.specs.ResultSteps.{collect}
use Rattle.plan_verdict.specs.declared.rule.Rule.{Rule}
use Rattle.plan_verdict.specs.declared.rule.Rule.TheVariants as rules-of
use Rattle.plan_verdict.specs.Checking.{Agrees}
use Rattle.plan_verdict.specs.Columns.{place_in}
use Rattle.plan_rules.proofs.StepLaws.{collect-more, Agrees-refused}
use Rattle.plan_rules.proofs.columns.each_place.Goals as goal

abbrev place_of : ℕ → ℤ → Result ℕ Rule
place_of count field = ok_or (place_in count field) rules-of.BadMapping

pub loop-field-preserved : goal.loop-field-preserved
loop-field-preserved c =
    let field = get_or c.args.mapping.now c.loop-field.field-index (pos 0) in
    collect-more (place_of c.args.count) c.args.mapping.now c.loop-field.field-index (pos 0) field c.loop-field.places c.in_ok-mapped_place.field-0 c.loop-field-test.true refl c.loop-field.invariant c.in_ok-mapped_place.ensures
    ∙ ap Ok (sym c.in_ok-push.ensures.ok)

pub returns-in_err-mapped_place : goal.returns-in_err-mapped_place
returns-in_err-mapped_place c =
    let field = get_or c.args.mapping.now c.loop-field.field-index (pos 0) in
    let refused : Agrees (Err c.in_err-mapped_place.field-0.0) c.args.relation (collect (map (place_of c.args.count) c.args.mapping.now)) =
    Agrees-refused (place_of c.args.count) c.args.mapping.now c.loop-field.field-index (pos 0) field c.loop-field.places c.args.relation c.in_err-mapped_place.field-0.0 c.loop-field-test.true refl c.loop-field.invariant c.in_err-mapped_place.ensures in
    search rules
