use Rattle.std.proofs.Common.{rules, tests, ◌∙◌, sym}
use Rattle.std.proofs.lemmas.Iterator.{YieldsList-from_slice}
use Rattle.std.proofs.lemmas.Iterator.Search.{any_from_yields_List}
use Rattle.plan_verdict.specs.Sets as spec
use Rattle.plan_rules.proofs.ListLaws.{list_any-map}
use Rattle.plan_rules.proofs.joins.some_is_nullable.Goals as goal

pub returns : goal.returns
returns c =
    any_from_yields_List (spec.is_nullable_at c.args.place) _ _ c.any.result c.any.ensures.ran (YieldsList-from_slice c.args.others.now cc) (λ x b q k. search (rules, tests))
    ∙ sym (list_any-map (λ other. other) (spec.is_nullable_at c.args.place) c.args.others.now)
