use Rattle.std.proofs.Common.{◌∙◌, List, [], ◌∷◌, ◌++◌, All, ap, sym, subst}
use Rattle.std.proofs.lemmas.List.Elements.{All-from_recursion}
use Rattle.plan_typed.specs.declared.expr.Expr.{Expr}
use Rattle.well_typed.specs.WellTyped.{IsConditionOver}
use Rattle.pipe_round_tests.specs.Steps.{sides}
use Rattle.pipe_round_tests.proofs.rests.one.Goals as goal

pub returns : goal.returns
returns c =
    subst (All (IsConditionOver sides)) (sym (c.in_ok-push.ensures.items ∙ ap (λ (parts : List Expr). parts ++ c.args.part ∷ []) c.new-parts.ensures.items))
    (All-from_recursion (IsConditionOver sides) (c.args.part ∷ []) (c.requires, tt))
