use Rattle.std.proofs.Common.{[], ◌∷◌, sym, subst}
use Rattle.std.specs.Int.{w64}
use Rattle.std.proofs.lemmas.Int.{to_z-of_z}
use Rattle.sub_types.specs.declared.value.Value.TheVariants as values
use Rattle.plan_typed.specs.declared.expr.Expr.TheVariants as e
use Rattle.eval_batch_tests.specs.Typed.{number, IsOver}
use Rattle.eval_batch_tests.proofs.ChoiceLaws.{switch_is}
use Rattle.eval_batch_tests.proofs.choices.switch.Goals as goal

pub returns : goal.returns
returns c =
    subst (IsOver number) (sym c.in_ok-expr.ensures)
    (subst (λ n. IsOver number (e.Switch c.args.subject ((values.Int n, c.args.value) ∷ []) c.args.other number)) (sym (to_z-of_z w64 c.args.number c.ranges.number))
    (switch_is c.args.subject c.args.number c.args.value c.args.other c.ranges.number c.requires.subject c.requires.value c.requires.other))
