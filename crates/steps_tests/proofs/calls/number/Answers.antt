use Rattle.std.proofs.Common.{sym, subst}
use Rattle.std.specs.Int.{w64}
use Rattle.std.proofs.lemmas.Int.{to_z-of_z}
use Rattle.sub_types.specs.declared.value.Value.TheVariants as values
use Rattle.plan_typed.specs.declared.expr.Expr.TheVariants as e
use Rattle.steps_tests.specs.Typed.{number, IsOver}
use Rattle.steps_tests.proofs.CallLaws.{number_is}
use Rattle.steps_tests.proofs.calls.number.Goals as goal

pub returns : goal.returns
returns c = subst (λ n. IsOver number (e.Const (values.Int n) number)) (sym (to_z-of_z w64 c.args.number c.ranges.number)) (number_is c.args.number c.ranges.number)
