-- The parts of an aggregate over two columns of numbers.
use Rattle.std.specs.Prelude.{Some, None}
use Rattle.plan_typed.specs.declared.expr.Expr.{Expr}
use Rattle.plan_typed.specs.declared.expr.Expr.TheVariants as exprs
use Rattle.plan_typed.specs.declared.expr.Func.TheVariants as funcs
use Rattle.plan_typed.specs.declared.rel.TypedMeasure.{TypedMeasure}
use Rattle.pipe_round_tests.specs.Steps.{number}

abbrev pub first_column : Expr
first_column = exprs.Column 0 number

abbrev pub second_sum : TypedMeasure
second_sum = record { func = funcs.Sum; arg = Some (exprs.Column 1 number); filter = None; ty = number }
