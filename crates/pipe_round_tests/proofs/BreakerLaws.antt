-- Breakers over two columns of numbers.
use Rattle.std.proofs.Common.{◌≡◌, ◌<◌, List, [], ◌∷◌, length, get_or, refl, sym, ap, subst, arith}
use Rattle.std.specs.Prelude.{codes}
use Rattle.std.specs.List.{AllByRecursion, Contains}
use Rattle.sub_types.specs.declared.kind.Ty.{Ty}
use Rattle.plan_typed.specs.Types.{ty_of}
use Rattle.plan_typed.specs.declared.expr.Expr.{Expr, Expr-F}
use Rattle.plan_typed.specs.declared.expr.Expr.TheVariants as exprs
use Rattle.plan_typed.specs.declared.expr.Expr.TheVariants.{rolls-Column}
use Rattle.plan_typed.specs.declared.expr.Func.TheVariants as funcs
use Rattle.plan_typed.specs.declared.rel.TypedMeasure.{TypedMeasure}
use Rattle.func_table.specs.declared.row.Class.TheVariants.{Aggregate}
use Rattle.func_table.specs.Entry.{Entry}
use Rattle.func_table.specs.Table.{table, test}
use Rattle.well_typed.specs.ExprTyped.{IsCall, IsTypedOver}
use Rattle.well_typed.specs.WellTyped.{IsMeasureOver}
use Rattle.well_typed.proofs.Made.{column_typed}
use Rattle.batch_nodes.proofs.TypedLaws.{type_in}
use Rattle.rel_specs.specs.declared.key_order.KeyOrder.{KeyOrder}
use Rattle.plan_pipes.specs.declared.pipe.Breaker.TheVariants as breakers
use Rattle.pipe_types.specs.Over.{IsBreakerOver}
use Rattle.pipe_round_tests.specs.Breakers.{first_column, second_sum}
use Rattle.pipe_round_tests.specs.Steps.{number}

abbrev two : List Ty
two = number ∷ number ∷ []

-- ---- a sort

pub sorted_over : (keys : List KeyOrder) (key : KeyOrder) → keys ≡ key ∷ [] → key.column ≡ 1 → IsBreakerOver two (breakers.Sort keys)
sorted_over keys key are column = subst (λ (all : List KeyOrder). IsBreakerOver two (breakers.Sort all)) (sym are) (omega (arith, column), tt)

-- ---- an aggregate

first_typed : IsTypedOver two first_column
first_typed = column_typed two 0 number (number, refl, record { kind = refl; nullable = λ yes. yes })

second_typed : IsTypedOver two (exprs.Column 1 number)
second_typed = column_typed two 1 number (number, refl, record { kind = refl; nullable = λ yes. yes })

second_ty : ty_of (exprs.Column 1 number) ≡ number
second_ty = sym (type_in (Expr-F.Column 1 number) (exprs.Column 1 number) (rolls-Column 1 number))

abbrev none : Entry
none = test (codes "lt") 2 funcs.Lt

abbrev sum_entry : Entry
sum_entry = get_or table 47 none

pub long : length table ≡ 86
unfolding table
long = refl

sum_listed : Contains table sum_entry
unfolding table
sum_listed = (47, subst (λ n. 47 < n) (sym long) (omega arith), refl)

sum_call : IsCall Aggregate funcs.Sum (number ∷ []) number sum_entry
unfolding table
sum_call = record { function = refl; takes = record { listed = sum_listed; of_class = refl; kinds = refl; alike = refl }; result = refl; nullable = λ yes. refl }

sum_over : IsMeasureOver two second_sum
sum_over = record { entry = sum_entry; call = subst (λ (given : List Ty). IsCall Aggregate funcs.Sum given number sum_entry) (ap (λ (ty : Ty). ty ∷ []) (sym second_ty)) sum_call; arg = second_typed; filter = tt }

pub grouped_over : (groups : List Expr) (measures : List TypedMeasure) → groups ≡ first_column ∷ [] → measures ≡ second_sum ∷ [] → AllByRecursion (IsTypedOver two) groups × AllByRecursion (IsMeasureOver two) measures
grouped_over groups measures first second = (
  subst (AllByRecursion (IsTypedOver two)) (sym first) (first_typed, tt),
  subst (AllByRecursion (IsMeasureOver two)) (sym second) (sum_over, tt),
)
