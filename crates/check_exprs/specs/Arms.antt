-- Conditional expressions of checked values: their kinds must be alike.
use Rattle.std.specs.Prelude.{List, Option, [], ◌∷◌, ◌++◌, Result, Ok, Err, map, if◌then◌else◌}
use Rattle.std.specs.List.{zip}
use Rattle.sub_types.specs.declared.kind.Kind.{Kind}
use Rattle.sub_types.specs.declared.value.Value.{Value}
use Rattle.plan_typed.specs.declared.expr.Expr.{Expr}
use Rattle.plan_typed.specs.declared.expr.Expr.TheVariants as exprs
use Rattle.plan_verdict.specs.Checking.{Checking, ◌>>=◌, accept, in_order, part}
use Rattle.plan_verdict.specs.Exprs.{are_alike, first_kind, otherwise, required, type_among}
use Rattle.plan_verdict.specs.Literals.{values_of_kind}
use Rattle.plan_verdict.specs.Meaning.{Arm, Expression, Scope}
use Rattle.plan_verdict.specs.declared.rule.Rule.{Rule}
use Rattle.plan_verdict.specs.declared.rule.Rule.TheVariants as rules

-- the values of arms
abbrev pub values_of : List (Expr × Expr) → List Expr
values_of arms = map (λ (arm : Expr × Expr). arm.1) arms

abbrev pub if_of : List (Expr × Expr) → Expr → Result Expr Rule
if_of arms other =
    if are_alike (values_of arms ++ other ∷ []) then Ok (exprs.If arms other (type_among (values_of arms ++ other ∷ []))) else Err rules.TypeMismatch

abbrev pub switch_of : Expr → List Value → List Expr → Expr → Result Expr Rule
switch_of subject literals values other =
    if are_alike (values ++ other ∷ []) then Ok (exprs.Switch subject (zip literals values) other (type_among (values ++ other ∷ []))) else Err rules.TypeMismatch

-- the literals of a switch, which are of the subject's kind, the values and the else
abbrev pub switch_arms : Scope → Kind → List Arm → Option Expression → Checking (List Value × List Expr × Expr)
switch_arms scope kind ifs other_arm = do
  literals ← part scope.relation (values_of_kind kind (map (λ arm. arm.literal) ifs))
  values ← in_order (map (λ arm. required scope arm.value) ifs)
  other ← otherwise scope (first_kind values) other_arm
  accept (literals, values, other)
