-- The first so many values as constants.
use Rattle.std.proofs.Common.{◌≡◌, map, take}
use Rattle.plan_typed.specs.declared.expr.Expr.TheVariants as exprs
use Rattle.sub_query.proofs.fill_expr.constants.Given as goal

abbrev pub invariant-loop-value : goal.invariant-loop-value
invariant-loop-value l = l.made.items ≡ map (λ one. exprs.Const one l.ty) (take l.value-index l.values)
