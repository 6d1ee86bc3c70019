-- Whether a value is one of the only column of a subquery's relation.
use Rattle.std.specs.Prelude.{ℕ, [], ◌||◌}
use Rattle.sub_types.specs.declared.kind.Ty.{Ty}
use Rattle.sub_types.specs.declared.kind.Kind.TheVariants as kinds
use Rattle.plan_typed.specs.declared.expr.Expr.{Expr}
use Rattle.plan_typed.specs.declared.expr.Expr.TheVariants as exprs
use Rattle.plan_typed.specs.declared.rel.Rel.{Rel}
use Rattle.plan_typed.specs.declared.sub.SubKind.TheVariants as sub_kinds
use Rattle.plan_typed.specs.Types.{ty_of, columns_of}
use Rattle.plan_verdict.specs.Checking.{Checking, ◌>>◌, accept, must, done}
use Rattle.plan_verdict.specs.Exprs.{is_single_of, first_column, kind_of, type_with}
use Rattle.plan_verdict.specs.declared.rule.Rule.TheVariants as rules

-- the value stands for whether it is one of this column, which is the relation's only one
abbrev pub in_only_column : ℕ → ℕ → Expr → Rel → Ty → Checking Expr
in_only_column relation node expr rel column = do
  done (record { rel = rel; kind = sub_kinds.In; hole = record { relation = relation; node = node } })
  accept (exprs.OneOf expr [] (type_with kinds.Bool ((ty_of expr).nullable || column.nullable)))

-- the column must be of the value's kind
abbrev pub in_column : ℕ → ℕ → Expr → Rel → Checking Expr
in_column relation node expr rel = do
  must relation (is_single_of (kind_of expr) (columns_of rel)) rules.TypeMismatch
  done (record { rel = rel; kind = sub_kinds.In; hole = record { relation = relation; node = node } })
  accept (exprs.OneOf expr [] (type_with kinds.Bool ((ty_of expr).nullable || (first_column (columns_of rel)).nullable)))
