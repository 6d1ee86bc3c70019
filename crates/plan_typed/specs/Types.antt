-- The types of checked expressions, and the columns of checked relations.
use Rattle.std.specs.Prelude.{List}
use Rattle.sub_types.specs.declared.kind.Ty.{Ty}
use Rattle.plan_typed.specs.declared.expr.Expr.{Expr, Expr-F, out-Expr}
use Rattle.plan_typed.specs.declared.rel.Rel.{Rel, out-Rel}

-- the type at one level of an expression
abbrev pub ty_in : {A : Type 0} → Expr-F A → Ty
ty_in (Expr-F.Const value ty) = ty
ty_in (Expr-F.Column index ty) = ty
ty_in (Expr-F.Call func mode args ty) = ty
ty_in (Expr-F.If arms other ty) = ty
ty_in (Expr-F.Switch subject arms other ty) = ty
ty_in (Expr-F.OneOf value options ty) = ty
ty_in (Expr-F.Cast input null_on_fail ty) = ty

-- the type of an expression
abbrev pub ty_of : Expr → Ty
ty_of expr = ty_in (out-Expr expr)

-- the columns of a relation
abbrev pub columns_of : Rel → List Ty
columns_of rel = (out-Rel rel).columns
