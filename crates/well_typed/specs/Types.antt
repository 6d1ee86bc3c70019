-- The types of checked expressions.
use Rattle.std.specs.Prelude.{List, Bool}
use Rattle.std.specs.List.{list_any}
use Rattle.sub_types.specs.declared.kind.Kind.{Kind}
use Rattle.sub_types.specs.declared.kind.Ty.{Ty}
use Rattle.plan_typed.specs.declared.expr.Expr.{Expr}
use Rattle.plan_typed.specs.Types.{ty_of}

-- the kind of a checked expression
abbrev pub kind_of : Expr → Kind
kind_of expr = (ty_of expr).kind

abbrev pub type_with : Kind → Bool → Ty
type_with kind nullable = record { kind = kind; nullable = nullable }

-- some may be null
abbrev pub some_nullable : List Expr → Bool
some_nullable exprs = list_any (λ expr. (ty_of expr).nullable) exprs
