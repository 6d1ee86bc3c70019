-- Worked rows: which rows are of the kinds of types, how nodes are numbered, and what goes to them.
use Rattle.std.proofs.Common.{◌≡◌, pos, [], ◌∷◌, true, false, Some, refl, arith}
use Rattle.sub_types.specs.declared.kind.Kind.{Kind}
use Rattle.sub_types.specs.declared.kind.Kind.TheVariants as kinds
use Rattle.sub_types.specs.declared.kind.Ty.{Ty}
use Rattle.sub_types.specs.declared.value.Value.TheVariants as values
use Rattle.plan_typed.specs.declared.expr.Expr.{Expr-F}
use Rattle.plan_typed.specs.declared.expr.Func.TheVariants as funcs
use Rattle.plan_typed.specs.declared.expr.Overflow.TheVariants as modes
use Rattle.plan_typed.specs.declared.sub.SubKind.TheVariants as subs
use Rattle.plan_denote.specs.Holes.{Single}
use Rattle.denote_typed.specs.Holes.{Nodes, OfValue, OfList, OfNone, nodes_level, Takes, Awaits}
use Rattle.denote_typed.specs.Kinded.{AreInKinds}

abbrev required : Kind → Ty
required kind = record { kind = kind; nullable = false }

abbrev nullable : Kind → Ty
nullable kind = record { kind = kind; nullable = true }

-- a null in a required column is of its kind
null_is_of_kind : AreInKinds (required kinds.I8 ∷ []) (values.Null ∷ [])
null_is_of_kind = (tt, tt)

-- a value of another kind, one out of range and a missing one aren't
other_kind : AreInKinds (required kinds.I8 ∷ []) (values.Bool true ∷ []) → ⊥
other_kind is = is.0

out_of_range : AreInKinds (required kinds.I8 ∷ []) (values.Int (pos 128) ∷ []) → ⊥
out_of_range is = let fits = is.0.sfits in omega (arith, fits)

missing_value : AreInKinds (required kinds.I8 ∷ []) [] → ⊥
missing_value is = is

abbrev constant : Ty → Nodes
constant ty = nodes_level (Expr-F.Const values.Null ty)

abbrev column : Ty → Nodes
column ty = nodes_level (Expr-F.Column 0 ty)

-- a node stands before what is inside it, and the value that is looked for before the options
numbers_of_call : (nodes_level (Expr-F.Call funcs.And modes.Error (constant (nullable kinds.Bool) ∷ nodes_level (Expr-F.OneOf (column (required kinds.I8)) [] (required kinds.Bool)) ∷ []) (nullable kinds.Bool))).slots
    ≡ OfNone ∷ OfValue (nullable kinds.Bool) ∷ OfList (required kinds.I8) (required kinds.Bool) ∷ OfNone ∷ []
numbers_of_call = refl

-- the conditions and values of an if alternate, and what is chosen where none is true comes last
numbers_of_if : (nodes_level (Expr-F.If ((column (required kinds.Bool), constant (required kinds.I8)) ∷ []) (constant (required kinds.I16)) (required kinds.I8))).slots
    ≡ OfNone ∷ OfNone ∷ OfValue (required kinds.I8) ∷ OfValue (required kinds.I16) ∷ []
numbers_of_if = refl

-- a value of another kind doesn't go to a constant, nor null to a required one
other_value : Takes (Some (Single (values.Bool true))) (OfValue (required kinds.I8)) → ⊥
other_value takes = takes.in_kind

-- the value of a subquery may be null, so that a required constant doesn't await it
not_awaited : Awaits subs.Scalar (required kinds.I8 ∷ []) (OfValue (required kinds.I8)) → ⊥
not_awaited awaits = let null = awaits.1 in absurd (cc)

awaited : Awaits subs.Scalar (required kinds.I8 ∷ []) (OfValue (nullable kinds.I8))
awaited = (refl, refl)
