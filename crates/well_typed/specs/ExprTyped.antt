-- When a checked expression is well typed: each node of it, over the columns that it stands on.
use Rattle.std.specs.Prelude.{◌≡◌, ◌⊎◌, ℕ, List, [], ◌∷◌, ◌++◌, true, Some, None, IsTrue, map, codes, slice_get}
use Rattle.std.specs.List.{AllByRecursion, Contains}
use Rattle.sub_types.specs.Kind.{IsKind}
use Rattle.sub_types.specs.Value.{FitsTy}
use Rattle.sub_types.specs.declared.kind.Kind.{Kind}
use Rattle.sub_types.specs.declared.kind.Kind.TheVariants as kinds
use Rattle.sub_types.specs.declared.kind.Ty.{Ty}
use Rattle.sub_types.specs.declared.value.Value.{Value}
use Rattle.plan_typed.specs.declared.expr.Expr.{Expr, Expr-F, every-Expr}
use Rattle.plan_typed.specs.declared.expr.Func.{Func}
use Rattle.plan_typed.specs.declared.expr.Overflow.{Overflow}
use Rattle.plan_typed.specs.declared.expr.Overflow.TheVariants as modes
use Rattle.plan_typed.specs.Types.{ty_of}
use Rattle.func_table.specs.declared.row.Class.{Class}
use Rattle.func_table.specs.declared.row.Class.TheVariants.{Scalar}
use Rattle.func_table.specs.Entry.{Entry, Signature, is_class, takes_kinds, all_agree}
use Rattle.func_table.specs.Options.{honoured}
use Rattle.func_table.specs.Table.{table}
use Rattle.well_typed.specs.Casts.{can_cast}
use Rattle.well_typed.specs.Results.{result_of, is_of_scale, scale_for, is_nullable_call}
use Rattle.well_typed.specs.Types.{kind_of, type_with}

-- a type is as another implies: of its kind, and nullable wherever that is
pub record IsAs (implied given : Ty) : Type 0 where
  pub kind : given.kind ≡ implied.kind
  pub nullable : IsTrue implied.nullable → IsTrue given.nullable

-- the names of the modes, as values of the option `overflow`
abbrev pub mode_name : Overflow → List ℕ
mode_name modes.Error = codes "ERROR"
mode_name modes.Saturate = codes "SATURATE"
mode_name modes.Silent = codes "SILENT"

-- a fault, or a mode that the row honours
abbrev pub HasMode : Signature → Overflow → Type 0
HasMode row mode = (mode ≡ modes.Error) ⊎ (honoured row (codes "overflow") (mode_name mode) ≡ Some true)

-- the kind is the row's result, or a valid decimal of the scale that a declared one must have
abbrev pub IsResult : Signature → List Kind → Kind → Type 0
IsResult row given kind = elim (result_of row.result given) [
  | Some result ↦ kind ≡ result
  | None ↦ IsKind kind × IsTrue (is_of_scale (scale_for row.func given) kind)
]

-- an entry of the table takes arguments of these kinds
pub record Takes (class : Class) (given : List Kind) (entry : Entry) : Type 0 where
  pub listed : Contains table entry
  pub of_class : IsTrue (is_class entry.class class)
  pub kinds : IsTrue (takes_kinds entry.arguments given)
  pub alike : IsTrue (all_agree entry.alike given)

-- a function of this class takes arguments of these types and gives one of that type
pub record IsCall (class : Class) (func : Func) (given : List Ty) (ty : Ty) (entry : Entry) : Type 0 where
  pub function : entry.row.func ≡ func
  pub takes : Takes class (map (λ one. one.kind) given) entry
  pub result : IsResult entry.row (map (λ one. one.kind) given) ty.kind
  pub nullable : IsTrue (is_nullable_call func given) → IsTrue ty.nullable

-- a value of a type, or null
abbrev pub IsOfKind : Kind → Value → Type 0
IsOfKind kind value = FitsTy (type_with kind true) value

-- a condition
abbrev pub IsCondition : Expr → Type 0
IsCondition expr = kind_of expr ≡ kinds.Bool

-- what is one of these values has this type
abbrev pub AreAs : Ty → List Expr → Type 0
AreAs ty values = AllByRecursion (λ value. IsAs (ty_of value) ty) values

-- there is one at least
abbrev pub HasOne : {A : Type 0} → List A → Type 0
HasOne [] = ⊥
HasOne (_ ∷ _) = Unit {0}

-- one node, over these columns
abbrev pub IsNode : List Ty → Expr-F Expr → Type 0
IsNode columns (Expr-F.Const value ty) = IsKind ty.kind × FitsTy ty value
IsNode columns (Expr-F.Column index ty) = (column : Ty) × (slice_get columns index ≡ Some column) × IsAs column ty
IsNode columns (Expr-F.Call func mode args ty) = (entry : Entry) × IsCall Scalar func (map ty_of args) ty entry × HasMode entry.row mode
IsNode columns (Expr-F.If arms other ty) =
    HasOne arms × AllByRecursion (λ arm. IsCondition arm.0) arms × AreAs ty (map (λ arm. arm.1) arms ++ other ∷ [])
IsNode columns (Expr-F.Switch subject arms other ty) =
    HasOne arms × AllByRecursion (λ arm. IsOfKind (kind_of subject) arm.0) arms × AreAs ty (map (λ arm. arm.1) arms ++ other ∷ [])
IsNode columns (Expr-F.OneOf value options ty) =
    (ty.kind ≡ kinds.Bool) × AllByRecursion (λ one. kind_of one ≡ kind_of value) options
    × AllByRecursion (λ one. IsTrue (ty_of one).nullable → IsTrue ty.nullable) (value ∷ options)
IsNode columns (Expr-F.Cast input null_on_fail ty) =
    IsTrue (can_cast (kind_of input) ty.kind) × IsKind ty.kind × (IsTrue (ty_of input).nullable → IsTrue ty.nullable) × (IsTrue null_on_fail → IsTrue ty.nullable)

-- each node of the expression is well typed over these columns
abbrev pub IsTypedOver : List Ty → Expr → Type 0
IsTypedOver columns expr = every-Expr (IsNode columns) expr
