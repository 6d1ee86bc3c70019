-- When a checked plan is well typed: each of its relations, and those of its subqueries.
use Rattle.std.specs.Prelude.{◌≡◌, ◌≤◌, ◌<◌, ℕ, List, [], ◌∷◌, ◌++◌, Option, Some, None, IsTrue, ◌==◌, map, length, is_some, count_by}
use Rattle.std.specs.List.{AllByRecursion, enumerate_from}
use Rattle.std.specs.Option.{option_to_list}
use Rattle.sub_types.specs.Kind.{IsKind}
use Rattle.sub_types.specs.declared.kind.Ty.{Ty}
use Rattle.plan_typed.specs.declared.expr.Expr.{Expr}
use Rattle.plan_typed.specs.declared.rel.Op.{Op, out-Op}
use Rattle.plan_typed.specs.declared.rel.Op.TheOpen.{Op-F}
use Rattle.plan_typed.specs.declared.rel.Rel.{Rel, Rel-F, every-Rel}
use Rattle.plan_typed.specs.declared.rel.SetMeasure.{SetMeasure}
use Rattle.plan_typed.specs.declared.rel.SetOp.{SetOp}
use Rattle.plan_typed.specs.declared.rel.SortKey.{SortKey}
use Rattle.plan_typed.specs.declared.rel.Source.{Source}
use Rattle.plan_typed.specs.declared.rel.Source.TheVariants as sources
use Rattle.plan_typed.specs.declared.rel.Typed.{Typed}
use Rattle.plan_typed.specs.declared.rel.TypedMeasure.{TypedMeasure}
use Rattle.plan_typed.specs.declared.sub.Holed.{Holed}
use Rattle.plan_typed.specs.declared.sub.Sub.{Sub}
use Rattle.plan_typed.specs.declared.sub.SubKind.{SubKind}
use Rattle.plan_typed.specs.declared.sub.SubKind.TheVariants as sub_kinds
use Rattle.plan_typed.specs.Numbers.{numbers_of}
use Rattle.plan_typed.specs.Types.{ty_of, columns_of}
use Rattle.func_table.specs.declared.row.Class.TheVariants.{Aggregate}
use Rattle.func_table.specs.Entry.{Entry}
use Rattle.well_typed.specs.Columns.{MAX_COLUMNS, MAX_GROUPINGS, columns_at, join_columns, set_columns, are_of_kinds, group_type, number_column}
use Rattle.well_typed.specs.ExprTyped.{IsAs, IsCall, IsTypedOver, IsCondition, HasOne}
use Rattle.well_typed.specs.Types.{kind_of}

-- a condition over these columns
abbrev pub IsConditionOver : List Ty → Expr → Type 0
IsConditionOver columns expr = IsTypedOver columns expr × IsCondition expr

-- one that may be absent
abbrev pub MayBe : {A : Type 0} → (A → Type 0) → Option A → Type 0
MayBe P None = Unit {0}
MayBe P (Some value) = P value

-- types are as others imply, in order
abbrev pub AreAll : List Ty → List Ty → Type 0
AreAll [] [] = Unit {0}
AreAll (implied ∷ others) (given ∷ rest) = IsAs implied given × AreAll others rest
AreAll _ _ = ⊥

-- a row of expressions over no columns, one of each type's kind
abbrev pub IsRowOf : List Ty → List Expr → Type 0
IsRowOf [] [] = Unit {0}
IsRowOf (ty ∷ types) (field ∷ fields) = IsTypedOver [] field × (kind_of field ≡ ty.kind) × IsRowOf types fields
IsRowOf _ _ = ⊥

-- what is read is rows of these types, or tables, of which there is one at least; nothing else is known of tables that are named
abbrev pub IsSourceOf : List Ty → Source → Type 0
IsSourceOf types (sources.Named names) = HasOne names
IsSourceOf types (sources.Rows rows) = AllByRecursion (IsRowOf types) rows

-- a measure: an aggregate function of its argument, if it has one, and its filter
pub record IsMeasureOver (columns : List Ty) (measure : TypedMeasure) : Type 0 where
  pub entry : Entry
  pub call : IsCall Aggregate measure.func (map ty_of (option_to_list measure.arg)) measure.ty entry
  pub arg : MayBe (IsTypedOver columns) measure.arg
  pub filter : MayBe (IsConditionOver columns) measure.filter

-- a measure over distinct values has an argument
pub record IsSetMeasureOver (columns : List Ty) (one : SetMeasure) : Type 0 where
  pub measure : IsMeasureOver columns one.measure
  pub distinct : IsTrue one.distinct → IsTrue (is_some one.measure.arg)

-- the places are of so many
abbrev pub AreBelow : ℕ → List ℕ → Type 0
AreBelow count places = AllByRecursion (λ place. place < count) places

-- the first input's columns and those of each other, of which there is one at least
abbrev pub AreInputs : List (List Ty) → Type 0
AreInputs (first ∷ second ∷ others) = AllByRecursion (λ other. IsTrue (are_of_kinds first other)) (second ∷ others)
AreInputs _ = ⊥

-- the parts of a relation are well typed over its inputs' columns
abbrev pub HasParts : Op-F Op Rel → Type 0
HasParts (Op-F.Read source names types filter mask) =
    (length names ≡ length types) × AllByRecursion (λ (ty : Ty). IsKind ty.kind) types × IsSourceOf types source
    × MayBe (IsConditionOver types) filter × AreBelow (length types) mask
HasParts (Op-F.Filter input condition) = IsConditionOver (columns_of input) condition
HasParts (Op-F.Project input exprs) = AllByRecursion (IsTypedOver (columns_of input)) exprs
HasParts (Op-F.Fetch input offset count) = Unit {0}
HasParts (Op-F.Sort input keys) = AllByRecursion (λ (key : SortKey). IsTypedOver (columns_of input) key.expr) keys
HasParts (Op-F.Aggregate input groups measures) =
    AllByRecursion (IsTypedOver (columns_of input)) groups × AllByRecursion (IsMeasureOver (columns_of input)) measures
HasParts (Op-F.GroupSets input groups sets measures) =
    AllByRecursion (IsTypedOver (columns_of input)) groups × AllByRecursion (AreBelow (length groups)) sets × HasOne sets × (length sets ≤ MAX_GROUPINGS)
    × AllByRecursion (IsSetMeasureOver (columns_of input)) measures
HasParts (Op-F.Join left right kind on post) =
    IsConditionOver (columns_of left ++ columns_of right) on × MayBe (IsConditionOver (join_columns kind (columns_of left) (columns_of right))) post
HasParts (Op-F.Cross left right) = Unit {0}
HasParts (Op-F.Set inputs op) = AreInputs (map columns_of inputs)

-- the columns of a set operation, by those of its inputs
abbrev pub set_columns_of : SetOp → List (List Ty) → List Ty
set_columns_of op [] = []
set_columns_of op (first ∷ others) = set_columns op first others

-- the columns that an operation gives, before some are emitted
abbrev pub direct_in : Op-F Op Rel → List Ty
direct_in (Op-F.Read source names types filter mask) = columns_at types mask
direct_in (Op-F.Filter input condition) = columns_of input
direct_in (Op-F.Project input exprs) = columns_of input ++ map ty_of exprs
direct_in (Op-F.Fetch input offset count) = columns_of input
direct_in (Op-F.Sort input keys) = columns_of input
direct_in (Op-F.Aggregate input groups measures) = map ty_of groups ++ map (λ (one : TypedMeasure). one.ty) measures
direct_in (Op-F.GroupSets input groups sets measures) =
    map (group_type sets) (enumerate_from 0 groups) ++ map (λ (one : SetMeasure). one.measure.ty) measures ++ number_column sets
direct_in (Op-F.Join left right kind on post) = join_columns kind (columns_of left) (columns_of right)
direct_in (Op-F.Cross left right) = columns_of left ++ columns_of right
direct_in (Op-F.Set inputs op) = set_columns_of op (map columns_of inputs)

-- the places that are emitted are of these columns, not too many, and the emitted columns are as they imply
pub record Emits (direct : List Ty) (emit : List ℕ) (columns : List Ty) : Type 0 where
  pub few : length direct ≤ MAX_COLUMNS
  pub few_emitted : length emit ≤ MAX_COLUMNS
  pub places : AreBelow (length direct) emit
  pub as_implied : AreAll (columns_at direct emit) columns

-- one relation, over its inputs
abbrev pub IsRelation : Rel-F Op Rel → Type 0
IsRelation rel = HasParts (out-Op rel.op) × Emits (direct_in (out-Op rel.op)) rel.emit rel.columns

-- each relation is well typed, the inputs too
abbrev pub AreTyped : Rel → Type 0
AreTyped rel = every-Rel (λ _. Unit {0}) IsRelation rel

-- the relation of a subquery whose value is one column's has one column
abbrev pub HasColumnsOf : SubKind → List Ty → Type 0
HasColumnsOf sub_kinds.Exists columns = Unit {0}
HasColumnsOf _ columns = length columns ≡ 1

-- a subquery
abbrev pub IsTypedSub : Sub → Type 0
IsTypedSub sub = AreTyped sub.rel × HasColumnsOf sub.kind (columns_of sub.rel)

-- none of these numbers stands twice
abbrev pub AllDiffer : List ℕ → Type 0
AllDiffer numbers = (number : ℕ) → count_by (λ one. one == number) numbers ≤ 1

-- the numbers of the relations of subqueries
abbrev pub numbers_of_subs : List Sub → List ℕ
numbers_of_subs [] = []
numbers_of_subs (sub ∷ subs) = numbers_of sub.rel ++ numbers_of_subs subs

-- a plan without subqueries: its relations, their numbers, and a name for each column
abbrev pub IsWellTypedAlone : Typed → Type 0
IsWellTypedAlone typed = AreTyped typed.rel × AllDiffer (numbers_of typed.rel) × (length typed.names ≡ length (columns_of typed.rel))

-- a plan with its subqueries
pub record IsWellTyped (found : Holed) : Type 0 where
  pub plan : AreTyped found.typed.rel
  pub subqueries : AllByRecursion IsTypedSub found.subs
  pub numbers : AllDiffer (numbers_of found.typed.rel ++ numbers_of_subs found.subs)
  pub names : length found.typed.names ≡ length (columns_of found.typed.rel)
