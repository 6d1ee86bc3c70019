-- Pipelines over the types of columns: a stream has these types where each expression that it passed is well typed over the
-- columns it stands on. So the conditions of what works the rows are met.
use Rattle.std.specs.Prelude.{◌≡◌, ◌<◌, ℕ, List, [], ◌∷◌, ◌++◌, Option, Some, IsTrue, map, length, slice_get}
use Rattle.std.specs.List.{AllByRecursion, enumerate_from}
use Rattle.sub_types.specs.Kind.{IsKind}
use Rattle.sub_types.specs.declared.kind.Ty.{Ty}
use Rattle.plan_typed.specs.declared.expr.Expr.{Expr}
use Rattle.plan_typed.specs.declared.rel.SetMeasure.{SetMeasure}
use Rattle.plan_typed.specs.declared.rel.SetOp.{SetOp}
use Rattle.plan_typed.specs.declared.rel.TypedMeasure.{TypedMeasure}
use Rattle.plan_typed.specs.Types.{ty_of}
use Rattle.func_table.specs.Kinds.{is_same}
use Rattle.well_typed.specs.Columns.{columns_at, join_columns, group_type, number_column}
use Rattle.well_typed.specs.ExprTyped.{IsTypedOver, HasOne}
use Rattle.well_typed.specs.WellTyped.{IsConditionOver, MayBe, AreAll, AreBelow, AreInputs, IsMeasureOver, IsSetMeasureOver, set_columns_of}
use Rattle.rel_specs.specs.declared.groups.AggSpec.{AggSpec}
use Rattle.rel_specs.specs.declared.groups.SetSpec.{SetSpec}
use Rattle.rel_specs.specs.declared.join.JoinSpec.{JoinSpec}
use Rattle.rel_specs.specs.declared.key_order.KeyOrder.{KeyOrder}
use Rattle.plan_pipes.specs.declared.pipe.Breaker.{Breaker}
use Rattle.plan_pipes.specs.declared.pipe.Breaker.TheVariants as breakers
use Rattle.plan_pipes.specs.declared.pipe.Pipe.{Pipe}
use Rattle.plan_pipes.specs.RowMeaning.{sets_of}
use Rattle.plan_pipes.specs.Run.{StepMeaning, Meaning, stream_at, run}

-- whether a stream has these types
abbrev pub Typing : Type 1
Typing = List Ty → Type 0

-- whether a join with a table gives the second types where the left rows have the first
abbrev pub JoinTyping : Type 1
JoinTyping = List Ty → List Ty → Type 0

-- a read relation's columns, and then those of its mask
pub record IsReading (types : List Ty) (filter : Option Expr) (mask : List ℕ) (before : Typing) (given : List Ty) : Type 0 where
  pub input : before types
  pub kinds : AllByRecursion (λ (ty : Ty). IsKind ty.kind) types
  pub condition : MayBe (IsConditionOver types) filter
  pub places : AreBelow (length types) mask
  pub is : given ≡ columns_at types mask

pub record IsFilter (condition : Expr) (before : Typing) (given : List Ty) : Type 0 where
  pub input : before given
  pub test : IsConditionOver given condition

pub record IsProjection (exprs : List Expr) (before : Typing) (given : List Ty) : Type 0 where
  pub types : List Ty
  pub input : before types
  pub typed : AllByRecursion (IsTypedOver types) exprs
  pub is : given ≡ types ++ map ty_of exprs

-- what is kept may be taken as nullable where it isn't
pub record IsKeeping (columns : List ℕ) (before : Typing) (given : List Ty) : Type 0 where
  pub types : List Ty
  pub input : before types
  pub places : AreBelow (length types) columns
  pub as_implied : AreAll (columns_at types columns) given

pub record IsProbe (table : JoinTyping) (before : Typing) (given : List Ty) : Type 0 where
  pub types : List Ty
  pub input : before types
  pub join : table types given

-- both columns of a key are there, and are of kinds that `equal` takes: of one name, and of one scale where they are decimals
pub record IsKeyOver (left right : List Ty) (key : ℕ × ℕ) : Type 0 where
  pub first : Ty
  pub second : Ty
  pub in_left : slice_get left key.0 ≡ Some first
  pub in_right : slice_get right key.1 ≡ Some second
  pub equal : IsTrue (is_same first.kind second.kind)

-- a join over left rows of the types that it was made for
pub record IsJoin (spec : JoinSpec) (right : Typing) (types given : List Ty) : Type 0 where
  pub right_rows : right spec.right.items
  pub left_rows : types ≡ spec.left.items
  pub keys : AllByRecursion (IsKeyOver spec.left.items spec.right.items) spec.keys.items
  pub rest : AllByRecursion (IsConditionOver (spec.left.items ++ spec.right.items)) spec.rest.items
  pub is : given ≡ join_columns spec.kind spec.left.items spec.right.items

pub record IsAggregate (spec : AggSpec) (before : Typing) (given : List Ty) : Type 0 where
  pub types : List Ty
  pub input : before types
  pub groups : AllByRecursion (IsTypedOver types) spec.groups.items
  pub measures : AllByRecursion (IsMeasureOver types) spec.measures.items
  pub is : given ≡ map ty_of spec.groups.items ++ map (λ (one : TypedMeasure). one.ty) spec.measures.items

pub record IsGrouping (spec : SetSpec) (before : Typing) (given : List Ty) : Type 0 where
  pub types : List Ty
  pub input : before types
  pub groups : AllByRecursion (IsTypedOver types) spec.groups.items
  pub sets : AllByRecursion (AreBelow (length spec.groups.items)) (sets_of spec)
  pub has_one : HasOne (sets_of spec)
  pub measures : AllByRecursion (IsSetMeasureOver types) spec.measures.items
  pub is : given ≡ map (group_type (sets_of spec)) (enumerate_from 0 spec.groups.items) ++ map (λ (one : SetMeasure). one.measure.ty) spec.measures.items ++ number_column (sets_of spec)

pub record IsSorting (keys : List KeyOrder) (before : Typing) (given : List Ty) : Type 0 where
  pub input : before given
  pub places : AreBelow (length given) (map (λ (key : KeyOrder). key.column) keys)

-- each stream has the types at its place
abbrev pub HaveTypes : List Typing → List (List Ty) → Type 0
HaveTypes [] [] = Unit {0}
HaveTypes (input ∷ inputs) (types ∷ others) = input types × HaveTypes inputs others
HaveTypes _ _ = ⊥

-- a set operation over inputs of the same kinds, of which there are two at least
pub record IsSet (op : SetOp) (types : List Ty) (inputs : List Typing) (given : List Ty) : Type 0 where
  pub each : List (List Ty)
  pub have : HaveTypes inputs each
  pub alike : AreInputs each
  pub direct : types ≡ set_columns_of op each
  pub is : given ≡ types

-- what a breaker gathers; the table of a join has the types that the join was made for
abbrev pub gathered : Breaker → Typing → Typing
gathered breakers.Gather before = before
gathered (breakers.Fetch offset count) before = before
gathered (breakers.Aggregate spec) before = IsAggregate spec before
gathered (breakers.Sort keys) before = IsSorting keys before
gathered (breakers.Build spec) before = λ given. before given × (given ≡ spec.right.items)
gathered (breakers.GroupSets spec) before = IsGrouping spec before

abbrev pub type_steps : StepMeaning Typing JoinTyping
type_steps = record {
  reading = λ relation. IsReading;
  filter = λ relation. IsFilter;
  project = λ relation. IsProjection;
  keep = IsKeeping;
  probe = IsProbe;
  no_table = λ types given. ⊥;
}

-- over the types of the columns that read relations read, by their numbers
abbrev pub types_over : (ℕ → List Ty) → Meaning Typing JoinTyping
types_over columns = record {
  read = λ relation given. given ≡ columns relation;
  set = IsSet;
  steps = type_steps;
  gather = gathered;
  table = IsJoin;
  no_stream = λ given. ⊥;
}

-- each pipeline's stream has some types
abbrev pub AreTypedPipes : (ℕ → List Ty) → List Pipe → Type 0
AreTypedPipes columns pipes =
    (at : ℕ) → at < length pipes → (types : List Ty) × stream_at (types_over columns) (run (types_over columns) pipes).streams at types
