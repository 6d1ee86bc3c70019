-- What is proved of the pipelines of a plan.
use Rattle.std.specs.Prelude.{◌≡◌, ◌<◌, ◌≤◌, ℕ, List, [], ◌∷◌, ◌++◌, map, length}
use Rattle.std.specs.List.{AllByRecursion, flat_map}
use Rattle.sub_types.specs.declared.kind.Ty.{Ty}
use Rattle.plan_typed.specs.declared.rel.Op.{Op, out-Op}
use Rattle.plan_typed.specs.declared.rel.Rel.{Rel}
use Rattle.plan_typed.specs.Types.{columns_of}
use Rattle.sub_types.specs.Kind.{IsKind}
use Rattle.well_typed.specs.Columns.{MAX_GROUPINGS, join_columns}
use Rattle.well_typed.specs.WellTyped.{AreTyped, HasParts, IsConditionOver, direct_in}
use Rattle.plan_denote.specs.Denote.{Tables, denote, direct}
use Rattle.plan_denote.specs.Join.{joined}
use Rattle.rel_specs.specs.declared.join.JoinSpec.{JoinSpec}
use Rattle.plan_pipes.specs.declared.pipe.Breaker.{Breaker}
use Rattle.plan_pipes.specs.declared.pipe.Breaker.TheVariants as breakers
use Rattle.plan_pipes.specs.declared.pipe.Pipe.{Pipe}
use Rattle.plan_pipes.specs.declared.pipe.Step.TheVariants as steps
use Rattle.plan_pipes.specs.Run.{stream_at, run}
use Rattle.plan_pipes.specs.RowMeaning.{rows_over, join_by, sets_of}
use Rattle.plan_pipes.specs.TypeMeaning.{IsKeyOver, HaveTypes, AreTypedPipes, types_over}
use Rattle.cut_flows.specs.declared.flow.Flow.{Flow}
use Rattle.cut_flows.specs.Flows.{with_step, build_of}
use Rattle.cut_flows.specs.Given.{flow_in, fed_by, fed_in, IsGrown}
use Rattle.cut_flows.specs.Tables.{tables_in}
use Rattle.cut_laws.specs.Reads.{GivesAt, ReadsGive, HasAt, ReadsHave, reads_of, reads_of_op, Inputs}

-- a table can be built for a join: the columns of both sides may stand in a plan, and its keys are columns of both that can be equal
pub record IsBuildable (join : JoinSpec) : Type 0 where
  pub left_kinds : AllByRecursion (λ (ty : Ty). IsKind ty.kind) join.left.items
  pub right_kinds : AllByRecursion (λ (ty : Ty). IsKind ty.kind) join.right.items
  pub keys : AllByRecursion (IsKeyOver join.left.items join.right.items) join.keys.items

-- what a breaker asks for that the types of its stream don't tell
abbrev pub IsMet : Breaker → Type 0
IsMet (breakers.Build join) = IsBuildable join
IsMet (breakers.GroupSets spec) = length (sets_of spec) ≤ MAX_GROUPINGS
IsMet _ = Unit {0}

-- of each pipeline
abbrev pub AreMet : List Pipe → Type 0
AreMet pipes = AllByRecursion (λ (pipe : Pipe). IsMet pipe.breaker) pipes

-- a relation's rows are a flow after its pipelines
pub record IsCut (rel : Rel) (before now : List Pipe) (given : Flow) : Type 0 where
  pub grown : IsGrown before now
  pub rows : (tables inputs : Tables) → ReadsGive tables inputs rel → flow_in (rows_over inputs) now given ≡ denote tables rel
  pub reads : fed_in now ++ fed_by given.feed ≡ fed_in before ++ reads_of rel
  pub typed : (columns : ℕ → List Ty) → AreTyped rel → ReadsHave columns rel → AreTypedPipes columns before → AreTypedPipes columns now × flow_in (types_over columns) now given (columns_of rel)
  pub met : AreTyped rel → AreMet before → AreMet now

-- the same of what a relation of this number does
pub record IsOpCut (number : ℕ) (op : Op) (before now : List Pipe) (given : Flow) : Type 0 where
  pub grown : IsGrown before now
  pub rows : (tables inputs : Tables) → GivesAt tables inputs number (out-Op op) → Inputs (ReadsGive tables inputs) (out-Op op) → flow_in (rows_over inputs) now given ≡ direct tables op number
  pub reads : fed_in now ++ fed_by given.feed ≡ fed_in before ++ reads_of_op op number
  pub typed : (columns : ℕ → List Ty) → HasParts (out-Op op) → HasAt columns number (out-Op op) → Inputs AreTyped (out-Op op) → Inputs (ReadsHave columns) (out-Op op) → AreTypedPipes columns before
      → AreTypedPipes columns now × flow_in (types_over columns) now given (direct_in (out-Op op))
  pub met : HasParts (out-Op op) → Inputs AreTyped (out-Op op) → AreMet before → AreMet now

-- the pipelines of a join's right input build the table of this index
pub record IsBuilt (right : Rel) (join : JoinSpec) (before now : List Pipe) (index : ℕ) : Type 0 where
  pub middle : List Pipe
  pub rights : Flow
  pub cut : IsCut right before middle rights
  pub grown : now ≡ middle ++ build_of rights join ∷ []
  pub at : index ≡ tables_in middle

-- the left input's flow probes the table of this index
pub record IsProbed (left : Rel) (index : ℕ) (before now : List Pipe) (given : Flow) : Type 0 where
  pub lefts : Flow
  pub cut : IsCut left before now lefts
  pub is : given ≡ with_step lefts (steps.Probe index)

-- of a join before its post-join filter
pub record IsJoinCut (left right : Rel) (join : JoinSpec) (before now : List Pipe) (given : Flow) : Type 0 where
  pub grown : IsGrown before now
  pub rows : (tables inputs : Tables) → ReadsGive tables inputs left → ReadsGive tables inputs right → flow_in (rows_over inputs) now given ≡ joined join.kind (join_by join) (denote tables left) (denote tables right)
  pub reads : fed_in now ++ fed_by given.feed ≡ fed_in before ++ (reads_of right ++ reads_of left)
  pub typed : (columns : ℕ → List Ty) → AllByRecursion (IsKeyOver join.left.items join.right.items) join.keys.items → AllByRecursion (IsConditionOver (join.left.items ++ join.right.items)) join.rest.items
      → join.left.items ≡ columns_of left → join.right.items ≡ columns_of right → AreTyped left → AreTyped right → ReadsHave columns left → ReadsHave columns right → AreTypedPipes columns before
      → AreTypedPipes columns now × flow_in (types_over columns) now given (join_columns join.kind (columns_of left) (columns_of right))
  pub met : IsBuildable join → AreTyped left → AreTyped right → AreMet before → AreMet now

-- of several relations, whose rows the pipelines with these indexes gather
pub record AreCut (rels : List Rel) (before now : List Pipe) (places : List ℕ) : Type 0 where
  pub grown : IsGrown before now
  pub within : AllByRecursion (λ at. at < length now) places
  pub rows : (tables inputs : Tables) → AllByRecursion (ReadsGive tables inputs) rels → map (stream_at (rows_over inputs) (run (rows_over inputs) now).streams) places ≡ map (denote tables) rels
  pub reads : fed_in now ≡ fed_in before ++ flat_map reads_of rels
  pub typed : (columns : ℕ → List Ty) → AllByRecursion AreTyped rels → AllByRecursion (ReadsHave columns) rels → AreTypedPipes columns before
      → AreTypedPipes columns now × HaveTypes (map (stream_at (types_over columns) (run (types_over columns) now).streams) places) (map columns_of rels)
  pub met : AllByRecursion AreTyped rels → AreMet before → AreMet now

-- the last pipeline gathers its rows as they are
pub record EndsInGather (pipes : List Pipe) : Type 0 where
  pub before : List Pipe
  pub last : Pipe
  pub is : pipes ≡ before ++ last ∷ []
  pub gathers : last.breaker ≡ breakers.Gather
