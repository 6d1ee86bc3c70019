-- Where the values of subqueries go: the nodes of a relation's expressions, numbered in the order in which they are checked, and
-- what may go to each.
use Rattle.std.specs.Prelude.{◌≡◌, ℕ, ◌+◌, List, [], ◌∷◌, ◌++◌, Option, Some, None, IsTrue, map, slice_get}
use Rattle.std.specs.List.{AllByRecursion, flat_map}
use Rattle.sub_types.specs.Kind.{IsKind}
use Rattle.sub_types.specs.Value.{FitsTy}
use Rattle.sub_types.specs.declared.kind.Kind.TheVariants as kinds
use Rattle.sub_types.specs.declared.kind.Ty.{Ty}
use Rattle.plan_typed.specs.declared.expr.Expr.{Expr, Expr-F, fold-Expr}
use Rattle.plan_typed.specs.declared.rel.Op.{Op, out-Op}
use Rattle.plan_typed.specs.declared.rel.Op.TheOpen.{Op-F}
use Rattle.plan_typed.specs.declared.rel.Rel.{Rel, Rel-F, every-Rel}
use Rattle.plan_typed.specs.declared.rel.SetMeasure.{SetMeasure}
use Rattle.plan_typed.specs.declared.rel.SortKey.{SortKey}
use Rattle.plan_typed.specs.declared.rel.Source.{Source}
use Rattle.plan_typed.specs.declared.rel.Source.TheVariants as sources
use Rattle.plan_typed.specs.declared.rel.TypedMeasure.{TypedMeasure}
use Rattle.plan_typed.specs.declared.sub.Sub.{Sub}
use Rattle.plan_typed.specs.declared.sub.SubKind.{SubKind}
use Rattle.plan_typed.specs.declared.sub.SubKind.TheVariants as subs
use Rattle.plan_typed.specs.Types.{columns_of}
use Rattle.plan_denote.specs.Holes.{Worth, Single, Among}
use Rattle.plan_denote.specs.Subqueries.{first_type}

-- a node: a constant of a type, a list in which a value of one type is looked for and whose node has another, or any other
pub data Slot : Type 0 where
  OfValue : Ty → Slot
  OfList : Ty → Ty → Slot
  OfNone : Slot

-- the type of an expression, and its nodes, itself before what is inside it from left to right
pub record Nodes : Type 0 where
  pub ty : Ty
  pub slots : List Slot

abbrev pub of_type : Ty → List Slot → Nodes
of_type ty slots = record { ty = ty; slots = slots }

-- the nodes of expressions, of the arms of an if and of those of a switch
abbrev pub slots_in : List Nodes → List Slot
slots_in exprs = flat_map (λ one. one.slots) exprs

abbrev pub arm_slots : List (Nodes × Nodes) → List Slot
arm_slots arms = flat_map (λ arm. arm.0.slots ++ arm.1.slots) arms

abbrev pub choice_slots : {A : Type 0} → List (A × Nodes) → List Slot
choice_slots arms = flat_map (λ choice. choice.1.slots) arms

abbrev pub nodes_level : Expr-F Nodes → Nodes
nodes_level (Expr-F.Const value ty) = of_type ty (OfValue ty ∷ [])
nodes_level (Expr-F.Column index ty) = of_type ty (OfNone ∷ [])
nodes_level (Expr-F.Call func mode args ty) = of_type ty (OfNone ∷ slots_in args)
nodes_level (Expr-F.If arms other ty) = of_type ty (OfNone ∷ (arm_slots arms ++ other.slots))
nodes_level (Expr-F.Switch subject arms other ty) = of_type ty (OfNone ∷ (subject.slots ++ choice_slots arms ++ other.slots))
nodes_level (Expr-F.OneOf value options ty) = of_type ty (OfList value.ty ty ∷ (value.slots ++ slots_in options))
nodes_level (Expr-F.Cast input null_on_fail ty) = of_type ty (OfNone ∷ input.slots)

abbrev pub nodes_of : Expr → Nodes
nodes_of = fold-Expr Nodes nodes_level

abbrev pub slots_of : Expr → List Slot
slots_of expr = (nodes_of expr).slots

-- the same of several expressions, and of one that may be absent
abbrev pub slots_of_all : List Expr → List Slot
slots_of_all exprs = slots_in (map nodes_of exprs)

abbrev pub slots_of_maybe : Option Expr → List Slot
slots_of_maybe None = []
slots_of_maybe (Some expr) = slots_of expr

abbrev pub slots_of_source : Source → List Slot
slots_of_source (sources.Named names) = []
slots_of_source (sources.Rows rows) = flat_map slots_of_all rows

-- a measure: its filter, and then its argument
abbrev pub slots_of_measure : TypedMeasure → List Slot
slots_of_measure measure = slots_of_maybe measure.filter ++ slots_of_maybe measure.arg

-- the nodes of what a relation does
abbrev pub slots_of_op : Op-F Op Rel → List Slot
slots_of_op (Op-F.Read source names types filter mask) = slots_of_source source ++ slots_of_maybe filter
slots_of_op (Op-F.Filter input condition) = slots_of condition
slots_of_op (Op-F.Project input exprs) = slots_of_all exprs
slots_of_op (Op-F.Fetch input offset count) = []
slots_of_op (Op-F.Sort input keys) = flat_map (λ (key : SortKey). slots_of key.expr) keys
slots_of_op (Op-F.Aggregate input groups measures) = slots_of_all groups ++ flat_map slots_of_measure measures
slots_of_op (Op-F.GroupSets input groups sets measures) = slots_of_all groups ++ flat_map (λ (one : SetMeasure). slots_of_measure one.measure) measures
slots_of_op (Op-F.Join left right kind on post) = slots_of on ++ slots_of_maybe post
slots_of_op (Op-F.Cross left right) = []
slots_of_op (Op-F.Set inputs op) = []

-- the worth of a subquery may go to a node: a value that fits a constant's type, or values of the type in which one is looked for
abbrev pub Takes : Option Worth → Slot → Type 0
Takes (Some (Single value)) (OfValue ty) = FitsTy ty value
Takes (Some (Among column found)) (OfList value ty) = (column.kind ≡ value.kind) × (IsTrue column.nullable → IsTrue ty.nullable) × IsKind column.kind × AllByRecursion (FitsTy column) found
Takes _ _ = Unit {0}

-- what goes to each of these nodes, of which the first has this number, may do so
abbrev pub AreTaken : (ℕ → Option Worth) → ℕ → List Slot → Type 0
AreTaken known number [] = Unit {0}
AreTaken known number (slot ∷ slots) = Takes (known number) slot × AreTaken known (number + 1) slots

-- what a subquery of this kind over such columns is worth may go to a node
abbrev pub Awaits : SubKind → List Ty → Slot → Type 0
Awaits subs.Scalar columns (OfValue ty) = (ty.kind ≡ (first_type columns).kind) × IsTrue ty.nullable
Awaits subs.In columns (OfList value ty) = ((first_type columns).kind ≡ value.kind) × (IsTrue (first_type columns).nullable → IsTrue ty.nullable)
Awaits subs.Exists columns (OfValue ty) = ty.kind ≡ kinds.Bool
Awaits subs.Scalar columns (OfList value ty) = ⊥
Awaits subs.In columns (OfValue ty) = ⊥
Awaits subs.Exists columns (OfList value ty) = ⊥
Awaits kind columns OfNone = ⊥

-- the node of a relation that a subquery's hole names is there, and awaits it
abbrev pub AwaitsAt : Sub → Rel-F Op Rel → Type 0
AwaitsAt sub rel = rel.number ≡ sub.hole.relation → (slot : Slot) × (slice_get (slots_of_op (out-Op rel.op)) sub.hole.node ≡ Some slot) × Awaits sub.kind (columns_of sub.rel) slot

abbrev pub AwaitsIn : Sub → Rel → Type 0
AwaitsIn sub rel = every-Rel (λ _. Unit {0}) (AwaitsAt sub) rel

-- the hole of each subquery awaits it, in the later subqueries and in the main relation
abbrev pub AreAwaited : List Sub → Rel → Type 0
AreAwaited [] rel = Unit {0}
AreAwaited (sub ∷ subs) rel = AllByRecursion (λ (later : Sub). AwaitsIn sub later.rel) subs × AwaitsIn sub rel × AreAwaited subs rel
