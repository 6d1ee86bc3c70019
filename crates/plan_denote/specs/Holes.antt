-- Holes, where the values of subqueries go. A hole is a node of a relation's expressions, counted from 0, each node before those
-- inside it, in the order in which the expressions are checked: an absent else counts, a switch's literals don't. `known` gives
-- the value that goes to a node, if there is one.
use Rattle.std.specs.Prelude.{ℕ, ◌+◌, List, [], ◌∷◌, ◌&&◌, Option, Some, None, map, ◌==◌, if◌then◌else◌}
use Rattle.std.specs.List.{sum_by}
use Rattle.std.specs.Option.{option_map}
use Rattle.sub_types.specs.declared.kind.Ty.{Ty}
use Rattle.sub_types.specs.declared.value.Value.{Value}
use Rattle.plan_typed.specs.declared.expr.Expr.{Expr, Expr-F, fold-Expr, roll-Expr}
use Rattle.plan_typed.specs.declared.expr.Expr.TheVariants as exprs
use Rattle.plan_typed.specs.declared.rel.Op.{Op, roll-Op}
use Rattle.plan_typed.specs.declared.rel.Op.TheOpen.{Op-F}
use Rattle.plan_typed.specs.declared.rel.Rel.{Rel, Rel-F, fold-Rel, roll-Rel}
use Rattle.plan_typed.specs.declared.rel.SetMeasure.{SetMeasure}
use Rattle.plan_typed.specs.declared.rel.SortKey.{SortKey}
use Rattle.plan_typed.specs.declared.rel.Source.{Source}
use Rattle.plan_typed.specs.declared.rel.Source.TheVariants as sources
use Rattle.plan_typed.specs.declared.rel.TypedMeasure.{TypedMeasure}
use Rattle.plan_typed.specs.declared.sub.Hole.{Hole}

-- what a subquery gives: a value, or the values among which another is looked for, with their type
pub data Worth : Type 0 where
  Single : Value → Worth
  Among : Ty → List Value → Worth

-- the value of a node in place of what stands there: the value of a constant, or the options of a list. Any other node stays.
abbrev pub put : Option Worth → Expr-F Expr → Expr-F Expr
put (Some (Single value)) (Expr-F.Const _ ty) = Expr-F.Const value ty
put (Some (Among column found)) (Expr-F.OneOf value _ ty) = Expr-F.OneOf value (map (λ one. exprs.Const one column) found) ty
put _ level = level

-- how many nodes an expression has, and the expression with the values put in, if its own node has a number
pub record Filled : Type 0 where
  pub size : ℕ
  pub at : ℕ → Expr

-- how many nodes these have together
abbrev pub size_of : List Filled → ℕ
size_of exprs = sum_by (λ one. one.size) exprs

-- expressions one after the other, of which the first has this number; arms, and the choices of a switch
abbrev pub each_from : ℕ → List Filled → List Expr
each_from number [] = []
each_from number (one ∷ rest) = one.at number ∷ each_from (number + one.size) rest

abbrev pub arms_from : ℕ → List (Filled × Filled) → List (Expr × Expr)
arms_from number [] = []
arms_from number (arm ∷ rest) = (arm.0.at number, arm.1.at (number + arm.0.size)) ∷ arms_from (number + arm.0.size + arm.1.size) rest

abbrev pub choices_from : ℕ → List (Value × Filled) → List (Value × Expr)
choices_from number [] = []
choices_from number (choice ∷ rest) = (choice.0, choice.1.at number) ∷ choices_from (number + choice.1.size) rest

-- a node with so many below it, by the number from which these are counted
abbrev pub node : (ℕ → Option Worth) → ℕ → (ℕ → Expr-F Expr) → Filled
node known below level = record { size = 1 + below; at = λ number. roll-Expr (put (known number) (level (number + 1))) }

-- one level: a node before what is inside it, from left to right
abbrev pub filled_level : (ℕ → Option Worth) → Expr-F Filled → Filled
filled_level known (Expr-F.Const value ty) = node known 0 (λ n. Expr-F.Const value ty)
filled_level known (Expr-F.Column index ty) = node known 0 (λ n. Expr-F.Column index ty)
filled_level known (Expr-F.Call func mode args ty) = node known (size_of args) (λ n. Expr-F.Call func mode (each_from n args) ty)
filled_level known (Expr-F.If arms other ty) = let size = sum_by (λ arm. arm.0.size + arm.1.size) arms in
    node known (size + other.size) (λ n. Expr-F.If (arms_from n arms) (other.at (n + size)) ty)
filled_level known (Expr-F.Switch subject arms other ty) = let size = sum_by (λ choice. choice.1.size) arms in
    node known (subject.size + size + other.size) (λ n. Expr-F.Switch (subject.at n) (choices_from (n + subject.size) arms) (other.at (n + subject.size + size)) ty)
filled_level known (Expr-F.OneOf value options ty) = node known (value.size + size_of options) (λ n. Expr-F.OneOf (value.at n) (each_from (n + value.size) options) ty)
filled_level known (Expr-F.Cast input null_on_fail ty) = node known input.size (λ n. Expr-F.Cast (input.at n) null_on_fail ty)

abbrev pub filled_expr : (ℕ → Option Worth) → Expr → Filled
filled_expr known = fold-Expr Filled (filled_level known)

-- an optional expression, and how many nodes it has
abbrev pub maybe_from : (ℕ → Option Worth) → ℕ → Option Expr → Option Expr
maybe_from known number expr = option_map (λ one. (filled_expr known one).at number) expr

abbrev pub size_of_maybe : (ℕ → Option Worth) → Option Expr → ℕ
size_of_maybe known None = 0
size_of_maybe known (Some expr) = (filled_expr known expr).size

abbrev pub all_from : (ℕ → Option Worth) → ℕ → List Expr → List Expr
all_from known number exprs = each_from number (map (filled_expr known) exprs)

abbrev pub size_of_all : (ℕ → Option Worth) → List Expr → ℕ
size_of_all known exprs = size_of (map (filled_expr known) exprs)

-- rows of expressions, one after the other
abbrev pub rows_from : (ℕ → Option Worth) → ℕ → List (List Expr) → List (List Expr)
rows_from known number [] = []
rows_from known number (row ∷ rest) = all_from known number row ∷ rows_from known (number + size_of_all known row) rest

abbrev pub source_from : (ℕ → Option Worth) → Source → Source
source_from known (sources.Named names) = sources.Named names
source_from known (sources.Rows rows) = sources.Rows (rows_from known 0 rows)

abbrev pub size_of_source : (ℕ → Option Worth) → Source → ℕ
size_of_source known (sources.Named names) = 0
size_of_source known (sources.Rows rows) = sum_by (size_of_all known) rows

abbrev pub keys_from : (ℕ → Option Worth) → ℕ → List SortKey → List SortKey
keys_from known number [] = []
keys_from known number (key ∷ rest) = let own = filled_expr known key.expr in record key { expr = own.at number } ∷ keys_from known (number + own.size) rest

-- a measure: its filter, and then its argument
abbrev pub measure_from : (ℕ → Option Worth) → ℕ → TypedMeasure → TypedMeasure
measure_from known number measure = record measure { filter = maybe_from known number measure.filter; arg = maybe_from known (number + size_of_maybe known measure.filter) measure.arg }

abbrev pub size_of_measure : (ℕ → Option Worth) → TypedMeasure → ℕ
size_of_measure known measure = size_of_maybe known measure.filter + size_of_maybe known measure.arg

abbrev pub measures_from : (ℕ → Option Worth) → ℕ → List TypedMeasure → List TypedMeasure
measures_from known number [] = []
measures_from known number (measure ∷ rest) = measure_from known number measure ∷ measures_from known (number + size_of_measure known measure) rest

abbrev pub set_measures_from : (ℕ → Option Worth) → ℕ → List SetMeasure → List SetMeasure
set_measures_from known number [] = []
set_measures_from known number (one ∷ rest) = record one { measure = measure_from known number one.measure } ∷ set_measures_from known (number + size_of_measure known one.measure) rest

-- what a relation does, with the values of its own subqueries put in; its expressions are numbered from 0, in the order in which they are checked
abbrev pub filled_op : Op-F ((ℕ → Option Worth) → Op) Rel → (ℕ → Option Worth) → Op
filled_op (Op-F.Read source names types filter mask) known = roll-Op (Op-F.Read (source_from known source) names types (maybe_from known (size_of_source known source) filter) mask)
filled_op (Op-F.Filter input condition) known = roll-Op (Op-F.Filter input ((filled_expr known condition).at 0))
filled_op (Op-F.Project input exprs) known = roll-Op (Op-F.Project input (all_from known 0 exprs))
filled_op (Op-F.Fetch input offset count) known = roll-Op (Op-F.Fetch input offset count)
filled_op (Op-F.Sort input keys) known = roll-Op (Op-F.Sort input (keys_from known 0 keys))
filled_op (Op-F.Aggregate input groups measures) known = roll-Op (Op-F.Aggregate input (all_from known 0 groups) (measures_from known (size_of_all known groups) measures))
filled_op (Op-F.GroupSets input groups sets measures) known =
    roll-Op (Op-F.GroupSets input (all_from known 0 groups) sets (set_measures_from known (size_of_all known groups) measures))
filled_op (Op-F.Join left right kind on post) known = let own = filled_expr known on in roll-Op (Op-F.Join left right kind (own.at 0) (maybe_from known own.size post))
filled_op (Op-F.Cross left right) known = roll-Op (Op-F.Cross left right)
filled_op (Op-F.Set inputs op) known = roll-Op (Op-F.Set inputs op)

-- the values of subqueries that are known, by the places where they go
abbrev pub Known : Type 0
Known = List (Hole × Worth)

-- the value that goes to a node of a relation
abbrev pub worth_at : Known → ℕ → ℕ → Option Worth
worth_at [] relation number = None
worth_at ((hole, worth) ∷ known) relation number = if hole.relation == relation && hole.node == number then Some worth else worth_at known relation number

abbrev pub filled_rel : Known → Rel-F ((ℕ → Option Worth) → Op) Rel → Rel
filled_rel known rel = roll-Rel (record { number = rel.number; op = rel.op (worth_at known rel.number); emit = rel.emit; columns = rel.columns })

-- a relation with the values put in. It is always the relation as it was checked, so that options that are put in are never counted.
unfoldable pub filled : Known → Rel → Rel
filled known = fold-Rel ((ℕ → Option Worth) → Op) Rel filled_op (filled_rel known)
