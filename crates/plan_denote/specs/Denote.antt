-- What a plan denotes: the rows of its relations, in order, and the fault that ends them.
use Rattle.std.specs.Prelude.{ℕ, map, length, Option}
use Rattle.std.specs.Option.{option_map}
use Rattle.sub_types.specs.Stream.{Stream}
use Rattle.plan_typed.specs.declared.expr.Expr.{Expr}
use Rattle.plan_typed.specs.declared.rel.Op.TheOpen.{Op-F}
use Rattle.plan_typed.specs.declared.rel.Op.{Op, fold-Op}
use Rattle.plan_typed.specs.declared.rel.Rel.{Rel, Rel-F, fold-Rel}
use Rattle.plan_typed.specs.declared.rel.SetMeasure.{SetMeasure}
use Rattle.plan_typed.specs.declared.rel.SortKey.{SortKey}
use Rattle.plan_typed.specs.declared.rel.Source.{Source}
use Rattle.plan_typed.specs.declared.rel.Source.TheVariants as sources
use Rattle.plan_typed.specs.declared.rel.TypedMeasure.{TypedMeasure}
use Rattle.plan_denote.specs.Eval.{eval}
use Rattle.plan_denote.specs.Rows.{Row, Formula, condition_of}
use Rattle.plan_denote.specs.Read.{read_rows, virtual_rows}
use Rattle.plan_denote.specs.Filter.{filtered}
use Rattle.plan_denote.specs.Project.{projected, emitted}
use Rattle.plan_denote.specs.Fetch.{fetched}
use Rattle.plan_denote.specs.Sort.{Direction, sorted}
use Rattle.plan_denote.specs.Aggregate.{Measure, aggregated}
use Rattle.plan_denote.specs.GroupSets.{AnyMeasure, grouping_sets}
use Rattle.plan_denote.specs.Conjuncts.{keys_of, rest_of}
use Rattle.plan_denote.specs.Join.{Join, match_of, joined, crossed}
use Rattle.plan_denote.specs.Sets.{set_rows}

-- the rows of the tables, by the numbers of the relations that read them
abbrev pub Tables : Type 0
Tables = ℕ → Stream Row

-- how many columns a relation emits, and its rows
pub record Answer : Type 0 where
  pub width : ℕ
  pub rows : Stream Row

-- an optional condition
abbrev pub maybe_condition : Option Expr → Formula
maybe_condition expr = condition_of (option_map eval expr)

-- the rows of a source
abbrev pub source_rows : Tables → ℕ → Source → Stream Row
source_rows tables number (sources.Named names) = tables number
source_rows tables number (sources.Rows rows) = virtual_rows number (map (map eval) rows)

abbrev pub direction_of : SortKey → Direction
direction_of key = record { descending = key.descending; nulls_first = key.nulls_first }

abbrev pub measure_of : TypedMeasure → Measure
measure_of measure = record { func = measure.func; arg = option_map eval measure.arg; filter = option_map eval measure.filter; kind = measure.ty.kind }

abbrev pub any_measure : SetMeasure → AnyMeasure
any_measure one = record { measure = measure_of one.measure; distinct = one.distinct }

-- a join by its number, the columns of its inputs and its condition
unfoldable pub join_of : ℕ → ℕ → ℕ → Expr → Join
join_of number left right on = record { number = number; left_width = left; right_width = right; matches = match_of (keys_of left on) (map eval (rest_of left on)) }

-- the rows of a relation before it emits, by the answers of its inputs: what it does waits for its number
abbrev pub op_rows : Tables → Op-F (ℕ → Stream Row) Answer → ℕ → Stream Row
op_rows tables (Op-F.Read source names types filter mask) number = read_rows number types (maybe_condition filter) mask (source_rows tables number source)
op_rows tables (Op-F.Filter input test) number = filtered number (eval test) input.rows
op_rows tables (Op-F.Project input exprs) number = projected number (map eval exprs) input.rows
op_rows tables (Op-F.Fetch input offset count) number = fetched offset count input.rows
op_rows tables (Op-F.Sort input keys) number = sorted number (map (λ key. eval key.expr) keys) (map direction_of keys) input.rows
op_rows tables (Op-F.Aggregate input groups measures) number = aggregated number (map eval groups) (map measure_of measures) input.rows
op_rows tables (Op-F.GroupSets input groups sets measures) number = grouping_sets number (map eval groups) sets (map any_measure measures) input.rows
op_rows tables (Op-F.Join left right kind on post) number =
    filtered number (maybe_condition post) (joined kind (join_of number left.width right.width on) left.rows right.rows)
op_rows tables (Op-F.Cross left right) number = crossed number left.width right.width left.rows right.rows
op_rows tables (Op-F.Set inputs op) number = set_rows op (map (λ input. input.rows) inputs)

-- a relation emits some of the columns of what it does
abbrev pub rel_answer : Rel-F (ℕ → Stream Row) Answer → Answer
rel_answer rel = record { width = length rel.columns; rows = emitted rel.emit (rel.op rel.number) }

-- the width and the rows of a relation, from its inputs up
unfoldable pub answer_of : Tables → Rel → Answer
answer_of tables = fold-Rel (ℕ → Stream Row) Answer (op_rows tables) rel_answer

-- the rows of a relation of this number before it emits
unfoldable pub direct : Tables → Op → ℕ → Stream Row
direct tables = fold-Op (ℕ → Stream Row) Answer (op_rows tables) rel_answer

-- the rows of a relation, over the tables that are read
abbrev pub denote : Tables → Rel → Stream Row
denote tables rel = (answer_of tables rel).rows
