-- Pipelines over rows: a stream is rows and an end, and what is done to it is what the definitions of relations say.
use Rattle.std.specs.Prelude.{ℕ, List, [], false, Ok, map, length, slice_index_or}
use Rattle.sub_types.specs.declared.value.Value.TheVariants as values
use Rattle.sub_types.specs.Stream.{Stream, rows_alone, ended}
use Rattle.plan_typed.specs.declared.rel.JoinKind.{JoinKind}
use Rattle.plan_typed.specs.declared.rel.JoinKind.TheVariants as joins
use Rattle.plan_denote.specs.Rows.{Row, from_all}
use Rattle.plan_denote.specs.Eval.{eval}
use Rattle.plan_denote.specs.Read.{read_rows}
use Rattle.plan_denote.specs.Filter.{filtered}
use Rattle.plan_denote.specs.Project.{projected, emitted}
use Rattle.plan_denote.specs.Fetch.{fetched}
use Rattle.plan_denote.specs.Sort.{Direction, Keyed, sorted_rows}
use Rattle.plan_denote.specs.Aggregate.{aggregated}
use Rattle.plan_denote.specs.GroupSets.{grouping_sets}
use Rattle.plan_denote.specs.Conjuncts.{Key}
use Rattle.plan_denote.specs.Join.{Join, match_of, joined}
use Rattle.plan_denote.specs.Sets.{set_rows}
use Rattle.plan_denote.specs.Denote.{Tables, maybe_condition, measure_of, any_measure}
use Rattle.rel_specs.specs.declared.groups.AggSpec.{AggSpec}
use Rattle.rel_specs.specs.declared.groups.SetSpec.{SetSpec}
use Rattle.rel_specs.specs.declared.join.JoinSpec.{JoinSpec}
use Rattle.rel_specs.specs.declared.key_order.KeyOrder.{KeyOrder}
use Rattle.plan_pipes.specs.declared.pipe.Breaker.{Breaker}
use Rattle.plan_pipes.specs.declared.pipe.Breaker.TheVariants as breakers
use Rattle.plan_pipes.specs.Run.{StepMeaning, Meaning}

-- what is built of a join's right input: the join, and its right rows, or no rows where they end in a fault, and that fault
pub record Table : Type 0 where
  pub kind : JoinKind
  pub join : Join
  pub right : Stream Row

-- a key, by the columns of both sides
abbrev pub key_of_columns : ℕ × ℕ → Key
key_of_columns (left, right) = record { left = left; right = right }

-- a join by its keys and the rest of its condition
abbrev pub join_by : JoinSpec → Join
join_by spec = record {
  number = spec.relation;
  left_width = length spec.left.items;
  right_width = length spec.right.items;
  matches = match_of (map key_of_columns spec.keys.items) (map eval spec.rest.items);
}

abbrev pub table_of : JoinSpec → Stream Row → Table
table_of spec right = record { kind = spec.kind; join = join_by spec; right = from_all rows_alone right }

-- a table of no rows, in which nothing is found
abbrev pub no_table : Table
no_table = record { kind = joins.Inner; join = record { number = 0; left_width = 0; right_width = 0; matches = λ _ _. Ok false }; right = rows_alone [] }

abbrev pub joined_with : Table → Stream Row → Stream Row
joined_with table left = joined table.kind table.join left table.right

-- the row with the values of a sort's columns, by which it is ordered
abbrev pub keyed_by : List KeyOrder → Row → Keyed
keyed_by keys row = (map (λ (key : KeyOrder). slice_index_or row key.column values.Null) keys, row)

abbrev pub direction_in : KeyOrder → Direction
direction_in key = record { descending = key.descending; nulls_first = key.nulls_first }

-- the rows in order of these columns
unfoldable pub sorted_by : List KeyOrder → Stream Row → Stream Row
sorted_by keys = from_all (λ rows. rows_alone (sorted_rows (map direction_in keys) (map (keyed_by keys) rows)))

abbrev pub aggregated_by : AggSpec → Stream Row → Stream Row
aggregated_by spec = aggregated spec.relation (map eval spec.groups.items) (map measure_of spec.measures.items)

-- the sets of an aggregate over several
abbrev pub sets_of : SetSpec → List (List ℕ)
sets_of spec = map (λ set. set.items) spec.sets.items

abbrev pub grouped_by : SetSpec → Stream Row → Stream Row
grouped_by spec = grouping_sets spec.relation (map eval spec.groups.items) (sets_of spec) (map any_measure spec.measures.items)

-- what a breaker gathers; where it builds a table, only the end
abbrev pub gathered : Breaker → Stream Row → Stream Row
gathered breakers.Gather s = s
gathered (breakers.Fetch offset count) s = fetched offset count s
gathered (breakers.Aggregate spec) s = aggregated_by spec s
gathered (breakers.Sort keys) s = sorted_by keys s
gathered (breakers.Build spec) s = ended s.end
gathered (breakers.GroupSets spec) s = grouped_by spec s

abbrev pub row_steps : StepMeaning (Stream Row) Table
row_steps = record {
  reading = λ relation types filter mask. read_rows relation types (maybe_condition filter) mask;
  filter = λ relation condition. filtered relation (eval condition);
  project = λ relation exprs. projected relation (map eval exprs);
  keep = emitted;
  probe = joined_with;
  no_table = no_table;
}

-- over the rows that read relations read, by their numbers
abbrev pub rows_over : Tables → Meaning (Stream Row) Table
rows_over inputs = record {
  read = inputs;
  set = λ op types. set_rows op;
  steps = row_steps;
  gather = gathered;
  table = table_of;
  no_stream = rows_alone [];
}
