-- What each kind of relation adds to the pipelines of its inputs.
use Rattle.std.proofs.Common.{◌≡◌, ◌∙◌, ℕ, ◌+◌, ◌-◌, ◌<◌, ◌≤◌, List, [], ◌∷◌, ◌++◌, Option, Some, None, map, length, take, get_or, refl, sym, ap, subst, arith, append_assoc}
use Rattle.std.proofs.lemmas.Grind.{flat_map-append}
use Rattle.std.proofs.lemmas.List.{take_more, append-nil, map-append, length-append, length-map}
use Rattle.std.specs.Prelude.{slice_index_or}
use Rattle.std.specs.List.{AllByRecursion, flat_map, range_with_len}
use Rattle.sub_types.specs.declared.value.Value.TheVariants as values
use Rattle.sub_types.specs.declared.kind.Ty.{Ty}
use Rattle.sub_types.specs.Stream.{Stream}
use Rattle.plan_typed.specs.declared.expr.Expr.{Expr}
use Rattle.plan_typed.specs.declared.rel.JoinKind.{JoinKind}
use Rattle.plan_typed.specs.declared.rel.SetOp.{SetOp}
use Rattle.plan_typed.specs.declared.rel.SetMeasure.{SetMeasure}
use Rattle.plan_typed.specs.declared.rel.SortKey.{SortKey}
use Rattle.plan_typed.specs.declared.rel.Source.{Source}
use Rattle.plan_typed.specs.declared.rel.TypedMeasure.{TypedMeasure}
use Rattle.plan_typed.specs.declared.rel.Op.{Op, out-Op, roll-Op}
use Rattle.plan_typed.specs.declared.rel.Op.TheOpen.{Op-F}
use Rattle.plan_typed.specs.declared.rel.Op.TheVariants.{rolls-Read, rolls-Filter, rolls-Project, rolls-Fetch, rolls-Sort, rolls-Aggregate, rolls-GroupSets, rolls-Join, rolls-Cross, rolls-Set}
use Rattle.plan_typed.specs.declared.rel.Op.TheVariants as ops
use Rattle.plan_typed.specs.declared.rel.Rel.{Rel, out-Rel}
use Rattle.plan_typed.specs.Types.{columns_of}
use Rattle.plan_typed.specs.Types.{ty_of}
use Rattle.well_typed.specs.Columns.{MAX_GROUPINGS, columns_at as types_at, join_columns, group_type, number_column}
use Rattle.well_typed.specs.ExprTyped.{IsTypedOver, HasOne}
use Rattle.well_typed.specs.WellTyped.{IsRelation, AreTyped, HasParts, IsConditionOver, MayBe, AreAll, AreBelow, IsMeasureOver, IsSetMeasureOver, direct_in, set_columns_of}
use Rattle.well_typed.proofs.MadeRel.{all_same}
use Rattle.well_typed.proofs.ValidColumns.{typed_columns}
use Rattle.sub_types.specs.Kind.{IsKind}
use Rattle.std.specs.List.{enumerate_from}
use Rattle.plan_denote.specs.Rows.{Row}
use Rattle.plan_denote.specs.Eval.{eval}
use Rattle.plan_denote.specs.Read.{read_rows}
use Rattle.plan_denote.specs.Filter.{filtered}
use Rattle.plan_denote.specs.Project.{projected, emitted, columns_at}
use Rattle.plan_denote.specs.Aggregate.{aggregated}
use Rattle.plan_denote.specs.GroupSets.{grouping_sets}
use Rattle.plan_denote.specs.Join.{joined}
use Rattle.plan_denote.specs.Denote.{Tables, answer_of, direct, denote, maybe_condition, source_rows, measure_of, any_measure}
use Rattle.plan_denote.proofs.DenoteLaws.{direct-Read, direct-Filter, direct-Project, direct-Fetch, direct-Sort, direct-Aggregate, direct-GroupSets, direct-Join, direct-Cross, direct-Set, denotes, width_is}
use Rattle.rel_specs.specs.declared.groups.AggSpec.{AggSpec}
use Rattle.rel_specs.specs.declared.groups.SetSpec.{SetSpec}
use Rattle.rel_specs.specs.declared.join.JoinSpec.{JoinSpec}
use Rattle.plan_pipes.specs.declared.pipe.Breaker.{Breaker}
use Rattle.plan_pipes.specs.declared.pipe.Breaker.TheVariants as breakers
use Rattle.plan_pipes.specs.declared.pipe.Feed.TheVariants as feeds
use Rattle.plan_pipes.specs.declared.pipe.Pipe.{Pipe}
use Rattle.plan_pipes.specs.declared.pipe.Step.{Step}
use Rattle.plan_pipes.specs.declared.pipe.Step.TheVariants as steps
use Rattle.plan_pipes.specs.Run.{stream_at, stepped, run}
use Rattle.plan_pipes.specs.RowMeaning.{Table, no_table, table_of, join_by, joined_with, key_of_columns, sorted_by, sets_of, gathered, row_steps, rows_over}
use Rattle.plan_pipes.specs.TypeMeaning.{Typing, JoinTyping, IsJoin, IsKeyOver, HaveTypes, AreTypedPipes, type_steps, types_over}
use Rattle.plan_pipes.specs.TypeMeaning.{gathered as type_gathered}
use Rattle.plan_pipes.proofs.RunLaws.{last_gathered}
use Rattle.cut_laws.proofs.ConditionLaws.{keys_typed, rest_typed}
use Rattle.rel_parts.specs.Parts.{IsJoinSpec, IsCrossSpec, orders_from}
use Rattle.cut_flows.specs.declared.flow.Flow.{Flow}
use Rattle.cut_flows.specs.Given.{flow_in, last_stream, fed_by, fed_in}
use Rattle.cut_laws.specs.Keys.{HasColumns}
use Rattle.cut_laws.specs.Reads.{GivesAt, ReadGives, ReadsGive, HasAt, ReadHas, ReadsHave, reads_of, reads_of_op, Inputs}
use Rattle.plan_cut.specs.Cut.{IsCut, IsOpCut, IsBuilt, IsProbed, IsJoinCut, AreCut, EndsInGather, IsBuildable, IsMet, AreMet}
use Rattle.cut_flows.specs.Flows.{flow_from, feed_of, with_step, pipe_of, build_of, read_flow, filter_flow, post_flow, project_flow, keep_flow, sort_of, sorted_flow}
use Rattle.cut_flows.specs.Tables.{tables_in}
use Rattle.cut_flows.proofs.FlowLaws.{flow_step, flow_next, table_built, streams_stay, not_grown, grown_on, grown_last, fed_last}
use Rattle.cut_laws.proofs.LevelLaws.{opened, held_below, held_here, of_rel, of_Read, of_Filter, of_Project, of_Fetch, of_Sort, of_Aggregate, of_GroupSets, of_Join, of_Cross, of_Set}
use Rattle.cut_laws.proofs.TypeLaws.{typed_step, typed_next, typed_last, width_typed, own_columns, own_below, key_places}
use Rattle.cut_laws.proofs.SortLaw.{sort_by_columns}
use Rattle.cut_laws.proofs.StreamLaws.{filtered_always, joined_whole, join_is, cross_is}

-- the tables that were built after pipelines
abbrev tables_after : Tables → List Pipe → List Table
tables_after inputs pipes = (run (rows_over inputs) pipes).tables

-- one pipeline more
met_last : (pipes : List Pipe) (pipe : Pipe) → AreMet pipes → IsMet pipe.breaker → AreMet (pipes ++ pipe ∷ [])
met_last [] pipe all here = (here, tt)
met_last (first ∷ pipes) pipe all here = (all.0, met_last pipes pipe all.1 here)

-- a relation emits some of the columns of what it does
pub rel_cut : (rel : Rel) (before now : List Pipe) (given : Flow) → IsOpCut (out-Rel rel).number (out-Rel rel).op before now given → IsCut rel before now (keep_flow given (out-Rel rel).emit)
rel_cut rel before now given cut = record {
  grown = cut.grown;
  rows = λ tables inputs gives.
      flow_step (rows_over inputs) now given (steps.Keep (out-Rel rel).emit)
      ∙ ap (emitted (out-Rel rel).emit) (cut.rows tables inputs (held_here (ReadGives tables inputs) rel gives) (held_below (ReadGives tables inputs) rel gives))
      ∙ sym (denotes tables rel);
  reads = cut.reads ∙ ap (λ reads. fed_in before ++ reads) (sym (of_rel rel));
  typed = λ columns typed has pipes.
      let here = held_here IsRelation rel typed in
      let direct = cut.typed columns here.0 (held_here (ReadHas columns) rel has) (held_below IsRelation rel typed) (held_below (ReadHas columns) rel has) pipes in (
        direct.0,
        typed_step columns now given (steps.Keep (out-Rel rel).emit) (columns_of rel)
            (record { types = direct_in (out-Op (out-Rel rel).op); input = direct.1; places = here.1.places; as_implied = here.1.as_implied }),
      );
  met = λ typed all. cut.met (held_here IsRelation rel typed).0 (held_below IsRelation rel typed) all;
}

-- the inputs of an operation, by what it is rolled from
below : (P : Rel → Type 0) (level : Op-F Op Rel) (op : Op) → roll-Op level ≡ op → Inputs P (out-Op op) → Inputs P level
below P level op rolls all = subst (Inputs P) (opened level op rolls) all

-- a feed that reads
pub read_cut : (number : ℕ) (source : Source) (names : List (List ℕ)) (types : List Ty) (filter : Option Expr) (mask : List ℕ) (before : List Pipe)
    → IsOpCut number (ops.Read source names types filter mask) before before (read_flow number names types filter mask)
read_cut number source names types filter mask before = record {
  grown = not_grown before;
  rows = λ tables inputs here all.
      let gives : inputs number ≡ source_rows tables number source =
      subst (GivesAt tables inputs number) (opened (Op-F.Read source names types filter mask) (ops.Read source names types filter mask) (rolls-Read source names types filter mask)) here in
      ap (read_rows number types (maybe_condition filter) mask) gives ∙ sym (direct-Read tables source names types filter mask number);
  reads = ap (λ reads. fed_in before ++ reads) (sym (of_Read source names types filter mask number));
  typed = λ columns parts has all reads pipes.
      let level = Op-F.Read source names types filter mask in
      let is = opened level (ops.Read source names types filter mask) (rolls-Read source names types filter mask) in
      let over = subst HasParts is parts in
      let given = read_flow number names types filter mask in (
        pipes,
        subst (λ (one : Op-F Op Rel). flow_in (types_over columns) before given (direct_in one)) (sym is)
            (typed_step columns before (flow_from (feeds.Read number)) (steps.Read number names types filter mask) (types_at types mask)
            (record { input = subst (HasAt columns number) is has; kinds = over.1; condition = over.3; places = over.4; is = refl })),
      );
  met = λ parts inputs all. all;
}

-- an operation over one input
module _ (number : ℕ) (op : Op) (input : Rel) (level : Op-F Op Rel) (rolls : roll-Op level ≡ op) (only : (P : Rel → Type 0) → Inputs P level → P input) (same_reads : reads_of_op op number ≡ reads_of input) where
  input_gives : (tables inputs : Tables) → Inputs (ReadsGive tables inputs) (out-Op op) → ReadsGive tables inputs input
  input_gives tables inputs all = only (ReadsGive tables inputs) (below (ReadsGive tables inputs) level op rolls all)

  -- by a step
  level_typed : (columns : ℕ → List Ty) → Inputs AreTyped (out-Op op) → Inputs (ReadsHave columns) (out-Op op) → AreTyped input × ReadsHave columns input
  level_typed columns all reads = (only AreTyped (below AreTyped level op rolls all), only (ReadsHave columns) (below (ReadsHave columns) level op rolls reads))

  one_step : (step : Step) → ((tables : Tables) (built : List Table) → stepped row_steps built step (denote tables input) ≡ direct tables op number)
      → ((before : Typing) (built : List JoinTyping) → HasParts level → before (columns_of input) → stepped type_steps built step before (direct_in level))
      → (before now : List Pipe) (given : Flow) → IsCut input before now given → IsOpCut number op before now (with_step given step)
  one_step step same by before now given cut = record {
    grown = cut.grown;
    rows = λ tables inputs here all.
        flow_step (rows_over inputs) now given step
        ∙ ap (stepped row_steps (tables_after inputs now) step) (cut.rows tables inputs (input_gives tables inputs all))
        ∙ same tables (tables_after inputs now);
    reads = cut.reads ∙ ap (λ reads. fed_in before ++ reads) (sym same_reads);
    typed = λ columns parts has all reads pipes.
        let is = opened level op rolls in
        let inside = level_typed columns all reads in
        let first = cut.typed columns inside.0 inside.1 pipes in (
          first.0,
          subst (λ (one : Op-F Op Rel). flow_in (types_over columns) now (with_step given step) (direct_in one)) (sym is)
              (typed_step columns now given step (direct_in level) (by (flow_in (types_over columns) now given) (run (types_over columns) now).tables (subst HasParts is parts) first.1)),
        );
    met = λ parts inputs all. cut.met (only AreTyped (below AreTyped level op rolls inputs)) all;
  }

  -- by a breaker
  one_breaker : (breaker : Breaker) → ((tables : Tables) → gathered breaker (denote tables input) ≡ direct tables op number)
      → ((before : Typing) → HasParts level → before (columns_of input) → type_gathered breaker before (direct_in level))
      → (HasParts level → IsMet breaker)
      → (before now : List Pipe) (given : Flow) → IsCut input before now given → IsOpCut number op before (now ++ pipe_of given breaker ∷ []) (flow_from (feed_of (length now)))
  one_breaker breaker same by meets before now given cut = record {
    grown = grown_last (pipe_of given breaker) cut.grown;
    rows = λ tables inputs here all.
        flow_next (rows_over inputs) now given breaker ∙ ap (gathered breaker) (cut.rows tables inputs (input_gives tables inputs all)) ∙ same tables;
    reads = append-nil (fed_in (now ++ pipe_of given breaker ∷ [])) ∙ fed_last now given breaker ∙ cut.reads ∙ ap (λ reads. fed_in before ++ reads) (sym same_reads);
    typed = λ columns parts has all reads pipes.
        let is = opened level op rolls in
        let inside = level_typed columns all reads in
        let first = cut.typed columns inside.0 inside.1 pipes in
        let last : type_gathered breaker (flow_in (types_over columns) now given) (direct_in level) = by (flow_in (types_over columns) now given) (subst HasParts is parts) first.1 in (
          typed_last columns now given breaker (direct_in level) first.0 last,
          subst (λ (one : Op-F Op Rel). flow_in (types_over columns) (now ++ pipe_of given breaker ∷ []) (flow_from (feed_of (length now))) (direct_in one)) (sym is) (typed_next columns now given breaker (direct_in level) last),
        );
    met = λ parts inputs all. met_last now (pipe_of given breaker) (cut.met (only AreTyped (below AreTyped level op rolls inputs)) all) (meets (subst HasParts (opened level op rolls) parts));
  }

pub filter_cut : (number : ℕ) (input : Rel) (condition : Expr) (before now : List Pipe) (given : Flow) → IsCut input before now given → IsOpCut number (ops.Filter input condition) before now (filter_flow given number condition)
filter_cut number input condition =
    one_step number (ops.Filter input condition) input (Op-F.Filter input condition) (rolls-Filter input condition) (λ P all. all) (of_Filter input condition number)
    (steps.Filter number condition) (λ tables built. sym (direct-Filter tables input condition number)) (λ typing built parts typed. record { input = typed; test = parts })

pub project_cut : (number : ℕ) (input : Rel) (exprs : List Expr) (before now : List Pipe) (given : Flow) → IsCut input before now given → IsOpCut number (ops.Project input exprs) before now (project_flow given number exprs)
project_cut number input exprs =
    one_step number (ops.Project input exprs) input (Op-F.Project input exprs) (rolls-Project input exprs) (λ P all. all) (of_Project input exprs number)
    (steps.Project number exprs) (λ tables built. sym (direct-Project tables input exprs number)) (λ typing built parts typed. record { types = columns_of input; input = typed; typed = parts; is = refl })

pub fetch_cut : (number : ℕ) (input : Rel) (offset : ℕ) (count : Option ℕ) (before now : List Pipe) (given : Flow) → IsCut input before now given
    → IsOpCut number (ops.Fetch input offset count) before (now ++ pipe_of given (breakers.Fetch offset count) ∷ []) (flow_from (feed_of (length now)))
fetch_cut number input offset count =
    one_breaker number (ops.Fetch input offset count) input (Op-F.Fetch input offset count) (rolls-Fetch input offset count) (λ P all. all) (of_Fetch input offset count number)
    (breakers.Fetch offset count) (λ tables. sym (direct-Fetch tables input offset count number)) (λ typing parts typed. typed) (λ parts. tt)

pub aggregate_cut : (number : ℕ) (input : Rel) (groups : List Expr) (measures : List TypedMeasure) (spec : AggSpec) → spec.relation ≡ number → spec.groups.items ≡ groups → spec.measures.items ≡ measures
    → (before now : List Pipe) (given : Flow) → IsCut input before now given
    → IsOpCut number (ops.Aggregate input groups measures) before (now ++ pipe_of given (breakers.Aggregate spec) ∷ []) (flow_from (feed_of (length now)))
aggregate_cut number input groups measures spec its_number its_groups its_measures =
    one_breaker number (ops.Aggregate input groups measures) input (Op-F.Aggregate input groups measures) (rolls-Aggregate input groups measures) (λ P all. all) (of_Aggregate input groups measures number)
    (breakers.Aggregate spec)
    (λ tables. (λ i. aggregated (its_number i) (map eval (its_groups i)) (map measure_of (its_measures i)) (denote tables input)) ∙ sym (direct-Aggregate tables input groups measures number))
    (λ typing parts typed. record {
      types = columns_of input;
      input = typed;
      groups = subst (AllByRecursion (IsTypedOver (columns_of input))) (sym its_groups) parts.0;
      measures = subst (AllByRecursion (IsMeasureOver (columns_of input))) (sym its_measures) parts.1;
      is = sym (λ i. map ty_of (its_groups i) ++ map (λ (one : TypedMeasure). one.ty) (its_measures i));
    })
    (λ parts. tt)

pub grouping_cut : (number : ℕ) (input : Rel) (groups : List Expr) (sets : List (List ℕ)) (measures : List SetMeasure) (spec : SetSpec)
    → spec.relation ≡ number → spec.groups.items ≡ groups → sets_of spec ≡ sets → spec.measures.items ≡ measures
    → (before now : List Pipe) (given : Flow) → IsCut input before now given
    → IsOpCut number (ops.GroupSets input groups sets measures) before (now ++ pipe_of given (breakers.GroupSets spec) ∷ []) (flow_from (feed_of (length now)))
grouping_cut number input groups sets measures spec its_number its_groups its_sets its_measures =
    one_breaker number (ops.GroupSets input groups sets measures) input (Op-F.GroupSets input groups sets measures) (rolls-GroupSets input groups sets measures) (λ P all. all)
    (of_GroupSets input groups sets measures number) (breakers.GroupSets spec)
    (λ tables. (λ i. grouping_sets (its_number i) (map eval (its_groups i)) (its_sets i) (map any_measure (its_measures i)) (denote tables input)) ∙ sym (direct-GroupSets tables input groups sets measures number))
    (λ typing parts typed. record {
      types = columns_of input;
      input = typed;
      groups = subst (AllByRecursion (IsTypedOver (columns_of input))) (sym its_groups) parts.0;
      sets = subst (λ (all : List (List ℕ)). AllByRecursion (AreBelow (length spec.groups.items)) all) (sym its_sets) (subst (λ (all : List Expr). AllByRecursion (AreBelow (length all)) sets) (sym its_groups) parts.1);
      has_one = subst (λ (all : List (List ℕ)). HasOne all) (sym its_sets) parts.2;
      measures = subst (AllByRecursion (IsSetMeasureOver (columns_of input))) (sym its_measures) parts.4;
      is = sym (λ i. map (group_type (its_sets i)) (enumerate_from 0 (its_groups i)) ++ map (λ (one : SetMeasure). one.measure.ty) (its_measures i) ++ number_column (its_sets i));
    })
    (λ parts. subst (λ (all : List (List ℕ)). length all ≤ MAX_GROUPINGS) (sym its_sets) parts.3)

-- each row has as many columns as are emitted
wide_rows : (emit : List ℕ) (rows : List Row) → AllByRecursion (λ row. length row ≡ length emit) (map (columns_at emit) rows)
wide_rows emit [] = tt
wide_rows emit (row ∷ rows) = (length-map emit (λ at. slice_index_or row at values.Null), wide_rows emit rows)

wide_stream : (emit : List ℕ) (s : Stream Row) → AllByRecursion (λ row. length row ≡ length emit) (emitted emit s).rows
unfolding emitted
wide_stream emit s = wide_rows emit s.rows

wide : (tables : Tables) (rel : Rel) → AllByRecursion (λ row. length row ≡ length (out-Rel rel).emit) (denote tables rel).rows
wide tables rel =
    subst (λ (s : Stream Row). AllByRecursion (λ row. length row ≡ length (out-Rel rel).emit) s.rows) (sym (denotes tables rel))
    (wide_stream (out-Rel rel).emit (direct tables (out-Rel rel).op (out-Rel rel).number))

key_exprs_typed : (types : List Ty) (keys : List SortKey) → AllByRecursion (λ (key : SortKey). IsTypedOver types key.expr) keys → AllByRecursion (IsTypedOver types) (map (λ (key : SortKey). key.expr) keys)
key_exprs_typed types [] all = tt
key_exprs_typed types (key ∷ keys) all = (all.0, key_exprs_typed types keys all.1)

pub sort_cut : (number : ℕ) (input : Rel) (keys : List SortKey) (before now : List Pipe) (given : Flow) → IsCut input before now given
    → IsOpCut number (ops.Sort input keys) before (now ++ sort_of given number (length (out-Rel input).emit) keys ∷ []) (sorted_flow (length now) (length (out-Rel input).emit))
sort_cut number input keys before now given cut =
    let width = length (out-Rel input).emit in
    let exprs = map (λ (key : SortKey). key.expr) keys in
    let keyed = project_flow given number exprs in
    let breaker = breakers.Sort (orders_from width keys) in
    let pipe = pipe_of keyed breaker in
    record {
      grown = grown_last pipe cut.grown;
      rows = λ tables inputs here all.
          let m = rows_over inputs in
          let gives = below (ReadsGive tables inputs) (Op-F.Sort input keys) (ops.Sort input keys) (rolls-Sort input keys) all in
          flow_step m (now ++ pipe ∷ []) (flow_from (feed_of (length now))) (steps.Keep (range_with_len 0 width))
          ∙ ap (emitted (range_with_len 0 width)) (flow_next m now keyed breaker)
          ∙ ap (λ s. emitted (range_with_len 0 width) (sorted_by (orders_from width keys) s)) (flow_step m now given (steps.Project number exprs))
          ∙ ap (λ s. emitted (range_with_len 0 width) (sorted_by (orders_from width keys) (projected number (map eval exprs) s))) (cut.rows tables inputs gives)
          ∙ sort_by_columns number width keys (denote tables input) (wide tables input)
          ∙ sym (direct-Sort tables input keys number);
      reads = append-nil (fed_in (now ++ pipe ∷ [])) ∙ fed_last now keyed breaker ∙ cut.reads ∙ ap (λ reads. fed_in before ++ reads) (sym (of_Sort input keys number));
      typed = λ columns parts has all reads pipes.
          let level = Op-F.Sort input keys in
          let op = ops.Sort input keys in
          let m = types_over columns in
          let types = columns_of input in
          let more = map ty_of exprs in
          let input_typed = below AreTyped level op (rolls-Sort input keys) all in
          let first = cut.typed columns input_typed (below (ReadsHave columns) level op (rolls-Sort input keys) reads) pipes in
          let is : length types ≡ width = width_typed input input_typed in
          let many : length more ≡ length keys = length-map exprs ty_of ∙ length-map keys (λ (key : SortKey). key.expr) in
          let values = typed_step columns now given (steps.Project number exprs) (types ++ more)
          (record { types = types; input = first.1; typed = key_exprs_typed types keys (subst HasParts (opened level op (rolls-Sort input keys)) parts); is = refl }) in
          let last : type_gathered breaker (flow_in m now keyed) (types ++ more) = record { input = values; places = key_places types more width keys is many } in (
            typed_last columns now keyed breaker (types ++ more) first.0 last,
            subst (λ (one : Op-F Op Rel). flow_in m (now ++ pipe ∷ []) (sorted_flow (length now) width) (direct_in one)) (sym (opened level op (rolls-Sort input keys)))
                (typed_step columns (now ++ pipe ∷ []) (flow_from (feed_of (length now))) (steps.Keep (range_with_len 0 width)) types
                (record {
                  types = types ++ more;
                  input = typed_next columns now keyed breaker (types ++ more) last;
                  places = own_below types more width is;
                  as_implied = subst (λ (own : List Ty). AreAll own types) (sym (own_columns types more width is)) (all_same types);
                })),
          );
      met = λ parts inputs all. met_last now pipe (cut.met (below AreTyped (Op-F.Sort input keys) (ops.Sort input keys) (rolls-Sort input keys) inputs) all) tt;
    }

-- a join before its post-join filter
pub joined_cut : (left right : Rel) (join : JoinSpec) (before middle now : List Pipe) (rights lefts : Flow) → IsCut right before middle rights → IsCut left (middle ++ build_of rights join ∷ []) now lefts
    → IsJoinCut left right join before now (with_step lefts (steps.Probe (tables_in middle)))
joined_cut left right join before middle now rights lefts first second =
    let build = build_of rights join in
    record {
      grown = grown_on (grown_last build first.grown) second.grown;
      rows = λ tables inputs gives_left gives_right.
          let m = rows_over inputs in
          let table = get_or (run m now).tables (tables_in middle) no_table in
          let is : table ≡ table_of join (denote tables right) =
          ap (λ (all : List Pipe). get_or (run m all).tables (tables_in middle) no_table) second.grown.is
          ∙ table_built m middle second.grown.more rights join no_table
          ∙ ap (table_of join) (first.rows tables inputs gives_right) in
          flow_step m now lefts (steps.Probe (tables_in middle))
          ∙ ap (λ one. joined_with one (flow_in m now lefts)) is
          ∙ ap (joined_with (table_of join (denote tables right))) (second.rows tables inputs gives_left)
          ∙ joined_whole join.kind (join_by join) (denote tables left) (denote tables right);
      reads =
          second.reads ∙ ap (λ fed. fed ++ reads_of left) (fed_last middle rights (breakers.Build join) ∙ first.reads) ∙ append_assoc (fed_in before) (reads_of right) (reads_of left);
      typed = λ columns keys rest at_left at_right left_typed right_typed left_has right_has pipes.
          let m = types_over columns in
          let types = join_columns join.kind (columns_of left) (columns_of right) in
          let built = first.typed columns right_typed right_has pipes in
          let right_rows : flow_in m middle rights join.right.items = subst (λ (all : List Ty). flow_in m middle rights all) (sym at_right) built.1 in
          let given = second.typed columns left_typed left_has (typed_last columns middle rights (breakers.Build join) join.right.items built.0 (right_rows, refl)) in
          let table : JoinTyping = get_or (run m now).tables (tables_in middle) (λ types given. ⊥) in
          let is : table ≡ IsJoin join (flow_in m middle rights) =
          ap (λ (all : List Pipe). get_or (run m all).tables (tables_in middle) (λ types given. ⊥)) second.grown.is ∙ table_built m middle second.grown.more rights join (λ types given. ⊥) in
          let joins : IsJoin join (flow_in m middle rights) (columns_of left) types =
          record { right_rows = right_rows; left_rows = sym at_left; keys = keys; rest = rest; is = sym (λ i. join_columns join.kind (at_left i) (at_right i)) } in (
            given.0,
            typed_step columns now lefts (steps.Probe (tables_in middle)) types
                (record { types = columns_of left; input = given.1; join = subst (λ (one : JoinTyping). one (columns_of left) types) (sym is) joins }),
          );
      met = λ buildable left_typed right_typed all. second.met left_typed (met_last middle build (first.met right_typed all) buildable);
    }

-- the post-join filter
post_rows : (inputs : Tables) (now : List Pipe) (given : Flow) (number : ℕ) (post : Option Expr)
    → flow_in (rows_over inputs) now (post_flow given number post) ≡ filtered number (maybe_condition post) (flow_in (rows_over inputs) now given)
post_rows inputs now given number None = sym (filtered_always number (flow_in (rows_over inputs) now given))
post_rows inputs now given number (Some condition) = flow_step (rows_over inputs) now given (steps.Filter number condition)

post_fed : (given : Flow) (number : ℕ) (post : Option Expr) → fed_by (post_flow given number post).feed ≡ fed_by given.feed
post_fed given number None = refl
post_fed given number (Some condition) = refl

post_typed : (columns : ℕ → List Ty) (now : List Pipe) (given : Flow) (number : ℕ) (post : Option Expr) (types : List Ty) → MayBe (IsConditionOver types) post → flow_in (types_over columns) now given types
    → flow_in (types_over columns) now (post_flow given number post) types
post_typed columns now given number None types is typed = typed
post_typed columns now given number (Some condition) types is typed = typed_step columns now given (steps.Filter number condition) types (record { input = typed; test = is })

unmapped : {A B : Type 0} (P : B → Type 0) (f : A → B) (xs : List A) → AllByRecursion P (map f xs) → AllByRecursion (λ x. P (f x)) xs
unmapped P f [] all = tt
unmapped P f (x ∷ xs) all = (all.0, unmapped P f xs all.1)

-- the parts of a well-typed join
spec_keys : (number : ℕ) (kind : JoinKind) (left right : Rel) (on : Expr) (join : JoinSpec) → IsJoinSpec number kind (columns_of left) (columns_of right) on join → IsConditionOver (columns_of left ++ columns_of right) on
    → AllByRecursion (IsKeyOver join.left.items join.right.items) join.keys.items
spec_keys number kind left right on join is condition =
    let found = subst (AllByRecursion (HasColumns (columns_of left) (columns_of right))) (sym is.keys_are) (keys_typed (columns_of left) (columns_of right) on condition) in
    let keys = unmapped (HasColumns (columns_of left) (columns_of right)) key_of_columns join.keys.items found in
    subst (λ (types : List Ty). AllByRecursion (IsKeyOver types join.right.items) join.keys.items) (sym is.left_is)
    (subst (λ (types : List Ty). AllByRecursion (IsKeyOver (columns_of left) types) join.keys.items) (sym is.right_is) keys)

spec_rest : (number : ℕ) (kind : JoinKind) (left right : Rel) (on : Expr) (join : JoinSpec) → IsJoinSpec number kind (columns_of left) (columns_of right) on join → IsConditionOver (columns_of left ++ columns_of right) on
    → AllByRecursion (IsConditionOver (join.left.items ++ join.right.items)) join.rest.items
spec_rest number kind left right on join is condition =
    let rest = subst (AllByRecursion (IsConditionOver (columns_of left ++ columns_of right))) (sym is.rest_is) (rest_typed (columns_of left) (columns_of right) on condition) in
    subst (λ (types : List Ty). AllByRecursion (IsConditionOver types) join.rest.items) (sym (λ i. is.left_is i ++ is.right_is i)) rest

-- a table can be built for a well-typed join, and for a cross
same_kinds : (types given : List Ty) → types ≡ given → AllByRecursion (λ (ty : Ty). IsKind ty.kind) given → AllByRecursion (λ (ty : Ty). IsKind ty.kind) types
same_kinds types given is all = subst (AllByRecursion (λ (ty : Ty). IsKind ty.kind)) (sym is) all

buildable : (left right : Rel) (join : JoinSpec) → join.left.items ≡ columns_of left → join.right.items ≡ columns_of right → AllByRecursion (IsKeyOver join.left.items join.right.items) join.keys.items → AreTyped left → AreTyped right → IsBuildable join
buildable left right join at_left at_right keys first second = record {
  left_kinds = same_kinds join.left.items (columns_of left) at_left (typed_columns left first);
  right_kinds = same_kinds join.right.items (columns_of right) at_right (typed_columns right second);
  keys = keys;
}

pub join_cut : (number : ℕ) (left right : Rel) (kind : JoinKind) (on : Expr) (post : Option Expr) (join : JoinSpec) → IsJoinSpec number kind (columns_of left) (columns_of right) on join
    → (before now : List Pipe) (given : Flow) → IsJoinCut left right join before now given → IsOpCut number (ops.Join left right kind on post) before now (post_flow given number post)
join_cut number left right kind on post join is before now given cut = record {
  grown = cut.grown;
  rows = λ tables inputs here all.
      let gives = below (ReadsGive tables inputs) (Op-F.Join left right kind on post) (ops.Join left right kind on post) (rolls-Join left right kind on post) all in
      let same = join_is number kind (columns_of left) (columns_of right) on join (answer_of tables left).width (answer_of tables right).width is (width_is tables left) (width_is tables right) in
      post_rows inputs now given number post
      ∙ ap (filtered number (maybe_condition post)) (cut.rows tables inputs gives.0 gives.1 ∙ (λ i. joined (is.kind_is i) (same i) (denote tables left) (denote tables right)))
      ∙ sym (direct-Join tables left right kind on post number);
  reads = ap (λ reads. fed_in now ++ reads) (post_fed given number post) ∙ cut.reads ∙ ap (λ reads. fed_in before ++ reads) (sym (of_Join left right kind on post number));
  typed = λ columns parts has all reads pipes.
      let level = Op-F.Join left right kind on post in
      let op = ops.Join left right kind on post in
      let opens = opened level op (rolls-Join left right kind on post) in
      let over = subst HasParts opens parts in
      let inside = below AreTyped level op (rolls-Join left right kind on post) all in
      let have = below (ReadsHave columns) level op (rolls-Join left right kind on post) reads in
      let found = cut.typed columns (spec_keys number kind left right on join is over.0) (spec_rest number kind left right on join is over.0) is.left_is is.right_is inside.0 inside.1 have.0 have.1 pipes in (
        found.0,
        subst (λ (one : Op-F Op Rel). flow_in (types_over columns) now (post_flow given number post) (direct_in one)) (sym opens)
            (post_typed columns now given number post (join_columns kind (columns_of left) (columns_of right)) over.1
            (subst (λ (one : JoinKind). flow_in (types_over columns) now given (join_columns one (columns_of left) (columns_of right))) is.kind_is found.1)),
      );
  met = λ parts inputs all.
      let level = Op-F.Join left right kind on post in
      let op = ops.Join left right kind on post in
      let over = subst HasParts (opened level op (rolls-Join left right kind on post)) parts in
      let inside = below AreTyped level op (rolls-Join left right kind on post) inputs in
      cut.met (buildable left right join is.left_is is.right_is (spec_keys number kind left right on join is over.0) inside.0 inside.1) inside.0 inside.1 all;
}

pub cross_cut : (number : ℕ) (left right : Rel) (join : JoinSpec) → IsCrossSpec number (columns_of left) (columns_of right) join
    → (before now : List Pipe) (given : Flow) → IsJoinCut left right join before now given → IsOpCut number (ops.Cross left right) before now given
cross_cut number left right join is before now given cut = record {
  grown = cut.grown;
  rows = λ tables inputs here all.
      let gives = below (ReadsGive tables inputs) (Op-F.Cross left right) (ops.Cross left right) (rolls-Cross left right) all in
      cut.rows tables inputs gives.0 gives.1
      ∙ cross_is number (columns_of left) (columns_of right) join (answer_of tables left).width (answer_of tables right).width (denote tables left) (denote tables right) is (width_is tables left) (width_is tables right)
      ∙ sym (direct-Cross tables left right number);
  reads = cut.reads ∙ ap (λ reads. fed_in before ++ reads) (sym (of_Cross left right number));
  typed = λ columns parts has all reads pipes.
      let level = Op-F.Cross left right in
      let op = ops.Cross left right in
      let inside = below AreTyped level op (rolls-Cross left right) all in
      let have = below (ReadsHave columns) level op (rolls-Cross left right) reads in
      let found = cut.typed columns (subst (AllByRecursion (IsKeyOver join.left.items join.right.items)) (sym is.keys_are) tt)
      (subst (AllByRecursion (IsConditionOver (join.left.items ++ join.right.items))) (sym is.rest_is) tt) is.left_is is.right_is inside.0 inside.1 have.0 have.1 pipes in (
        found.0,
        subst (λ (one : Op-F Op Rel). flow_in (types_over columns) now given (direct_in one)) (sym (opened level op (rolls-Cross left right)))
            (subst (λ (one : JoinKind). flow_in (types_over columns) now given (join_columns one (columns_of left) (columns_of right))) is.kind_is found.1),
      );
  met = λ parts inputs all.
      let inside = below AreTyped (Op-F.Cross left right) (ops.Cross left right) (rolls-Cross left right) inputs in
      let keys = subst (AllByRecursion (IsKeyOver join.left.items join.right.items)) (sym is.keys_are) tt in
      cut.met (buildable left right join is.left_is is.right_is keys inside.0 inside.1) inside.0 inside.1 all;
}

pub set_cut : (number : ℕ) (inputs : List Rel) (op : SetOp) (types : List Ty) (before now : List Pipe) (places : List ℕ) → types ≡ set_columns_of op (map columns_of inputs) → AreCut inputs before now places
    → IsOpCut number (ops.Set inputs op) before now (flow_from (feeds.Set op places types))
set_cut number rels op types before now places types_are cut = record {
  grown = cut.grown;
  rows = λ tables inputs here all.
      let gives = below (ReadsGive tables inputs) (Op-F.Set rels op) (ops.Set rels op) (rolls-Set rels op) all in
      ap ((rows_over inputs).set op types) (cut.rows tables inputs gives) ∙ sym (direct-Set tables rels op number);
  reads = append-nil (fed_in now) ∙ cut.reads ∙ ap (λ reads. fed_in before ++ reads) (sym (of_Set rels op number));
  typed = λ columns parts has all reads pipes.
      let level = Op-F.Set rels op in
      let one = ops.Set rels op in
      let opens = opened level one (rolls-Set rels op) in
      let found = cut.typed columns (below AreTyped level one (rolls-Set rels op) all) (below (ReadsHave columns) level one (rolls-Set rels op) reads) pipes in (
        found.0,
        subst (λ (to : Op-F Op Rel). flow_in (types_over columns) now (flow_from (feeds.Set op places types)) (direct_in to)) (sym opens)
            (record { each = map columns_of rels; have = found.1; alike = subst HasParts opens parts; direct = types_are; is = sym types_are }),
      );
  met = λ parts inputs all. cut.met (below AreTyped (Op-F.Set rels op) (ops.Set rels op) (rolls-Set rels op) inputs) all;
}

all_first : (P : Rel → Type 0) (xs : List Rel) (x : Rel) → AllByRecursion P (xs ++ x ∷ []) → AllByRecursion P xs × P x
all_first P [] x all = (tt, all.0)
all_first P (y ∷ xs) x all = let rest = all_first P xs x all.1 in ((all.0, rest.0), rest.1)

further : (at : ℕ) (before more : List Pipe) → at < length before → at < length (before ++ more)
further at before more there = omega (arith, there, length-append before more)

all_within : (places : List ℕ) (before more : List Pipe) (last : ℕ) → AllByRecursion (λ at. at < length before) places → last < length (before ++ more) → AllByRecursion (λ at. at < length (before ++ more)) (places ++ last ∷ [])
all_within [] before more last all there = (there, tt)
all_within (place ∷ places) before more last all there = (further place before more all.0, all_within places before more last all.1 there)

have_last : (streams : List Typing) (each : List (List Ty)) (last : Typing) (types : List Ty) → HaveTypes streams each → last types → HaveTypes (streams ++ last ∷ []) (each ++ types ∷ [])
have_last [] [] last types have here = (here, tt)
have_last [] (one ∷ each) last types have here = absurd have
have_last (stream ∷ streams) [] last types have here = absurd have
have_last (stream ∷ streams) (one ∷ each) last types have here = (have.0, have_last streams each last types have.1 here)

-- one input more
pub next_cut : (rels : List Rel) (rel : Rel) (before middle now : List Pipe) (places : List ℕ) (given : Flow) → AreCut rels before middle places → IsCut rel middle now given
    → AreCut (rels ++ rel ∷ []) before (now ++ pipe_of given breakers.Gather ∷ []) (places ++ length now ∷ [])
next_cut rels rel before middle now places given first second =
    let pipe = pipe_of given breakers.Gather in
    let grown = grown_last pipe second.grown in
    let last : length now < length (now ++ pipe ∷ []) = omega (arith, length-append now (pipe ∷ [])) in
    record {
      grown = grown_on first.grown grown;
      within = subst (λ (all : List Pipe). AllByRecursion (λ at. at < length all) (places ++ length now ∷ [])) (sym grown.is)
          (all_within places middle grown.more (length now) first.within (subst (λ (all : List Pipe). length now < length all) grown.is last));
      rows = λ tables inputs gives.
          let m = rows_over inputs in
          let parts = all_first (ReadsGive tables inputs) rels rel gives in
          let streams = (run m (now ++ pipe ∷ [])).streams in
          let earlier : map (stream_at m streams) places ≡ map (denote tables) rels =
          ap (λ (all : List Pipe). map (stream_at m (run m all).streams) places) grown.is ∙ streams_stay m middle grown.more places first.within ∙ first.rows tables inputs parts.0 in
          let here : stream_at m streams (length now) ≡ denote tables rel = last_gathered m now pipe ∙ second.rows tables inputs parts.1 in
          map-append (stream_at m streams) places (length now ∷ []) ∙ (λ i. earlier i ++ here i ∷ []) ∙ sym (map-append (denote tables) rels (rel ∷ []));
      reads =
          fed_last now given breakers.Gather ∙ second.reads ∙ ap (λ fed. fed ++ reads_of rel) first.reads ∙ append_assoc (fed_in before) (flat_map reads_of rels) (reads_of rel)
          ∙ ap (λ reads. fed_in before ++ reads) (ap (λ last. flat_map reads_of rels ++ last) (sym (append-nil (reads_of rel))) ∙ sym (flat_map-append reads_of rels (rel ∷ [])));
      typed = λ columns all has pipes.
          let m = types_over columns in
          let some = all_first AreTyped rels rel all in
          let have = all_first (ReadsHave columns) rels rel has in
          let earlier = first.typed columns some.0 have.0 pipes in
          let here = second.typed columns some.1 have.1 earlier.0 in
          let streams = (run m (now ++ pipe ∷ [])).streams in
          let stays : map (stream_at m streams) places ≡ map (stream_at m (run m middle).streams) places =
          ap (λ (every : List Pipe). map (stream_at m (run m every).streams) places) grown.is ∙ streams_stay m middle grown.more places first.within in
          let last : stream_at m streams (length now) (columns_of rel) = subst (λ (typing : Typing). typing (columns_of rel)) (sym (last_gathered m now pipe)) here.1 in (
            typed_last columns now given breakers.Gather (columns_of rel) here.0 here.1,
            subst (λ (every : List Typing). HaveTypes every (map columns_of (rels ++ rel ∷ []))) (sym (map-append (stream_at m streams) places (length now ∷ [])))
                (subst (λ (every : List (List Ty)). HaveTypes (map (stream_at m streams) places ++ stream_at m streams (length now) ∷ []) every) (sym (map-append columns_of rels (rel ∷ [])))
                (have_last (map (stream_at m streams) places) (map columns_of rels) (stream_at m streams (length now)) (columns_of rel)
                (subst (λ (every : List Typing). HaveTypes every (map columns_of rels)) (sym stays) earlier.1) last)),
          );
      met = λ all before_met.
          let some = all_first AreTyped rels rel all in
          met_last now pipe (second.met some.1 (first.met some.0 before_met)) tt;
    }

-- the whole plan
module _ (rel : Rel) (now : List Pipe) (given : Flow) (cut : IsCut rel [] now given) where
  abbrev whole : List Pipe
  whole = now ++ pipe_of given breakers.Gather ∷ []

  pub some_pipe : 0 < length whole
  some_pipe = omega (arith, length-append now (pipe_of given breakers.Gather ∷ []))

  pub last_rows_are : (tables inputs : Tables) → ReadsGive tables inputs rel → last_stream (rows_over inputs) whole ≡ denote tables rel
  last_rows_are tables inputs gives =
      let m = rows_over inputs in
      let at : length whole - 1 ≡ length now = omega (arith, length-append now (pipe_of given breakers.Gather ∷ [])) in
      ap (stream_at m (run m whole).streams) at ∙ last_gathered m now (pipe_of given breakers.Gather) ∙ cut.rows tables inputs gives

  pub whole_typed : (columns : ℕ → List Ty) → AreTyped rel → ReadsHave columns rel → AreTypedPipes columns whole
  whole_typed columns typed has =
      let found = cut.typed columns typed has (λ at there. absurd (omega (arith, there))) in
      typed_last columns now given breakers.Gather (columns_of rel) found.0 found.1

  pub last_columns_are : (columns : ℕ → List Ty) → AreTyped rel → ReadsHave columns rel → last_stream (types_over columns) whole (columns_of rel)
  last_columns_are columns typed has =
      let m = types_over columns in
      let at : length whole - 1 ≡ length now = omega (arith, length-append now (pipe_of given breakers.Gather ∷ [])) in
      let found = cut.typed columns typed has (λ at there. absurd (omega (arith, there))) in
      subst (λ (typing : Typing). typing (columns_of rel)) (sym (ap (stream_at m (run m whole).streams) at ∙ last_gathered m now (pipe_of given breakers.Gather))) found.1

  pub whole_met : AreTyped rel → AreMet whole
  whole_met typed = met_last now (pipe_of given breakers.Gather) (cut.met typed tt) tt

  pub whole_reads : fed_in whole ≡ reads_of rel
  whole_reads = fed_last now given breakers.Gather ∙ cut.reads

-- a flow by equations: what the relation is, what the flow is, and what was added to its pipelines
pub by_op : (number : ℕ) (op one : Op) (before now : List Pipe) (given : Flow) → op ≡ one → IsOpCut number one before now given → IsOpCut number op before now given
by_op number op one before now given is cut = subst (λ (each : Op). IsOpCut number each before now given) (sym is) cut

pub by_step : (number : ℕ) (op : Op) (before now : List Pipe) (given longer : Flow) → longer ≡ given → IsOpCut number op before now given → IsOpCut number op before now longer
by_step number op before now given longer same cut = subst (IsOpCut number op before now) (sym same) cut

pub by_pipe : (number : ℕ) (op : Op) (before middle now : List Pipe) (pipe : Pipe) (given longer : Flow) → longer ≡ given → now ≡ middle ++ pipe ∷ [] → IsOpCut number op before (middle ++ pipe ∷ []) given
    → IsOpCut number op before now longer
by_pipe number op before middle now pipe given longer same grown cut =
    subst (λ (all : List Pipe). IsOpCut number op before all longer) (sym grown) (subst (IsOpCut number op before (middle ++ pipe ∷ [])) (sym same) cut)

pub sort_by_width : (number width : ℕ) (input : Rel) (keys : List SortKey) (before now : List Pipe) (given : Flow) → width ≡ length (out-Rel input).emit → IsCut input before now given
    → IsOpCut number (ops.Sort input keys) before (now ++ sort_of given number width keys ∷ []) (sorted_flow (length now) width)
sort_by_width number width input keys before now given is cut =
    subst (λ (many : ℕ). IsOpCut number (ops.Sort input keys) before (now ++ sort_of given number many keys ∷ []) (sorted_flow (length now) many)) (sym is) (sort_cut number input keys before now given cut)

pub probed_cut : (left right : Rel) (join : JoinSpec) (before built now : List Pipe) (index : ℕ) (longer : Flow) → IsBuilt right join before built index → IsProbed left index built now longer → IsJoinCut left right join before now longer
probed_cut left right join before built now index longer first second =
    subst (IsJoinCut left right join before now) (sym (second.is ∙ ap (λ place. with_step second.lefts (steps.Probe place)) first.at))
    (joined_cut left right join before first.middle now first.rights second.lefts first.cut (subst (λ (all : List Pipe). IsCut left all now second.lefts) first.grown second.cut))

pub join_by_inputs : (number : ℕ) (left right one other : Rel) (kind : JoinKind) (on : Expr) (post : Option Expr) (join : JoinSpec) (before now : List Pipe) (given : Flow) → one ≡ left → other ≡ right
    → IsJoinSpec number kind (columns_of one) (columns_of other) on join → IsJoinCut one other join before now given → IsOpCut number (ops.Join left right kind on post) before now (post_flow given number post)
join_by_inputs number left right one other kind on post join before now given first second is cut =
    join_cut number left right kind on post join
    (subst (λ (rel : Rel). IsJoinSpec number kind (columns_of left) (columns_of rel) on join) second (subst (λ (rel : Rel). IsJoinSpec number kind (columns_of rel) (columns_of other) on join) first is)) before now given
    (subst (λ (rel : Rel). IsJoinCut left rel join before now given) second (subst (λ (rel : Rel). IsJoinCut rel other join before now given) first cut))

pub cross_by_inputs : (number : ℕ) (left right one other : Rel) (join : JoinSpec) (before now : List Pipe) (given : Flow) → one ≡ left → other ≡ right
    → IsCrossSpec number (columns_of one) (columns_of other) join → IsJoinCut one other join before now given → IsOpCut number (ops.Cross left right) before now given
cross_by_inputs number left right one other join before now given first second is cut =
    cross_cut number left right join
    (subst (λ (rel : Rel). IsCrossSpec number (columns_of left) (columns_of rel) join) second (subst (λ (rel : Rel). IsCrossSpec number (columns_of rel) (columns_of other) join) first is)) before now given
    (subst (λ (rel : Rel). IsJoinCut left rel join before now given) second (subst (λ (rel : Rel). IsJoinCut rel other join before now given) first cut))

-- one input more of a list, by its place
pub next_at : (rels : List Rel) (at : ℕ) (rel : Rel) (before middle now all : List Pipe) (places more : List ℕ) (place : ℕ) (given : Flow) → at < length rels → rel ≡ get_or rels at rel
    → place ≡ length now → all ≡ now ++ pipe_of given breakers.Gather ∷ [] → more ≡ places ++ place ∷ []
    → AreCut (take at rels) before middle places → IsCut rel middle now given → AreCut (take (at + 1) rels) before all more
next_at rels at rel before middle now all places more place given there is index grown pushed first second =
    let items : take (at + 1) rels ≡ take at rels ++ rel ∷ [] = take_more rels at rel there ∙ ap (λ one. take at rels ++ one ∷ []) (sym is) in
    let rest : more ≡ places ++ length now ∷ [] = pushed ∙ ap (λ one. places ++ one ∷ []) index in
    subst (λ (some : List Rel). AreCut some before all more) (sym items)
    (subst (λ (every : List Pipe). AreCut (take at rels ++ rel ∷ []) before every more) (sym grown)
    (subst (AreCut (take at rels ++ rel ∷ []) before (now ++ pipe_of given breakers.Gather ∷ [])) (sym rest) (next_cut (take at rels) rel before middle now places given first second)))

-- the whole plan, by equations
pub record IsWhole (rel : Rel) (pipes : List Pipe) : Type 0 where
  pub some : 0 < length pipes
  pub last : EndsInGather pipes
  pub rows : (tables inputs : Tables) → ReadsGive tables inputs rel → last_stream (rows_over inputs) pipes ≡ denote tables rel
  pub reads : fed_in pipes ≡ reads_of rel
  pub typed : (columns : ℕ → List Ty) → AreTyped rel → ReadsHave columns rel → AreTypedPipes columns pipes
  pub met : AreTyped rel → AreMet pipes
  pub columns : (columns : ℕ → List Ty) → AreTyped rel → ReadsHave columns rel → last_stream (types_over columns) pipes (columns_of rel)

pub whole_plan : (rel : Rel) (start now pipes : List Pipe) (given : Flow) → start ≡ [] → pipes ≡ now ++ pipe_of given breakers.Gather ∷ [] → IsCut rel start now given → IsWhole rel pipes
whole_plan rel start now pipes given first is cut =
    let own = subst (λ (all : List Pipe). IsCut rel all now given) first cut in
    subst (IsWhole rel) (sym is) (record { some = some_pipe rel now given own; last = record { before = now; last = pipe_of given breakers.Gather; is = refl; gathers = refl }; rows = last_rows_are rel now given own; reads = whole_reads rel now given own; typed = whole_typed rel now given own; met = whole_met rel now given own; columns = last_columns_are rel now given own })
