-- What a plan that is one bare read denotes: its table, as it is.
use Rattle.std.proofs.Common.{◌≡◌, ◌∙◌, ℕ, List, [], ◌∷◌, Bool, true, false, Option, Some, None, Ok, if◌then◌else◌, eq-eqb, ◌<◌, nat_lt, map, length, get_or, slice_get, IfSome, IsSome, suc, zero-add, arith, refl, sym, ap, subst, rules}
use Rattle.std.specs.List.{All, AllByRecursion, AllZip}
use Rattle.std.specs.Borrow.{Bor}
use Rattle.std.specs.Option.{option_or, option_copied}
use Rattle.std.proofs.lemmas.Bool.{le-ltb}
use Rattle.std.proofs.lemmas.List.{append-nil, map-id}
use Rattle.std.proofs.lemmas.List.Elements.{All-weaker}
use Rattle.std.proofs.lemmas.List.FromFn.{fill_by_all, length-range_with_len, get_or-range_with_len}
use Rattle.sub_types.specs.Stream.{Stream, rows_alone, ended, followed_by, glue, stream_of}
use Rattle.sub_types.specs.Value.{MAX_TEXT, FitsTy, Fits}
use Rattle.sub_types.specs.declared.fault.FaultKind.{FaultKind}
use Rattle.sub_types.specs.declared.fault.FaultKind.TheVariants.{NullInRequired}
use Rattle.sub_types.specs.declared.kind.Ty.{Ty}
use Rattle.sub_types.specs.declared.value.Value.{Value}
use Rattle.sub_types.specs.declared.value.Value.TheVariants as values
use Rattle.batch.specs.declared.batch.Batch.{Batch}
use Rattle.batch.specs.BatchRows.{types_of}
use Rattle.plan_typed.specs.declared.rel.Op.{Op, out-Op, roll-Op, roll-out-Op, the_lemmas}
use Rattle.plan_typed.specs.declared.rel.Op.TheOpen.{Op-F}
use Rattle.plan_typed.specs.declared.rel.Op.TheVariants as ops
use Rattle.plan_typed.specs.declared.rel.Rel.{Rel, out-Rel, roll-Rel, roll-out-Rel}
use Rattle.plan_typed.specs.declared.rel.Source.TheVariants as sources
use Rattle.plan_typed.specs.declared.sub.Holed.{Holed}
use Rattle.plan_typed.specs.declared.sub.Sub.{Sub}
use Rattle.plan_typed.specs.Types.{columns_of}
use Rattle.plan_denote.specs.Rows.{Row, condition_of, at_relation}
use Rattle.plan_denote.specs.Project.{columns_at, emitted}
use Rattle.plan_denote.specs.Read.{value_fault, row_fault, fault_or, read_row, read_rows}
use Rattle.plan_denote.specs.Denote.{Tables, answer_of, denote}
use Rattle.plan_denote.specs.Sort.{arranged}
use Rattle.plan_denote.specs.Holes.{filled}
use Rattle.plan_denote.specs.Subqueries.{denote_plan}
use Rattle.plan_reads.specs.declared.reads.PlanRead.{PlanRead}
use Rattle.plan_reads.specs.Reads.{read_of, reads_in, by_relation, reads_of}
use Rattle.row_engine.specs.declared.tables.Table.{Table}
use Rattle.row_engine.specs.Tables.{table_stream, tables_seen}
use Rattle.table_rows.specs.Blocks.{HoldsTypes}
use Rattle.plan_tables.specs.Read.{IsTableOf}
use Rattle.run_laws.proofs.RunLaws.{rows_fit}
use Rattle.run_accepted.specs.Bare.{all_places, IsBareOp, IsBareRead, IsBare}

-- the places of so many columns, each by itself
pub count_places : (places : List ℕ) (count : ℕ) → places ≡ all_places count → length places ≡ count
count_places places count is = ap length is ∙ length-range_with_len 0 count

pub place_at : (places : List ℕ) (count i : ℕ) → i < length places → places ≡ all_places count → get_or places i 0 ≡ i
place_at places count i below is =
    ap (λ (all : List ℕ). get_or all i 0) is ∙ get_or-range_with_len 0 count i 0 (omega (arith, count_places places count is)) ∙ zero-add i

pub each_place : (places : List ℕ) (count : ℕ) → length places ≡ count → ((k : ℕ) → k < count → get_or places k 0 ≡ k) → places ≡ all_places count
each_place places count long each = fill_by_all (λ k. k) places count 0 long each ∙ map-id (all_places count)

-- a value that fits has no fault, nor has a row
null_clean : (nullable : Bool) → nullable ≡ true → (if nullable then None else Some NullInRequired) ≡ None
null_clean true is = refl
null_clean false is = absurd (cc)

value_clean : (ty : Ty) (value : Value) → FitsTy ty value → value_fault ty value ≡ None
value_clean ty values.Null fits = ap (λ (fault : Option FaultKind). option_or fault None) (null_clean ty.nullable (fits.allowed refl))
value_clean ty (values.Bool test) fits = refl
value_clean ty (values.Int n) fits = refl
value_clean ty (values.Dec n) fits = refl
value_clean ty (values.Bytes bytes) fits = let test : nat_lt MAX_TEXT (length bytes) ≡ false = le-ltb MAX_TEXT (length bytes) fits.short in rw test refl

row_clean : (types : List Ty) (row : Row) → Fits types row → row_fault types row ≡ None
row_clean [] [] fits = refl
row_clean [] (value ∷ row) fits = absurd fits
row_clean (ty ∷ types) [] fits = absurd fits
row_clean (ty ∷ types) (value ∷ row) fits = λ i. option_or (value_clean ty value fits.0 i) (row_clean types row fits.1 i)

-- it has a value for each type, so that all columns in order are the row
width : (types : List Ty) (row : Row) → Fits types row → length row ≡ length types
width [] [] fits = refl
width [] (value ∷ row) fits = absurd fits
width (ty ∷ types) [] fits = absurd fits
width (ty ∷ types) (value ∷ row) fits = ap suc (width types row fits.1)

whole_row : (types : List Ty) (row : Row) → Fits types row → columns_at (all_places (length types)) row ≡ row
whole_row types row fits =
    ap (λ (count : ℕ). columns_at (all_places count) row) (sym (width types row fits))
    ∙ sym (fill_by_all _ row (length row) values.Null refl (λ k below. refl))

module _ (number : ℕ) (types : List Ty) where
  abbrev given : Row → Stream Row
  given row = stream_of (at_relation number (read_row types (condition_of None) (all_places (length types)) row))

  row_read : (row : Row) → Fits types row → given row ≡ rows_alone (row ∷ [])
  row_read row fits =
      ap (λ (fault : Option FaultKind). stream_of (at_relation number (fault_or fault (Ok (columns_at (all_places (length types)) row ∷ []))))) (row_clean types row fits)
      ∙ ap (λ (one : Row). rows_alone (one ∷ [])) (whole_row types row fits)

  rows_read : (rows : List Row) → AllByRecursion (Fits types) rows → glue (map given rows) ≡ rows_alone rows
  rows_read [] fit = refl
  rows_read (row ∷ rows) fit = λ i. followed_by (row_read row fit.0 i) (rows_read rows fit.1 i)

  -- rows that fit are read as they are
  all_read : (s : Stream Row) → AllByRecursion (Fits types) s.rows → read_rows number types (condition_of None) (all_places (length types)) s ≡ s
  unfolding read_rows
  all_read s fit =
      ap (λ (all : Stream Row). followed_by all (ended s.end)) (rows_read s.rows fit)
      ∙ ap (λ (rows : List Row). record { rows = rows; end = s.end }) (append-nil s.rows)

-- and emitted as they are
whole_rows : (types : List Ty) (rows : List Row) → AllByRecursion (Fits types) rows → map (columns_at (all_places (length types))) rows ≡ rows
whole_rows types [] fit = refl
whole_rows types (row ∷ rows) fit = λ i. whole_row types row fit.0 i ∷ whole_rows types rows fit.1 i

all_emitted : (types : List Ty) (s : Stream Row) → AllByRecursion (Fits types) s.rows → emitted (all_places (length types)) s ≡ s
unfolding emitted
all_emitted types s fit = ap (λ (rows : List Row). record { rows = rows; end = s.end }) (whole_rows types s.rows fit)

-- a relation of this number that reads tables of these names, all columns of these types
abbrev bare : ℕ → List (List ℕ) → List (List ℕ) → List Ty → Rel
bare number words names types =
    roll-Rel (record { number = number; op = ops.Read (sources.Named words) names types None (all_places (length types)); emit = all_places (length types); columns = types })

module _ (number : ℕ) (words names : List (List ℕ)) (types : List Ty) where
  filled_bare : filled [] (bare number words names types) ≡ bare number words names types
  unfolding filled
  filled_bare = search (rules, the_lemmas)

  denote_bare : (tables : Tables) → denote tables (bare number words names types) ≡ emitted (all_places (length types)) (read_rows number types (condition_of None) (all_places (length types)) (tables number))
  unfolding answer_of
  denote_bare tables = search (rules, the_lemmas)

  reads_bare : reads_in (bare number words names types) ≡ read_of number (sources.Named words) names types ∷ []
  unfolding reads_in
  reads_bare = search (rules, the_lemmas)

-- a bare read is such a relation
record IsOf (rel : Rel) (types : List Ty) : Type 0 where
  pub words : List (List ℕ)
  pub names : List (List ℕ)
  pub is : rel ≡ bare (out-Rel rel).number words names types

op_of : (types : List Ty) (level : Op-F Op Rel) → IsBareOp types level → (words : List (List ℕ)) × (names : List (List ℕ)) × (roll-Op level ≡ ops.Read (sources.Named words) names types None (all_places (length types)))
op_of types (Op-F.Read (sources.Named words) names of filter mask) is =
    (words, names, ops.rolls-Read (sources.Named words) names of filter mask ∙ (λ i. ops.Read (sources.Named words) names (is.types_are i) (is.each_row i) (is.each_column i)))
op_of types (Op-F.Read (sources.Rows rows) names of filter mask) is = absurd is.named
op_of types (Op-F.Filter input condition) is = absurd is
op_of types (Op-F.Project input exprs) is = absurd is
op_of types (Op-F.Fetch input offset count) is = absurd is
op_of types (Op-F.Sort input keys) is = absurd is
op_of types (Op-F.Aggregate input groups measures) is = absurd is
op_of types (Op-F.GroupSets input groups sets measures) is = absurd is
op_of types (Op-F.Join left right kind on post) is = absurd is
op_of types (Op-F.Cross left right) is = absurd is
op_of types (Op-F.Set inputs op) is = absurd is

rel_of : (rel : Rel) → IsBareRead rel → IsOf rel (columns_of rel)
rel_of rel is =
    let level = out-Rel rel in
    let found = op_of (columns_of rel) (out-Op level.op) is.reads_all in
    record {
      words = found.0;
      names = found.1;
      is = sym (roll-out-Rel rel) ∙ (λ i. roll-Rel (record { number = level.number; op = (sym (roll-out-Op level.op) ∙ found.2) i; emit = is.emits_all i; columns = level.columns }));
    }

-- over tables whose rows fit, a bare read is worth its table
denote_rel : (tables : Tables) (rel : Rel) → IsBareRead rel → AllByRecursion (Fits (columns_of rel)) (tables (out-Rel rel).number).rows → denote tables (filled [] rel) ≡ tables (out-Rel rel).number
denote_rel tables rel is fit =
    let types = columns_of rel in
    let number = (out-Rel rel).number in
    let of = rel_of rel is in
    ap (λ (one : Rel). denote tables (filled [] one)) of.is
    ∙ ap (denote tables) (filled_bare number of.words of.names types)
    ∙ denote_bare number of.words of.names types tables
    ∙ ap (emitted (all_places (length types))) (all_read number types (tables number) fit)
    ∙ all_emitted types (tables number) fit

denote_alone : (tables : Tables) (plan : Holed) → plan.subs ≡ [] → denote_plan tables plan ≡ denote tables (filled [] plan.typed.rel)
unfolding denote_plan
denote_alone tables plan alone = ap (λ (subs : List Sub). denote_plan tables (record { typed = plan.typed; subs = subs })) alone

reads_alone : (plan : Holed) → plan.subs ≡ [] → (read : PlanRead) → reads_in plan.typed.rel ≡ read ∷ [] → reads_of plan ≡ read ∷ []
unfolding reads_of
reads_alone plan alone read is = ap (λ (subs : List Sub). reads_of (record { typed = plan.typed; subs = subs })) alone ∙ ap (λ (reads : List PlanRead). arranged by_relation reads) is

-- it is the one read relation of its plan
bare_reads : (plan : Holed) → IsBare plan → (read : PlanRead) × (reads_of plan ≡ read ∷ []) × (read.relation ≡ (out-Rel plan.typed.rel).number) × (read.types ≡ columns_of plan.typed.rel)
bare_reads plan is =
    let rel = plan.typed.rel in
    let of = rel_of rel is.read in
    let number = (out-Rel rel).number in
    (read_of number (sources.Named of.words) of.names (columns_of rel), reads_alone plan is.alone _ (ap reads_in of.is ∙ reads_bare number of.words of.names (columns_of rel)), refl, refl)

-- so there is one table
alone_in : (read : PlanRead) (tables : List Table) → AllZip IsTableOf (read ∷ []) tables → (table : Table) × (tables ≡ table ∷ [])
alone_in read [] are = absurd are
alone_in read (table ∷ []) are = (table, refl)
alone_in read (table ∷ other ∷ tables) are = absurd are.1

one_table : (plan : Holed) (tables : List Table) → IsBare plan → AllZip IsTableOf (reads_of plan) tables → (table : Table) × (tables ≡ table ∷ [])
one_table plan tables is are =
    let read = bare_reads plan is in
    alone_in read.0 tables (subst (λ (reads : List PlanRead). AllZip IsTableOf reads tables) read.1 are)

own_seen : (table : Table) → tables_seen (table ∷ []) table.relation ≡ table_stream table
own_seen table = ap (λ (test : Bool). if test then table_stream table else ended None) (eq-eqb table.relation table.relation refl)

module _ (plan : Holed) (table : Table) (is : IsBare plan) (are : AllZip IsTableOf (reads_of plan) (table ∷ [])) where
  table_of : IsTableOf (bare_reads plan is).0 table
  table_of = (subst (λ (reads : List PlanRead). AllZip IsTableOf reads (table ∷ [])) (bare_reads plan is).1 are).0

  typed : All (HoldsTypes (columns_of plan.typed.rel)) table.batches
  typed = subst (λ (types : List Ty). All (HoldsTypes types) table.batches) (bare_reads plan is).3 table_of.typed

  -- its batches are of the plan's columns
  bare_types : All (λ (batch : Batch). types_of batch ≡ columns_of plan.typed.rel) table.batches
  bare_types = All-weaker (HoldsTypes (columns_of plan.typed.rel)) (λ (batch : Batch). types_of batch ≡ columns_of plan.typed.rel) (λ batch holds. holds.types_are) table.batches typed

  -- and its rows and its end are the plan's
  bare_rows : table_stream table ≡ denote_plan (tables_seen (table ∷ [])) plan
  bare_rows =
      let rel = plan.typed.rel in
      let tables = tables_seen (table ∷ []) in
      let own : tables (out-Rel rel).number ≡ table_stream table = ap tables (sym (table_of.relation ∙ (bare_reads plan is).2)) ∙ own_seen table in
      let fit = subst (λ (s : Stream Row). AllByRecursion (Fits (columns_of rel)) s.rows) (sym own) (rows_fit (columns_of rel) table.batches typed) in
      sym (denote_alone tables plan is.alone ∙ denote_rel tables rel is.read fit ∙ own)

-- what is so of the only table is so of the first one
only_first : (P : List Table → Table → Type 0) (table : Table) (first : Option (Bor Table)) → P (table ∷ []) table → option_copied first ≡ Some table → IfSome first (λ one. P (table ∷ []) one.now)
only_first P table None holds is = tt
only_first P table (Some one) holds is = let same : table ≡ one.now = cc in subst (P (table ∷ [])) same holds

module _ (plan : Holed) (tables : List Table) (first : Option (Bor Table)) (is : IsBare plan) (are : AllZip IsTableOf (reads_of plan) tables) (found : option_copied first ≡ slice_get tables 0) where
  of_first : (P : List Table → Table → Type 0) → ((table : Table) → AllZip IsTableOf (reads_of plan) (table ∷ []) → P (table ∷ []) table) → IfSome first (λ one. P tables one.now)
  of_first P holds =
      let one = one_table plan tables is are in
      let only : tables ≡ one.0 ∷ [] = one.1 in
      let held = holds one.0 (subst (AllZip IsTableOf (reads_of plan)) only are) in
      subst (λ (all : List Table). IfSome first (λ table. P all table.now)) (sym only) (only_first P one.0 first held (found ∙ ap (λ (all : List Table). slice_get all 0) only))

  pub first_rows : IfSome first (λ table. table_stream table.now ≡ denote_plan (tables_seen tables) plan)
  first_rows = of_first (λ all table. table_stream table ≡ denote_plan (tables_seen all) plan) (λ table own. bare_rows plan table is own)

  pub first_types : IfSome first (λ table. All (λ (batch : Batch). types_of batch ≡ columns_of plan.typed.rel) table.now.batches)
  first_types = of_first (λ all table. All (λ (batch : Batch). types_of batch ≡ columns_of plan.typed.rel) table.batches) (λ table own. bare_types plan table is own)

  some_first : (one : Option (Bor Table)) (table : Table) → option_copied one ≡ Some table → IsSome one
  some_first None table is = cc
  some_first (Some one) table is = refl

  pub is_there : IsSome first
  is_there = let one = one_table plan tables is are in some_first first one.0 (found ∙ ap (λ (all : List Table). slice_get all 0) one.1)
