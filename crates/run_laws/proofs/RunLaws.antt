-- The rows of an accepted plan over its tables in memory fit its columns, and are those over its files.
use Rattle.std.proofs.Common.{◌≡◌, ◌∙◌, ℕ, ◌≤◌, ◌==◌, List, [], ◌∷◌, Bool, true, map, count_by, Ok, refl, sym, ap, subst}
use Rattle.std.specs.List.{All, AllByRecursion, AllZip, flat_map}
use Rattle.std.proofs.lemmas.List.Elements.{recursion_from_All}
use Rattle.sub_types.specs.declared.kind.Ty.{Ty}
use Rattle.sub_types.specs.Stream.{Stream}
use Rattle.sub_types.specs.Value.{Fits}
use Rattle.plan_raw.specs.declared.plan.PlanTree.{PlanTree}
use Rattle.plan_typed.specs.declared.sub.Holed.{Holed}
use Rattle.plan_typed.specs.Types.{columns_of}
use Rattle.plan_denote.specs.Rows.{Row}
use Rattle.plan_denote.specs.Denote.{Tables}
use Rattle.plan_denote.specs.Subqueries.{denote_plan}
use Rattle.denote_typed.proofs.RowsLaws.{weakened}
use Rattle.well_typed.specs.WellTyped.{IsWellTyped}
use Rattle.plan_verdict.specs.Verdict.{verdict}
use Rattle.plan_verdict.proofs.VerdictLaw.{verdict_is_well_typed}
use Rattle.verdict_awaits.proofs.Law.{law_of_rows}
use Rattle.batch.specs.declared.batch.Batch.{Batch}
use Rattle.batch.specs.BatchRows.{rows_of}
use Rattle.row_engine.specs.declared.tables.Table.{Table}
use Rattle.row_engine.specs.Tables.{table_stream, tables_seen}
use Rattle.plan_reads.specs.declared.reads.PlanRead.{PlanRead}
use Rattle.plan_reads.specs.Reads.{reads_of}
use Rattle.table_rows.specs.Blocks.{HoldsTypes}
use Rattle.plan_tables.specs.Tables.{Opened, tables_of, tested_tables}
use Rattle.plan_tables.specs.Read.{IsTableOf}
use Rattle.plan_laws.specs.Fitting.{IsFittingTable, IsFittingRead, AreWellKindedIn}
use Rattle.plan_laws.specs.Opened.{AreOpened}
use Rattle.plan_laws.proofs.Levels.{each_joined}
use Rattle.plan_laws.proofs.NumberLaws.{reads_with, one_read}
use Rattle.plan_laws.proofs.FoundLaws.{with_number, count_by-map, all_found}
use Rattle.plan_laws.proofs.OpenedLaws.{if_named, law_of_fitting_plans, law_of_opened}

abbrev number_of : Table → ℕ
number_of table = table.relation

-- the tables have the numbers of the read relations
same_numbers : (reads : List PlanRead) (tables : List Table) → AllZip IsTableOf reads tables → map number_of tables ≡ map (λ (read : PlanRead). read.relation) reads
same_numbers [] [] are = refl
same_numbers [] (table ∷ tables) are = absurd are
same_numbers (read ∷ reads) [] are = absurd are
same_numbers (read ∷ reads) (table ∷ tables) are =
    ap (λ (n : ℕ). n ∷ map number_of tables) are.0.relation ∙ ap (λ (rest : List ℕ). read.relation ∷ rest) (same_numbers reads tables are.1)

-- so of a number there are as many
as_many : (reads : List PlanRead) (tables : List Table) → AllZip IsTableOf reads tables → (n : ℕ) → with_number number_of n tables ≡ reads_with n reads
as_many reads tables are n =
    let is_it : ℕ → Bool = λ one. one == n in
    sym (count_by-map is_it number_of tables) ∙ ap (count_by is_it) (same_numbers reads tables are) ∙ count_by-map is_it (λ (read : PlanRead). read.relation) reads

-- each table is found by its number
each_found : (plan : Holed) (tables : List Table) → IsWellTyped plan → AllZip IsTableOf (reads_of plan) tables → AllByRecursion (λ (table : Table). tables_seen tables table.relation ≡ table_stream table) tables
each_found plan tables typed are =
    all_found number_of table_stream tables_seen (λ first rest number. refl) tables
    (λ number. subst (λ (count : ℕ). count ≤ 1) (sym (as_many (reads_of plan) tables are number)) (one_read number plan typed.numbers))

-- the rows of a table fit the types of its read relation
pub rows_fit : (types : List Ty) (batches : List Batch) → All (HoldsTypes types) batches → AllByRecursion (Fits types) (flat_map rows_of batches)
rows_fit types batches all =
    each_joined (Fits types) rows_of batches
    (weakened (HoldsTypes types) (λ (batch : Batch). AllByRecursion (Fits types) (rows_of batch)) batches (recursion_from_All (HoldsTypes types) batches all)
    (λ batch holds. recursion_from_All (Fits types) (rows_of batch) holds.fit))

module _ (tables : Tables) where
  read_fits : (read : PlanRead) (table : Table) → IsTableOf read table → tables table.relation ≡ table_stream table → IsFittingRead tables read
  read_fits read table is found =
      if_named (IsFittingTable tables read) read.origin
      (subst (λ (stream : Stream Row). AllByRecursion (Fits read.types) stream.rows) (sym (ap tables (sym is.relation) ∙ found)) (rows_fit read.types table.batches is.typed))

  reads_fit : (reads : List PlanRead) (own : List Table) → AllZip IsTableOf reads own → AllByRecursion (λ (table : Table). tables table.relation ≡ table_stream table) own → AllByRecursion (IsFittingRead tables) reads
  reads_fit [] [] are found = tt
  reads_fit [] (table ∷ own) are found = absurd are
  reads_fit (read ∷ reads) [] are found = absurd are
  reads_fit (read ∷ reads) (table ∷ own) are found = (read_fits read table are.0 found.0, reads_fit reads own are.1 found.1)

-- over the tables in memory the relations of a well-typed plan are well kinded
pub kinded_in_memory : (plan : Holed) (tables : List Table) → IsWellTyped plan → AllZip IsTableOf (reads_of plan) tables → AreWellKindedIn (tables_seen tables) plan
kinded_in_memory plan tables typed are =
    law_of_fitting_plans (tables_seen tables) plan (reads_fit (tables_seen tables) (reads_of plan) tables are (each_found plan tables typed are))

-- so the rows of an accepted plan fit its columns
pub fit_in_memory : (tree : PlanTree) (plan : Holed) (tables : List Table) → verdict true tree ≡ Ok plan → AllZip IsTableOf (reads_of plan) tables → AllByRecursion (Fits (columns_of plan.typed.rel)) (denote_plan (tables_seen tables) plan).rows
fit_in_memory tree plan tables accepted are =
    let kinded = kinded_in_memory plan tables (verdict_is_well_typed true tree plan accepted) are in
    law_of_rows (tables_seen tables) tree plan accepted kinded.subqueries kinded.main

-- where each is the tested table of its files, the plan denotes what it denotes over the files
pub denote_in_memory : (plan : Holed) (opened : List Opened) (tables : List Table) → IsWellTyped plan → AreOpened plan opened → ((relation : ℕ) → tables_seen tables relation ≡ tested_tables opened relation)
    → denote_plan (tables_seen tables) plan ≡ denote_plan (tables_of opened) plan
denote_in_memory plan opened tables typed are same =
    let alike : tables_seen tables ≡ tested_tables opened = λ i relation. same relation i in
    ap (λ (one : Tables). denote_plan one plan) alike ∙ law_of_opened plan opened typed are
