-- The pipelines of a relation: they may run, and the last gathers the relation's rows.
use Rattle.std.proofs.Common.{◌≡◌, ◌∙◌, ◌-◌, ℕ, List, [], Option, Some, None, length, slice_index_or, refl, sym, ap, subst}
use Rattle.std.specs.Prelude.{slice_get}
use Rattle.std.specs.List.{All, AllByRecursion}
use Rattle.std.proofs.lemmas.List.Elements.{All-from_recursion, recursion_from_All}
use Rattle.sub_types.specs.declared.kind.Ty.{Ty}
use Rattle.sub_types.specs.Stream.{Stream, rows_alone}
use Rattle.sub_types.specs.Value.{Fits}
use Rattle.batch.specs.declared.batch.Piece.{Piece}
use Rattle.batch.specs.BatchRows.{types_of}
use Rattle.plan_typed.specs.declared.rel.Rel.{Rel}
use Rattle.plan_typed.specs.Numbers.{numbers_of}
use Rattle.plan_typed.specs.Types as types
use Rattle.well_typed.specs.WellTyped.{AreTyped, AreAll, AllDiffer}
use Rattle.plan_denote.specs.Denote.{Tables, denote}
use Rattle.plan_denote.specs.Rows.{Row}
use Rattle.denote_typed.proofs.FitLaws.{as_given}
use Rattle.denote_typed.proofs.RowsLaws.{weakened}
use Rattle.set_rels.specs.Inputs.{HasKinds, kinds_of, stream_of}
use Rattle.rel_specs.specs.declared.join.JoinSpec.{JoinSpec}
use Rattle.plan_pipes.specs.declared.pipe.Pipe.{Pipe}
use Rattle.plan_pipes.specs.Run.{Past, nothing_yet, run, run_on, stream_at}
use Rattle.plan_pipes.specs.RowMeaning.{Table, rows_over}
use Rattle.plan_pipes.specs.TypeMeaning.{AreTypedPipes, types_over}
use Rattle.cut_flows.specs.Given.{fed_in, last_stream}
use Rattle.cut_laws.specs.Found.{ReadRel, inputs_of, read_at, read_rels, rows_read}
use Rattle.cut_laws.specs.Reads.{ReadsGive, ReadsHave, reads_of}
use Rattle.cut_laws.proofs.ReadLaws.{inputs_are_given, columns_are_had}
use Rattle.pipe_types.specs.Exact.{exact_over}
use Rattle.pipe_types.specs.Over.{stored}
use Rattle.pipe_types.proofs.ImpliedLaws.{all_kinds}
use Rattle.pipe_types.proofs.StoredLaws.{pipe_over, stream_implied}
use Rattle.open_blocks.specs.Files.{FilesSeen, files_at, stream_in}
use Rattle.fed_laws.proofs.CountLaws.{reads_differ}
use Rattle.fed_laws.proofs.GivenLaws.{have_tables}
use Rattle.pipe_feeds.specs.Kept.{AreTypedAs, IsInput, whole}
use Rattle.pipe_feeds.specs.declared.stores.Stores.{Stores}
use Rattle.pipe_feeds.proofs.KeptLaws.{kept_at}
use Rattle.pipe_flows.specs.Inputs.{columns_of, told_by, IsOpenFor, TellsRows}
use Rattle.table_engine.specs.Inputs.{AreTablesOf}
use Rattle.read_laws.specs.Typed.{IsTypedRead}
use Rattle.pipe_runs.specs.Stands.{ArePipesOn, HaveRun, StandsFor, types_in}
use Rattle.read_laws.proofs.TypedLaws.{typed_reads}
use Rattle.table_engine.proofs.FitLaws.{stream_fits}
use Rattle.table_engine.proofs.RunLaws.{run_is, pipes_on}

-- the rows of the files with a number
abbrev told_rows : Option FilesSeen → Stream Row
told_rows None = rows_alone []
told_rows (Some one) = stream_in one

told_are : (found : Option FilesSeen) → TellsRows found (told_rows found)
told_are None = tt
told_are (Some one) = λ all. refl

-- by another name
pub kinds_in : (given types : List Ty) (pieces all : List Piece) → types ≡ given → all ≡ pieces → All (λ (piece : Piece). HasKinds given piece.batch) pieces → All (λ (piece : Piece). HasKinds types piece.batch) all
kinds_in given types pieces all same are kinds = rw same (rw are kinds)

module _ (rel : Rel) (reads : List ReadRel) (are : reads ≡ read_rels rel) where
  pub reads_typed : AreTyped rel → All IsTypedRead reads
  reads_typed typed = rw are (All-from_recursion IsTypedRead (read_rels rel) (typed_reads rel typed))

  pub reads_open : (files : List FilesSeen) → All (IsOpenFor (read_rels rel)) files → All (IsOpenFor reads) files
  reads_open files opened = subst (λ (all : List ReadRel). All (IsOpenFor all) files) (sym are) opened

  pub pipes_ready : AreTyped rel → AllDiffer (numbers_of rel) → (pipes : List Pipe) → ((columns : ℕ → List Ty) → AreTyped rel → ReadsHave columns rel → AreTypedPipes columns pipes) → ArePipesOn (columns_of reads) nothing_yet pipes
  pipes_ready typed differ pipes cut =
      rw are (pipes_on (columns_of (read_rels rel)) (pipe_over (columns_of (read_rels rel))) pipes (cut (columns_of (read_rels rel)) typed (columns_are_had rel differ)))

  -- what was read gives what every read relation reads
  given_reads : (tables inputs : Tables) → ((number : ℕ) → inputs number ≡ rows_read tables number (read_at number reads)) → AllDiffer (numbers_of rel) → ReadsGive tables inputs rel
  given_reads tables inputs own differ =
      let same : inputs_of tables rel ≡ inputs = λ i number. sym (own number ∙ ap (λ (all : List ReadRel). rows_read tables number (read_at number all)) are) i in
      subst (λ (all : Tables). ReadsGive tables all rel) same (inputs_are_given tables rel differ)

  -- the rows of the last pipeline
  pub rows_are : AllDiffer (numbers_of rel) → (files : List FilesSeen) (pipes : List Pipe) (stores : Stores) (at : ℕ) (pieces : List Piece) → at ≡ length pipes - 1
      → ((tables inputs : Tables) → ReadsGive tables inputs rel → last_stream (rows_over inputs) pipes ≡ denote tables rel) → fed_in pipes ≡ reads_of rel → HaveRun files reads pipes stores
      → slice_get stores.streams.items at ≡ whole pieces → (tables : Tables) × AreTablesOf files tables × (stream_of pieces ≡ denote tables rel)
  rows_are differ files pipes stores at pieces last cut fed ran taken =
      let once : AllDiffer (fed_in pipes) = subst AllDiffer (sym fed) (reads_differ rel differ) in
      let found = have_tables (told_by files) (λ number. told_rows (files_at number files)) (λ number. told_are (files_at number files)) reads pipes ran.given ran.fed_by once in
      let tables = found.tables in
      let inputs = found.inputs in
      let past : Past (Stream Row) Table = run_on (rows_over inputs) nothing_yet pipes in
      let stands : StandsFor past stores = ran.stands inputs found.feed in
      let same : past ≡ run (rows_over inputs) pipes = sym (run_is (rows_over inputs) pipes) in (
        tables,
        found.may_be,
        kept_at (λ stream pieces. stream_of pieces ≡ stream) past.streams stores.streams.items at pieces (rows_alone []) stands.streams taken
            ∙ ap (λ (now : Past (Stream Row) Table). slice_index_or now.streams at (rows_alone [])) same
            ∙ ap (λ (place : ℕ). slice_index_or (run (rows_over inputs) pipes).streams place (rows_alone [])) last
            ∙ cut tables inputs (given_reads tables inputs found.are_read differ),
      )

  -- they are stored with types from which those of its columns follow
  module _ (typed : AreTyped rel) (differ : AllDiffer (numbers_of rel)) (pipes : List Pipe) (stores : Stores) (at : ℕ) (pieces : List Piece) (last : at ≡ length pipes - 1)
      (cut : (columns : ℕ → List Ty) → AreTyped rel → ReadsHave columns rel → last_stream (types_over columns) pipes (types.columns_of rel)) (types_are : types_in stores ≡ run_on (exact_over (columns_of reads)) nothing_yet pipes)
      (all : AreTypedAs stores.types.items stores.streams.items) (taken : slice_get stores.streams.items at ≡ whole pieces) where
    abbrev own_types : List Ty
    own_types = slice_index_or stores.types.items at []

    own_input : IsInput own_types pieces
    own_input = kept_at IsInput stores.types.items stores.streams.items at pieces [] all taken

    own_implied : AreAll own_types (types.columns_of rel)
    own_implied =
        let columns = columns_of (read_rels rel) in
        let given = types.columns_of rel in
        let same : types_in stores ≡ stored columns pipes = types_are ∙ ap (λ (all : List ReadRel). run_on (exact_over (columns_of all)) nothing_yet pipes) are ∙ sym (run_is (exact_over columns) pipes) in
        let is : own_types ≡ stream_at (exact_over columns) (stored columns pipes).streams (length pipes - 1) =
        ap (λ (now : Past (List Ty) (Option JoinSpec)). slice_index_or now.streams at []) same ∙ ap (λ (place : ℕ). slice_index_or (stored columns pipes).streams place []) last in
        subst (λ (one : List Ty). AreAll one given) (sym is) (stream_implied columns pipes (length pipes - 1) given (cut columns typed (columns_are_had rel differ)))

    -- so they are of the kinds of its columns
    pub kinds_are : All (λ (piece : Piece). HasKinds (types.columns_of rel) piece.batch) pieces
    kinds_are =
        let given = types.columns_of rel in
        let kinds = all_kinds own_types given own_implied in
        All-from_recursion (λ (piece : Piece). HasKinds given piece.batch) pieces
        (weakened (λ (piece : Piece). types_of piece.batch ≡ own_types) (λ (piece : Piece). HasKinds given piece.batch) pieces (recursion_from_All (λ (piece : Piece). types_of piece.batch ≡ own_types) pieces own_input.typed)
        (λ piece one. ap kinds_of one ∙ kinds))

    -- and their rows fit its columns
    pub rows_fit : AllByRecursion (Fits (types.columns_of rel)) (stream_of pieces).rows
    rows_fit =
        let given = types.columns_of rel in
        stream_fits own_types (Fits given) (λ row fits. as_given own_types given row own_implied fits) pieces own_input.typed own_input.fit
