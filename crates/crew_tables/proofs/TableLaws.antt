-- The table that is made of the blocks of files.
use Rattle.std.proofs.Common.{◌≡◌, ◌∙◌, ℕ, ◌<◌, List, [], ◌∷◌, Option, None, IsSome, IfSome, length, refl, sym, ap, subst, arith}
use Rattle.std.specs.List.{All}
use Rattle.std.proofs.lemmas.List.Elements.{All-nil, All-head}
use Rattle.sub_types.specs.declared.fault.Fault.{Fault}
use Rattle.sub_types.specs.declared.kind.Ty.{Ty}
use Rattle.sub_types.specs.declared.value.Value.{Value}
use Rattle.sub_types.specs.Kind.{IsKind}
use Rattle.sub_types.specs.Stream.{Stream, glue}
use Rattle.batch.specs.declared.batch.Batch.{Batch}
use Rattle.block_source.specs.declared.file.BlockFile.{BlockFile}
use Rattle.block_source.specs.declared.file.BlockPlace.{BlockPlace}
use Rattle.block_source.specs.Places.{places_of}
use Rattle.plan_reads.specs.declared.reads.PlanRead.{PlanRead}
use Rattle.row_engine.specs.declared.tables.Table.{Table}
use Rattle.row_engine.specs.Tables.{table_stream}
use Rattle.table_open.specs.Files.{TableFile}
use Rattle.table_rows.specs.Blocks.{HaveKinds, HoldsTypes}
use Rattle.table_rows.proofs.KindLaws.{kinds_sound}
use Rattle.plan_tables.specs.Read.{IsTableFault, IsTableOf, batches_stream, files_stream}
use Rattle.run_words.specs.declared.status.PipeReceipt.{PipeReceipt}
use Rattle.block_rows.specs.declared.table.TableRows.{TableRows}
use Rattle.crew_tables.specs.Apart.{seen_of}
use Rattle.crew_tables.specs.Blocks.{AreBlocks}
use Rattle.crew_tables.specs.Made.{IsMadeFrom}
use Rattle.crew_tables.specs.Receipts.{IsReceiptOf, batches_read}
use Rattle.crew_tables.specs.declared.table.Made.{Made}
use Rattle.crew_tables.proofs.FileLaws.{rows_told}
use Rattle.crew_tables.proofs.PartLaws.{all-places, batches-count}

-- a plan may name the kinds of files' columns, if there is a file
pub kinds_in : (types : List Ty) (files : List BlockFile) → 0 < length files → All (λ (one : BlockFile). HaveKinds one.head.schema.columns one.wanted.items types) files → All (λ (ty : Ty). IsKind ty.kind) types
kinds_in types [] some kinds = absurd (omega (arith, some))
kinds_in types (one ∷ files) some kinds =
    let P : BlockFile → Type 0 = λ file. HaveKinds file.head.schema.columns file.wanted.items types in
    kinds_sound one.head.schema.columns one.wanted.items types one.head.shapes (All-head P one files kinds)

-- the table of a round over all blocks
pub table_made : (read : PlanRead) (workers : ℕ) (rows : TableRows) (bytes : List (Option (List ℕ))) (places : List BlockPlace) (input : List (Stream (List Value))) (batches : List Batch) (end : Option Fault) (table : Table) (receipt : PipeReceipt)
    → rows.relation ≡ read.relation → rows.types.now ≡ read.types → places ≡ places_of rows.table.now.files.items
    → length rows.numbers.now ≡ length rows.table.now.files.items → length bytes ≡ length rows.table.now.files.items
    → AreBlocks rows bytes places input → glue input ≡ batches_stream batches end → All (HoldsTypes rows.types.now) batches → IfSome end (IsTableFault rows.relation)
    → table ≡ record { relation = read.relation; batches = batches; end = end }
    → IsReceiptOf workers (read.relation, batches_read read.origin (length places)) receipt
    → IsMadeFrom read workers (All (λ (told : Option (List ℕ)). IsSome told) bytes) (seen_of rows.table.now.files.items rows.numbers.now bytes) (record { table = table; receipt = receipt })
table_made read workers rows bytes places input batches end table receipt relation types is many lent are made typed fault table_is seats =
    let files = seen_of rows.table.now.files.items rows.numbers.now bytes in
    let counted = batches-count read.origin files (length places) (ap length is ∙ all-places rows.table.now.files.items rows.numbers.now bytes many lent) in
    let with_types : All (HoldsTypes read.types) batches = subst (λ (ts : List Ty). All (HoldsTypes ts) batches) types typed in
    let with_fault : IfSome end (IsTableFault read.relation) = subst (λ (n : ℕ). IfSome end (IsTableFault n)) relation fault in
    let T : Table = record { relation = read.relation; batches = batches; end = end } in
    let of_table : IsTableOf read T = record { relation = refl; typed = with_types; fault = with_fault } in
    let same : (All (λ (told : Option (List ℕ)). IsSome told) bytes) → table_stream T ≡ files_stream read.relation read.types files = λ told.
    sym made ∙ rows_told rows bytes places input is many lent told are ∙ ap (λ (n : ℕ). files_stream n rows.types.now files) relation ∙ ap (λ (ts : List Ty). files_stream read.relation ts files) types in
    record {
      table_of = subst (IsTableOf read) (sym table_is) of_table;
      rows = λ told. ap table_stream table_is ∙ same told;
      receipt_of = subst (λ (n : ℕ). IsReceiptOf workers (read.relation, n) receipt) counted seats;
    }

-- the table of no files
pub table_none : (read : PlanRead) (workers : ℕ) (files : List BlockFile) (numbers : List ℕ) (bytes : List (Option (List ℕ))) (told : Type 0) (batches : List Batch) (table : Table) (receipt : PipeReceipt)
    → files ≡ [] → batches ≡ [] → table ≡ record { relation = read.relation; batches = batches; end = None } → IsReceiptOf workers (read.relation, batches_read read.origin 0) receipt
    → IsMadeFrom read workers told (seen_of files numbers bytes) (record { table = table; receipt = receipt })
unfolding files_stream
table_none read workers files numbers bytes told batches table receipt none empty table_is seats =
    let T : Table = record { relation = read.relation; batches = []; end = None } in
    let is : table ≡ T = table_is ∙ ap (λ (bs : List Batch). record { relation = read.relation; batches = bs; end = None }) empty in
    let of_table : IsTableOf read T = record { relation = refl; typed = All-nil (HoldsTypes read.types); fault = tt } in
    let counted = batches-count read.origin [] 0 refl in
    let made : IsMadeFrom read workers told [] (record { table = table; receipt = receipt }) =
    record {
      table_of = subst (IsTableOf read) (sym is) of_table;
      rows = λ _. ap table_stream is;
      receipt_of = subst (λ (n : ℕ). IsReceiptOf workers (read.relation, n) receipt) counted seats;
    } in
    subst (λ (fs : List BlockFile). IsMadeFrom read workers told (seen_of fs numbers bytes) (record { table = table; receipt = receipt })) (sym none) made

-- the same where as much is told of the same files
pub made_as : (read : PlanRead) (workers : ℕ) (told other : Type 0) (files more : List TableFile) (made : Made) → (other → told) → files ≡ more → IsMadeFrom read workers told files made → IsMadeFrom read workers other more made
made_as read workers told other files more made tells same is =
    let as_told : IsMadeFrom read workers other files made = record { table_of = is.table_of; rows = λ t. is.rows (tells t); receipt_of = is.receipt_of } in
    subst (λ (fs : List TableFile). IsMadeFrom read workers other fs made) same as_told
