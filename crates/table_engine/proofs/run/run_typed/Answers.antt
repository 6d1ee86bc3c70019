use Rattle.std.proofs.Common.{◌≡◌, ◌∙◌, ◌-◌, ℕ, List, length, map, sym, ap, subst, arith}
use Rattle.std.specs.List.{AllByRecursion, AllZip}
use Rattle.sub_types.specs.Stream.{Stream}
use Rattle.sub_types.specs.Value.{Fits}
use Rattle.plan_denote.specs.Rows.{Row}
use Rattle.plan_typed.specs.Types as types
use Rattle.cut_laws.specs.Found.{ReadRel, read_rels}
use Rattle.cut_laws.specs.Reads.{reads_of}
use Rattle.cut_flows.specs.Given.{fed_in}
use Rattle.read_sources.specs.Seen.{read_seen}
use Rattle.run_words.specs.declared.status.PipeReceipt.{PipeReceipt}
use Rattle.set_rels.specs.Inputs.{stream_of}
use Rattle.open_blocks.specs.Files.{files_seen}
use Rattle.open_blocks.proofs.AddedLaws.{all_added}
use Rattle.pipe_flows.specs.Inputs.{reads_seen}
use Rattle.fed_laws.proofs.CountLaws.{reads_differ}
use Rattle.pipe_flows.specs.Bodies.{reads_made, HaveReadInTurn}
use Rattle.pipe_flows.specs.Receipts.{IsReceiptAt}
use Rattle.table_engine.proofs.BodyLaws.{bodies_read}
use Rattle.table_engine.proofs.EndLaws.{reads_typed, reads_open, pipes_ready, rows_are, rows_fit, kinds_are, kinds_in}
use Rattle.table_engine.proofs.run.run_typed.Goals as goal

pub run_pipes-requires-clause-reads : goal.run_pipes-requires-clause-reads
run_pipes-requires-clause-reads g c κs within = reads_typed c.args.typed.now.rel (reads_seen c.deref.result.now) (ap (map read_seen) c.deref.ensures.value ∙ c.in_ok-reads.ensures) c.requires.typed

pub run_pipes-requires-clause-files : goal.run_pipes-requires-clause-files
run_pipes-requires-clause-files g c κs within =
    reads_open c.args.typed.now.rel (reads_seen c.deref.result.now) (ap (map read_seen) c.deref.ensures.value ∙ c.in_ok-reads.ensures) (map (files_seen g.R.Reader.bytes) c.args.files.now.items) c.requires.files

pub run_pipes-requires-clause-over : goal.run_pipes-requires-clause-over
run_pipes-requires-clause-over g c κs within =
    pipes_ready c.args.typed.now.rel (reads_seen c.deref.result.now) (ap (map read_seen) c.deref.ensures.value ∙ c.in_ok-reads.ensures) c.requires.typed c.requires.numbers c.in_ok-pipes.pipes.items c.in_ok-pipes.ensures.typed

pub in_batches-requires : goal.in_batches-requires
in_batches-requires g c =
    let rel = c.args.typed.now.rel in
    let reads = reads_seen c.deref.result.now in
    let are : reads ≡ read_rels rel = ap (map read_seen) c.deref.ensures.value ∙ c.in_ok-reads.ensures in
    let at = c.len-last.result - 1 in
    let last : at ≡ length c.in_ok-pipes.pipes.items - 1 = omega arith in
    kinds_in (types.columns_of rel) c.as_slice.result.now c.in-Some.pieces c.into_vec.result.items c.as_slice.ensures c.into_vec.ensures
    (kinds_are rel reads are c.requires.typed c.requires.numbers c.in_ok-pipes.pipes.items c.in_ok-stores.stores at c.in-Some.pieces last c.in_ok-pipes.ensures.columns c.in_ok-stores.ensures.types c.in_ok-stores.ensures.typed c.in-Some.ensures.taken)

pub returns-clause-rows : goal.returns-clause-rows
returns-clause-rows g c =
    let rel = c.args.typed.now.rel in
    let reads = reads_seen c.deref.result.now in
    let are : reads ≡ read_rels rel = ap (map read_seen) c.deref.ensures.value ∙ c.in_ok-reads.ensures in
    let at = c.len-last.result - 1 in
    let last : at ≡ length c.in_ok-pipes.pipes.items - 1 = omega arith in
    let rows = rows_are rel reads are c.requires.numbers (map (files_seen g.R.Reader.bytes) c.args.files.now.items) c.in_ok-pipes.pipes.items c.in_ok-stores.stores at c.in-Some.pieces last c.in_ok-pipes.ensures.rows c.in_ok-pipes.ensures.reads
    c.in_ok-stores.ensures.rows c.in-Some.ensures.taken in
    (rows.0, rows.1, c.in_ok-all.ensures.rows ∙ ap stream_of c.into_vec.ensures ∙ rows.2)

pub returns-clause-fit : goal.returns-clause-fit
returns-clause-fit g c =
    let rel = c.args.typed.now.rel in
    let reads = reads_seen c.deref.result.now in
    let are : reads ≡ read_rels rel = ap (map read_seen) c.deref.ensures.value ∙ c.in_ok-reads.ensures in
    let at = c.len-last.result - 1 in
    let last : at ≡ length c.in_ok-pipes.pipes.items - 1 = omega arith in
    subst (λ (s : Stream Row). AllByRecursion (Fits (types.columns_of rel)) s.rows) (sym (c.in_ok-all.ensures.rows ∙ ap stream_of c.into_vec.ensures))
    (rows_fit rel reads are c.requires.typed c.requires.numbers c.in_ok-pipes.pipes.items c.in_ok-stores.stores at c.in-Some.pieces last c.in_ok-pipes.ensures.columns c.in_ok-stores.ensures.types c.in_ok-stores.ensures.typed c.in-Some.ensures.taken)

pub returns-clause-receipts : goal.returns-clause-receipts
returns-clause-receipts g c =
    let rel = c.args.typed.now.rel in
    let reads = reads_seen c.deref.result.now in
    let are : reads ≡ read_rels rel = ap (map read_seen) c.deref.ensures.value ∙ c.in_ok-reads.ensures in
    let files = map (files_seen g.R.Reader.bytes) c.args.files.now.items in
    let P : List ReadRel → ℕ → PipeReceipt → Type 0 = λ of. IsReceiptAt c.args.crew.now.workers files of in
    let pipes = c.in_ok-pipes.pipes.items in
    let receipts = c.run_pipes.new.receipts.items in
    let all : AllZip (P reads) (fed_in pipes) receipts = all_added (P reads) (fed_in pipes) c.new-receipts.result.items receipts c.new-receipts.ensures.items c.in_ok-stores.ensures.receipts in
    subst (λ (of : List ReadRel). AllZip (P of) (reads_of rel) receipts) are (subst (λ (fed : List ℕ). AllZip (P reads) fed receipts) c.in_ok-pipes.ensures.reads all)

pub returns-clause-reads : goal.returns-clause-reads
returns-clause-reads g c =
    let rel = c.args.typed.now.rel in
    let reads = reads_seen c.deref.result.now in
    let are : reads ≡ read_rels rel = ap (map read_seen) c.deref.ensures.value ∙ c.in_ok-reads.ensures in
    let files = map (files_seen g.R.Reader.bytes) c.args.files.now.items in
    let start = reads_made g.R.Reader.reads c.args.files.now.items in
    let now = reads_made g.R.Reader.reads c.run_pipes.new.files.items in
    let fed : HaveReadInTurn reads files (reads_of rel) start now = subst (λ (numbers : List ℕ). HaveReadInTurn reads files numbers start now) c.in_ok-pipes.ensures.reads c.in_ok-stores.ensures.reads in
    bodies_read (read_rels rel) files (reads_of rel) start now (reads_differ rel c.requires.numbers) (subst (λ (of : List ReadRel). HaveReadInTurn of files (reads_of rel) start now) are fed)
