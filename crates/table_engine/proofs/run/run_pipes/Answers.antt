use Rattle.std.proofs.Common.{◌≡◌, ◌∙◌, [], List, Err, map, refl, sym, ap, subst, arith}
use Rattle.std.proofs.lemmas.Result.{err_from_is_err_and}
use Rattle.std.specs.List.{All}
use Rattle.std.specs.Vec.Iter.{into_iter_items}
use Rattle.plan_pipes.specs.declared.pipe.Pipe.{Pipe}
use Rattle.plan_tables.proofs.FileLaws.{none_left}
use Rattle.cut_flows.specs.Given.{fed_by}
use Rattle.open_blocks.specs.Files.{FilesSeen, files_seen}
use Rattle.open_blocks.specs.Taken.{Adds}
use Rattle.pipe_flows.specs.Inputs.{reads_seen, IsOpenFor}
use Rattle.pipe_flows.specs.Receipts.{IsReceiptAt}
use Rattle.pipe_runs.specs.Stands.{HasRunPipe}
use Rattle.pipe_flows.specs.Bodies.{reads_made, HaveReadInTurn}
use Rattle.table_engine.proofs.BodyLaws.{HaveReadSo, all_read, reads_begin, reads_go_on}
use Rattle.table_engine.proofs.ErrorLaws.{error_same}
use Rattle.table_engine.proofs.RunLaws.{IsRunning, run_begins, run_goes_on, next_over, run_ends, have_run, all_receipts}
use Rattle.table_engine.proofs.run.run_pipes.Goals as goal

pub loop-pipe-init : goal.loop-pipe-init
loop-pipe-init g c =
    let files = map (files_seen g.R.Reader.bytes) c.args.files.now.items in
    let reads = reads_seen c.args.reads.now in
    let pipes = c.args.pipes.items in
    let stores = c.new-stores.result in
    let old = c.args.receipts.now.items in
    let workers = c.args.crew.now.workers in
    let made = reads_made g.R.Reader.reads c.args.files.now.items in
    record {
      running =
          subst (λ (left : List Pipe). IsRunning workers files reads pipes left stores old old) (sym c.into_iter-pipe-iterator.ensures.into_iter_gives.0)
          (run_begins workers files reads pipes stores old c.new-stores.ensures.streams c.new-stores.ensures.types c.new-stores.ensures.tables c.requires.over);
      bodies = subst (λ (left : List Pipe). HaveReadSo reads files pipes left made made) (sym c.into_iter-pipe-iterator.ensures.into_iter_gives.0) (reads_begin reads files pipes made);
      seen = refl;
      never_falls = omega arith;
    }

pub run_pipe-requires-clause-files : goal.run_pipe-requires-clause-files
run_pipe-requires-clause-files g c κs within = subst (λ (files : List FilesSeen). All (IsOpenFor (reads_seen c.args.reads.now)) files) (sym c.loop-pipe.invariant.seen) c.requires.files

pub run_pipe-requires-clause-typed : goal.run_pipe-requires-clause-typed
run_pipe-requires-clause-typed g c κs within = c.loop-pipe.invariant.running.typed

pub run_pipe-requires-clause-over : goal.run_pipe-requires-clause-over
run_pipe-requires-clause-over g c κs within =
    next_over c.args.crew.now.workers (map (files_seen g.R.Reader.bytes) c.args.files.now.items) (reads_seen c.args.reads.now) c.args.pipes.items c.in-Some.pipe (into_iter_items c.loop-pipe.pipe-iterator) (into_iter_items c.next.new.self) c.loop-pipe.stores
    c.args.receipts.now.items c.loop-pipe.receipts.items c.in-Some.ensures.steps.0 c.loop-pipe.invariant.running

pub loop-pipe-preserved : goal.loop-pipe-preserved
loop-pipe-preserved g c =
    let before = c.loop-pipe.invariant in
    let ran = c.in_ok-run_pipe.ensures in
    let files = map (files_seen g.R.Reader.bytes) c.args.files.now.items in
    let reads = reads_seen c.args.reads.now in
    let workers = c.args.crew.now.workers in
    let pipe = c.in-Some.pipe in
    let start = reads_made g.R.Reader.reads c.args.files.now.items in
    let mid = reads_made g.R.Reader.reads c.loop-pipe.files.items in
    let now = reads_made g.R.Reader.reads c.run_pipe.new.files.items in
    record {
      running =
          run_goes_on workers files reads c.args.pipes.items pipe (into_iter_items c.loop-pipe.pipe-iterator) (into_iter_items c.next.new.self) c.loop-pipe.stores c.run_pipe.new.stores c.args.receipts.now.items c.loop-pipe.receipts.items c.run_pipe.new.receipts.items
          c.in-Some.ensures.steps.0 before.running ran.types ran.typed (subst (λ (all : List FilesSeen). HasRunPipe all reads pipe c.loop-pipe.stores c.run_pipe.new.stores) before.seen ran.rows)
          (subst (λ (all : List FilesSeen). Adds (IsReceiptAt workers all reads) (fed_by pipe.feed) c.loop-pipe.receipts.items c.run_pipe.new.receipts.items) before.seen ran.receipts);
      bodies =
          reads_go_on reads files c.args.pipes.items pipe (into_iter_items c.loop-pipe.pipe-iterator) (into_iter_items c.next.new.self) start mid now c.in-Some.ensures.steps.0 before.bodies
          (subst (λ (all : List FilesSeen). HaveReadInTurn reads all (fed_by pipe.feed) mid now) before.seen ran.reads);
      seen = ran.seen ∙ before.seen;
      never_falls = omega (arith, ran.cause.never_falls, before.never_falls);
    }

pub returns-in_err-run_pipe-clause-seen : goal.returns-in_err-run_pipe-clause-seen
returns-in_err-run_pipe-clause-seen g c = c.run_pipe.ensures.seen ∙ c.loop-pipe.invariant.seen

pub returns-in_err-run_pipe-clause-cause : goal.returns-in_err-run_pipe-clause-cause
returns-in_err-run_pipe-clause-cause g c =
    let before = c.loop-pipe.invariant in
    let cause = c.run_pipe.ensures.cause in
    record {
      never_falls = omega (arith, cause.never_falls, before.never_falls);
      failed = λ is.
          let p = err_from_is_err_and c.from_residual.result c.from_residual.ensures.1 in
          let rose = c.in_err-run_pipe.ensures.cause.failed (ap Err (error_same c.from_residual.result p.0 p.1 p.2 is)) in
          omega (arith, before.never_falls, rose);
    }

pub returns-clause-types : goal.returns-clause-types
returns-clause-types g c =
    let left = into_iter_items c.loop-pipe.pipe-iterator in
    let none : left ≡ [] = none_left left (omega (arith, c.in-None.ensures.steps.0)) in
    (run_ends c.args.crew.now.workers (map (files_seen g.R.Reader.bytes) c.args.files.now.items) (reads_seen c.args.reads.now) c.args.pipes.items left c.loop-pipe.stores c.args.receipts.now.items c.loop-pipe.receipts.items none c.loop-pipe.invariant.running).types

pub returns-clause-typed : goal.returns-clause-typed
returns-clause-typed g c = c.loop-pipe.invariant.running.typed

pub returns-clause-rows : goal.returns-clause-rows
returns-clause-rows g c =
    let workers = c.args.crew.now.workers in
    let files = map (files_seen g.R.Reader.bytes) c.args.files.now.items in
    let reads = reads_seen c.args.reads.now in
    let pipes = c.args.pipes.items in
    let old = c.args.receipts.now.items in
    let now = c.loop-pipe.receipts.items in
    let left = into_iter_items c.loop-pipe.pipe-iterator in
    let none : left ≡ [] = none_left left (omega (arith, c.in-None.ensures.steps.0)) in
    have_run workers files reads pipes c.loop-pipe.stores old now (run_ends workers files reads pipes left c.loop-pipe.stores old now none c.loop-pipe.invariant.running)

pub returns-clause-receipts : goal.returns-clause-receipts
returns-clause-receipts g c =
    let workers = c.args.crew.now.workers in
    let files = map (files_seen g.R.Reader.bytes) c.args.files.now.items in
    let reads = reads_seen c.args.reads.now in
    let pipes = c.args.pipes.items in
    let old = c.args.receipts.now.items in
    let now = c.loop-pipe.receipts.items in
    let left = into_iter_items c.loop-pipe.pipe-iterator in
    let none : left ≡ [] = none_left left (omega (arith, c.in-None.ensures.steps.0)) in
    all_receipts workers files reads pipes c.loop-pipe.stores old now (run_ends workers files reads pipes left c.loop-pipe.stores old now none c.loop-pipe.invariant.running)

pub returns-clause-seen : goal.returns-clause-seen
returns-clause-seen g c = c.loop-pipe.invariant.seen

pub returns-clause-reads : goal.returns-clause-reads
returns-clause-reads g c =
    let left = into_iter_items c.loop-pipe.pipe-iterator in
    all_read (reads_seen c.args.reads.now) (map (files_seen g.R.Reader.bytes) c.args.files.now.items) c.args.pipes.items left (reads_made g.R.Reader.reads c.args.files.now.items) (reads_made g.R.Reader.reads c.loop-pipe.files.items)
    (none_left left (omega (arith, c.in-None.ensures.steps.0))) c.loop-pipe.invariant.bodies
