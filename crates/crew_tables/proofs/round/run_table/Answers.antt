use Rattle.std.proofs.Common.{◌≡◌, ◌∙◌, Err, map, sum_by, ap}
use Rattle.std.specs.List.{range_with_len}
use Rattle.world.specs.declared.error.FolderError.{FolderError}
use Rattle.world.specs.declared.error.FolderError.TheVariants.{Failed}
use Rattle.crew_tables.proofs.MadeLaws.{all_came}
use Rattle.crew_tables.proofs.GluedLaws.{counts, rose_of}
use Rattle.crew_tables.proofs.round.run_table.Goals as goal

pub returns-in-Ok-clause-rows : goal.returns-in-Ok-clause-rows
returns-in-Ok-clause-rows g c =
    let rows = c.args.rows.now in
    let bytes = map g.R.Reader.bytes c.args.readers.now.items in
    let before = sum_by g.R.Reader.faults c.args.readers.now.items in
    let now = sum_by g.R.Reader.faults c.run_blocks.new.readers.items in
    let round = c.in_ok-round in
    let came = all_came rows bytes before now rows.table.now.places.items round.round.outs.items rows.table.now.placed c.requires.kinds (round.ensures.numbers ∙ ap (range_with_len 0) rows.table.now.places.ok.0) round.ensures.made in
    let d = counts rows.relation rows.types.now came.input _ _ came.settled c.in-Ok.ensures.settled in
    (came.input, came.of_blocks, d.rows)

pub returns-in-Ok-clause-typed : goal.returns-in-Ok-clause-typed
returns-in-Ok-clause-typed g c =
    let rows = c.args.rows.now in
    let bytes = map g.R.Reader.bytes c.args.readers.now.items in
    let before = sum_by g.R.Reader.faults c.args.readers.now.items in
    let now = sum_by g.R.Reader.faults c.run_blocks.new.readers.items in
    let round = c.in_ok-round in
    let came = all_came rows bytes before now rows.table.now.places.items round.round.outs.items rows.table.now.placed c.requires.kinds (round.ensures.numbers ∙ ap (range_with_len 0) rows.table.now.places.ok.0) round.ensures.made in
    let d = counts rows.relation rows.types.now came.input _ _ came.settled c.in-Ok.ensures.settled in
    d.typed

pub returns-in-Ok-clause-fault : goal.returns-in-Ok-clause-fault
returns-in-Ok-clause-fault g c =
    let rows = c.args.rows.now in
    let bytes = map g.R.Reader.bytes c.args.readers.now.items in
    let before = sum_by g.R.Reader.faults c.args.readers.now.items in
    let now = sum_by g.R.Reader.faults c.run_blocks.new.readers.items in
    let round = c.in_ok-round in
    let came = all_came rows bytes before now rows.table.now.places.items round.round.outs.items rows.table.now.placed c.requires.kinds (round.ensures.numbers ∙ ap (range_with_len 0) rows.table.now.places.ok.0) round.ensures.made in
    let d = counts rows.relation rows.types.now came.input _ _ came.settled c.in-Ok.ensures.settled in
    d.fault

pub returns-in-Err-clause-cause : goal.returns-in-Err-clause-cause
returns-in-Err-clause-cause g c =
    let rows = c.args.rows.now in
    let bytes = map g.R.Reader.bytes c.args.readers.now.items in
    let before = sum_by g.R.Reader.faults c.args.readers.now.items in
    let now = sum_by g.R.Reader.faults c.run_blocks.new.readers.items in
    let round = c.in_ok-round in
    let came = all_came rows bytes before now rows.table.now.places.items round.round.outs.items rows.table.now.placed c.requires.kinds (round.ensures.numbers ∙ ap (range_with_len 0) rows.table.now.places.ok.0) round.ensures.made in
    record {
      never_falls = round.ensures.cause.never_falls;
      failed = λ is.
          let same : c.in-Err.error ≡ Failed = cc in
          rose_of before now round.round.outs.items came.rose (c.in-Err.ensures.failed (ap (λ (e : FolderError). Err e) same));
    }
