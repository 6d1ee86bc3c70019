use denote.Param.Send.{arg_send, copied_send, param_send}
use Rattle.std.proofs.Common.{◌≡◌, ◌∙◌, Err, map, sum_by, ap}
use Rattle.std.specs.List.{range_with_len}
use Rattle.world.specs.declared.error.FolderError.{FolderError}
use Rattle.world.specs.declared.error.FolderError.TheVariants.{Failed}
use Rattle.round_end.proofs.outcome.Outcome.TheSendSync as outcome_sent
use Rattle.pipe_round.proofs.Below.{kept_row}
use Rattle.block_work.proofs.Crosses.{work_row}
use Rattle.pipe_round.proofs.WorkedLaws.{settled_marks}
use Rattle.table_round.proofs.BlockLaws.{all_came, rose_of}
use Rattle.table_round.proofs.table.run_table.Goals as goal

pub run_blocks-requires-send-W : goal.run_blocks-requires-send-W
run_blocks-requires-send-W g c κs within = search (work_row, arg_send, param_send, copied_send) depth 8

pub run_blocks-requires-send-W-Made : goal.run_blocks-requires-send-W-Made
run_blocks-requires-send-W-Made g c κs within = search (outcome_sent.the_send, kept_row, arg_send, param_send, copied_send) depth 8

pub settle_pieces-requires : goal.settle_pieces-requires
settle_pieces-requires g c =
    let steps = c.args.steps.now in
    let before = sum_by g.R.Reader.faults c.args.readers.now.items in
    let now = sum_by g.R.Reader.faults c.run_blocks.new.readers.items in
    let round = c.in_ok-round in
    let came = all_came steps (map g.R.Reader.bytes c.args.readers.now.items) before now steps.table.now.places.items round.round.outs.items steps.table.now.placed
    c.requires.kinds (round.ensures.numbers ∙ ap (range_with_len 0) steps.table.now.places.ok.0) round.ensures.made in
    record { marks = settled_marks steps.pipe.now came.input round.round.outs.items came.settled }

pub returns-in-Ok-clause-parts : goal.returns-in-Ok-clause-parts
returns-in-Ok-clause-parts g c =
    let steps = c.args.steps.now in
    let before = sum_by g.R.Reader.faults c.args.readers.now.items in
    let now = sum_by g.R.Reader.faults c.run_blocks.new.readers.items in
    let round = c.in_ok-round in
    let came = all_came steps (map g.R.Reader.bytes c.args.readers.now.items) before now steps.table.now.places.items round.round.outs.items steps.table.now.placed
    c.requires.kinds (round.ensures.numbers ∙ ap (range_with_len 0) steps.table.now.places.ok.0) round.ensures.made in
    (came.input, came.of_blocks, c.in-Ok.ensures.parts came.input came.settled)

pub returns-in-Err-clause-cause : goal.returns-in-Err-clause-cause
returns-in-Err-clause-cause g c =
    let steps = c.args.steps.now in
    let before = sum_by g.R.Reader.faults c.args.readers.now.items in
    let now = sum_by g.R.Reader.faults c.run_blocks.new.readers.items in
    let round = c.in_ok-round in
    let came = all_came steps (map g.R.Reader.bytes c.args.readers.now.items) before now steps.table.now.places.items round.round.outs.items steps.table.now.placed
    c.requires.kinds (round.ensures.numbers ∙ ap (range_with_len 0) steps.table.now.places.ok.0) round.ensures.made in
    record {
      never_falls = round.ensures.cause.never_falls;
      failed = λ is.
          let same : c.in-Err.error ≡ Failed = cc in
          rose_of steps (map g.R.Reader.bytes c.args.readers.now.items) before now round.round.outs.items came.rose (c.in-Err.ensures.failed (ap (λ (e : FolderError). Err e) same));
    }
