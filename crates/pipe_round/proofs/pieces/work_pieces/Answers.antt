use denote.Param.Send.{arg_send, copied_send, param_send, shr_send}
use Rattle.std.proofs.Common.{sym, subst}
use Rattle.std.proofs.option.Option.TheSendSync as option_sent
use Rattle.pipe_labour.proofs.item.Item.TheSendSync as item_sent
use Rattle.pipe_labour.proofs.labour.PipeLabour.TheSendSync as labour_sent
use Rattle.piece_source.proofs.pieces.PieceSource.TheSendSync as source_sent
use Rattle.piece_source.specs.Pieces.{IsPieceAt}
use Rattle.round_end.proofs.outcome.Outcome.TheSendSync as outcome_sent
use Rattle.pipe_work.proofs.Crosses.{held_row, kept_row}
use Rattle.pipe_work.proofs.work.PieceWork.TheSendSync as work_sent
use Rattle.pipe_round.proofs.pieces.work_pieces.Goals as goal

pub returns-clause-made : goal.returns-clause-made
returns-clause-made g c = λ k d below.
    let pieces = c.args.pieces.now in
    let f = c.in_ok-round.ensures.fair (pieces, tt) (λ j e low. λ i. ((c.in_ok-labours.ensures.unused j e low).pieces_are i, tt)) k d below in
    record { given = f.0.value; at = subst (λ number. IsPieceAt pieces number f.0.value) (sym f.3.1) f.1; made_of = f.3.0 }

pub run_round-requires-send-T : goal.run_round-requires-send-T
run_round-requires-send-T g c κs within = search (item_sent.the_send, option_sent.the_send, shr_send, held_row, arg_send, param_send, copied_send) depth 12

pub run_round-requires-send-L : goal.run_round-requires-send-L
run_round-requires-send-L g c κs within =
    search (labour_sent.the_send, source_sent.the_send, work_sent.the_send, outcome_sent.the_send, kept_row, held_row, arg_send, param_send, copied_send) depth 12

pub run_round-requires-send-L-Out : goal.run_round-requires-send-L-Out
run_round-requires-send-L-Out g c κs within = search (item_sent.the_send, outcome_sent.the_send, kept_row, arg_send, param_send, copied_send) depth 12
