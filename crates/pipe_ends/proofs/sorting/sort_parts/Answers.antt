use Rattle.std.proofs.Common.{◌≡◌, ◌∙◌, true, None, sym, ap}
use Rattle.std.specs.Prelude.{is_some}
use Rattle.sub_types.specs.Stream.{Stream, ended}
use Rattle.sub_types.specs.Value.{Fits}
use Rattle.plan_denote.specs.Rows.{Row}
use Rattle.plan_pipes.specs.RowMeaning.{sorted_by}
use Rattle.set_rels.specs.Inputs.{stream_of, rows_in}
use Rattle.sort_merge.specs.RowOrder.{in_order}
use Rattle.pipe_ends.specs.Held.{end_among}
use Rattle.pipe_ends.proofs.FitLaws.{pieces_typed, alone_fit, rows_in_fit}
use Rattle.pipe_ends.proofs.PartLaws.{runs_end, each_run, run_types, stored_typed, stored_fit}
use Rattle.pipe_ends.proofs.SortLaws.{faulted, not_some, whole_sorted, out_is, in_order_all}
use Rattle.pipe_ends.proofs.sorting.sort_parts.Goals as goal

pub returns-then-is_some-clause-stream : goal.returns-then-is_some-clause-stream
returns-then-is_some-clause-stream c = λ rows are.
    let keys = c.args.keys.now in
    let end_is : c.end_among-end.result ≡ rows.end = c.end_among-end.ensures ∙ ap end_among c.deref.ensures.value ∙ runs_end keys c.args.types.now rows c.args.parts.items are in
    let broken : is_some rows.end ≡ true = ap is_some (sym end_is) ∙ sym c.is_some.ensures ∙ c.if-is_some.true in
    c.in_ok-alone.ensures.stream ∙ ap ended end_is ∙ sym (faulted keys rows broken)

pub merged-requires-clause-typed : goal.merged-requires-clause-typed
merged-requires-clause-typed c =
    run_types c.args.keys.now c.args.types.now c.args.parts.items c.in_ok-pieces.pieces.items c.in_ok-runs.runs.items c.in_ok-pieces.ensures c.in_ok-runs.ensures c.requires.given

pub returns-clause-stream : goal.returns-clause-stream
returns-clause-stream c = λ rows are.
    let keys = c.args.keys.now in
    let types = c.args.types.now in
    let all = c.args.parts.items in
    let runs = c.in_ok-runs.runs.items in
    let end_is : c.end_among-end.result ≡ rows.end = c.end_among-end.ensures ∙ ap end_among c.deref.ensures.value ∙ runs_end keys types rows all are in
    let whole : rows.end ≡ None = not_some rows.end (ap is_some (sym end_is) ∙ sym c.is_some.ensures ∙ c.if-is_some.false) in
    let none : (stream_of are.pieces).end ≡ None = ap (λ (s : Stream Row). s.end) are.rows_are ∙ whole in
    let each = each_run keys types all c.in_ok-pieces.pieces.items runs c.in_ok-pieces.ensures c.in_ok-runs.ensures rows are in
    out_is keys are.pieces c.in_ok-out.out.items runs c.in_ok-batches.batches.items each c.in_ok-batches.ensures.rows c.in_ok-out.ensures.batches c.in_ok-out.ensures.ends
    ∙ sym (whole_sorted keys are.pieces none)
    ∙ ap (sorted_by keys) are.rows_are

pub returns-clause-typed : goal.returns-clause-typed
returns-clause-typed c = pieces_typed c.args.types.now c.in_ok-out.out.items c.in_ok-batches.batches.items c.in_ok-out.ensures.batches c.in_ok-batches.ensures.types

pub returns-clause-fit : goal.returns-clause-fit
returns-clause-fit c =
    let keys = c.args.keys.now in
    let types = c.args.types.now in
    let all = c.args.parts.items in
    let rows = c.requires.given.0 in
    let are = c.requires.given.1 in
    let pieces = are.pieces in
    let out = c.in_ok-out.out.items in
    let runs = c.in_ok-runs.runs.items in
    let each = each_run keys types all c.in_ok-pieces.pieces.items runs c.in_ok-pieces.ensures c.in_ok-runs.ensures rows are in
    alone_fit types out (in_order keys (rows_in pieces))
    (out_is keys pieces out runs c.in_ok-batches.batches.items each c.in_ok-batches.ensures.rows c.in_ok-out.ensures.batches c.in_ok-out.ensures.ends)
    (pieces_typed types out c.in_ok-batches.batches.items c.in_ok-out.ensures.batches c.in_ok-batches.ensures.types)
    (in_order_all (Fits types) keys (rows_in pieces) (rows_in_fit types (Fits types) (λ row fits. fits) pieces (stored_typed types pieces are.stored) (stored_fit types pieces are.stored)))
