use Rattle.std.proofs.Common.{sym, ap, subst}
use Rattle.std.specs.List.{All}
use Rattle.std.proofs.lemmas.List.Elements.{All-nil}
use Rattle.sub_types.specs.Stream.{ended}
use Rattle.sub_types.specs.Value.{Fits}
use Rattle.batch.specs.declared.batch.Piece.{Piece}
use Rattle.batch.specs.BatchRows.{types_of}
use Rattle.pipe_ends.proofs.EndLaws.{stream, one_stream, one_holds}
use Rattle.pipe_ends.proofs.FitLaws.{HasTypes, FitsOwn}
use Rattle.pipe_ends.proofs.ends.ended_alone.Goals as goal

pub returns-clause-stream : goal.returns-clause-stream
returns-clause-stream c =
    let piece : Piece = record { batch = c.in_ok-batch.batch; end = c.args.end } in
    one_stream c.in_ok-out.out.items piece (ended c.args.end) c.in_ok-out.ensures (ap (λ rows. stream rows c.args.end) c.in_ok-batch.ensures.rows)

pub returns-clause-typed : goal.returns-clause-typed
returns-clause-typed c =
    let piece : Piece = record { batch = c.in_ok-batch.batch; end = c.args.end } in
    one_holds (HasTypes c.args.types.now) c.in_ok-out.out.items piece c.in_ok-out.ensures c.in_ok-batch.ensures.types

pub returns-clause-fit : goal.returns-clause-fit
returns-clause-fit c =
    let batch = c.in_ok-batch.batch in
    let piece : Piece = record { batch = batch; end = c.args.end } in
    one_holds FitsOwn c.in_ok-out.out.items piece c.in_ok-out.ensures (subst (All (Fits (types_of batch))) (sym c.in_ok-batch.ensures.rows) (All-nil (Fits (types_of batch))))
