use Rattle.std.proofs.Common.{◌∙◌, All, sym, ap, subst}
use Rattle.set_rels.specs.Inputs.{stream_of}
use Rattle.pipe_ends.proofs.FetchLaws.{kept_is, fetched_typed, fetched_fit}
use Rattle.pipe_ends.proofs.FitLaws.{HasTypes, FitsOwn}
use Rattle.pipe_ends.proofs.fetching.fetch_pieces.Goals as goal

pub returns-clause-stream : goal.returns-clause-stream
returns-clause-stream c = ap stream_of c.up_to_fault.ensures ∙ kept_is c.args.offset c.args.count c.args.pieces.items c.in_ok-taken.taken.items c.in_ok-taken.ensures.streams

pub returns-clause-typed : goal.returns-clause-typed
returns-clause-typed c =
    subst (All (HasTypes c.args.types.now)) (sym c.up_to_fault.ensures)
    (fetched_typed c.args.offset c.args.count c.args.pieces.items c.in_ok-taken.taken.items c.in_ok-taken.ensures.streams c.args.types.now c.in_ok-taken.ensures.types c.requires.typed)

pub returns-clause-fit : goal.returns-clause-fit
returns-clause-fit c =
    subst (All FitsOwn) (sym c.up_to_fault.ensures)
    (fetched_fit c.args.offset c.args.count c.args.pieces.items c.in_ok-taken.taken.items c.in_ok-taken.ensures.streams c.args.types.now c.in_ok-taken.ensures.types c.requires.typed c.requires.fit)
