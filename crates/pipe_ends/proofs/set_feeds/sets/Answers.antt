use Rattle.std.proofs.Common.{Vec, Global, ◌∙◌, List, All, map, sym, ap, subst}
use Rattle.std.proofs.lemmas.Simd.{map-map}
use Rattle.sub_types.specs.Stream.{Stream}
use Rattle.sub_types.specs.Value.{Fits}
use Rattle.batch.specs.declared.batch.Piece.{Piece}
use Rattle.plan_denote.specs.Rows.{Row}
use Rattle.plan_denote.specs.Sets.{set_rows}
use Rattle.denote_typed.proofs.RowsLaws.{Rows}
use Rattle.set_rels.specs.Inputs.{stream_of}
use Rattle.pipe_ends.proofs.EndLaws.{same_stream}
use Rattle.pipe_ends.proofs.FitLaws.{HasTypes, FitsOwn, kept_typed, kept_fit}
use Rattle.pipe_ends.proofs.SetLaws.{sets_fit, sets_kinds}
use Rattle.pipe_ends.proofs.set_feeds.sets.Goals as goal

abbrev pieces_in : Vec Piece Global → List Piece
pieces_in input = input.items

pub set_op-requires-clause-alike : goal.set_op-requires-clause-alike
set_op-requires-clause-alike c = sets_kinds pieces_in c.args.op c.args.types.now c.args.inputs.items c.requires.over

pub returns-clause-stream : goal.returns-clause-stream
returns-clause-stream c = ap stream_of c.up_to_fault.ensures ∙ same_stream c.in_ok-given.given.items ∙ c.in_ok-given.ensures.rows

pub returns-clause-typed : goal.returns-clause-typed
returns-clause-typed c = subst (All (HasTypes c.args.types.now)) (sym c.up_to_fault.ensures) (kept_typed c.args.types.now c.in_ok-given.given.items c.in_ok-given.ensures.types)

pub returns-clause-fit : goal.returns-clause-fit
returns-clause-fit c =
    let op = c.args.op in
    let types = c.args.types.now in
    let inputs = c.args.inputs.items in
    let fits : Rows (Fits types) (set_rows op (map (λ input. stream_of (pieces_in input)) inputs)) =
    subst (λ (streams : List (Stream Row)). Rows (Fits types) (set_rows op streams)) (map-map stream_of pieces_in inputs) (sets_fit op types (map pieces_in inputs) c.requires.over) in
    subst (All FitsOwn) (sym c.up_to_fault.ensures) (kept_fit types c.in_ok-given.given.items (set_rows op (map (λ input. stream_of (pieces_in input)) inputs)) c.in_ok-given.ensures.rows c.in_ok-given.ensures.types fits)
