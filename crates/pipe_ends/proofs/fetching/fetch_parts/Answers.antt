use Rattle.std.proofs.Common.{◌≡◌, ◌∙◌, ℕ, Option, ap}
use Rattle.batch.specs.declared.batch.Piece.{Piece}
use Rattle.plan_denote.specs.Fetch.{fetched}
use Rattle.plan_pipes.specs.declared.pipe.Breaker.TheVariants as breakers
use Rattle.pipe_parts.specs.Parts.{IsPart}
use Rattle.pipe_parts.specs.declared.part.Part.TheVariants as kept
use Rattle.pipe_ends.proofs.PartLaws.{taken_stream, taken_typed, taken_fit}
use Rattle.pipe_ends.proofs.fetching.fetch_parts.Goals as goal

same : (offset : ℕ) (count : Option ℕ) (piece one : Piece) → IsPart (breakers.Fetch offset count) piece (kept.Rows one) → one ≡ piece
same offset count piece one is = is

pub fetch_pieces-requires-clause-typed : goal.fetch_pieces-requires-clause-typed
fetch_pieces-requires-clause-typed c =
    taken_typed (breakers.Fetch c.args.offset c.args.count) (same c.args.offset c.args.count) c.args.types.now c.args.parts.items c.in_ok-pieces.pieces.items c.in_ok-pieces.ensures c.requires.given

pub fetch_pieces-requires-clause-fit : goal.fetch_pieces-requires-clause-fit
fetch_pieces-requires-clause-fit c =
    taken_fit (breakers.Fetch c.args.offset c.args.count) (same c.args.offset c.args.count) c.args.types.now c.args.parts.items c.in_ok-pieces.pieces.items c.in_ok-pieces.ensures c.requires.given

pub returns-clause-stream : goal.returns-clause-stream
returns-clause-stream c =
    let offset = c.args.offset in
    let count = c.args.count in
    λ rows are.
    c.in_ok-out.ensures.stream
    ∙ ap (fetched offset count) (taken_stream (breakers.Fetch offset count) (same offset count) c.args.types.now c.args.parts.items c.in_ok-pieces.pieces.items c.in_ok-pieces.ensures rows are)
