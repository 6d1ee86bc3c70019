use Rattle.std.proofs.Common.{◌≡◌}
use Rattle.batch.specs.declared.batch.Piece.{Piece}
use Rattle.plan_pipes.specs.declared.pipe.Breaker.TheVariants as breakers
use Rattle.pipe_parts.specs.Parts.{IsPart}
use Rattle.pipe_parts.specs.declared.part.Part.TheVariants as kept
use Rattle.pipe_ends.proofs.PartLaws.{taken_stream, taken_typed, taken_fit}
use Rattle.pipe_ends.proofs.fetching.all_pieces.Goals as goal

same : (piece one : Piece) → IsPart breakers.Gather piece (kept.Rows one) → one ≡ piece
same piece one is = is

pub returns-clause-stream : goal.returns-clause-stream
returns-clause-stream c = λ rows are. taken_stream breakers.Gather same c.args.types.now c.args.parts.items c.in_ok-out.out.items c.in_ok-out.ensures rows are

pub returns-clause-typed : goal.returns-clause-typed
returns-clause-typed c = taken_typed breakers.Gather same c.args.types.now c.args.parts.items c.in_ok-out.out.items c.in_ok-out.ensures c.requires.given

pub returns-clause-fit : goal.returns-clause-fit
returns-clause-fit c = taken_fit breakers.Gather same c.args.types.now c.args.parts.items c.in_ok-out.out.items c.in_ok-out.ensures c.requires.given
