use Rattle.std.proofs.Common.{◌≡◌, ◌∙◌, ℕ, length, map, sym, subst, arith}
use Rattle.std.specs.List.{All}
use Rattle.run_core.specs.Receipts.{lists_of, IsBalanced}
use Rattle.sub_types.specs.Stream.{Stream}
use Rattle.plan_denote.specs.Rows.{Row}
use Rattle.table_round.specs.Below.{HeldPiece}
use Rattle.read_rounds.specs.Given.{ArePartsThrough}
use Rattle.read_rounds.proofs.HeldLaws.{all_ready, all_typed, held_count, held_stream}
use Rattle.read_rounds.proofs.pieces.pass_pieces.Goals as goal

pub hold_pieces-requires-clause-typed : goal.hold_pieces-requires-clause-typed
hold_pieces-requires-clause-typed g c = all_typed c.args.pipe.now.types c.args.pieces.items c.requires.stored

pub hold_pieces-requires-clause-ready : goal.hold_pieces-requires-clause-ready
hold_pieces-requires-clause-ready g c = all_ready c.args.pipe.now.types c.args.pipe.now.steps c.args.pieces.items c.requires.stored

pub run_pieces-requires-clause-count : goal.run_pieces-requires-clause-count
run_pieces-requires-clause-count g c κs within =
    let pieces = c.args.pieces in
    let many : length c.deref.result.now ≡ length pieces.items = held_count c.in_ok-held.held.items c.deref.result.now pieces.items c.deref.ensures.value c.in_ok-held.ensures.held in
    omega (arith, many, pieces.ok.0, c.in-Some.ensures.count, c.in-Some.ensures.few)

pub run_pieces-requires-clause-of_pipe : goal.run_pieces-requires-clause-of_pipe
run_pieces-requires-clause-of_pipe g c κs within = subst (All (λ (one : HeldPiece). one.pipe.now ≡ c.args.pipe.now)) (sym c.deref.ensures.value) c.in_ok-held.ensures.of_pipe

pub returns-clause-balanced : goal.returns-clause-balanced
returns-clause-balanced g c =
    let pieces = c.args.pieces in
    let round = c.in_ok-round.round in
    let many : length c.deref.result.now ≡ length pieces.items = held_count c.in_ok-held.held.items c.deref.result.now pieces.items c.deref.ensures.value c.in_ok-held.ensures.held in
    let all : length c.deref.result.now ≡ c.in-Some.batches = many ∙ sym pieces.ok.0 ∙ sym c.in-Some.ensures.count in
    subst (λ (n : ℕ). IsBalanced n (map lists_of round.receipts.items) round.left.items) all c.in_ok-round.ensures.balanced

pub returns-clause-parts : goal.returns-clause-parts
returns-clause-parts g c =
    subst (λ (rows : Stream Row). ArePartsThrough c.args.pipe.now rows c.in_ok-round.round.parts.items) (held_stream c.in_ok-held.held.items c.deref.result.now c.args.pieces.items c.deref.ensures.value c.in_ok-held.ensures.held)
    c.in_ok-round.ensures.parts
