use Rattle.std.proofs.Common.{Vec, Global, ◌≡◌, ◌∙◌, ◌≤◌, List, None, All, map, length, ap, sym, arith}
use Rattle.std.specs.List.{flat_map}
use Rattle.std.proofs.lemmas.Result.{IfOk-weaker}
use Rattle.sub_types.specs.Stream.{rows_alone}
use Rattle.batch.specs.declared.batch.Batch.{Batch}
use Rattle.batch.specs.declared.batch.Piece.{Piece}
use Rattle.batch.specs.BatchRows.{types_of}
use Rattle.plan_denote.specs.Rows.{Row, unless_fault}
use Rattle.plan_denote.specs.Sets.{first_fault, set_in}
use Rattle.set_places.specs.Taken.{ends_from}
use Rattle.set_rels.specs.Inputs.{stream_of, rows_in}
use Rattle.set_rels.specs.Keyed.{all_rows}
use Rattle.set_rels.proofs.PieceLaws.{rows_of_runs, rows_are, stream_of_batches, IfOk-both}
use Rattle.set_rels.proofs.TakenLaws.{ends_are}
use Rattle.set_rels.proofs.TypedLaws.{types_in, types_back, few_back}
use Rattle.set_rels.proofs.sets.whole_rows.Goals as goal

abbrev pieces_in : Vec Piece Global → List Piece
pieces_in input = input.items

abbrev batch_in : Piece → Batch
batch_in piece = piece.batch

pub taken_batches-requires-clause-types : goal.taken_batches-requires-clause-types
taken_batches-requires-clause-types c = types_in c.args.types.now c.in_ok-pieces.pieces.items c.in_ok-runs.runs.items c.in_ok-runs.ensures c.in_ok-pieces.ensures.types

pub taken_batches-requires-clause-ends : goal.taken_batches-requires-clause-ends
taken_batches-requires-clause-ends c =
    let inputs = c.args.inputs.items in
    let rows : List (List Row) = map (λ input. rows_in (pieces_in input)) inputs in
    let all : all_rows c.in_ok-runs.runs.items ≡ flat_map (λ (one : List Row). one) rows = rows_of_runs pieces_in inputs c.in_ok-pieces.pieces.items c.in_ok-runs.runs.items c.in_ok-pieces.ensures.streams c.in_ok-runs.ensures in
    let ends : c.deref-3.result.now ≡ ends_from 0 rows = c.deref-3.ensures.value ∙ c.in_ok-ends.ensures ∙ ap (λ l. ends_from 0 (map (λ input. rows_in (pieces_in input)) l)) c.deref-2.ensures.value in
    rw ends (ends_are rows 0 (length (all_rows c.in_ok-runs.runs.items)) (let long = ap length all in omega arith))

pub returns-clause-rows : goal.returns-clause-rows
returns-clause-rows c = λ h.
    let op = c.args.op in
    let inputs = c.args.inputs.items in
    let batches = c.in_ok-batches.batches.items in
    let rows : List (List Row) = map (λ input. rows_in (pieces_in input)) inputs in
    let all : all_rows c.in_ok-runs.runs.items ≡ flat_map (λ (one : List Row). one) rows = rows_of_runs pieces_in inputs c.in_ok-pieces.pieces.items c.in_ok-runs.runs.items c.in_ok-pieces.ensures.streams c.in_ok-runs.ensures in
    let ends : c.deref-3.result.now ≡ ends_from 0 rows = c.deref-3.ensures.value ∙ c.in_ok-ends.ensures ∙ ap (λ l. ends_from 0 (map (λ input. rows_in (pieces_in input)) l)) c.deref-2.ensures.value in
    let none : None ≡ first_fault (map (λ input. stream_of (pieces_in input)) inputs) = sym c.in_default.is ∙ c.first_fault.ensures ∙ ap (λ l. first_fault (map (λ input. stream_of (pieces_in input)) l)) c.deref.ensures.value in
    let set : all_rows batches ≡ set_in op rows = c.in_ok-batches.ensures.rows rows h all ends in
    IfOk-both c.pieces_of.result (λ pieces. map batch_in pieces.items ≡ batches) (λ pieces. All (λ (piece : Piece). piece.end ≡ None) pieces.items)
    (λ pieces. stream_of pieces.items ≡ unless_fault (first_fault (map (λ input. stream_of (pieces_in input)) inputs)) (rows_alone (set_in op (map (λ input. (stream_of (pieces_in input)).rows) inputs))))
    (λ pieces are no_ends. rows_are op pieces_in inputs (stream_of pieces.items) (all_rows batches) none (stream_of_batches pieces.items batches are no_ends) set)
    c.pieces_of.ensures.batches c.pieces_of.ensures.ends

pub returns-clause-types : goal.returns-clause-types
returns-clause-types c =
    let batches = c.in_ok-batches.batches.items in
    IfOk-weaker c.pieces_of.result (λ pieces. map batch_in pieces.items ≡ batches) (λ pieces. All (λ (piece : Piece). types_of piece.batch ≡ c.args.types.now) pieces.items) (λ pieces are.
    types_back c.args.types.now pieces.items batches are c.in_ok-batches.ensures.types) c.pieces_of.ensures.batches

pub returns-clause-few : goal.returns-clause-few
returns-clause-few c =
    let batches = c.in_ok-batches.batches.items in
    IfOk-weaker c.pieces_of.result (λ pieces. map batch_in pieces.items ≡ batches) (λ pieces. All (λ (piece : Piece). piece.batch.rows ≤ 65536) pieces.items) (λ pieces are.
    few_back pieces.items batches are c.in_ok-batches.ensures.few) c.pieces_of.ensures.batches
