use Rattle.std.proofs.Common.{Vec, Global, ◌≡◌, ◌∙◌, List, map, ap, sym}
use Rattle.std.specs.List.{flat_map}
use Rattle.std.proofs.lemmas.Result.{IfOk-weaker}
use Rattle.sub_types.specs.Stream.{rows_alone}
use Rattle.batch.specs.declared.batch.Piece.{Piece}
use Rattle.batch.specs.BatchRows.{stream_of_piece}
use Rattle.plan_denote.specs.Rows.{unless_fault}
use Rattle.plan_denote.specs.Sets.{first_fault, set_in, set_rows}
use Rattle.set_rels.specs.Inputs.{stream_of}
use Rattle.set_rels.proofs.PieceLaws.{all_of, of_inputs}
use Rattle.set_rels.proofs.sets.set_op.Goals as goal

abbrev pieces_in : Vec Piece Global → List Piece
pieces_in input = input.items

pub returns-in-UnionAll-clause-rows : goal.returns-in-UnionAll-clause-rows
returns-in-UnionAll-clause-rows c =
    let inputs = c.args.inputs.items in
    IfOk-weaker c.typed_pieces.result (λ pieces. map stream_of_piece pieces.items ≡ flat_map (λ input. map stream_of_piece (pieces_in input)) inputs) (λ pieces. stream_of pieces.items ≡ set_rows c.args.op (map (λ input. stream_of (pieces_in input)) inputs)) (λ pieces e.
    all_of pieces_in inputs pieces.items e ∙ sym (ap (λ op. set_rows op (map (λ input. stream_of (pieces_in input)) inputs)) c.in-UnionAll.is)) c.typed_pieces.ensures.streams

pub returns-in-UnionAll-clause-few : goal.returns-in-UnionAll-clause-few
returns-in-UnionAll-clause-few c = λ other. absurd (other (c.in-UnionAll.is))

pub returns-in_default : goal.returns-in_default
returns-in_default c =
    let op = c.args.op in
    let inputs = c.args.inputs.items in
    record {
      rows =
          IfOk-weaker c.whole_rows.result (λ pieces. stream_of pieces.items ≡ unless_fault (first_fault (map (λ input. stream_of (pieces_in input)) inputs)) (rows_alone (set_in op (map (λ input. (stream_of (pieces_in input)).rows) inputs)))) (λ pieces. stream_of pieces.items ≡ set_rows op (map (λ input. stream_of (pieces_in input)) inputs)) (λ pieces e.
          of_inputs op pieces_in inputs (stream_of pieces.items) c.in_default.not-UnionAll e) (c.whole_rows.ensures.rows c.in_default.not-UnionAll);
      types = c.whole_rows.ensures.types;
      few = λ _. c.whole_rows.ensures.few;
    }
