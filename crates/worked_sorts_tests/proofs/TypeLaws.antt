-- Batches of a number and a letter, and inputs of numbers.
use Rattle.std.proofs.Common.{Vec, Global, ◌≡◌, ◌∙◌, ◌<◌, List, [], ◌∷◌, length, get_or, sym, ap, arith}
use Rattle.std.specs.List.{All}
use Rattle.std.proofs.lemmas.List.{length-map}
use Rattle.sub_types.specs.declared.kind.Ty.{Ty}
use Rattle.batch.specs.declared.batch.Batch.{Batch}
use Rattle.batch.specs.declared.batch.Piece.{Piece}
use Rattle.batch.specs.Column.{column_type}
use Rattle.batch.specs.BatchRows.{types_of}
use Rattle.batch_places.specs.Places.{first_types}
use Rattle.set_rels.specs.Inputs.{kinds_of, HasKinds}
use Rattle.rel_specs.specs.declared.key_order.KeyOrder.{KeyOrder}

-- two columns have the first
pub first_below : (a b : Ty) (batch : Batch) (keys : List KeyOrder) → types_of batch ≡ a ∷ b ∷ [] → All (λ (key : KeyOrder). key.column ≡ 0) keys → All (λ (key : KeyOrder). key.column < length batch.columns.items) keys
first_below a b batch keys types first = λ k d within.
    let two : length batch.columns.items ≡ 2 = sym (length-map batch.columns.items column_type) ∙ ap length types in
    let is = first k d within in
    omega arith

pub runs_below : (a b : Ty) (runs : List Batch) (keys : List KeyOrder) → All (λ (run : Batch). types_of run ≡ a ∷ b ∷ []) runs → All (λ (key : KeyOrder). key.column ≡ 0) keys → All (λ (run : Batch). All (λ (key : KeyOrder). key.column < length run.columns.items) keys) runs
runs_below a b runs keys all first = λ k d within. first_below a b (get_or runs k d) keys (all k d within) first

-- batches of some types have those of the first
pub runs_alike : (types : List Ty) (runs : List Batch) → All (λ (run : Batch). types_of run ≡ types) runs → All (λ (run : Batch). types_of run ≡ first_types runs) runs
runs_alike types [] all = λ k d below. absurd (omega arith)
runs_alike types (run ∷ runs) all = λ k d below. all k d below ∙ sym (all 0 run (omega arith))

-- pieces of some types have their kinds
pub inputs_alike : (types : List Ty) (inputs : List (Vec Piece Global)) → All (λ (input : Vec Piece Global). All (λ (piece : Piece). types_of piece.batch ≡ types) input.items) inputs → All (λ (input : Vec Piece Global). All (λ (piece : Piece). HasKinds types piece.batch) input.items) inputs
inputs_alike types inputs all = λ i d below j e within. ap kinds_of (all i d below j e within)
