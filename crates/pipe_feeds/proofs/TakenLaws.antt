-- The inputs of set operations, which are taken.
use Rattle.std.proofs.Common.{◌≡◌, ◌∙◌, ◌<◌, ◌+◌, ℕ, List, Vec, Global, [], ◌∷◌, ◌++◌, Option, length, map, take, get_or, slice_index_or, refl, sym, ap, ap₂}
use Rattle.std.specs.Prelude.{slice_get}
use Rattle.std.proofs.lemmas.List.{map_push, take_more}
use Rattle.std.proofs.lemmas.Simd.{map-map}
use Rattle.sub_types.specs.declared.kind.Ty.{Ty}
use Rattle.sub_types.specs.Stream.{Stream, rows_alone}
use Rattle.batch.specs.declared.batch.Piece.{Piece}
use Rattle.plan_typed.specs.declared.rel.SetOp.{SetOp}
use Rattle.plan_denote.specs.Rows.{Row}
use Rattle.plan_denote.specs.Sets.{set_rows}
use Rattle.set_rels.specs.Inputs.{stream_of}
use Rattle.pipe_types.specs.Over.{IsSetOver}
use Rattle.pipe_ends.specs.Given.{IsInput, AreInputs, AreSetInputs}
use Rattle.pipe_feeds.specs.Kept.{AreTypedAs, AreStreams, IsLeft, whole}
use Rattle.pipe_feeds.proofs.KeptLaws.{kept_at, left_at}

module _ (all : List (Option (List Piece))) where
  abbrev AreTaken : List ℕ → List (List Piece) → Type 0
  AreTaken pipes inputs = map (λ at. slice_get all at) pipes ≡ map whole inputs

  head_is : {A : Type 0} (x y : A) (xs ys : List A) → x ∷ xs ≡ y ∷ ys → x ≡ y
  head_is x y xs ys e = cc

  tail_is : {A : Type 0} (x y : A) (xs ys : List A) → x ∷ xs ≡ y ∷ ys → xs ≡ ys
  tail_is x y xs ys e = cc

  pub taken_inputs : (types : List (List Ty)) (pipes : List ℕ) (inputs : List (List Piece)) → AreTypedAs types all → AreTaken pipes inputs → AreInputs (map (λ at. slice_index_or types at []) pipes) inputs
  taken_inputs types [] [] are taken = tt
  taken_inputs types [] (input ∷ inputs) are taken = absurd (cc)
  taken_inputs types (at ∷ pipes) [] are taken = absurd (cc)
  taken_inputs types (at ∷ pipes) (input ∷ inputs) are taken = (
    kept_at IsInput types all at input [] are (head_is (slice_get all at) (whole input) (map (λ at. slice_get all at) pipes) (map whole inputs) taken),
    taken_inputs types pipes inputs are (tail_is (slice_get all at) (whole input) (map (λ at. slice_get all at) pipes) (map whole inputs) taken),
  )

  pub taken_streams : (streams : List (Stream Row)) (pipes : List ℕ) (inputs : List (List Piece)) → AreStreams streams all → AreTaken pipes inputs → map stream_of inputs ≡ map (λ at. slice_index_or streams at (rows_alone [])) pipes
  taken_streams streams [] [] are taken = refl
  taken_streams streams [] (input ∷ inputs) are taken = absurd (cc)
  taken_streams streams (at ∷ pipes) [] are taken = absurd (cc)
  taken_streams streams (at ∷ pipes) (input ∷ inputs) are taken =
      ap₂ (λ one more. one ∷ more)
      (kept_at (λ stream pieces. stream_of pieces ≡ stream) streams all at input (rows_alone []) are (head_is (slice_get all at) (whole input) (map (λ at. slice_get all at) pipes) (map whole inputs) taken))
      (taken_streams streams pipes inputs are (tail_is (slice_get all at) (whole input) (map (λ at. slice_get all at) pipes) (map whole inputs) taken))

-- the inputs as they are taken
abbrev pub Taken : Type 0
Taken = Vec Piece Global

abbrev pub taken_of : List Taken → List (List Piece)
taken_of inputs = map (λ (input : Taken). input.items) inputs

pub taken_as : (all : List (Option (List Piece))) (pipes : List ℕ) (inputs : List Taken) → map (λ at. slice_get all at) pipes ≡ map (λ (input : Taken). whole input.items) inputs → AreTaken all pipes (taken_of inputs)
taken_as all pipes inputs taken = taken ∙ sym (map-map whole (λ (input : Taken). input.items) inputs)

pub taken_set : (all : List (Option (List Piece))) (op : SetOp) (given : List Ty) (types : List (List Ty)) (pipes : List ℕ) (inputs : List Taken) → IsSetOver op given (map (λ at. slice_index_or types at []) pipes) → AreTypedAs types all
    → map (λ at. slice_get all at) pipes ≡ map (λ (input : Taken). whole input.items) inputs → AreSetInputs op given (taken_of inputs)
taken_set all op given types pipes inputs over are taken = record {
  stored = map (λ at. slice_index_or types at []) pipes;
  over = over;
  given = taken_inputs all types pipes (taken_of inputs) are (taken_as all pipes inputs taken);
}

pub taken_rows : (all : List (Option (List Piece))) (op : SetOp) (streams : List (Stream Row)) (pipes : List ℕ) (inputs : List Taken) (given : Stream Row) → given ≡ set_rows op (map (λ (input : Taken). stream_of input.items) inputs) → AreStreams streams all
    → map (λ at. slice_get all at) pipes ≡ map (λ (input : Taken). whole input.items) inputs → given ≡ set_rows op (map (λ at. slice_index_or streams at (rows_alone [])) pipes)
taken_rows all op streams pipes inputs given is are taken =
    is ∙ ap (set_rows op) (sym (map-map stream_of (λ (input : Taken). input.items) inputs) ∙ taken_streams all streams pipes (taken_of inputs) are (taken_as all pipes inputs taken))

-- one input more is taken
pub taken_more : (first now : List (Option (List Piece))) (pipes : List ℕ) (place d : ℕ) (pieces : List Piece) (input : Taken) (old new : List Taken) → place < length pipes → IsLeft first now → slice_get now (get_or pipes place d) ≡ whole pieces → input.items ≡ pieces
    → new ≡ old ++ input ∷ [] → map (λ at. slice_get first at) (take place pipes) ≡ map (λ (input : Taken). whole input.items) old → map (λ at. slice_get first at) (take (place + 1) pipes) ≡ map (λ (input : Taken). whole input.items) new
taken_more first now pipes place d pieces input old new below left taken same pushed so_far =
    ap (map (λ at. slice_get first at)) (take_more pipes place d below)
    ∙ map_push (λ at. slice_get first at) (take place pipes) (get_or pipes place d)
    ∙ ap₂ (λ (xs : List (Option (Option (List Piece)))) (x : Option (Option (List Piece))). xs ++ x ∷ []) so_far (left_at first now (get_or pipes place d) pieces left taken ∙ ap whole (sym same))
    ∙ sym (map_push (λ (input : Taken). whole input.items) old input)
    ∙ ap (map (λ (input : Taken). whole input.items)) (sym pushed)
