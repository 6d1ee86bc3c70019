-- What is fetched from pieces.
use Rattle.std.proofs.Common.{◌≡◌, ◌∙◌, ℕ, List, [], ◌∷◌, Option, map, sym, ap, subst}
use Rattle.std.specs.List.{All, AllByRecursion}
use Rattle.std.proofs.lemmas.List.Elements.{recursion_from_All, All-from_recursion}
use Rattle.sub_types.specs.Stream.{glue}
use Rattle.sub_types.specs.Value.{Fits}
use Rattle.sub_types.specs.declared.kind.Ty.{Ty}
use Rattle.batch.specs.declared.batch.Piece.{Piece}
use Rattle.batch.specs.BatchRows.{types_of, stream_of_piece}
use Rattle.plan_denote.specs.Fetch.{fetched}
use Rattle.plan_pipes.specs.FetchPieces.{fetched_pieces}
use Rattle.plan_pipes.proofs.FetchLaws.{fetched-glue}
use Rattle.denote_typed.proofs.EachLaws.{fetched_all}
use Rattle.denote_typed.proofs.RowsLaws.{mapped}
use Rattle.set_rels.specs.Inputs.{stream_of}
use Rattle.pipe_ends.specs.Given.{up_to_fault}
use Rattle.pipe_ends.proofs.EndLaws.{same_stream}
use Rattle.pipe_ends.proofs.FitLaws.{HasTypes, FitsOwn, own_rows, kept_typed, kept_fit}

abbrev types_in : Piece → List Ty
types_in piece = types_of piece.batch

unmapped : (P : List Ty → Type 0) (pieces : List Piece) → AllByRecursion P (map types_in pieces) → AllByRecursion (λ piece. P (types_in piece)) pieces
unmapped P [] all = tt
unmapped P (piece ∷ pieces) all = (all.0, unmapped P pieces all.1)

module _ (offset : ℕ) (count : Option ℕ) (pieces taken : List Piece) (streams : map stream_of_piece taken ≡ fetched_pieces offset count (map stream_of_piece pieces)) where
  taken_is : stream_of taken ≡ fetched offset count (stream_of pieces)
  taken_is = ap glue streams ∙ sym (fetched-glue offset count (map stream_of_piece pieces))

  pub kept_is : stream_of (up_to_fault taken) ≡ fetched offset count (stream_of pieces)
  kept_is = same_stream taken ∙ taken_is

  module _ (types : List Ty) (same : map (λ (piece : Piece). types_of piece.batch) taken ≡ map (λ (piece : Piece). types_of piece.batch) pieces) (typed : All (HasTypes types) pieces) where
    taken_typed : All (HasTypes types) taken
    taken_typed =
        All-from_recursion (HasTypes types) taken
        (unmapped (λ own. own ≡ types) taken
        (subst (AllByRecursion (λ own. own ≡ types)) (sym same)
        (mapped (HasTypes types) (λ own. own ≡ types) types_in pieces (recursion_from_All (HasTypes types) pieces typed) (λ piece is. is))))

    pub fetched_typed : All (HasTypes types) (up_to_fault taken)
    fetched_typed = kept_typed types taken taken_typed

    pub fetched_fit : All FitsOwn pieces → All FitsOwn (up_to_fault taken)
    fetched_fit fit =
        kept_fit types taken (fetched offset count (stream_of pieces)) taken_is taken_typed (fetched_all (Fits types) offset count (stream_of pieces) (own_rows types pieces typed fit))
