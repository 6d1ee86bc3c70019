-- The rows of set operations over pieces fit the types that the operation gives.
use Rattle.std.proofs.Common.{◌≡◌, ◌∙◌, List, [], ◌∷◌, map, sym, ap, subst}
use Rattle.std.specs.List.{All, AllByRecursion}
use Rattle.std.proofs.lemmas.List.Elements.{All-from_recursion}
use Rattle.sub_types.specs.Value.{Fits}
use Rattle.sub_types.specs.declared.kind.Ty.{Ty}
use Rattle.batch.specs.declared.batch.Piece.{Piece}
use Rattle.plan_denote.specs.Sets.{set_rows}
use Rattle.plan_typed.specs.declared.rel.SetOp.{SetOp}
use Rattle.denote_typed.proofs.FitLaws.{as_given}
use Rattle.denote_typed.proofs.RowsLaws.{Rows}
use Rattle.denote_typed.proofs.SetLaws.{AreInputsOf, rows_of, set_fits}
use Rattle.join_columns.specs.Sides.{kinds_of}
use Rattle.set_rels.specs.Inputs.{stream_of, HasKinds}
use Rattle.pipe_types.specs.Over.{AreAllEach}
use Rattle.pipe_ends.specs.Given.{AreInputs, AreSetInputs}
use Rattle.pipe_ends.proofs.FitLaws.{stream_fits}

-- the rows of each input fit what its types imply
inputs_fit : (stored each : List (List Ty)) (inputs : List (List Piece)) → AreAllEach stored each → AreInputs stored inputs → AreInputsOf each (rows_of (map stream_of inputs))
inputs_fit [] [] [] are given = tt
inputs_fit [] [] (pieces ∷ inputs) are given = absurd given
inputs_fit [] (to ∷ each) inputs are given = absurd are
inputs_fit (types ∷ stored) [] inputs are given = absurd are
inputs_fit (types ∷ stored) (to ∷ each) [] are given = absurd given
inputs_fit (types ∷ stored) (to ∷ each) (pieces ∷ inputs) are given = (
  stream_fits types (Fits to) (λ row fits. as_given types to row are.0 fits) pieces given.0.typed given.0.fit,
  inputs_fit stored each inputs are.1 given.1,
)

pub sets_fit : (op : SetOp) (types : List Ty) (inputs : List (List Piece)) → AreSetInputs op types inputs → Rows (Fits types) (set_rows op (map stream_of inputs))
sets_fit op types inputs are =
    subst (λ (given : List Ty). Rows (Fits given) (set_rows op (map stream_of inputs))) (sym are.over.direct)
    (set_fits op are.over.each (map stream_of inputs) are.over.alike (inputs_fit are.stored are.over.each inputs are.over.as_implied are.given))

-- each piece is of the kinds of the operation's types
kinds_in : (types : List Ty) (stored : List (List Ty)) (inputs : List (List Piece)) → AllByRecursion (λ (input : List Ty). kinds_of input ≡ kinds_of types) stored → AreInputs stored inputs
    → AllByRecursion (λ (pieces : List Piece). All (λ (piece : Piece). HasKinds types piece.batch) pieces) inputs
kinds_in types [] [] kinds given = tt
kinds_in types [] (pieces ∷ inputs) kinds given = absurd given
kinds_in types (own ∷ stored) [] kinds given = absurd given
kinds_in types (own ∷ stored) (pieces ∷ inputs) kinds given = (λ k d within. ap kinds_of (given.0.typed k d within) ∙ kinds.0, kinds_in types stored inputs kinds.1 given.1)

unmapped : {A : Type 0} (pieces_in : A → List Piece) (P : List Piece → Type 0) (inputs : List A) → AllByRecursion P (map pieces_in inputs) → AllByRecursion (λ input. P (pieces_in input)) inputs
unmapped pieces_in P [] all = tt
unmapped pieces_in P (input ∷ inputs) all = (all.0, unmapped pieces_in P inputs all.1)

pub sets_kinds : {A : Type 0} (pieces_in : A → List Piece) (op : SetOp) (types : List Ty) (inputs : List A) → AreSetInputs op types (map pieces_in inputs) → All (λ input. All (λ (piece : Piece). HasKinds types piece.batch) (pieces_in input)) inputs
sets_kinds pieces_in op types inputs are =
    All-from_recursion (λ input. All (λ (piece : Piece). HasKinds types piece.batch) (pieces_in input)) inputs
    (unmapped pieces_in (λ (pieces : List Piece). All (λ (piece : Piece). HasKinds types piece.batch) pieces) inputs (kinds_in types are.stored (map pieces_in inputs) are.over.kinds are.given))
