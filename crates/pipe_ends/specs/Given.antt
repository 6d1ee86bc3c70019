-- Pieces up to their first fault, and the inputs of a set operation.
use Rattle.std.specs.Prelude.{◌≡◌, List, [], ◌∷◌, Option, Some, None}
use Rattle.std.specs.List.{All}
use Rattle.sub_types.specs.declared.fault.Fault.{Fault}
use Rattle.sub_types.specs.declared.kind.Ty.{Ty}
use Rattle.batch.specs.declared.batch.Piece.{Piece}
use Rattle.batch.specs.BatchRows.{types_of}
use Rattle.plan_typed.specs.declared.rel.SetOp.{SetOp}
use Rattle.pipe_types.specs.Over.{IsSetOver}
use Rattle.pipe_steps.specs.Ready.{IsFit}

-- what counts behind a piece that ends so
abbrev pub behind : Option Fault → List Piece → List Piece
behind None rest = rest
behind (Some fault) rest = []

-- the pieces up to the first that ends in a fault, that one included
abbrev pub up_to_fault : List Piece → List Piece
up_to_fault [] = []
up_to_fault (piece ∷ pieces) = piece ∷ behind piece.end (up_to_fault pieces)

-- the pieces of an input are stored with these types, and their rows fit them
pub record IsInput (types : List Ty) (pieces : List Piece) : Type 0 where
  pub typed : All (λ (piece : Piece). types_of piece.batch ≡ types) pieces
  pub fit : All (λ (piece : Piece). IsFit piece.batch) pieces

abbrev pub AreInputs : List (List Ty) → List (List Piece) → Type 0
AreInputs [] [] = Unit {0}
AreInputs (types ∷ more) (pieces ∷ inputs) = IsInput types pieces × AreInputs more inputs
AreInputs _ _ = ⊥

-- the inputs of a set operation that gives these types
pub record AreSetInputs (op : SetOp) (types : List Ty) (inputs : List (List Piece)) : Type 0 where
  pub stored : List (List Ty)
  pub over : IsSetOver op types stored
  pub given : AreInputs stored inputs
