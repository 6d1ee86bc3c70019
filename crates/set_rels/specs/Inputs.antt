-- The inputs of a set operation, in pieces.
use Rattle.std.specs.Prelude.{◌≡◌, ℕ, ◌-◌, List, [], length, map, drop, slice_index_or}
use Rattle.std.specs.List.{flat_map}
use Rattle.sub_types.specs.declared.kind.Kind.{Kind}
use Rattle.sub_types.specs.declared.kind.Ty.{Ty}
use Rattle.sub_types.specs.Stream.{Stream, glue}
use Rattle.batch.specs.declared.batch.Batch.{Batch}
use Rattle.batch.specs.declared.batch.Piece.{Piece}
use Rattle.batch.specs.BatchRows.{rows_of, types_of, stream_of_piece}
use Rattle.plan_typed.specs.declared.rel.SetOp.{SetOp}
use Rattle.plan_typed.specs.declared.rel.SetOp.TheVariants as ops
use Rattle.plan_denote.specs.Rows.{Row}

-- the pieces one after the other, up to the first fault
abbrev pub stream_of : List Piece → Stream Row
stream_of pieces = glue (map stream_of_piece pieces)

abbrev pub rows_in : List Piece → List Row
rows_in pieces = flat_map (λ (piece : Piece). rows_of piece.batch) pieces

-- the kinds of columns; a batch has those of some types
abbrev pub kinds_of : List Ty → List Kind
kinds_of types = map (λ (ty : Ty). ty.kind) types

abbrev pub HasKinds : List Ty → Batch → Type 0
HasKinds types batch = kinds_of (types_of batch) ≡ kinds_of types

-- where the first input ends, and where the others do, by where all inputs end; those of UNION_DISTINCT all count as the first
abbrev pub first_end : SetOp → List ℕ → ℕ
first_end ops.UnionDistinct ends = slice_index_or ends (length ends - 1) 0
first_end _ ends = slice_index_or ends 0 0

abbrev pub other_ends : SetOp → List ℕ → List ℕ
other_ends ops.UnionDistinct ends = []
other_ends _ ends = drop 1 ends
