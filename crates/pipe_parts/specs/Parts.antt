-- What is kept of a piece for a breaker, and of which rows parts are.
use Rattle.std.specs.Prelude.{◌≡◌, List, [], ◌∷◌, map}
use Rattle.std.specs.List.{All}
use Rattle.sub_types.specs.declared.kind.Ty.{Ty}
use Rattle.sub_types.specs.Stream.{Stream, glue}
use Rattle.batch.specs.declared.batch.Piece.{Piece}
use Rattle.batch.specs.BatchRows.{rows_of, stream_of_piece, types_of}
use Rattle.plan_denote.specs.Rows.{Row}
use Rattle.rel_specs.specs.declared.key_order.KeyOrder.{KeyOrder}
use Rattle.plan_pipes.specs.declared.pipe.Breaker.{Breaker}
use Rattle.plan_pipes.specs.declared.pipe.Breaker.TheVariants as breakers
use Rattle.sort_merge.specs.RowOrder.{in_order}
use Rattle.aggregate.specs.States as groups
use Rattle.group_sets.specs.States as sets
use Rattle.pipe_steps.specs.Behind.{IsStored}
use Rattle.pipe_parts.specs.declared.part.Part.{Part}
use Rattle.pipe_parts.specs.declared.part.Part.TheVariants as parts

-- the rows of a piece in order, with its end
pub record IsRun (keys : List KeyOrder) (piece run : Piece) : Type 0 where
  pub rows : rows_of run.batch ≡ in_order keys (rows_of piece.batch)
  pub types : types_of run.batch ≡ types_of piece.batch
  pub end : run.end ≡ piece.end

-- what is kept of a piece
abbrev pub IsPart : Breaker → Piece → Part → Type 0
IsPart breakers.Gather piece (parts.Rows same) = same ≡ piece
IsPart (breakers.Fetch offset count) piece (parts.Rows same) = same ≡ piece
IsPart (breakers.Aggregate spec) piece (parts.Groups partial) = groups.IsOf spec (stream_of_piece piece) partial × groups.IsFor (types_of piece.batch) spec partial
IsPart (breakers.GroupSets spec) piece (parts.Sets partial) = sets.IsOf spec (stream_of_piece piece) partial × sets.IsFor (types_of piece.batch) spec partial
IsPart (breakers.Sort keys) piece (parts.Rows run) = IsRun keys piece run
IsPart (breakers.Build join) piece (parts.Built part end) = (part.batch ≡ piece.batch) × (end ≡ piece.end)
IsPart _ _ _ = ⊥

-- of each piece in order
abbrev pub AreParts : Breaker → List Piece → List Part → Type 0
AreParts breaker [] [] = Unit {0}
AreParts breaker (piece ∷ pieces) (part ∷ rest) = IsPart breaker piece part × AreParts breaker pieces rest
AreParts breaker _ _ = ⊥

-- parts of rows: what is kept of pieces that are stored with these types, and that together are these rows
pub record ArePartsOf (breaker : Breaker) (types : List Ty) (rows : Stream Row) (all : List Part) : Type 0 where
  pub pieces : List Piece
  pub kept : AreParts breaker pieces all
  pub stored : All (IsStored types) pieces
  pub rows_are : glue (map stream_of_piece pieces) ≡ rows

-- parts of some rows
abbrev pub HaveParts : Breaker → List Ty → List Part → Type 0
HaveParts breaker types all = (rows : Stream Row) × ArePartsOf breaker types rows all
