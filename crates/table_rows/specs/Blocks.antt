-- The blocks of a file as pieces of a table's stream.
use Rattle.std.specs.Prelude.{◌≡◌, ℕ, ◌<◌, List, ◌++◌, map, Option, Some, None}
use Rattle.std.specs.List.{range_with_len, All}
use Rattle.std.specs.Option.{option_map}
use Rattle.sub_types.specs.declared.fault.Fault.{Fault}
use Rattle.sub_types.specs.declared.fault.FaultKind.{FaultKind}
use Rattle.sub_types.specs.declared.fault.FaultKind.TheVariants.{NullInRequired, TextTooLong, BadBatch}
use Rattle.sub_types.specs.declared.kind.Ty.{Ty}
use Rattle.sub_types.specs.declared.value.Value.{Value}
use Rattle.sub_types.specs.Stream.{Stream, rows_alone, ended, glue, each}
use Rattle.sub_types.specs.Value.{Fits}
use Rattle.arrow_meta.specs.declared.field.FieldMeta.{FieldMeta}
use Rattle.arrow_meta.specs.Table as table
use Rattle.arrow_read.specs.Known.{known_column}
use Rattle.batch.specs.declared.batch.Batch.{Batch}
use Rattle.batch.specs.BatchRows.{rows_of, types_of}
use Rattle.table_rows.specs.Read.{read_row}

-- each wanted column can be read, and has the kind of its type
abbrev pub HaveKinds : List FieldMeta → List ℕ → List Ty → Type 0
HaveKinds columns wanted types = map (λ column. option_map (λ known. known.1) (known_column columns column)) wanted ≡ map (λ ty. Some ty.kind) types

-- the rows of a block of a file and no fault, or no rows and the fault that it can't be read
abbrev pub block_stream : ℕ → ℕ → ℕ → Option (List (List Value)) → Stream (List Value)
block_stream relation file block (Some rows) = rows_alone rows
block_stream relation file block None = ended (Some (record { relation = relation; kind = BadBatch file block }))

-- the first so many blocks of a file, in order
unfoldable pub file_streams : ℕ → ℕ → List ℕ → ℕ → List ℕ → List (Stream (List Value))
file_streams relation file bytes blocks wanted = map (λ block. block_stream relation file block (table.rows_of bytes block wanted)) (range_with_len 0 blocks)

-- the rows of a file, each of them tested, up to the first fault
unfoldable pub file_stream : ℕ → ℕ → List Ty → List ℕ → ℕ → List ℕ → Stream (List Value)
file_stream relation file types bytes blocks wanted = each (read_row relation types) (glue (file_streams relation file bytes blocks wanted))

-- what may be wrong with the rows of a block
abbrev pub IsBlockFault : ℕ → ℕ → FaultKind → Type 0
IsBlockFault file block NullInRequired = Unit {0}
IsBlockFault file block TextTooLong = Unit {0}
IsBlockFault file block (BadBatch in_file at) = (in_file ≡ file) × (at ≡ block)
IsBlockFault file block _ = ⊥

-- a fault of a block, at the relation of a number
pub record IsReadFault (relation file block : ℕ) (fault : Fault) : Type 0 where
  pub of_relation : fault.relation ≡ relation
  pub of_block : IsBlockFault file block fault.kind

-- a fault of one of the first so many blocks of a file
pub record IsFileFault (relation file blocks : ℕ) (fault : Fault) : Type 0 where
  pub block : ℕ
  pub exists : block < blocks
  pub of_block : IsReadFault relation file block fault

-- a batch of these types, whose rows fit them
pub record HoldsTypes (types : List Ty) (batch : Batch) : Type 0 where
  pub types_are : types_of batch ≡ types
  pub fit : All (Fits types) (rows_of batch)

-- more batches behind the old ones, all of these types
pub record AddsBatches (types : List Ty) (old new : List Batch) : Type 0 where
  pub more : List Batch
  pub added : new ≡ old ++ more
  pub typed : All (HoldsTypes types) more
