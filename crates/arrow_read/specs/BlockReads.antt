-- What is read of a file for one of its blocks.
use Rattle.std.specs.Prelude.{ℕ, ◌+◌, [], ◌∷◌, ◌++◌, Option, Some, None, Result, Ok, Err, unsigned_abs, ◌==◌, if◌then◌else◌}
use Rattle.std.specs.Option.{option_map}
use Rattle.world.specs.Reads.{Reads}
use Rattle.arrow_meta.specs.declared.meta.Block.{Block}
use Rattle.arrow_read.specs.declared.error.BlockError.{BlockError}
use Rattle.arrow_read.specs.declared.error.BlockError.TheVariants.{BadBatch, ReadFault, NoMemory}

-- where the body of a block begins
abbrev pub body_start : Block → ℕ
body_start block = unsigned_abs block.offset + unsigned_abs block.meta_len

-- how many bytes the body of a block has
abbrev pub body_len : Block → ℕ
body_len block = unsigned_abs block.body_len

-- one read more, unless it is empty
abbrev pub read_more : Option Reads → ℕ → ℕ → Option Reads
read_more reads place len = if len == 0 then reads else option_map (λ told. told ++ (place, len) ∷ []) reads

-- the body was asked for, unless the block is bad or no memory was found to do so
unfoldable pub reads_block : {A : Type 0} → Result A BlockError → Option Reads → Option Block → Option Reads
reads_block result reads None = reads
reads_block (Ok raw) reads (Some block) = read_more reads (body_start block) (body_len block)
reads_block (Err ReadFault) reads (Some block) = read_more reads (body_start block) (body_len block)
reads_block (Err BadBatch) reads (Some block) = reads
reads_block (Err NoMemory) reads (Some block) = reads
