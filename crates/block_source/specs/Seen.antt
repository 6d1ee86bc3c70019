-- What reading gives for the blocks of files.
use Rattle.std.specs.Prelude.{◌≡◌, ℕ, ◌<◌, List, map, Option, Some, None, Ok, slice_get, slice_index_or, vec_len}
use Rattle.std.specs.Option.{option_map}
use Rattle.arrow_meta.specs.Head.{head_of}
use Rattle.arrow_meta.specs.Batch.{rows_in}
use Rattle.arrow_meta.specs.Table.{shapes_of, rows_of}
use Rattle.arrow_decode.specs.Seen.{wanted_with}
use Rattle.arrow_decode.specs.declared.raw.Raw.{Raw}
use Rattle.arrow_read.specs.Told.{IfTold}
use Rattle.arrow_read.specs.Known.{known_column}
use Rattle.arrow_read.specs.Seen.{head_seen}
use Rattle.arrow_read.specs.BlockReads.{body_len}
use Rattle.block_source.specs.declared.block.BlockRead.{BlockRead}
use Rattle.block_source.specs.declared.block.BlockRead.TheVariants as reads
use Rattle.block_source.specs.declared.file.BlockFile.{BlockFile}
use Rattle.block_source.specs.declared.file.BlockPlace.{BlockPlace}
use Rattle.block_source.specs.Places.{places_of}

-- the bytes of the file at this place, where they are told
abbrev pub bytes_of : List (Option (List ℕ)) → ℕ → Option (List ℕ)
bytes_of bytes file = slice_index_or bytes file None

-- each head is that of its file, where its bytes are told
abbrev pub AreHeads : List BlockFile → List (Option (List ℕ)) → Type 0
AreHeads files bytes = (file : ℕ) (one : BlockFile) → slice_get files file ≡ Some one → IfTold (bytes_of bytes file) (λ told. head_of told ≡ Ok (head_seen one.head))

-- the place is that of a block of one of the files
pub record IsPlaceIn (files : List BlockFile) (place : BlockPlace) : Type 0 where
  pub one : BlockFile
  pub is : slice_get files place.file ≡ Some one
  pub exists : place.block < vec_len one.head.blocks

-- the good block of a file, with the wanted columns: what its metadata says, and its body, of which its rows are made
pub record IsWhole (one : BlockFile) (bytes : Option (List ℕ)) (block : ℕ) (raw : Raw) : Type 0 where
  pub meta : slice_get one.head.metas.items block ≡ Some (Some raw.meta)
  pub columns : map Some raw.columns.items ≡ map (known_column one.head.schema.columns) one.wanted.items
  pub shapes : raw.shapes.items ≡ shapes_of one.head.schema.columns
  pub body : Some (vec_len raw.body) ≡ option_map body_len (slice_get one.head.blocks.items block)
  pub rows : IfTold bytes (λ told. rows_of told block one.wanted.items
      ≡ rows_in raw.shapes.items raw.meta raw.body.items (map (wanted_with one.head.dictionaries.items) raw.columns.items))

-- a block of a file that can't be read
pub record IsBad (one : BlockFile) (bytes : Option (List ℕ)) (block : ℕ) : Type 0 where
  pub meta : slice_get one.head.metas.items block ≡ Some None
  pub rows : IfTold bytes (λ told. rows_of told block one.wanted.items ≡ None)

-- what reading may give for the block of a file: a failure to read may come for each
abbrev pub GivesBlock : BlockFile → Option (List ℕ) → ℕ → BlockRead → Type 0
GivesBlock one bytes block (reads.Whole raw) = IsWhole one bytes block raw
GivesBlock one bytes block reads.Bad = IsBad one bytes block
GivesBlock one bytes block reads.Failed = Unit {0}
GivesBlock one bytes block reads.Absent = ⊥

-- what reading may give for a place among the files
abbrev pub GivesAt : List BlockFile → List (Option (List ℕ)) → BlockPlace → BlockRead → Type 0
GivesAt files bytes place given = (one : BlockFile) × (slice_get files place.file ≡ Some one) × GivesBlock one (bytes_of bytes place.file) place.block given

-- what reading may give for a number's place, if there is one
abbrev pub GivesFor : List BlockFile → List (Option (List ℕ)) → Option BlockPlace → BlockRead → Type 0
GivesFor files bytes None given = given ≡ reads.Absent
GivesFor files bytes (Some place) given = GivesAt files bytes place given

-- what reading may give for a number
abbrev pub GivesNumber : List BlockFile → List (Option (List ℕ)) → ℕ → BlockRead → Type 0
GivesNumber files bytes number given = GivesFor files bytes (slice_get (places_of files) number) given
