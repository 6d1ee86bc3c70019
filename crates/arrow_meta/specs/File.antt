-- The Arrow file of rows (Arrow columnar format, "IPC File Format").
use Rattle.std.specs.Prelude.{ℕ, ◌+◌, ◌*◌, ◌/◌, max, List, [], ◌∷◌, ◌++◌, length, map, take, drop, replicate, codes}
use Rattle.std.specs.List.{range_with_len, flat_map}
use Rattle.byteorder.specs.Endian.{little_bytes}
use Rattle.fb_bytes.specs.Layout.{buffer_of}
use Rattle.sub_types.specs.declared.kind.Ty.{Ty}
use Rattle.sub_types.specs.declared.value.Value.{Value}
use Rattle.arrow_meta.specs.Buffers.{batch_buffers, batch_nodes, body_of, buffer_places}
use Rattle.arrow_meta.specs.Messages.{Place, schema_message, record_message, footer_laid}

-- the rows of an output batch
abbrev pub BATCH_ROWS : ℕ
BATCH_ROWS = 1024

-- the rows in batches of 1,024, the last shorter; one without rows where there are none
unfoldable pub batches : List (List Value) → List (List (List Value))
batches rows = map (λ k. take BATCH_ROWS (drop (BATCH_ROWS * k) rows)) (range_with_len 0 (max 1 ((length rows + 1023) / BATCH_ROWS)))

-- the first six bytes of a file and its last
abbrev pub magic : List ℕ
magic = codes "ARROW1"

-- a message: the mark, the size of its metadata, the metadata and the body
abbrev pub framed : List ℕ → List ℕ → List ℕ
framed metadata body = replicate 4 255 ++ little_bytes 4 (length metadata) ++ metadata ++ body

-- what stands before the first record batch
unfoldable pub file_head : List (List ℕ) → List Ty → List ℕ
file_head names types = magic ++ replicate 2 0 ++ framed (buffer_of (schema_message names types)) []

-- the metadata of a record batch, and its body
abbrev pub batch_metadata : List Ty → List (List Value) → List ℕ
batch_metadata types rows =
    let buffers = batch_buffers types rows in
    buffer_of (record_message (length rows) (batch_nodes types rows) (buffer_places 0 buffers) (length (body_of buffers)))

abbrev pub batch_body : List Ty → List (List Value) → List ℕ
batch_body types rows = body_of (batch_buffers types rows)

-- a record batch message
unfoldable pub batch_message : List Ty → List (List Value) → List ℕ
batch_message types rows = framed (batch_metadata types rows) (batch_body types rows)

-- where record batch messages stand that follow one another from a place on
abbrev pub blocks_from : ℕ → List Ty → List (List (List Value)) → List Place
blocks_from place types [] = []
blocks_from place types (rows ∷ rest) =
    record { offset = place; meta_len = length (batch_metadata types rows) + 8; body_len = length (batch_body types rows) }
    ∷ blocks_from (place + length (batch_message types rows)) types rest

-- the footer of a file
unfoldable pub footer_of : List (List ℕ) → List Ty → List (List Value) → List ℕ
footer_of names types rows = buffer_of (footer_laid names types (blocks_from (length (file_head names types)) types (batches rows)))

-- what stands behind the last record batch: the end mark, the footer, its size and the magic
unfoldable pub file_tail : List (List ℕ) → List Ty → List (List Value) → List ℕ
file_tail names types rows =
    replicate 4 255 ++ replicate 4 0 ++ footer_of names types rows ++ little_bytes 4 (length (footer_of names types rows)) ++ magic

-- the Arrow file of these names, types and rows
unfoldable pub file_of : List (List ℕ) → List Ty → List (List Value) → List ℕ
file_of names types rows = file_head names types ++ flat_map (batch_message types) (batches rows) ++ file_tail names types rows
