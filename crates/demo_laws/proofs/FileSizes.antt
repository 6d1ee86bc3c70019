-- How long the file of rows that fit is at most.
use Rattle.std.proofs.Common.{◌≡◌, ◌∙◌, ℕ, ◌+◌, ◌*◌, ◌/◌, ◌^◌, ◌<◌, ◌≤◌, max, List, [], ◌∷◌, ◌++◌, true, false, length, get_or, map, take, drop, refl, ap, arith, lit≤, length-append, if◌then◌else◌}
use Rattle.std.specs.List.{enumerate_from, flat_map, list_all, sum_by, All}
use Rattle.std.proofs.lemmas.List.{length-map}
use Rattle.std.proofs.lemmas.List.Elements.{All-head, All-tail, All-weaker}
use Rattle.std.proofs.lemmas.List.FromFn.{length-map-range_with_len}
use Rattle.byteorder.specs.Endian.{little_bytes}
use Rattle.fb_bytes.specs.Layout.{filled, buffer_of}
use Rattle.fb_bytes.proofs.LawProofs.{near_laws, length_laws}
use Rattle.fb_bytes.proofs.TableLemmas.{round_up-bound, length-filled}
use Rattle.sub_types.specs.Kind.{IsKind}
use Rattle.sub_types.specs.Value.{Fits, FitsTy, IsShort, MAX_TEXT}
use Rattle.sub_types.specs.declared.kind.Kind.{Kind}
use Rattle.sub_types.specs.declared.kind.Kind.TheVariants as kinds
use Rattle.sub_types.specs.declared.kind.Ty.{Ty}
use Rattle.sub_types.specs.declared.value.Value.{Value}
use Rattle.sub_types.specs.declared.value.Value.TheVariants as values
use Rattle.arrow_meta.specs.Buffers.{is_valid, is_truth, text_bytes, slot_bytes, packed, text_ends, validity_buffer, value_buffers, column_buffers, column_at, body_of}
use Rattle.arrow_meta.specs.Messages.{Place, schema_message}
use Rattle.arrow_meta.specs.File.{magic, framed, batches, batch_metadata, batch_body, batch_message, blocks_from, file_head, file_tail, file_of, footer_of}
use Rattle.arrow_meta.specs.Table.{CanBeWritten}
use Rattle.arrow_meta.proofs.ColumnLaws.{buffers_from}
use Rattle.arrow_meta.proofs.Lengths.{schema_small, footer_small}
use Rattle.arrow_law.proofs.PackedBits.{length-packed}
use Rattle.arrow_law.proofs.ColumnBack.{texts_length}
use Rattle.arrow_law.proofs.BodyBack.{body_of-append}
use Rattle.arrow_law.proofs.RowsBack.{ColumnFits, columns_fit, batches_short, batches_fit}
use Rattle.arrow_law.proofs.BlocksBack.{length-blocks_from}
use Rattle.arrow_law.proofs.Sizes.{metadata_short}

-- bytes filled up to a multiple of 8
filled_short : (bytes : List ℕ) → length (filled bytes) ≤ length bytes + 7
filled_short bytes = omega (arith, length-filled bytes, round_up-bound (length bytes))

-- the validity of a column
validity_short : (column : List Value) → length (validity_buffer column) ≤ length column + 7
unfolding validity_buffer
validity_short column =
    elim (list_all is_valid column) as (λ all. length (if all then [] else packed (map is_valid column)) ≤ length column + 7) [
      | true ↦ omega arith
      | false ↦ omega (arith, length-packed (map is_valid column), length-map column is_valid)
    ]

-- a value has at most 16 bytes of fixed width
slot_short : (kind : Kind) (value : Value) → length (slot_bytes kind value) ≤ 16
slot_short kinds.I8 (values.Int n) = lit≤ tt
slot_short kinds.I8 value = lit≤ tt
slot_short kinds.I16 (values.Int n) = lit≤ tt
slot_short kinds.I16 value = lit≤ tt
slot_short kinds.I32 (values.Int n) = lit≤ tt
slot_short kinds.I32 value = lit≤ tt
slot_short kinds.I64 (values.Int n) = lit≤ tt
slot_short kinds.I64 value = lit≤ tt
slot_short kinds.Date (values.Int n) = lit≤ tt
slot_short kinds.Date value = lit≤ tt
slot_short kinds.Timestamp (values.Int n) = lit≤ tt
slot_short kinds.Timestamp value = lit≤ tt
slot_short (kinds.Decimal precision scale) (values.Dec n) = lit≤ tt
slot_short (kinds.Decimal precision scale) value = lit≤ tt
slot_short kind value = lit≤ tt

slots_short : (kind : Kind) (column : List Value) → length (flat_map (slot_bytes kind) column) ≤ 16 * length column
slots_short kind [] = omega arith
slots_short kind (value ∷ column) =
    omega (arith, length-append (slot_bytes kind value) (flat_map (slot_bytes kind) column), slot_short kind value, slots_short kind column)

-- where texts end
ends_long : (start : ℕ) (texts : List (List ℕ)) → length (text_ends start texts) ≡ 4 * length texts
ends_long start [] = refl
ends_long start (text ∷ texts) = omega (arith, ends_long (start + length text) texts)

-- one buffer, and two
one_filled : (bytes : List ℕ) → length (body_of (bytes ∷ [])) ≤ length bytes + 7
one_filled bytes = omega (arith, length-append (filled bytes) [], filled_short bytes)

two_filled : (bytes others : List ℕ) → length (body_of (bytes ∷ others ∷ [])) ≤ length bytes + length others + 14
two_filled bytes others = omega (arith, length-append (filled bytes) (body_of (others ∷ [])), filled_short bytes, one_filled others)

slot_buffers_short : (kind : Kind) (column : List Value) → length (body_of (flat_map (slot_bytes kind) column ∷ [])) ≤ 16 * length column + 7
slot_buffers_short kind column = omega (arith, one_filled (flat_map (slot_bytes kind) column), slots_short kind column)

text_buffers_short : (column : List Value) → All IsShort column
    → length (body_of ((little_bytes 4 0 ++ text_ends 0 (map text_bytes column)) ∷ flat_map text_bytes column ∷ [])) ≤ (MAX_TEXT + 4) * length column + 18
text_buffers_short column short =
    omega (
      arith,
      two_filled (little_bytes 4 0 ++ text_ends 0 (map text_bytes column)) (flat_map text_bytes column),
      length-append (little_bytes 4 0) (text_ends 0 (map text_bytes column)),
      ends_long 0 (map text_bytes column),
      length-map column text_bytes,
      texts_length column short,
    )

-- the values of a column
values_short : (kind : Kind) (column : List Value) → All IsShort column → length (body_of (value_buffers kind column)) ≤ (MAX_TEXT + 16) * length column + 18
values_short kinds.Bool column short = omega (arith, one_filled (packed (map is_truth column)), length-packed (map is_truth column), length-map column is_truth)
values_short kinds.I8 column short = omega (arith, slot_buffers_short kinds.I8 column)
values_short kinds.I16 column short = omega (arith, slot_buffers_short kinds.I16 column)
values_short kinds.I32 column short = omega (arith, slot_buffers_short kinds.I32 column)
values_short kinds.I64 column short = omega (arith, slot_buffers_short kinds.I64 column)
values_short kinds.Date column short = omega (arith, slot_buffers_short kinds.Date column)
values_short kinds.Timestamp column short = omega (arith, slot_buffers_short kinds.Timestamp column)
values_short (kinds.Decimal precision scale) column short = omega (arith, slot_buffers_short (kinds.Decimal precision scale) column)
values_short kinds.Text column short = omega (arith, text_buffers_short column short)
values_short kinds.Binary column short = omega (arith, text_buffers_short column short)

-- the buffers of a column of at most 1,024 values
column_short : (kind : Kind) (column : List Value) → All IsShort column → length column ≤ 1024 → length (body_of (column_buffers kind column)) ≤ 2147483648
column_short kind column short few =
    omega (arith, length-append (filled (validity_buffer column)) (body_of (value_buffers kind column)), filled_short (validity_buffer column), validity_short column, values_short kind column short)

-- the buffers of at most 1,024 rows
body_short : (i : ℕ) (types : List Ty) (rows : List (List Value)) → All (ColumnFits rows) (enumerate_from i types) → length rows ≤ 1024
    → length (body_of (buffers_from i types rows)) ≤ 2147483648 * length types
body_short i [] rows fits few = omega arith
body_short i (ty ∷ types) rows fits few =
    let column : List Value = column_at i rows in
    let fit : All (FitsTy ty) column = All-head (ColumnFits rows) (i, ty) (enumerate_from (i + 1) types) fits in
    let long : length column ≡ length rows = length-map rows _ in
    let own = column_short ty.kind column (All-weaker (FitsTy ty) IsShort (λ value fits. fits.short) column fit) (omega (arith, long, few)) in
    let others = body_short (i + 1) types rows (All-tail (ColumnFits rows) (i, ty) (enumerate_from (i + 1) types) fits) few in
    let both = ap length (body_of-append (column_buffers ty.kind column) (buffers_from (i + 1) types rows)) ∙ length-append (body_of (column_buffers ty.kind column)) (body_of (buffers_from (i + 1) types rows)) in
    omega (arith, own, others, both)

-- a message with this metadata and body
framed_long : (metadata body : List ℕ) → length (framed metadata body) ≡ 8 + (length metadata + length body)
framed_long metadata body = omega (arith, length-append metadata body)

-- the message of at most 1,024 rows of at most 1,024 columns
message_short : (types : List Ty) (rows : List (List Value)) → All (Fits types) rows → length rows ≤ 1024 → length types ≤ 1024 → length (batch_metadata types rows) + 8 < 2 ^ 31
    → length (batch_message types rows) ≤ 4398046511104
unfolding batch_message
message_short types rows fits few narrow metadata =
    omega (arith, framed_long (batch_metadata types rows) (batch_body types rows), body_short 0 types rows (columns_fit types rows fits) few)

-- messages that are each at most so long
messages_short : (types : List Ty) (all : List (List (List Value))) → All (λ rows. length (batch_message types rows) ≤ 4398046511104) all
    → length (flat_map (batch_message types) all) ≤ 4398046511104 * length all
messages_short types [] each = omega arith
messages_short types (rows ∷ rest) each =
    let P = λ (rows : List (List Value)). length (batch_message types rows) ≤ 4398046511104 in
    omega (arith, length-append (batch_message types rows) (flat_map (batch_message types) rest), All-head P rows rest each, messages_short types rest (All-tail P rows rest each))

-- how many batches there are
few_batches : (rows : List (List Value)) → length rows ≤ 2 ^ 29 → length (batches rows) ≤ 1048576
unfolding batches
few_batches rows few =
    let count : ℕ = max 1 ((length rows + 1023) / 1024) in
    let bound : count ≤ 1048576 = omega (arith, few) in
    omega (arith, length-map-range_with_len (λ k. take 1024 (drop (1024 * k) rows)) 0 count, bound)

-- The rows of a table that isn't too large: at most 1,024 columns, whose names have at most 2^24 bytes together, and 2^29 rows.
pub record IsSmall (names : List (List ℕ)) (types : List Ty) (rows : List (List Value)) : Type 0 where
  pub same_count : length names ≡ length types
  pub kinds : All (λ ty. IsKind ty.kind) types
  pub fitting : All (Fits types) rows
  pub narrow : length types ≤ 1024
  pub short_names : sum_by length names ≤ 16777216
  pub few : length rows ≤ 2 ^ 29

small_footer : (names : List (List ℕ)) (types : List Ty) (rows : List (List Value)) → IsSmall names types rows → length (footer_of names types rows) < 2 ^ 31
unfolding footer_of
small_footer names types rows small =
    let blocks : List Place = blocks_from (length (file_head names types)) types (batches rows) in
    footer_small near_laws length_laws names types blocks (omega (arith, small.same_count, small.narrow)) small.short_names
    (omega (arith, length-blocks_from (length (file_head names types)) types (batches rows), few_batches rows small.few))

small_metadata : (names : List (List ℕ)) (types : List Ty) (rows batch : List (List Value)) → IsSmall names types rows → length (batch_metadata types batch) + 8 < 2 ^ 31
unfolding footer_of
small_metadata names types rows batch small =
    metadata_short names types (blocks_from (length (file_head names types)) types (batches rows)) batch small.same_count (small_footer names types rows small)

small_messages : (names : List (List ℕ)) (types : List Ty) (rows : List (List Value)) → IsSmall names types rows → length (flat_map (batch_message types) (batches rows)) ≤ 4398046511104 * 1048576
small_messages names types rows small =
    let each : All (λ batch. length (batch_message types batch) ≤ 4398046511104) (batches rows) =
    λ k d below. message_short types (get_or (batches rows) k d) (batches_fit types rows small.fitting k d below) (batches_short rows k d below) small.narrow (small_metadata names types rows (get_or (batches rows) k d) small) in
    omega (arith, messages_short types (batches rows) each, few_batches rows small.few)

small_head : (names : List (List ℕ)) (types : List Ty) (rows : List (List Value)) → IsSmall names types rows → length (file_head names types) < 2 ^ 32
unfolding file_head
small_head names types rows small =
    let schema : List ℕ = buffer_of (schema_message names types) in
    omega (arith, framed_long schema [], length-append schema [], schema_small near_laws length_laws names types (omega (arith, small.same_count, small.narrow)) small.short_names)

small_tail : (names : List (List ℕ)) (types : List Ty) (rows : List (List Value)) → IsSmall names types rows → length (file_tail names types rows) < 2 ^ 32
unfolding file_tail
small_tail names types rows small =
    let footer : List ℕ = footer_of names types rows in
    let size : List ℕ = little_bytes 4 (length footer) in
    omega (arith, length-append (footer ++ size) magic, length-append footer size, small_footer names types rows small)

small_file : (names : List (List ℕ)) (types : List Ty) (rows : List (List Value)) → IsSmall names types rows → length (file_of names types rows) < 2 ^ 63
unfolding file_of
small_file names types rows small =
    let begin : List ℕ = file_head names types in
    let messages : List ℕ = flat_map (batch_message types) (batches rows) in
    omega (
      arith,
      length-append (begin ++ messages) (file_tail names types rows),
      length-append begin messages,
      small_head names types rows small,
      small_messages names types rows small,
      small_tail names types rows small,
    )

-- the table can be written
pub small_can_be_written : (names : List (List ℕ)) (types : List Ty) (rows : List (List Value)) → IsSmall names types rows → CanBeWritten names types rows
small_can_be_written names types rows small = record {
  same_count = small.same_count;
  kinds = small.kinds;
  fitting = small.fitting;
  short_footer = small_footer names types rows small;
  short_file = small_file names types rows small;
}
