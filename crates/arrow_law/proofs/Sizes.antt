-- The metadata of a record batch has fewer than 2^31 bytes where the footer of the same types has.
use Rattle.std.proofs.Common.{rules, ◌≡◌, ℕ, ◌+◌, ◌*◌, ◌^◌, ◌<◌, ◌≤◌, List, [], ◌∷◌, ◌++◌, length, if◌then◌else◌, refl, arith, lit≤, length-append}
use Rattle.std.specs.List.{flat_map, sum}
use Rattle.std.proofs.lemmas.List.Sums.{sum_by-cons}
use Rattle.byteorder.specs.Endian.{little_bytes}
use Rattle.fb_bytes.specs.Layout.{Laid, Part, Number, Offset, behind, cells, filled, round_up, in_order, offsets, table_laid, table_own, table_place, table_end, vtable, tables_laid, structs_laid, text_laid, buffer_of}
use Rattle.fb_bytes.specs.ReadBack.{IsNear}
use Rattle.fb_bytes.proofs.LawProofs.{near_laws, length_laws}
use Rattle.fb_bytes.proofs.TableLemmas.{round_up-least, length-filled}
use Rattle.fb_bytes.proofs.ObjectLemmas.{length-buffer_of}
use Rattle.sub_types.specs.declared.kind.Kind.{Kind}
use Rattle.sub_types.specs.declared.kind.Kind.TheVariants as kinds
use Rattle.sub_types.specs.declared.kind.Ty.{Ty}
use Rattle.sub_types.specs.declared.value.Value.{Value}
use Rattle.arrow_meta.specs.declared.field.Layout.TheVariants.{Plain}
use Rattle.arrow_meta.specs.Buffers.{batch_buffers, batch_nodes, body_of, buffer_places}
use Rattle.arrow_meta.specs.Messages.{Place, VERSION, type_tag, type_laid, field_laid, fields_laid, schema_laid, pair_bytes, record_laid, record_message, block_bytes, footer_laid}
use Rattle.arrow_meta.specs.File.{batch_metadata}
use Rattle.arrow_meta.specs.Batch.{known_buffers}
use Rattle.arrow_meta.proofs.Lengths.{message_length, pairs_length}
use Rattle.arrow_meta.proofs.ColumnLaws.{length-nodes_from}
use Rattle.arrow_law.proofs.BodyBack.{length-buffer_places}
use Rattle.arrow_law.proofs.BatchBack.{buffer_counts, length-buffers_from}

-- what a table leads to is in its bytes
behind_long : (parts : List Part) → length (behind parts) ≤ length (table_laid parts).bytes
unfolding table_laid
behind_long parts = omega (arith, length-append (filled (table_own parts (cells (table_end parts) parts))) (behind parts))

-- a type table has 8 bytes and more
type_long : (kind : Kind) → 8 ≤ length (type_laid kind).bytes
unfolding table_laid table_own table_place table_end vtable filled round_up
type_long kinds.Bool = lit≤ tt
type_long kinds.I8 = lit≤ tt
type_long kinds.I16 = lit≤ tt
type_long kinds.I32 = lit≤ tt
type_long kinds.I64 = lit≤ tt
type_long kinds.Text = lit≤ tt
type_long kinds.Binary = lit≤ tt
type_long kinds.Date = lit≤ tt
type_long kinds.Timestamp = lit≤ tt
type_long (kinds.Decimal precision scale) = lit≤ tt

text_long : (text : List ℕ) → 8 ≤ length (text_laid text).bytes
unfolding text_laid round_up
text_long text =
    let all : List ℕ = little_bytes 4 (length text) ++ (text ++ 0 ∷ []) in
    omega (arith, length-filled all, length-append text (0 ∷ []))

children_long : 8 ≤ length (tables_laid []).bytes
unfolding tables_laid filled round_up
children_long = lit≤ tt

-- a table with the parts of a field
field_parts_long : (text kind children : Laid) (nullable tag : ℕ)
    → 40 + length text.bytes + length kind.bytes + length children.bytes
    ≤ length (table_laid (Offset 0 text ∷ Number 1 1 nullable ∷ Number 2 1 tag ∷ Offset 3 kind ∷ Offset 5 children ∷ [])).bytes
unfolding table_laid table_own table_place table_end vtable filled round_up
field_parts_long text kind children nullable tag =
    let three = length-append text.bytes (kind.bytes ++ (children.bytes ++ [])) in
    let two = length-append kind.bytes (children.bytes ++ []) in
    let one = length-append children.bytes [] in
    omega (arith, three, two, one)

field_long : (name : List ℕ) (ty : Ty) → 64 ≤ length (field_laid name ty).bytes
field_long name ty =
    let h = field_parts_long (text_laid name) (type_laid ty.kind) (tables_laid []) (if ty.nullable then 1 else 0) (type_tag ty.kind) in
    omega (arith, h, text_long name, type_long ty.kind, children_long)

-- the fields with the offsets to them
fields_long : (names : List (List ℕ)) (types : List Ty) → length names ≡ length types → 68 * length types ≤ length (in_order (fields_laid names types)) + 4 * length (fields_laid names types)
fields_long [] [] same = omega arith
fields_long [] (ty ∷ types) same = absurd (omega arith)
fields_long (name ∷ names) [] same = omega arith
fields_long (name ∷ names) (ty ∷ types) same =
    let rest = fields_long names types (omega arith) in
    let own = field_long name ty in
    let both = length-append (field_laid name ty).bytes (in_order (fields_laid names types)) in omega (arith, rest, own, both)

length-offsets : (place next : ℕ) (objects : List Laid) → length (offsets place next objects) ≡ 4 * length objects
length-offsets place next [] = refl
length-offsets place next (object ∷ objects) =
    let rest = length-offsets (place + 4) (next + length object.bytes) objects in omega (arith, rest)

tables_long : (objects : List Laid) → length (in_order objects) + 4 * length objects ≤ length (tables_laid objects).bytes
unfolding tables_laid
tables_long objects =
    let own : List ℕ = little_bytes 4 (length objects) ++ offsets 4 (round_up (4 + 4 * length objects)) objects in
    let all = length-append (filled own) (in_order objects) in
    let long = length-filled own in
    let least = round_up-least (length own) in
    let places = length-offsets 4 (round_up (4 + 4 * length objects)) objects in omega (arith, all, long, least, places)

-- a footer has 68 bytes and more for each column
pub footer_long : (names : List (List ℕ)) (types : List Ty) (blocks : List Place) → length names ≡ length types → 68 * length types + 8 ≤ length (buffer_of (footer_laid names types blocks))
footer_long names types blocks same =
    let schema : Laid = schema_laid names types in
    let fields : Laid = tables_laid (fields_laid names types) in
    let none : Laid = structs_laid 24 [] in
    let some : Laid = structs_laid 24 (flat_map block_bytes blocks) in
    let all = length-buffer_of (footer_laid names types blocks) in
    let top = behind_long (Number 0 2 VERSION ∷ Offset 1 schema ∷ Offset 2 none ∷ Offset 3 some ∷ []) in
    let parts = length-append schema.bytes (none.bytes ++ (some.bytes ++ [])) in
    let next = behind_long (Number 0 2 0 ∷ Offset 1 fields ∷ []) in
    let only = length-append fields.bytes [] in
    let low = tables_long (fields_laid names types) in
    let each = fields_long names types same in omega (arith, all, top, parts, next, only, low, each)

-- a record batch message has at most 134 bytes and 16 for each node and buffer
message_short : (rows : ℕ) (nodes buffers : List (ℕ × ℕ)) (body_len : ℕ) → length (buffer_of (record_message rows nodes buffers body_len)) ≤ 134 + 16 * length nodes + 16 * length buffers
message_short rows nodes buffers body_len =
    let a : Laid = structs_laid 16 (flat_map pair_bytes nodes) in
    let b : Laid = structs_laid 16 (flat_map pair_bytes buffers) in
    let near_a : IsNear a = near_laws.structs 16 (flat_map pair_bytes nodes) in
    let near_b : IsNear b = near_laws.structs 16 (flat_map pair_bytes buffers) in
    let header : IsNear (record_laid rows nodes buffers) = near_laws.table (Number 0 8 rows ∷ Offset 1 a ∷ Offset 2 b ∷ []) (search rules) in
    let all = message_length length_laws 3 (record_laid rows nodes buffers) body_len header in
    let top = length_laws.table (Number 0 8 rows ∷ Offset 1 a ∷ Offset 2 b ∷ []) (search rules) in
    let two = length-append a.bytes (b.bytes ++ []) in
    let one = length-append b.bytes [] in
    let long_a = length_laws.structs 16 (flat_map pair_bytes nodes) in
    let long_b = length_laws.structs 16 (flat_map pair_bytes buffers) in
    let count_a = pairs_length nodes in
    let count_b = pairs_length buffers in omega (arith, all, top, two, one, long_a, long_b, count_a, count_b)

-- a column has at most 3 buffers
few_buffers : (kind : Kind) → known_buffers kind Plain ≤ 3
few_buffers kinds.Bool = lit≤ tt
few_buffers kinds.I8 = lit≤ tt
few_buffers kinds.I16 = lit≤ tt
few_buffers kinds.I32 = lit≤ tt
few_buffers kinds.I64 = lit≤ tt
few_buffers kinds.Text = lit≤ tt
few_buffers kinds.Binary = lit≤ tt
few_buffers kinds.Date = lit≤ tt
few_buffers kinds.Timestamp = lit≤ tt
few_buffers (kinds.Decimal precision scale) = lit≤ tt

buffers_few : (types : List Ty) → sum (buffer_counts types) ≤ 3 * length types
buffers_few [] = omega arith
buffers_few (ty ∷ types) =
    let own = few_buffers ty.kind in
    let rest = buffers_few types in
    let all = sum_by-cons (λ n. n) (known_buffers ty.kind Plain) (buffer_counts types) in omega (arith, own, rest, all)

-- the metadata of a batch is short where the footer is
pub metadata_short : (names : List (List ℕ)) (types : List Ty) (blocks : List Place) (rows : List (List Value)) → length names ≡ length types
    → length (buffer_of (footer_laid names types blocks)) < 2 ^ 31 → length (batch_metadata types rows) + 8 < 2 ^ 31
metadata_short names types blocks rows same short =
    let buffers : List (List ℕ) = batch_buffers types rows in
    let footer = footer_long names types blocks same in
    let message = message_short (length rows) (batch_nodes types rows) (buffer_places 0 buffers) (length (body_of buffers)) in
    let nodes = length-nodes_from 0 types rows in
    let places = length-buffer_places 0 buffers in
    let count = length-buffers_from 0 types rows in
    let few = buffers_few types in omega (arith, short, footer, message, nodes, places, count, few)

-- and isn't empty
pub metadata_some : (types : List Ty) (rows : List (List Value)) → 8 ≤ length (batch_metadata types rows)
metadata_some types rows =
    let buffers : List (List ℕ) = batch_buffers types rows in
    omega (arith, length-buffer_of (record_message (length rows) (batch_nodes types rows) (buffer_places 0 buffers) (length (body_of buffers))))
