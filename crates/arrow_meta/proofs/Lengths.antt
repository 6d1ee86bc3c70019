-- How long the objects of schemas, messages and footers are at most.
use Rattle.std.proofs.Common.{◌≡◌, ◌≤◌, ◌<◌, ◌+◌, ◌*◌, ◌%◌, ◌^◌, ℕ, List, [], ◌∷◌, ◌++◌, length, suc, Result, if◌then◌else◌, vec_len, IfOk, Ok, Err, refl, sym, ap, ◌∙◌, subst, lit<, arith, rules, length-append, append_assoc}
use Rattle.std.specs.declared.vec.Vec.{Vec}
use Rattle.std.specs.List.{sum_by, flat_map}
use Rattle.std.proofs.lemmas.List.Sums.{sum_by-cons}
use Rattle.std.proofs.Math.Nat.{mul-mod_right}
use Rattle.fb_bytes.specs.Layout.{Laid, Number, Offset, in_order, table_laid, tables_laid, structs_laid, text_laid, buffer_of}
use Rattle.fb_bytes.specs.Object.{AreStructs}
use Rattle.fb_bytes.specs.ReadBack.{IsNear}
use Rattle.fb_bytes.specs.Laws.{LaidIsNear, LaidLengths}
use Rattle.sub_types.specs.declared.kind.Kind.{Kind}
use Rattle.sub_types.specs.declared.kind.Kind.TheVariants as kinds
use Rattle.sub_types.specs.declared.kind.Ty.{Ty}
use Rattle.arrow_meta.specs.Messages.{Place, type_tag, type_laid, int_laid, field_laid, fields_laid, schema_laid, message_laid, schema_message, pair_bytes, record_laid, record_message, block_bytes, footer_laid}

-- the objects that a table leads to, one after the other
two_long : (xs ys : List ℕ) → length (xs ++ (ys ++ [])) ≡ length xs + length ys
two_long xs ys = simp (length-append) (omega arith)

three_long : (xs ys zs : List ℕ) → length (xs ++ (ys ++ (zs ++ []))) ≡ length xs + length ys + length zs
three_long xs ys zs = simp (length-append) (omega arith)

one_long : (xs : List ℕ) → length (xs ++ []) ≡ length xs
one_long xs = simp (length-append) (omega arith)

-- an offset of 32 bits can lead to a type table
near_type : LaidIsNear → (kind : Kind) → IsNear (type_laid kind)
near_type near kinds.Bool = near.table [] tt
near_type near kinds.I8 = near.table (Number 0 4 8 ∷ Number 1 1 1 ∷ []) (search rules)
near_type near kinds.I16 = near.table (Number 0 4 16 ∷ Number 1 1 1 ∷ []) (search rules)
near_type near kinds.I32 = near.table (Number 0 4 32 ∷ Number 1 1 1 ∷ []) (search rules)
near_type near kinds.I64 = near.table (Number 0 4 64 ∷ Number 1 1 1 ∷ []) (search rules)
near_type near kinds.Text = near.table [] tt
near_type near kinds.Binary = near.table [] tt
near_type near kinds.Date = near.table (Number 0 2 0 ∷ []) (search rules)
near_type near kinds.Timestamp = near.table (Number 0 2 2 ∷ []) (search rules)
near_type near (kinds.Decimal precision scale) = near.table (Number 0 4 precision ∷ Number 1 4 scale ∷ Number 2 4 128 ∷ []) (search rules)

-- a type table has at most 40 bytes
int_length : LaidLengths → (bits : ℕ) → length (int_laid bits).bytes ≤ 40
int_length laws bits = let h = laws.table (Number 0 4 bits ∷ Number 1 1 1 ∷ []) (search rules) in omega arith

type_length : LaidLengths → (kind : Kind) → length (type_laid kind).bytes ≤ 40
type_length laws kinds.Bool = let h = laws.table [] tt in omega arith
type_length laws kinds.I8 = int_length laws 8
type_length laws kinds.I16 = int_length laws 16
type_length laws kinds.I32 = int_length laws 32
type_length laws kinds.I64 = int_length laws 64
type_length laws kinds.Text = let h = laws.table [] tt in omega arith
type_length laws kinds.Binary = let h = laws.table [] tt in omega arith
type_length laws kinds.Date = let h = laws.table (Number 0 2 0 ∷ []) (search rules) in omega arith
type_length laws kinds.Timestamp = let h = laws.table (Number 0 2 2 ∷ []) (search rules) in omega arith
type_length laws (kinds.Decimal precision scale) =
    let h = laws.table (Number 0 4 precision ∷ Number 1 4 scale ∷ Number 2 4 128 ∷ []) (search rules) in omega arith

-- a table with the parts of a field
field_parts_length : LaidLengths → (text kind children : Laid) (nullable tag : ℕ) → IsNear text → IsNear kind → IsNear children
    → length (table_laid (Offset 0 text ∷ Number 1 1 nullable ∷ Number 2 1 tag ∷ Offset 3 kind ∷ Offset 5 children ∷ [])).bytes
    ≤ 48 + length text.bytes + length kind.bytes + length children.bytes
field_parts_length laws text kind children nullable tag a b c =
    let h = laws.table (Offset 0 text ∷ Number 1 1 nullable ∷ Number 2 1 tag ∷ Offset 3 kind ∷ Offset 5 children ∷ []) (search rules) in
    let e = three_long text.bytes kind.bytes children.bytes in omega arith

-- a field has at most 120 bytes and its name
field_length : LaidIsNear → LaidLengths → (name : List ℕ) (ty : Ty) → length (field_laid name ty).bytes ≤ 120 + length name
field_length near laws name ty =
    let h = field_parts_length laws (text_laid name) (type_laid ty.kind) (tables_laid []) (if ty.nullable then 1 else 0) (type_tag ty.kind) (near.text name) (near_type near ty.kind) (near.tables []) in
    let t = laws.text name in
    let k = type_length laws ty.kind in
    let c = laws.tables [] in omega (arith, h, t, k, c)

-- the fields with the offsets to them
fields_length : LaidIsNear → LaidLengths → (names : List (List ℕ)) (types : List Ty)
    → length (in_order (fields_laid names types)) + 4 * length (fields_laid names types) ≤ 124 * length names + sum_by length names
fields_length near laws [] types = omega arith
fields_length near laws (name ∷ names) [] = omega arith
fields_length near laws (name ∷ names) (ty ∷ types) =
    let h = field_length near laws name ty in
    let r = fields_length near laws names types in
    let e : length (in_order (fields_laid (name ∷ names) (ty ∷ types))) ≡ length (field_laid name ty).bytes + length (in_order (fields_laid names types)) =
    length-append (field_laid name ty).bytes (in_order (fields_laid names types)) in
    let k : length (fields_laid (name ∷ names) (ty ∷ types)) ≡ suc (length (fields_laid names types)) = refl in
    let b = sum_by-cons length name names in omega (arith, h, r, e, k, b)

-- a table with the parts of a schema
schema_parts_length : LaidLengths → (fields : Laid) → IsNear fields
    → length (table_laid (Number 0 2 0 ∷ Offset 1 fields ∷ [])).bytes ≤ 32 + length fields.bytes
schema_parts_length laws fields a =
    let h = laws.table (Number 0 2 0 ∷ Offset 1 fields ∷ []) (search rules) in
    let e = one_long fields.bytes in omega arith

pub schema_length : LaidIsNear → LaidLengths → (names : List (List ℕ)) (types : List Ty)
    → length (schema_laid names types).bytes ≤ 100 + 124 * length names + sum_by length names
schema_length near laws names types =
    let h = schema_parts_length laws (tables_laid (fields_laid names types)) (near.tables (fields_laid names types)) in
    let t = laws.tables (fields_laid names types) in
    let f = fields_length near laws names types in omega (arith, h, t, f)

near_schema : LaidIsNear → (names : List (List ℕ)) (types : List Ty) → IsNear (schema_laid names types)
near_schema near names types =
    let a = near.tables (fields_laid names types) in
    near.table (Number 0 2 0 ∷ Offset 1 (tables_laid (fields_laid names types)) ∷ []) (search rules)

-- the buffer of a message
pub message_length : LaidLengths → (tag : ℕ) (header : Laid) (body_len : ℕ) → IsNear header
    → length (buffer_of (message_laid tag header body_len)) ≤ 60 + length header.bytes
message_length laws tag header body_len a =
    let h = laws.table (Number 0 2 4 ∷ Number 1 1 tag ∷ Offset 2 header ∷ Number 3 8 body_len ∷ []) (search rules) in
    let e = one_long header.bytes in
    let b = laws.buffer (message_laid tag header body_len) in omega (arith, h, e, b)

-- the buffers of the three calls have fewer than 2^31 bytes
pub schema_small : LaidIsNear → LaidLengths → (names : List (List ℕ)) (types : List Ty) → length names ≤ 1024 → sum_by length names ≤ 16777216
    → length (buffer_of (schema_message names types)) < 2 ^ 31
schema_small near laws names types few short =
    let h = message_length laws 1 (schema_laid names types) 0 (near_schema near names types) in
    let s = schema_length near laws names types in omega (arith, h, s, few, short)

-- structs of one width each
pub pairs_length : (pairs : List (ℕ × ℕ)) → length (flat_map pair_bytes pairs) ≡ 16 * length pairs
pairs_length [] = refl
pairs_length (pair ∷ pairs) = let r = pairs_length pairs in omega (arith, r)

pub blocks_length : (blocks : List Place) → length (flat_map block_bytes blocks) ≡ 24 * length blocks
blocks_length [] = refl
blocks_length (block ∷ blocks) = let r = blocks_length blocks in omega (arith, r)

-- a table with the parts of a record batch
record_parts_length : LaidLengths → (rows : ℕ) (nodes buffers : Laid) → IsNear nodes → IsNear buffers
    → length (table_laid (Number 0 8 rows ∷ Offset 1 nodes ∷ Offset 2 buffers ∷ [])).bytes ≤ 44 + length nodes.bytes + length buffers.bytes
record_parts_length laws rows nodes buffers a b =
    let h = laws.table (Number 0 8 rows ∷ Offset 1 nodes ∷ Offset 2 buffers ∷ []) (search rules) in
    let e = two_long nodes.bytes buffers.bytes in omega arith

record_length : LaidIsNear → LaidLengths → (rows : ℕ) (nodes buffers : List (ℕ × ℕ))
    → length (record_laid rows nodes buffers).bytes ≤ 74 + 16 * length nodes + 16 * length buffers
record_length near laws rows nodes buffers =
    let n = laws.structs 16 (flat_map pair_bytes nodes) in
    let b = laws.structs 16 (flat_map pair_bytes buffers) in
    let h = record_parts_length laws rows (structs_laid 16 (flat_map pair_bytes nodes)) (structs_laid 16 (flat_map pair_bytes buffers)) (near.structs 16 (flat_map pair_bytes nodes)) (near.structs 16 (flat_map pair_bytes buffers)) in
    let en = pairs_length nodes in
    let eb = pairs_length buffers in omega (arith, n, b, h, en, eb)

near_record : LaidIsNear → (rows : ℕ) (nodes buffers : List (ℕ × ℕ)) → IsNear (record_laid rows nodes buffers)
near_record near rows nodes buffers =
    let a = near.structs 16 (flat_map pair_bytes nodes) in
    let b = near.structs 16 (flat_map pair_bytes buffers) in
    near.table (Number 0 8 rows ∷ Offset 1 (structs_laid 16 (flat_map pair_bytes nodes)) ∷ Offset 2 (structs_laid 16 (flat_map pair_bytes buffers)) ∷ []) (search rules)

pub record_small : LaidIsNear → LaidLengths → (rows : ℕ) (nodes buffers : List (ℕ × ℕ)) (body_len : ℕ) → length nodes ≤ 1024 → length buffers ≤ 3072
    → length (buffer_of (record_message rows nodes buffers body_len)) < 2 ^ 31
record_small near laws rows nodes buffers body_len few_nodes few_buffers =
    let h = message_length laws 3 (record_laid rows nodes buffers) body_len (near_record near rows nodes buffers) in
    let s = record_length near laws rows nodes buffers in omega (arith, h, s, few_nodes, few_buffers)

-- a table with the parts of a footer
footer_parts_length : LaidLengths → (schema dictionaries batches : Laid) → IsNear schema → IsNear dictionaries → IsNear batches
    → length (table_laid (Number 0 2 4 ∷ Offset 1 schema ∷ Offset 2 dictionaries ∷ Offset 3 batches ∷ [])).bytes
    ≤ 44 + length schema.bytes + length dictionaries.bytes + length batches.bytes
footer_parts_length laws schema dictionaries batches a b c =
    let h = laws.table (Number 0 2 4 ∷ Offset 1 schema ∷ Offset 2 dictionaries ∷ Offset 3 batches ∷ []) (search rules) in
    let e = three_long schema.bytes dictionaries.bytes batches.bytes in omega arith

pub footer_small : LaidIsNear → LaidLengths → (names : List (List ℕ)) (types : List Ty) (blocks : List Place)
    → length names ≤ 1024 → sum_by length names ≤ 16777216 → length blocks ≤ 2 ^ 26
    → length (buffer_of (footer_laid names types blocks)) < 2 ^ 31
footer_small near laws names types blocks few short few_blocks =
    let s = schema_length near laws names types in
    let d = laws.structs 24 [] in
    let b = laws.structs 24 (flat_map block_bytes blocks) in
    let e = blocks_length blocks in
    let h = footer_parts_length laws (schema_laid names types) (structs_laid 24 []) (structs_laid 24 (flat_map block_bytes blocks)) (near_schema near names types) (near.structs 24 []) (near.structs 24 (flat_map block_bytes blocks)) in
    let r = laws.buffer (footer_laid names types blocks) in omega (arith, s, d, b, e, h, r, few, short, few_blocks)

pub pairs_are_structs : (bytes : List ℕ) (pairs : List (ℕ × ℕ)) → bytes ≡ flat_map pair_bytes pairs → AreStructs 16 bytes
pairs_are_structs bytes pairs e = let n = ap length e ∙ pairs_length pairs in (lit< tt, refl, ap (λ k. k % 16) n ∙ mul-mod_right 16 (length pairs))

pub blocks_are_structs : (bytes : List ℕ) (blocks : List Place) → bytes ≡ flat_map block_bytes blocks → AreStructs 24 bytes
blocks_are_structs bytes blocks e = let n = ap length e ∙ blocks_length blocks in (lit< tt, refl, ap (λ k. k % 24) n ∙ mul-mod_right 24 (length blocks))

-- bytes that are appended behind others that were
pub appended : (start mid end x y b : List ℕ) → mid ≡ start ++ x → end ≡ mid ++ b → b ≡ y → end ≡ start ++ (x ++ y)
appended start mid end x y b e f g = f ∙ ap (λ front. front ++ b) e ∙ append_assoc start x b ∙ ap (λ back. start ++ (x ++ back)) g

-- the buffers of roots that are built part by part
pub schema_root_small : LaidIsNear → LaidLengths → (names : List (List ℕ)) (types : List Ty) (root header : Laid) → length names ≤ 1024 → sum_by length names ≤ 16777216
    → header ≡ schema_laid names types → root ≡ message_laid 1 header 0 → length (buffer_of root) < 2 ^ 31
schema_root_small near laws names types root header few short h r =
    let P : Laid → Type 0 = λ l. length (buffer_of l) < 2 ^ 31 in
    subst P (sym (r ∙ ap (λ l. message_laid 1 l 0) h)) (schema_small near laws names types few short)

pub record_root_small : LaidIsNear → LaidLengths → (rows : ℕ) (nodes buffers : List (ℕ × ℕ)) (body_len : ℕ) (root header : Laid) → length nodes ≤ 1024 → length buffers ≤ 3072
    → header ≡ record_laid rows nodes buffers → root ≡ message_laid 3 header body_len → length (buffer_of root) < 2 ^ 31
record_root_small near laws rows nodes buffers body_len root header few_nodes few_buffers h r =
    let P : Laid → Type 0 = λ l. length (buffer_of l) < 2 ^ 31 in
    subst P (sym (r ∙ ap (λ l. message_laid 3 l body_len) h)) (record_small near laws rows nodes buffers body_len few_nodes few_buffers)

pub footer_root_small : LaidIsNear → LaidLengths → (names : List (List ℕ)) (types : List Ty) (blocks : List Place) (root : Laid)
    → length names ≤ 1024 → sum_by length names ≤ 16777216 → length blocks ≤ 2 ^ 26
    → root ≡ footer_laid names types blocks → length (buffer_of root) < 2 ^ 31
footer_root_small near laws names types blocks root few short few_blocks r =
    let P : Laid → Type 0 = λ l. length (buffer_of l) < 2 ^ 31 in
    subst P (sym r) (footer_small near laws names types blocks few short few_blocks)

-- a vector of so many bytes has this length
pub small_vec : {Z E : Type 0} (r : Result (Vec ℕ Z) E) (all : List ℕ) → IfOk r (λ bytes. bytes.items ≡ all) → length all < 2 ^ 31
    → IfOk r (λ bytes. vec_len bytes < 2 ^ 31)
small_vec (Ok v) all e h =
    let P : ℕ → Type 0 = λ n. n < 2 ^ 31 in
    subst P (sym (v.ok.0 ∙ ap length e)) h
small_vec (Err x) all e h = tt
