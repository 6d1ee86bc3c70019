-- What was laid out as a footer reads back.
use Rattle.std.proofs.Common.{rules, tests, ◌≡◌, ◌∙◌, ℕ, zero, suc, ◌+◌, ◌*◌, ◌^◌, ◌<◌, ◌%◌, Bool, true, false, List, [], ◌∷◌, length, map, take, drop, get_or, Option, Some, Ok, refl, sym, ap, subst, arith, zero-add, not, ◌==◌, if◌then◌else◌}
use Rattle.std.specs.List.{range_with_len, flat_map, All, slice_get}
use Rattle.std.proofs.Math.Nat.{mod-eq_of_lt}
use Rattle.std.proofs.lemmas.List.{length-map}
use Rattle.std.proofs.lemmas.Option.{get_or_from_slice_get}
use Rattle.sub_types.specs.Kind.{IsKind, IsDecimal}
use Rattle.sub_types.specs.declared.kind.Kind.{Kind}
use Rattle.sub_types.specs.declared.kind.Kind.TheVariants as kinds
use Rattle.sub_types.specs.declared.kind.Ty.{Ty}
use Rattle.fb_bytes.specs.Layout.{Laid, Part, Number, Offset, table_laid, tables_laid, structs_laid, text_laid, buffer_of}
use Rattle.fb_bytes.specs.Reading.{TableAt, scalar_of, item_of}
use Rattle.fb_bytes.specs.ReadBack.{AreParts, ReadsSlot, ReadsItem, IsTableOf, IsNear, AreNear}
use Rattle.arrow_meta.specs.declared.field.Layout.TheVariants as layouts
use Rattle.arrow_meta.specs.declared.field.Shape.TheVariants.{Known}
use Rattle.arrow_meta.specs.declared.meta.Block.{Block}
use Rattle.arrow_meta.specs.Messages.{type_tag, type_laid, field_laid, fields_laid, footer_laid, block_bytes}
use Rattle.arrow_meta.specs.Meta.{place_of}
use Rattle.arrow_meta.specs.Looked.{number_in}
use Rattle.sub_types.specs.ResultSteps.{collect}
use Rattle.arrow_meta.specs.Shapes.{int_in, number_shape, decimal_in, date_in, timestamp_in, type_shape, encoding_in, shape_in, is_decimal}
use Rattle.arrow_meta.specs.Footer.{Field, field_in, field_at, fields_in, blocks_in, block_at, block_in, columns_from, footer_in}
use Rattle.arrow_meta.proofs.Lengths.{blocks_length, blocks_are_structs}
use Rattle.arrow_meta.specs.Written.{IsBlock, columns_of, written_footer}
use Rattle.arrow_meta.proofs.CollectLaws.{collect_all}
use Rattle.arrow_meta.proofs.BackLaws.{block_back, structs_back, flat_map-map}
use Rattle.arrow_meta.proofs.MessageBack.{Laws, number_there, table_there, same_table, short}

-- the type table of whole numbers of a width
abbrev int_parts : ℕ → List Part
int_parts bits = Number 0 4 bits ∷ Number 1 1 1 ∷ []

-- a decimal of so many digits
decimal_test : (precision scale : ℕ) → IsDecimal precision scale → is_decimal 128 precision scale ≡ true
decimal_test precision scale valid = search (rules, tests)

-- what is known of the type of a field
type_back : Laws → (bytes : List ℕ) (t : TableAt) (kind : Kind) → t.bytes ≡ bytes → length bytes < 2 ^ 31 → IsKind kind → ReadsSlot t 3 (Some (Offset 3 (type_laid kind)))
    → type_shape t (type_tag kind) ≡ Ok (Some (Known kind layouts.Plain))
unfolding type_shape number_shape int_in decimal_in date_in timestamp_in
type_back laws bytes t kinds.Bool same small valid reads = refl
type_back laws bytes t kinds.I8 same small valid reads =
    let type = laws.table t 3 3 (int_parts 8) (short bytes t same small) (search rules) reads in
    rw (table_there t 3 type.0 type.1, number_there type.0 0 4 8 0 (type.2.slots 0), number_there type.0 1 1 1 0 (type.2.slots 1)) refl
type_back laws bytes t kinds.I16 same small valid reads =
    let type = laws.table t 3 3 (int_parts 16) (short bytes t same small) (search rules) reads in
    rw (table_there t 3 type.0 type.1, number_there type.0 0 4 16 0 (type.2.slots 0), number_there type.0 1 1 1 0 (type.2.slots 1)) refl
type_back laws bytes t kinds.I32 same small valid reads =
    let type = laws.table t 3 3 (int_parts 32) (short bytes t same small) (search rules) reads in
    rw (table_there t 3 type.0 type.1, number_there type.0 0 4 32 0 (type.2.slots 0), number_there type.0 1 1 1 0 (type.2.slots 1)) refl
type_back laws bytes t kinds.I64 same small valid reads =
    let type = laws.table t 3 3 (int_parts 64) (short bytes t same small) (search rules) reads in
    rw (table_there t 3 type.0 type.1, number_there type.0 0 4 64 0 (type.2.slots 0), number_there type.0 1 1 1 0 (type.2.slots 1)) refl
type_back laws bytes t kinds.Text same small valid reads = refl
type_back laws bytes t kinds.Binary same small valid reads = refl
type_back laws bytes t kinds.Date same small valid reads =
    let type = laws.table t 3 3 (Number 0 2 0 ∷ []) (short bytes t same small) (search rules) reads in
    rw (table_there t 3 type.0 type.1, number_there type.0 0 2 0 1 (type.2.slots 0)) refl
type_back laws bytes t kinds.Timestamp same small valid reads =
    let type = laws.table t 3 3 (Number 0 2 2 ∷ []) (short bytes t same small) (search rules) reads in
    rw (table_there t 3 type.0 type.1, number_there type.0 0 2 2 0 (type.2.slots 0), (laws.absence type.0 1 (type.2.slots 1)).text) refl
type_back laws bytes t (kinds.Decimal precision scale) same small valid reads =
    let type = laws.table t 3 3 (Number 0 4 precision ∷ Number 1 4 scale ∷ Number 2 4 128 ∷ []) (short bytes t same small) (search rules) reads in
    let digits : precision % 256 ^ 4 ≡ precision = mod-eq_of_lt (omega (arith, valid.within)) in
    let behind : scale % 256 ^ 4 ≡ scale = mod-eq_of_lt (omega (arith, valid.within, valid.scaled)) in
    let first = number_there type.0 0 4 (precision % 256 ^ 4) 0 (type.2.slots 0) ∙ ap (λ n. Ok n) digits in
    let second = number_there type.0 1 4 (scale % 256 ^ 4) 0 (type.2.slots 1) ∙ ap (λ n. Ok n) behind in
    rw (table_there t 3 type.0 type.1, first, second, number_there type.0 2 4 128 128 (type.2.slots 2), decimal_test precision scale valid) refl

-- the parts of a field
abbrev field_parts : List ℕ → Ty → List Part
field_parts name ty =
    Offset 0 (text_laid name) ∷ Number 1 1 (if ty.nullable then 1 else 0) ∷ Number 2 1 (type_tag ty.kind)
    ∷ Offset 3 (type_laid ty.kind) ∷ Offset 5 (tables_laid []) ∷ []

-- the type table of a kind is near
near_type : Laws → (kind : Kind) → IsNear (type_laid kind)
near_type laws kinds.Bool = laws.near.table [] tt
near_type laws kinds.I8 = laws.near.table (int_parts 8) (search rules)
near_type laws kinds.I16 = laws.near.table (int_parts 16) (search rules)
near_type laws kinds.I32 = laws.near.table (int_parts 32) (search rules)
near_type laws kinds.I64 = laws.near.table (int_parts 64) (search rules)
near_type laws kinds.Text = laws.near.table [] tt
near_type laws kinds.Binary = laws.near.table [] tt
near_type laws kinds.Date = laws.near.table (Number 0 2 0 ∷ []) (search rules)
near_type laws kinds.Timestamp = laws.near.table (Number 0 2 2 ∷ []) (search rules)
near_type laws (kinds.Decimal precision scale) = laws.near.table (Number 0 4 precision ∷ Number 1 4 scale ∷ Number 2 4 128 ∷ []) (search rules)

field_sound : Laws → (name : List ℕ) (ty : Ty) → AreParts 0 (field_parts name ty)
field_sound laws name ty =
    let text = laws.near.text name in
    let type = near_type laws ty.kind in
    let children = laws.near.tables [] in search rules

-- a tag reads back
tag_back : (t : TableAt) (kind : Kind) → scalar_of t 2 1 ≡ Ok (Some (type_tag kind % 256 ^ 1)) → number_in t 2 1 0 ≡ Ok (type_tag kind)
tag_back t kind h =
    let low : type_tag kind % 256 ^ 1 ≡ type_tag kind = elim kind as (λ k. type_tag k % 256 ^ 1 ≡ type_tag k) [
      | kinds.Bool ↦ refl
      | kinds.I8 ↦ refl
      | kinds.I16 ↦ refl
      | kinds.I32 ↦ refl
      | kinds.I64 ↦ refl
      | kinds.Text ↦ refl
      | kinds.Binary ↦ refl
      | kinds.Date ↦ refl
      | kinds.Timestamp ↦ refl
      | kinds.Decimal precision scale ↦ refl
    ] in number_there t 2 1 (type_tag kind % 256 ^ 1) 0 h ∙ ap (λ n. Ok n) low

-- whether a field is nullable reads back
nullable_back : (t : TableAt) (b : Bool) → scalar_of t 1 1 ≡ Ok (Some ((if b then 1 else 0) % 256 ^ 1)) → number_in t 1 1 0 ≡ Ok (if b then 1 else 0)
nullable_back t true h = number_there t 1 1 1 0 h
nullable_back t false h = number_there t 1 1 0 0 h

not_zero : (b : Bool) → not ((if b then 1 else 0) == 0) ≡ b
not_zero true = refl
not_zero false = refl

-- the shape of a field
shape_back : Laws → (bytes : List ℕ) (t : TableAt) (name : List ℕ) (ty : Ty) → length bytes < 2 ^ 31 → IsKind ty.kind → IsTableOf bytes (field_parts name ty) t
    → shape_in t ≡ Ok (Some (Known ty.kind layouts.Plain))
unfolding shape_in encoding_in
shape_back laws bytes t name ty small valid table =
    rw (tag_back t ty.kind (table.slots 2), type_back laws bytes t ty.kind table.same small valid (table.slots 3), (laws.absence t 4 (table.slots 4)).table) refl

-- a field
field_back : Laws → (bytes : List ℕ) (t : TableAt) (name : List ℕ) (ty : Ty) → length bytes < 2 ^ 31 → IsKind ty.kind → IsTableOf bytes (field_parts name ty) t
    → field_in t ≡ Ok (record { name = name; nullable = ty.nullable; shape = Some (Known ty.kind layouts.Plain) })
unfolding field_in
field_back laws bytes t name ty small valid table =
    let text = laws.text t 0 0 name (short bytes t table.same small) (table.slots 0) in
    rw (text, nullable_back t ty.nullable (table.slots 1), shape_back laws bytes t name ty small valid table, not_zero ty.nullable) refl

-- the fields of names and types
abbrev field_of : List ℕ → Ty → Field
field_of name ty = record { name = name; nullable = ty.nullable; shape = Some (Known ty.kind layouts.Plain) }

abbrev fields_of : List (List ℕ) → List Ty → List Field
fields_of (name ∷ names) (ty ∷ types) = field_of name ty ∷ fields_of names types
fields_of _ _ = []

-- they are columns whose shape is known
columns_back : (i : ℕ) (names : List (List ℕ)) (types : List Ty) → columns_from i (fields_of names types) ≡ Ok (columns_of names types)
columns_back i [] types = refl
columns_back i (name ∷ names) [] = refl
columns_back i (name ∷ names) (ty ∷ types) = rw (columns_back (suc i) names types) refl

-- as many as names
length-fields_laid : (names : List (List ℕ)) (types : List Ty) → length names ≡ length types → length (fields_laid names types) ≡ length names
length-fields_laid [] types same = refl
length-fields_laid (name ∷ names) [] same = absurd (omega arith)
length-fields_laid (name ∷ names) (ty ∷ types) same = let rest = length-fields_laid names types (omega arith) in omega (arith, rest)

length-fields_of : (names : List (List ℕ)) (types : List Ty) → length names ≡ length types → length (fields_of names types) ≡ length names
length-fields_of [] types same = refl
length-fields_of (name ∷ names) [] same = absurd (omega arith)
length-fields_of (name ∷ names) (ty ∷ types) same = let rest = length-fields_of names types (omega arith) in omega (arith, rest)

-- the field at a place
laid_at : (names : List (List ℕ)) (types : List Ty) (k : ℕ) (ty : Ty) → length names ≡ length types → k < length names
    → slice_get (fields_laid names types) k ≡ Some (field_laid (get_or names k []) (get_or types k ty))
laid_at [] types k ty same below = absurd (omega arith)
laid_at (name ∷ names) [] k ty same below = absurd (omega arith)
laid_at (name ∷ names) (first ∷ types) zero ty same below = refl
laid_at (name ∷ names) (first ∷ types) (suc k) ty same below = laid_at names types k ty (omega arith) (omega arith)

field_of_at : (names : List (List ℕ)) (types : List Ty) (k : ℕ) (ty : Ty) (d : Field) → length names ≡ length types → k < length names
    → get_or (fields_of names types) k d ≡ field_of (get_or names k []) (get_or types k ty)
field_of_at [] types k ty d same below = absurd (omega arith)
field_of_at (name ∷ names) [] k ty d same below = absurd (omega arith)
field_of_at (name ∷ names) (first ∷ types) zero ty d same below = refl
field_of_at (name ∷ names) (first ∷ types) (suc k) ty d same below = field_of_at names types k ty d (omega arith) (omega arith)

-- the fields are near
fields_near : Laws → (names : List (List ℕ)) (types : List Ty) → length names ≡ length types → AreNear (fields_laid names types)
fields_near laws names types same k d below =
    let within : k < length names = omega (arith, length-fields_laid names types same) in
    let ty : Ty = record { kind = kinds.Bool; nullable = false } in
    let here = get_or_from_slice_get (fields_laid names types) k (field_laid (get_or names k []) (get_or types k ty)) d (laid_at names types k ty same within) in
    let P : Laid → Type 0 = λ object. IsNear object in
    subst P (sym here) (laws.near.table (field_parts (get_or names k []) (get_or types k ty)) (field_sound laws (get_or names k []) (get_or types k ty)))

-- the fields of a schema
fields_back : Laws → (bytes : List ℕ) (t : TableAt) (names : List (List ℕ)) (types : List Ty) → length bytes < 2 ^ 31 → length names ≡ length types → All (λ ty. IsKind ty.kind) types
    → IsTableOf bytes (Number 0 2 0 ∷ Offset 1 (tables_laid (fields_laid names types)) ∷ []) t → fields_in t ≡ Ok (fields_of names types)
unfolding fields_in field_at
fields_back laws bytes t names types small same valid table =
    let endianness = number_there t 0 2 0 0 (table.slots 0) in
    let found = laws.tables t 1 1 (fields_laid names types) (short bytes t table.same small) (fields_near laws names types same) (table.slots 1) in
    let vector = found.0 in
    let short_vector : length vector.bytes < 2 ^ 31 = omega (arith, ap length found.2.same, ap length table.same) in
    let ty : Ty = record { kind = kinds.Bool; nullable = false } in
    let count : vector.count ≡ length (fields_of names types) = found.2.count ∙ length-fields_laid names types same ∙ sym (length-fields_of names types same) in
    let each = collect_all (field_at vector) 0 (fields_of names types) (λ k d below.
    let within : k < length names = omega (arith, length-fields_of names types same) in
    let name = get_or names k [] in
    let type = get_or types k ty in
    let P : Option Laid → Type 0 = λ o. ReadsItem vector k o in
    let item = laws.item vector k (field_parts name type) short_vector (field_sound laws name type) (subst P (laid_at names types k ty same within) (found.2.items k)) in
    let kind = valid k ty (omega arith) in
    let read = field_back laws vector.bytes item.0 name type short_vector kind item.2 in
    let place : 0 + k ≡ k = zero-add k in
    let here : field_at vector k ≡ Ok (field_of name type) = rw item.1 read in
    ap (field_at vector) place ∙ here ∙ ap (λ f. Ok f) (sym (field_of_at names types k ty d same within))) in
    rw (endianness, found.1) (ap (λ n. collect (map (field_at vector) (range_with_len 0 n))) count ∙ each)

-- the blocks in a slot
blocks_back : Laws → (t : TableAt) (slot : ℕ) (blocks : List Block) → length t.bytes < 2 ^ 31 → All IsBlock blocks
    → ReadsSlot t slot (Some (Offset slot (structs_laid 24 (flat_map block_bytes (map place_of blocks))))) → blocks_in t slot ≡ Ok blocks
unfolding blocks_in block_at
blocks_back laws t slot blocks small fits reads =
    let bytes = flat_map block_bytes (map place_of blocks) in
    let found = laws.structs t slot slot 24 bytes small (blocks_are_structs bytes (map place_of blocks) refl) reads in
    let long = blocks_length (map place_of blocks) in
    let count : found.0.count ≡ length blocks = omega (arith, found.2.count, long, length-map blocks place_of) in
    let each = flat_map-map block_bytes place_of blocks in
    rw found.1 (ap (λ xs. Ok xs) (structs_back (λ block. block_bytes (place_of block)) block_in 24 found.0.count (item_of found.0) blocks (λ block. refl) count
    (λ i below. found.2.items i below ∙ ap (λ all. take 24 (drop (24 * i) all)) each) (λ k d below. block_back (get_or blocks k d) (fits k d below))))

-- the schema of a footer
schema_parts : List (List ℕ) → List Ty → List Part
schema_parts names types = Number 0 2 0 ∷ Offset 1 (tables_laid (fields_laid names types)) ∷ []

-- a footer
pub footer_back : Laws → (names : List (List ℕ)) (types : List Ty) (blocks : List Block) → length names ≡ length types → All (λ ty. IsKind ty.kind) types → All IsBlock blocks
    → length (buffer_of (footer_laid names types (map place_of blocks))) < 2 ^ 31
    → footer_in (buffer_of (footer_laid names types (map place_of blocks))) ≡ Ok (written_footer names types blocks)
unfolding footer_in schema_parts
footer_back laws names types blocks same valid fits small =
    let schema = schema_parts names types in
    let structs = structs_laid 24 (flat_map block_bytes (map place_of blocks)) in
    let parts = Number 0 2 4 ∷ Offset 1 (table_laid schema) ∷ Offset 2 (structs_laid 24 []) ∷ Offset 3 structs ∷ [] in
    let near_fields = laws.near.tables (fields_laid names types) in
    let near_schema = laws.near.table schema (search rules) in
    let near_none = laws.near.structs 24 [] in
    let near_blocks = laws.near.structs 24 (flat_map block_bytes (map place_of blocks)) in
    let root = laws.root parts (search rules) small in
    let bytes = buffer_of (table_laid parts) in
    let is_short = short bytes root.0 root.2.same small in
    let version = number_there root.0 0 2 4 0 (root.2.slots 0) in
    let found = laws.table root.0 1 1 schema is_short (search rules) (root.2.slots 1) in
    let table = same_table bytes schema root.0 found.0 root.2.same found.2 in
    let fields = fields_back laws bytes found.0 names types small same valid table in
    let none = blocks_back laws root.0 2 [] is_short (λ k d below. absurd (omega arith)) (root.2.slots 2) in
    let some = blocks_back laws root.0 3 blocks is_short fits (root.2.slots 3) in
    rw (root.1, version, table_there root.0 1 found.0 found.1, fields, none, some, columns_back 0 names types) refl
