-- What was laid out as a record batch message reads back.
use Rattle.std.proofs.Common.{rules, ◌≡◌, ◌∙◌, ℕ, ◌*◌, ◌^◌, ◌<◌, ◌%◌, ℤ, List, [], ◌∷◌, length, map, take, drop, get_or, Some, None, Ok, refl, ap, subst, arith, FitsSigned}
use Rattle.std.specs.List.{flat_map, All}
use Rattle.std.specs.Int.{w64, cast_unsigned}
use Rattle.std.proofs.Math.Nat.{mod-eq_of_lt}
use Rattle.std.proofs.Math.Facts.{to_z-of_z, Fits-of_z, Fits-lt-pow}
use Rattle.std.proofs.lemmas.List.{length-map}
use Rattle.fb_bytes.specs.Layout.{Part, Number, Offset, table_laid, structs_laid, buffer_of}
use Rattle.fb_bytes.specs.Reading.{TableAt, scalar_of, table_of, item_of}
use Rattle.fb_bytes.specs.ReadBack.{AreParts, ReadsSlot, IsTableOf, IsNear}
use Rattle.fb_bytes.specs.Laws.{RootReadsBack, TableReadsBack, TablesReadBack, ItemReadsBack, StructsReadBack, TextReadsBack, AbsenceReadsBack, LaidIsNear}
use Rattle.arrow_meta.specs.declared.meta.RecordMeta.{RecordMeta}
use Rattle.arrow_meta.specs.Messages.{message_laid, pair_bytes}
use Rattle.arrow_meta.specs.Meta.{unsigned_pair, record_of}
use Rattle.arrow_meta.specs.Looked.{number_in, table_in}
use Rattle.arrow_meta.specs.Message.{header_in, pair_in, pair_at, pairs_in, batch_in, record_in}
use Rattle.arrow_meta.specs.Written.{IsPair, IsMeta}
use Rattle.arrow_meta.proofs.Lengths.{pairs_length, pairs_are_structs}
use Rattle.arrow_meta.proofs.BackLaws.{pair_back, structs_back, flat_map-map}

-- the laws of the layout
pub record Laws : Type 0 where
  pub root : RootReadsBack
  pub table : TableReadsBack
  pub tables : TablesReadBack
  pub item : ItemReadsBack
  pub structs : StructsReadBack
  pub text : TextReadsBack
  pub absence : AbsenceReadsBack
  pub near : LaidIsNear

-- a number that is there, and one that isn't
pub number_there : (t : TableAt) (slot width value default : ℕ) → scalar_of t slot width ≡ Ok (Some value) → number_in t slot width default ≡ Ok value
unfolding number_in
number_there t slot width value default h = rw h refl

pub number_absent : (t : TableAt) (slot width default : ℕ) → scalar_of t slot width ≡ Ok None → number_in t slot width default ≡ Ok default
unfolding number_in
number_absent t slot width default h = rw h refl

-- a table that is there
pub table_there : (t : TableAt) (slot : ℕ) (found : TableAt) → table_of t slot ≡ Ok (Some found) → table_in t slot ≡ Ok found
unfolding table_in
table_there t slot found h = rw h refl

-- a number of eight bytes
pub eight_there : (t : TableAt) (slot default : ℕ) (z : ℤ) → FitsSigned w64 z → scalar_of t slot 8 ≡ Ok (Some (cast_unsigned w64 z % 256 ^ 8)) → number_in t slot 8 default ≡ Ok (cast_unsigned w64 z)
eight_there t slot default z fits h =
    number_there t slot 8 (cast_unsigned w64 z % 256 ^ 8) default h ∙ ap (λ n. Ok n) (mod-eq_of_lt (Fits-lt-pow (Fits-of_z fits)))

pub same_table : (bytes : List ℕ) (parts : List Part) (t table : TableAt) → t.bytes ≡ bytes → IsTableOf t.bytes parts table → IsTableOf bytes parts table
same_table bytes parts t table same h = let P : List ℕ → Type 0 = λ b. IsTableOf b parts table in subst P same h

pub short : (bytes : List ℕ) (t : TableAt) → t.bytes ≡ bytes → length bytes < 2 ^ 31 → length t.bytes < 2 ^ 31
short bytes t same small = omega (arith, ap length same)

-- the header of a message
pub header_back : Laws → (parts : List Part) (body_len : ℕ) → AreParts 0 parts → length (buffer_of (message_laid 3 (table_laid parts) body_len)) < 2 ^ 31
    → (header : TableAt) × (header_in 3 (buffer_of (message_laid 3 (table_laid parts) body_len)) ≡ Ok header) × IsTableOf (buffer_of (message_laid 3 (table_laid parts) body_len)) parts header
unfolding header_in
header_back laws parts body_len sound small =
    let all = Number 0 2 4 ∷ Number 1 1 3 ∷ Offset 2 (table_laid parts) ∷ Number 3 8 body_len ∷ [] in
    let near : IsNear (table_laid parts) = laws.near.table parts sound in
    let root = laws.root all (search rules) small in
    let is_short = short (buffer_of (table_laid all)) root.0 root.2.same small in
    let header = laws.table root.0 2 2 parts is_short sound (root.2.slots 2) in
    let version = number_there root.0 0 2 4 0 (root.2.slots 0) in
    let tag = number_there root.0 1 1 3 0 (root.2.slots 1) in
    let found = table_there root.0 2 header.0 header.1 in
    (header.0, rw (root.1, version, tag, found) refl, same_table (buffer_of (table_laid all)) parts root.0 header.0 root.2.same header.2)

-- the parts of a record batch
abbrev pub record_parts : ℕ → List (ℕ × ℕ) → List (ℕ × ℕ) → List Part
record_parts rows nodes buffers =
    Number 0 8 rows ∷ Offset 1 (structs_laid 16 (flat_map pair_bytes nodes)) ∷ Offset 2 (structs_laid 16 (flat_map pair_bytes buffers)) ∷ []

-- the pairs in a slot
pub pairs_back : Laws → (t : TableAt) (slot : ℕ) (pairs : List (ℤ × ℤ)) → length t.bytes < 2 ^ 31 → All IsPair pairs
    → ReadsSlot t slot (Some (Offset slot (structs_laid 16 (flat_map pair_bytes (map unsigned_pair pairs))))) → pairs_in t slot ≡ Ok pairs
unfolding pairs_in pair_at
pairs_back laws t slot pairs small fits reads =
    let bytes = flat_map pair_bytes (map unsigned_pair pairs) in
    let found = laws.structs t slot slot 16 bytes small (pairs_are_structs bytes (map unsigned_pair pairs) refl) reads in
    let long = pairs_length (map unsigned_pair pairs) in
    let count : found.0.count ≡ length pairs = omega (arith, found.2.count, long, length-map pairs unsigned_pair) in
    let each = flat_map-map pair_bytes unsigned_pair pairs in
    rw found.1 (ap (λ xs. Ok xs) (structs_back (λ pair. pair_bytes (unsigned_pair pair)) pair_in 16 found.0.count (item_of found.0) pairs (λ pair. refl) count
    (λ i below. found.2.items i below ∙ ap (λ all. take 16 (drop (16 * i) all)) each) (λ k d below. pair_back (get_or pairs k d) (fits k d below))))

-- a record batch
pub batch_back : Laws → (bytes : List ℕ) (t : TableAt) (meta : RecordMeta) → length bytes < 2 ^ 31 → IsMeta meta
    → IsTableOf bytes (record_parts (cast_unsigned w64 meta.length) (map unsigned_pair meta.nodes) (map unsigned_pair meta.buffers)) t → batch_in t ≡ Ok meta
unfolding batch_in
batch_back laws bytes t meta small fits table =
    let is_short = short bytes t table.same small in
    let rows = eight_there t 0 0 meta.length fits.length (table.slots 0) in
    let nodes = pairs_back laws t 1 meta.nodes is_short fits.nodes (table.slots 1) in
    let buffers = pairs_back laws t 2 meta.buffers is_short fits.buffers (table.slots 2) in
    let compression = (laws.absence t 3 (table.slots 3)).table in
    let number = to_z-of_z fits.length in
    rw (rows, nodes, buffers, compression, number) refl

-- the message of a record batch
pub record_back : Laws → (meta : RecordMeta) (body_len : ℤ) → IsMeta meta → length (buffer_of (record_of meta body_len)) < 2 ^ 31 → record_in (buffer_of (record_of meta body_len)) ≡ Ok meta
unfolding record_in
record_back laws meta body_len fits small =
    let parts = record_parts (cast_unsigned w64 meta.length) (map unsigned_pair meta.nodes) (map unsigned_pair meta.buffers) in
    let nodes = laws.near.structs 16 (flat_map pair_bytes (map unsigned_pair meta.nodes)) in
    let buffers = laws.near.structs 16 (flat_map pair_bytes (map unsigned_pair meta.buffers)) in
    let header = header_back laws parts (cast_unsigned w64 body_len) (search rules) small in
    rw header.1 (batch_back laws (buffer_of (record_of meta body_len)) header.0 meta small fits header.2)
