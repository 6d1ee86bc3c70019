-- The blocks of a file lie where its messages stand, and say what was written.
use Rattle.std.proofs.Common.{◌≡◌, ◌∙◌, ℕ, zero, suc, ◌+◌, ◌^◌, ◌<◌, ◌≤◌, pos, List, [], ◌∷◌, ◌++◌, Bool, true, false, Some, Ok, length, get_or, map, refl, sym, ap, subst, arith, append_assoc, length-append, nat_le, FitsSigned, if◌then◌else◌}
use Rattle.std.proofs.lemmas.List.Sums.{sum_by-le}
use Rattle.std.specs.List.{flat_map, All}
use Rattle.std.specs.Int.{w32, w64}
use Rattle.std.proofs.lemmas.Bool.{le-leb}
use Rattle.std.proofs.lemmas.Int.{fits_signed_from_abs}
use Rattle.std.proofs.lemmas.List.{length-map}
use Rattle.std.proofs.lemmas.List.Elements.{All-cons, All-nil}
use Rattle.fb_bytes.specs.Layout.{buffer_of, filled}
use Rattle.fb_bytes.proofs.TableLemmas.{round_up-least, length-filled}
use Rattle.fb_bytes.proofs.LawProofs.{near_laws, root_law, table_law, tables_law, structs_law, text_law, item_law, absence_law}
use Rattle.sub_types.specs.declared.kind.Ty.{Ty}
use Rattle.sub_types.specs.declared.value.Value.{Value}
use Rattle.sub_types.specs.declared.value.Value.TheVariants as values
use Rattle.arrow_meta.specs.declared.meta.Block.{Block}
use Rattle.arrow_meta.specs.declared.meta.RecordMeta.{RecordMeta}
use Rattle.arrow_meta.specs.Buffers.{column_at, batch_buffers, batch_nodes, null_count, is_valid, body_of, buffer_places}
use Rattle.arrow_meta.specs.Messages.{Place, record_message}
use Rattle.arrow_meta.specs.Meta.{unsigned_pair, record_of, place_of}
use Rattle.arrow_meta.specs.File.{framed, batch_metadata, batch_body, batch_message, blocks_from}
use Rattle.arrow_meta.specs.Places.{place_in, metadata_in, body_in}
use Rattle.arrow_meta.specs.Message.{record_in}
use Rattle.arrow_meta.specs.Head.{record_at, block_body}
use Rattle.arrow_meta.specs.Written.{IsPair, IsMeta, IsBlock}
use Rattle.arrow_meta.proofs.ColumnLaws.{nodes_from}
use Rattle.arrow_meta.proofs.MessageBack.{Laws, record_back}
use Rattle.arrow_law.proofs.BodyBack.{signed_pair}
use Rattle.arrow_law.proofs.BatchBack.{meta_of}
use Rattle.arrow_law.proofs.Sizes.{metadata_some}
use Rattle.arrow_law.proofs.Ends.{message_place, metadata_back, body_back}

-- the laws of the layout
pub laws : Laws
laws = record { root = root_law; table = table_law; tables = tables_law; item = item_law; structs = structs_law; text = text_law; absence = absence_law; near = near_laws }

-- a place as a block
abbrev pub block_of : Place → Block
block_of place = record { offset = pos place.offset; meta_len = pos place.meta_len; body_len = pos place.body_len }

pub places_back : (places : List Place) → map place_of (map block_of places) ≡ places
places_back [] = refl
places_back (place ∷ places) = ap (λ rest. place ∷ rest) (places_back places)

pairs_unsigned : (pairs : List (ℕ × ℕ)) → map unsigned_pair (map signed_pair pairs) ≡ pairs
pairs_unsigned [] = refl
pairs_unsigned (pair ∷ pairs) = ap (λ rest. pair ∷ rest) (pairs_unsigned pairs)

-- numbers below 2^63
fits64 : (n : ℕ) → n < 2 ^ 63 → FitsSigned w64 (pos n)
fits64 n low = fits_signed_from_abs w64 (pos n) low

fits32 : (n : ℕ) → n < 2 ^ 31 → FitsSigned w32 (pos n)
fits32 n low = fits_signed_from_abs w32 (pos n) low

pair_fits : (a b : ℕ) → a < 2 ^ 63 → b < 2 ^ 63 → IsPair (pos a, pos b)
pair_fits a b low high = record { first = fits64 a low; second = fits64 b high }

at_most_one : (b : Bool) → (if b then 0 else 1) ≤ 1
at_most_one true = omega arith
at_most_one false = omega arith

-- no more nulls than values
nulls_few : (column : List Value) → null_count column ≤ length column
nulls_few column =
    let least = sum_by-le (λ value. if is_valid value then 0 else 1) 1 column (λ k d below. at_most_one (is_valid (get_or column k d))) in omega (arith, least)

nodes_fit : (i : ℕ) (types : List Ty) (rows : List (List Value)) → length rows < 2 ^ 63 → All IsPair (map signed_pair (nodes_from i types rows))
nodes_fit i [] rows low = All-nil IsPair
nodes_fit i (ty ∷ types) rows low =
    let nulls = nulls_few (column_at i rows) in
    let long = length-map rows (λ row. get_or row i values.Null) in
    All-cons IsPair (pos (length rows), pos (null_count (column_at i rows))) (map signed_pair (nodes_from (i + 1) types rows))
    (pair_fits (length rows) (null_count (column_at i rows)) low (omega (arith, low, nulls, long)))
    (nodes_fit (i + 1) types rows low)

places_fit : (place : ℕ) (buffers : List (List ℕ)) → place + length (body_of buffers) < 2 ^ 63 → All IsPair (map signed_pair (buffer_places place buffers))
places_fit place [] low = All-nil IsPair
places_fit place (buffer ∷ buffers) low =
    let all = length-append (filled buffer) (body_of buffers) in
    let own = length-filled buffer in
    let least = round_up-least (length buffer) in
    All-cons IsPair (pos place, pos (length buffer)) (map signed_pair (buffer_places (place + length (filled buffer)) buffers))
    (pair_fits place (length buffer) (omega (arith, low)) (omega (arith, low, all, own, least)))
    (places_fit (place + length (filled buffer)) buffers (omega (arith, low, all)))

-- the numbers of a batch have their widths
meta_fits : (types : List Ty) (rows : List (List Value)) → length rows ≤ 1024 → length (batch_body types rows) < 2 ^ 63 → IsMeta (meta_of types rows)
meta_fits types rows few short = record {
  length = fits64 (length rows) (omega (arith, few));
  nodes = nodes_fit 0 types rows (omega (arith, few));
  buffers = places_fit 0 (batch_buffers types rows) (omega (arith, short));
}

-- the metadata of a batch reads back
pub metadata_read : (types : List Ty) (rows : List (List Value)) → length rows ≤ 1024 → length (batch_body types rows) < 2 ^ 63 → length (batch_metadata types rows) < 2 ^ 31
    → record_in (batch_metadata types rows) ≡ Ok (meta_of types rows)
metadata_read types rows few short small =
    let meta : RecordMeta = meta_of types rows in
    let size : ℕ = length (batch_body types rows) in
    let same : record_of meta (pos size) ≡ record_message (length rows) (batch_nodes types rows) (buffer_places 0 (batch_buffers types rows)) size =
    ap (λ nodes. record_message (length rows) nodes (map unsigned_pair meta.buffers) size) (pairs_unsigned (batch_nodes types rows))
    ∙ ap (λ buffers. record_message (length rows) (batch_nodes types rows) buffers size) (pairs_unsigned (buffer_places 0 (batch_buffers types rows))) in
    let low : length (buffer_of (record_of meta (pos size))) < 2 ^ 31 = omega (arith, ap (λ l. length (buffer_of l)) same, small) in
    ap (λ l. record_in (buffer_of l)) (sym same) ∙ record_back laws meta (pos size) (meta_fits types rows few short) low

-- a batch whose message stands in the bytes, before some of them
pub record StandsIn (bytes : List ℕ) (types : List Ty) (rows : List (List Value)) (place : Place) (room : ℕ) : Type 0 where
  pub front : List ℕ
  pub back : List ℕ
  pub stands : bytes ≡ front ++ (batch_message types rows ++ back)
  pub lies : place ≡ message_place front (batch_metadata types rows) (batch_body types rows)
  pub before : room ≤ length back

-- messages that follow one another stand at their blocks
pub stands_at : (types : List Ty) (before : List ℕ) (batches : List (List (List Value))) (after bytes : List ℕ) (place : ℕ) (k : ℕ) (p : Place) (d : List (List Value))
    → length before ≡ place → bytes ≡ before ++ (flat_map (batch_message types) batches ++ after) → k < length batches
    → StandsIn bytes types (get_or batches k d) (get_or (blocks_from place types batches) k p) (length after)
stands_at types before [] after bytes place k p d long same below = absurd (omega arith)
stands_at types before (rows ∷ batches) after bytes place zero p d long same below = record {
  front = before;
  back = flat_map (batch_message types) batches ++ after;
  stands = same ∙ ap (λ all. before ++ all) (append_assoc (batch_message types rows) (flat_map (batch_message types) batches) after);
  lies = ap (λ n. record { offset = n; meta_len = length (batch_metadata types rows) + 8; body_len = length (batch_body types rows) }) (sym long);
  before = omega (arith, length-append (flat_map (batch_message types) batches) after);
}
stands_at types before (rows ∷ batches) after bytes place (suc k) p d long same below =
    let message : List ℕ = batch_message types rows in
    let others : List ℕ = flat_map (batch_message types) batches in
    stands_at types (before ++ message) batches after bytes (place + length message) k p d
    (length-append before message ∙ ap (λ n. n + length message) long)
    (same ∙ ap (λ all. before ++ all) (append_assoc message others after) ∙ sym (append_assoc before message (others ++ after))) (omega arith)

pub length-blocks_from : (place : ℕ) (types : List Ty) (batches : List (List (List Value))) → length (blocks_from place types batches) ≡ length batches
length-blocks_from place types [] = refl
length-blocks_from place types (rows ∷ batches) = ap (λ n. suc n) (length-blocks_from (place + length (batch_message types rows)) types batches)

-- a block that lies before the footer
place_read : (bytes : List ℕ) (types : List Ty) (rows : List (List Value)) (place : Place) (room footer : ℕ) → StandsIn bytes types rows place room
    → length bytes ≤ footer + room → place_in footer (block_of place) ≡ Some place
unfolding place_in batch_message
place_read bytes types rows place room footer it ends =
    let metadata : List ℕ = batch_metadata types rows in
    let body : List ℕ = batch_body types rows in
    let here : Place = message_place it.front metadata body in
    let all : length bytes ≡ length it.front + (length (framed metadata body) + length it.back) =
    ap length it.stands ∙ length-append it.front (framed metadata body ++ it.back) ∙ ap (λ n. length it.front + n) (length-append (framed metadata body) it.back) in
    let message : length (framed metadata body) ≡ 8 + (length metadata + length body) = omega (arith, length-append metadata body) in
    let eight : nat_le 8 (length metadata + 8) ≡ true = le-leb 8 (length metadata + 8) (omega arith) in
    let within : nat_le (length it.front + (length metadata + 8) + length body) footer ≡ true =
    le-leb (length it.front + (length metadata + 8) + length body) footer (omega (arith, all, message, ends, it.before)) in
    let found : place_in footer (block_of here) ≡ Some here = rw (eight, within) refl in
    ap (λ p. place_in footer (block_of p)) it.lies ∙ found ∙ ap (λ p. Some p) (sym it.lies)

-- what a block says, and its body
pub record_read : (bytes : List ℕ) (types : List Ty) (rows : List (List Value)) (place : Place) (room footer : ℕ) → StandsIn bytes types rows place room
    → length bytes ≤ footer + room → length rows ≤ 1024 → length bytes < 2 ^ 63 → length (batch_metadata types rows) < 2 ^ 31
    → record_at bytes footer (block_of place) ≡ Ok (meta_of types rows)
unfolding record_at batch_message
record_read bytes types rows place room footer it ends few short small =
    let metadata : List ℕ = batch_metadata types rows in
    let body : List ℕ = batch_body types rows in
    let all : length bytes ≡ length it.front + (length (framed metadata body) + length it.back) =
    ap length it.stands ∙ length-append it.front (framed metadata body ++ it.back) ∙ ap (λ n. length it.front + n) (length-append (framed metadata body) it.back) in
    let message : length (framed metadata body) ≡ 8 + (length metadata + length body) = omega (arith, length-append metadata body) in
    let found : metadata_in bytes place ≡ Some metadata =
    ap (metadata_in bytes) it.lies ∙ metadata_back it.front metadata body it.back bytes it.stands (omega (arith, metadata_some types rows)) small in
    rw (place_read bytes types rows place room footer it ends, found) (metadata_read types rows few (omega (arith, all, message, short)) small)

pub body_read : (bytes : List ℕ) (types : List Ty) (rows : List (List Value)) (place : Place) (room footer : ℕ) → StandsIn bytes types rows place room
    → length bytes ≤ footer + room → block_body bytes footer (block_of place) ≡ batch_body types rows
unfolding block_body batch_message
body_read bytes types rows place room footer it ends =
    let metadata : List ℕ = batch_metadata types rows in
    let body : List ℕ = batch_body types rows in
    rw (place_read bytes types rows place room footer it ends) (ap (body_in bytes) it.lies ∙ body_back it.front metadata body it.back bytes it.stands)

-- the numbers of the block have their widths
pub block_fits : (bytes : List ℕ) (types : List Ty) (rows : List (List Value)) (place : Place) (room : ℕ) → StandsIn bytes types rows place room
    → length bytes < 2 ^ 63 → length (batch_metadata types rows) + 8 < 2 ^ 31 → IsBlock (block_of place)
unfolding batch_message
block_fits bytes types rows place room it short small =
    let metadata : List ℕ = batch_metadata types rows in
    let body : List ℕ = batch_body types rows in
    let all : length bytes ≡ length it.front + (length (framed metadata body) + length it.back) =
    ap length it.stands ∙ length-append it.front (framed metadata body ++ it.back) ∙ ap (λ n. length it.front + n) (length-append (framed metadata body) it.back) in
    let message : length (framed metadata body) ≡ 8 + (length metadata + length body) = omega (arith, length-append metadata body) in
    let P : Place → Type 0 = λ p. IsBlock (block_of p) in
    subst P (sym it.lies) (record {
      offset = fits64 (length it.front) (omega (arith, all, short));
      meta_len = fits32 (length metadata + 8) small;
      body_len = fits64 (length body) (omega (arith, all, message, short));
    })
