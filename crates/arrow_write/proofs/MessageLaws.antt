-- The message of a record batch from its body.
use Rattle.std.proofs.Common.{◌≡◌, ◌+◌, ◌*◌, ◌^◌, ◌<◌, ◌≤◌, ◌∙◌, ℕ, ℤ, List, [], ◌∷◌, length, map, sym, ap, refl, arith}
use Rattle.std.specs.Int.{w32, w64, cast_unsigned}
use Rattle.std.proofs.lemmas.Int.{of_z-to_z}
use mir.Val.{to_z, of_z}
use Rattle.std.proofs.lemmas.List.{length-map, length-append}
use Rattle.fb_bytes.specs.Layout.{buffer_of, filled}
use Rattle.sub_types.specs.declared.kind.Kind.{Kind}
use Rattle.sub_types.specs.declared.kind.Kind.TheVariants as kinds
use Rattle.sub_types.specs.declared.kind.Ty.{Ty}
use Rattle.sub_types.specs.declared.value.Value.{Value}
use Rattle.arrow_meta.specs.Buffers.{column_buffers, column_at, batch_buffers, batch_nodes, buffer_places, body_of}
use Rattle.arrow_meta.specs.Messages.{record_message}
use Rattle.arrow_meta.specs.Meta.{unsigned_pair}
use Rattle.arrow_meta.specs.File.{batch_message, batch_metadata, framed}
use Rattle.arrow_meta.proofs.ColumnLaws.{buffers_from, length-nodes_from}
use Rattle.arrow_write.specs.declared.body.Body.{Body}
use Rattle.arrow_write.specs.declared.message.Message.{Message}
use Rattle.arrow_write.specs.Bodies.{HasRows}
use Rattle.arrow_write.specs.Progress.{IsMessage}

-- a number that is kept as a signed one
pub kept_number : (n : ℕ) (z : ℤ) → z ≡ to_z w64 n → n < 2 ^ 64 → cast_unsigned w64 (to_z w64 (of_z w64 z)) ≡ n
kept_number n z is small = ap (λ k. of_z w64 (to_z w64 (of_z w64 k))) is ∙ ap (λ k. of_z w64 (to_z w64 k)) (of_z-to_z w64 n small) ∙ of_z-to_z w64 n small

pub kept_number32 : (n : ℕ) (z : ℤ) → z ≡ to_z w32 n → n < 2 ^ 32 → cast_unsigned w32 (to_z w32 (of_z w32 z)) ≡ n
kept_number32 n z is small = ap (λ k. of_z w32 (to_z w32 (of_z w32 k))) is ∙ ap (λ k. of_z w32 (to_z w32 k)) (of_z-to_z w32 n small) ∙ of_z-to_z w32 n small

-- a column has at most three buffers
few_of_column : (kind : Kind) (column : List Value) → length (column_buffers kind column) ≤ 3
few_of_column kinds.Text column = omega arith
few_of_column kinds.Binary column = omega arith
few_of_column _ column = omega arith

few_of_columns : (i : ℕ) (types : List Ty) (rows : List (List Value)) → length (buffers_from i types rows) ≤ 3 * length types
few_of_columns i [] rows = omega arith
few_of_columns i (ty ∷ types) rows =
    let rest = few_of_columns (i + 1) types rows in
    let first = column_buffers ty.kind (column_at i rows) in
    omega (arith, rest, few_of_column ty.kind (column_at i rows), length-append first (buffers_from (i + 1) types rows))

length-places : (place : ℕ) (buffers : List (List ℕ)) → length (buffer_places place buffers) ≡ length buffers
length-places place [] = refl
length-places place (buffer ∷ buffers) = let rest = length-places (place + length (filled buffer)) buffers in omega (arith, rest)

pub few_nodes : (types : List Ty) (rows : List (List Value)) (body : Body) → HasRows types rows body → length types ≤ 1024 → length body.nodes.items ≤ 1024
few_nodes types rows body has few = omega (arith, few, length-map body.nodes.items unsigned_pair, ap length has.nodes, length-nodes_from 0 types rows)

pub few_places : (types : List Ty) (rows : List (List Value)) (body : Body) → HasRows types rows body → length types ≤ 1024 → length body.places.items ≤ 3072
few_places types rows body has few =
    omega (arith, few, length-map body.places.items unsigned_pair, ap length has.places, length-places 0 (batch_buffers types rows), few_of_columns 0 types rows)

pub message_is : (types : List Ty) (rows : List (List Value)) (body : Body) (message : Message) (metadata : List ℕ) (count : ℕ) (len body_len : ℤ) (nodes places : List (ℤ × ℤ))
    → HasRows types rows body → length rows ≡ count → cast_unsigned w64 len ≡ count → nodes ≡ body.nodes.items → places ≡ body.places.items → cast_unsigned w64 body_len ≡ length body.bytes.items
    → metadata ≡ buffer_of (record_message (cast_unsigned w64 len) (map unsigned_pair nodes) (map unsigned_pair places) (cast_unsigned w64 body_len))
    → message.bytes.items ≡ framed metadata body.bytes.items → message.meta_len ≡ length metadata → message.body_len ≡ length body.bytes.items → message.meta_len < 2 ^ 31 → IsMessage types rows message
unfolding batch_message
message_is types rows body message metadata count len body_len nodes places has long count_is nodes_are places_are body_len_is metadata_is bytes_are meta_len_is body_is small =
    let buffers = batch_buffers types rows in
    let n : cast_unsigned w64 len ≡ length rows = count_is ∙ sym long in
    let ns : map unsigned_pair nodes ≡ batch_nodes types rows = ap (map unsigned_pair) nodes_are ∙ has.nodes in
    let ps : map unsigned_pair places ≡ buffer_places 0 buffers = ap (map unsigned_pair) places_are ∙ has.places in
    let b : cast_unsigned w64 body_len ≡ length (body_of buffers) = body_len_is ∙ ap length has.bytes in
    let same : metadata ≡ batch_metadata types rows =
    metadata_is ∙ ap (λ k. buffer_of (record_message k (map unsigned_pair nodes) (map unsigned_pair places) (cast_unsigned w64 body_len))) n
    ∙ ap (λ k. buffer_of (record_message (length rows) k (map unsigned_pair places) (cast_unsigned w64 body_len))) ns
    ∙ ap (λ k. buffer_of (record_message (length rows) (batch_nodes types rows) k (cast_unsigned w64 body_len))) ps
    ∙ ap (λ k. buffer_of (record_message (length rows) (batch_nodes types rows) (buffer_places 0 buffers) k)) b in
    record {
      bytes = bytes_are ∙ ap (λ m. framed m body.bytes.items) same ∙ ap (framed (batch_metadata types rows)) has.bytes;
      meta_len = meta_len_is ∙ ap length same;
      body_len = body_is ∙ ap length has.bytes;
      small = small;
    }
