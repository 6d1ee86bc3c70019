-- Messages one after the other: where they stand, and what a file holds meanwhile.
use Rattle.std.proofs.Common.{◌≡◌, ◌+◌, ◌-◌, ◌*◌, ◌/◌, ◌%◌, ◌^◌, ◌<◌, ◌∙◌, ℕ, List, [], ◌∷◌, ◌++◌, length, map, get_or, take, drop, min, max, replicate, Option, Some, None, unwrap_or, is_some, Bool, true, false, cond, inl, inr, sym, ap, refl, arith, append_assoc, append-nil}
use Rattle.std.specs.List.{flat_map}
use Rattle.std.specs.Ordering.{nat_cmp, is_eq, eq_by_cmp}
use Rattle.std.specs.Cmp.Lexicographic.{slice_cmp, nat_list_cmp_total}
use Rattle.std.specs.FinMap.{get, insert, get-insert, same_map, slice_cmp-IsAntisymmetric, nat_cmp-IsAntisymmetric}
use Rattle.std.proofs.lemmas.List.{length-append, length-drop, take_more, take_min, map_push, take-append-drop}
use Rattle.std.proofs.lemmas.List.Concat.{flat_map-append}
use Rattle.std.proofs.lemmas.List.Sums.{sum_by-cons}
use Rattle.std.proofs.Math.Pow.{field, mod-mod-pow}
use Rattle.std.specs.Int.{w32, w64, cast_unsigned}
use Rattle.std.specs.declared.cmp.Ordering.{Ordering}
use Rattle.std.specs.declared.cmp.Ordering.TheVariants.{Less, Equal, Greater}
use Rattle.std.proofs.lemmas.List.FromFn.{length-map-range_with_len, get_or-map-range_with_len}
use Rattle.byteorder.specs.Endian.{little_bytes}
use Rattle.world.specs.Files.{Files, appended, Has}
use Rattle.world.proofs.Writing.{get-insert_same, insert-insert}
use Rattle.sub_types.specs.declared.kind.Ty.{Ty}
use Rattle.sub_types.specs.declared.value.Value.{Value}
use Rattle.sub_types.specs.declared.value.Value.TheVariants.{Null}
use Rattle.batch.specs.declared.batch.Batch.{Batch}
use Rattle.batch.specs.BatchRows.{rows_of, columns_of}
use Rattle.batch.proofs.RowLaws.{length-transpose}
use Rattle.arrow_meta.specs.Messages.{block_bytes}
use Rattle.arrow_meta.specs.Meta.{place_of}
use Rattle.arrow_meta.specs.declared.meta.Block.{Block}
use Rattle.arrow_meta.specs.File.{batches as cut, batch_message, batch_metadata, blocks_from}
use Rattle.arrow_write.specs.declared.batches.Progress.{Progress}
use Rattle.arrow_write.specs.Cut.{rows_in}
use Rattle.arrow_write.specs.Pieces.{IsPartAppended}
use Rattle.arrow_write.specs.declared.message.Message.{Message}
use Rattle.arrow_write.specs.Progress.{IsMessage, Sends, block_at}
use Rattle.arrow_write.proofs.Parts.{prefix, front_only}

-- the blocks of these messages are kept, as the bytes that a footer has of them, and the end behind them
pub record Sent (types : List Ty) (batches : List (List (List Value))) (start : ℕ) (progress : Progress) : Type 0 where
  pub blocks : flat_map block_bytes (map place_of progress.blocks.items) ≡ flat_map block_bytes (blocks_from start types batches)
  pub end : progress.end % 2 ^ 64 ≡ (start + length (flat_map (batch_message types) batches)) % 2 ^ 64

blocks_from-push : (types : List Ty) (batches : List (List (List Value))) (rows : List (List Value)) (place : ℕ) → blocks_from place types (batches ++ rows ∷ []) ≡ blocks_from place types batches ++ block_at (place + length (flat_map (batch_message types) batches)) types rows ∷ []
blocks_from-push types [] rows place = let e : place ≡ place + 0 = omega arith in ap (λ p. block_at p types rows ∷ []) e
blocks_from-push types (batch ∷ batches) rows place =
    let n = length (batch_message types batch) in
    let e : place + n + length (flat_map (batch_message types) batches) ≡ place + length (flat_map (batch_message types) (batch ∷ batches)) = omega (arith, length-append (batch_message types batch) (flat_map (batch_message types) batches)) in
    ap (λ rest. block_at place types batch ∷ rest) (blocks_from-push types batches rows (place + n) ∙ ap (λ p. blocks_from (place + n) types batches ++ block_at p types rows ∷ []) e)

-- only the low 64 bits of a place are written
low_bytes : (n : ℕ) → little_bytes 8 (n % 2 ^ 64) ≡ little_bytes 8 n
low_bytes n =
    let b0 : n % 2 ^ 64 % 256 ≡ n % 256 = mod-mod-pow n 56 8 in
    let b1 : n % 2 ^ 64 / 256 % 256 ≡ n / 256 % 256 = ap (λ k. k % 256) (field n 56 8) ∙ mod-mod-pow (n / 256) 48 8 in
    let b2 : n % 2 ^ 64 / 65536 % 256 ≡ n / 65536 % 256 = ap (λ k. k % 256) (field n 48 16) ∙ mod-mod-pow (n / 65536) 40 8 in
    let b3 : n % 2 ^ 64 / 16777216 % 256 ≡ n / 16777216 % 256 = ap (λ k. k % 256) (field n 40 24) ∙ mod-mod-pow (n / 16777216) 32 8 in
    let b4 : n % 2 ^ 64 / 4294967296 % 256 ≡ n / 4294967296 % 256 = ap (λ k. k % 256) (field n 32 32) ∙ mod-mod-pow (n / 4294967296) 24 8 in
    let b5 : n % 2 ^ 64 / 1099511627776 % 256 ≡ n / 1099511627776 % 256 = ap (λ k. k % 256) (field n 24 40) ∙ mod-mod-pow (n / 1099511627776) 16 8 in
    let b6 : n % 2 ^ 64 / 281474976710656 % 256 ≡ n / 281474976710656 % 256 = ap (λ k. k % 256) (field n 16 48) ∙ mod-mod-pow (n / 281474976710656) 8 8 in
    let b7 : n % 2 ^ 64 / 72057594037927936 % 256 ≡ n / 72057594037927936 % 256 = ap (λ k. k % 256) (field n 8 56) ∙ mod-mod-pow (n / 72057594037927936) 0 8 in
    cc

same_block : (types : List Ty) (rows : List (List Value)) (a b : ℕ) → a % 2 ^ 64 ≡ b % 2 ^ 64 → block_bytes (block_at a types rows) ≡ block_bytes (block_at b types rows)
same_block types rows a b same =
    let bytes : little_bytes 8 a ≡ little_bytes 8 b = sym (low_bytes a) ∙ ap (little_bytes 8) same ∙ low_bytes b in
    let rest = block_at 0 types rows in
    ap (λ (front : List ℕ). front ++ little_bytes 4 rest.meta_len ++ replicate 4 0 ++ little_bytes 8 rest.body_len) bytes

-- nothing is sent yet
pub Sent-none : (types : List Ty) (start : ℕ) (progress : Progress) → progress.blocks.items ≡ [] → progress.end ≡ start → Sent types [] start progress
Sent-none types start progress blocks end =
    let e : progress.end ≡ start + 0 = omega (arith, end) in
    record { blocks = ap (λ bs. flat_map block_bytes (map place_of bs)) blocks; end = ap (λ k. k % 2 ^ 64) e }

-- one message more
pub Sent-more : (types : List Ty) (batches : List (List (List Value))) (rows : List (List Value)) (start : ℕ) (old new : Progress) → Sent types batches start old → Sends types rows old new → Sent types (batches ++ rows ∷ []) start new
Sent-more types batches rows start old new so_far sends =
    let sent = flat_map (batch_message types) batches in
    let n = length (batch_message types rows) in
    let before = flat_map block_bytes (blocks_from start types batches) in
    let all : flat_map (batch_message types) (batches ++ rows ∷ []) ≡ sent ++ batch_message types rows = flat_map-append (batch_message types) batches (rows ∷ []) ∙ ap (λ last. sent ++ last) (append-nil (batch_message types rows)) in
    let long : start + length sent + n ≡ start + length (flat_map (batch_message types) (batches ++ rows ∷ [])) = omega (arith, ap length all, length-append sent (batch_message types rows)) in
    record {
      blocks = ap (flat_map block_bytes) sends.blocks ∙ flat_map-append block_bytes (map place_of old.blocks.items) (block_at old.end types rows ∷ [])
          ∙ ap (λ front. front ++ flat_map block_bytes (block_at old.end types rows ∷ [])) so_far.blocks
          ∙ ap (λ (block : List ℕ). before ++ (block ++ [])) (same_block types rows old.end (start + length sent) so_far.end)
          ∙ sym (flat_map-append block_bytes (blocks_from start types batches) (block_at (start + length sent) types rows ∷ []))
          ∙ ap (flat_map block_bytes) (sym (blocks_from-push types batches rows start));
      end = ap (λ k. k % 2 ^ 64) sends.end ∙ moved old.end (start + length sent) n so_far.end ∙ ap (λ k. k % 2 ^ 64) long;
    }
  where
    moved : (a b n : ℕ) → a % 2 ^ 64 ≡ b % 2 ^ 64 → (a + n) % 2 ^ 64 % 2 ^ 64 ≡ (b + n) % 2 ^ 64
    moved a b n same = omega arith

-- the rows cut into batches: how many there are, and each of them
pub length-cut : (rows : List (List Value)) → length (cut rows) ≡ max 1 ((length rows + 1023) / 1024)
unfolding cut
length-cut rows = length-map-range_with_len (λ k. take 1024 (drop (1024 * k) rows)) 0 (max 1 ((length rows + 1023) / 1024))

pub get_or-cut : (rows : List (List Value)) (k : ℕ) → k < length (cut rows) → get_or (cut rows) k [] ≡ take 1024 (drop (1024 * k) rows)
unfolding cut
get_or-cut rows k below =
    let inside : k < max 1 ((length rows + 1023) / 1024) = omega (arith, below, length-cut rows) in
    get_or-map-range_with_len (λ k. take 1024 (drop (1024 * k) rows)) 0 (max 1 ((length rows + 1023) / 1024)) k k [] inside (omega arith)

pub next_rows : (rows : List (List Value)) (k place size : ℕ) → k < length (cut rows) → place ≡ 1024 * k → size ≡ min 1024 (length rows - place) → get_or (cut rows) k [] ≡ take size (drop place rows)
next_rows rows k place size below place_is size_is =
    let e : size ≡ min 1024 (length (drop place rows)) = omega (arith, size_is, length-drop place rows) in
    get_or-cut rows k below ∙ ap (λ p. take 1024 (drop p rows)) (sym place_is) ∙ sym (take_min 1024 (drop place rows)) ∙ ap (λ n. take n (drop place rows)) (sym e)

-- there are as many rows as the batches have
pub length-all_rows : (batches : List Batch) → length (flat_map rows_of batches) ≡ rows_in batches
length-all_rows [] = refl
length-all_rows (batch ∷ batches) =
    let rest = length-all_rows batches in
    omega (arith, rest, length-append (rows_of batch) (flat_map rows_of batches), length-transpose Null batch.rows (columns_of batch), sum_by-cons (λ b. b.rows) batch batches)

-- a piece behind a piece
pub appended-appended : (files : Option Files) (name first last : List ℕ) → appended (appended files name first) name last ≡ appended files name (first ++ last)
unfolding appended
appended-appended None name first last = refl
appended-appended (Some told) name first last =
    let old = unwrap_or (get told name) [] in
    ap (λ found. Some (insert (insert told name (old ++ first)) name (unwrap_or found [] ++ last))) (get-insert_same told name (old ++ first))
    ∙ ap Some (insert-insert told name (old ++ first) ((old ++ first) ++ last)) ∙ ap (λ bytes. Some (insert told name bytes)) (append_assoc old first last)

pub Has-appended : (files : Option Files) (name piece : List ℕ) → Has (appended files name piece) name
unfolding appended Has
Has-appended None name piece = tt
Has-appended (Some told) name piece = ap is_some (get-insert_same told name (unwrap_or (get told name) [] ++ piece))

-- nothing behind a file that is there
equal_of : (o : Ordering) → is_eq o ≡ true → o ≡ Equal
equal_of Less e = absurd (cc)
equal_of Equal e = refl
equal_of Greater e = absurd (cc)

kept : (found : Option (List ℕ)) → is_some found ≡ true → Some (unwrap_or found [] ++ []) ≡ found
kept (Some bytes) there = ap Some (append-nil bytes)
kept None there = absurd (cc)

picked : (b : Bool) (value found : Option (List ℕ)) → (b ≡ true → value ≡ found) → cond b value found ≡ found
picked true value found same = same refl
picked false value found same = refl

pub appended-none : (files : Option Files) (name : List ℕ) → Has files name → appended files name [] ≡ files
unfolding appended Has
appended-none None name there = refl
appended-none (Some told) name there = ap Some (same_map nat_list_cmp_total (slice_cmp-IsAntisymmetric nat_cmp-IsAntisymmetric) _ _ at)
  where
    at : (q : List ℕ) → get (insert told name (unwrap_or (get told name) [] ++ [])) q ≡ get told q
    at q =
        get-insert nat_list_cmp_total told name (unwrap_or (get told name) [] ++ []) q
        ∙ picked (eq_by_cmp (slice_cmp nat_cmp) q name) (Some (unwrap_or (get told name) [] ++ [])) (get told q)
        (λ e. kept (get told name) there ∙ ap (get told) (sym (slice_cmp-IsAntisymmetric nat_cmp-IsAntisymmetric q name (equal_of (slice_cmp nat_cmp q name) e))))

-- a part of a piece behind what was appended is a part of the whole
pub part_of_whole : (before mid now : Option Files) (name front piece rest whole : List ℕ) → mid ≡ appended before name front → whole ≡ front ++ piece ++ rest → IsPartAppended mid now name piece → IsPartAppended before now name whole
part_of_whole before mid now name front piece rest whole e all (inl same) =
    inr (length front, same ∙ e ∙ ap (appended before name) (front_only front piece rest ∙ ap (take (length front)) (sym all)))
part_of_whole before mid now name front piece rest whole e all (inr found) =
    let n = length front + min found.0 (length piece) in
    inr (
      n,
      found.1 ∙ ap (λ files. appended files name (take found.0 piece)) e ∙ appended-appended before name front (take found.0 piece)
          ∙ ap (appended before name) (prefix front piece rest found.0 ∙ ap (take n) (sym all)),
    )

-- the messages with one more, and all of them
pub messages-more : (types : List Ty) (batches : List (List (List Value))) (k : ℕ) → k < length batches → flat_map (batch_message types) (take (k + 1) batches) ≡ flat_map (batch_message types) (take k batches) ++ batch_message types (get_or batches k [])
messages-more types batches k below =
    ap (flat_map (batch_message types)) (take_more batches k [] below) ∙ flat_map-append (batch_message types) (take k batches) (get_or batches k [] ∷ [])
    ∙ ap (λ last. flat_map (batch_message types) (take k batches) ++ last) (append-nil (batch_message types (get_or batches k [])))

pub messages-split : (types : List Ty) (batches : List (List (List Value))) (k : ℕ) → k < length batches → flat_map (batch_message types) batches
    ≡ flat_map (batch_message types) (take k batches) ++ batch_message types (get_or batches k []) ++ flat_map (batch_message types) (drop (k + 1) batches)
messages-split types batches k below =
    ap (flat_map (batch_message types)) (sym (take-append-drop (k + 1) batches)) ∙ flat_map-append (batch_message types) (take (k + 1) batches) (drop (k + 1) batches)
    ∙ ap (λ front. front ++ flat_map (batch_message types) (drop (k + 1) batches)) (messages-more types batches k below)

-- the block that is kept of a message
pub Sends-block : (types : List Ty) (rows : List (List Value)) (message : Message) (old new : Progress) (block : Block) → IsMessage types rows message → new.blocks.items ≡ old.blocks.items ++ block ∷ []
    → cast_unsigned w64 block.offset ≡ old.end → cast_unsigned w32 block.meta_len ≡ message.meta_len + 8 → cast_unsigned w64 block.body_len ≡ message.body_len → new.end ≡ (old.end + length message.bytes.items) % 2 ^ 64 → Sends types rows old new
Sends-block types rows message old new block is blocks offset meta_len body_len end =
    let m : cast_unsigned w32 block.meta_len ≡ length (batch_metadata types rows) + 8 = omega (arith, meta_len, is.meta_len) in
    let b = body_len ∙ is.body_len in
    record {
      blocks = ap (map place_of) blocks ∙ map_push place_of old.blocks.items block
          ∙ ap (λ o. map place_of old.blocks.items ++ record { offset = o; meta_len = cast_unsigned w32 block.meta_len; body_len = cast_unsigned w64 block.body_len } ∷ []) offset
          ∙ ap (λ o. map place_of old.blocks.items ++ record { offset = old.end; meta_len = o; body_len = cast_unsigned w64 block.body_len } ∷ []) m
          ∙ ap (λ o. map place_of old.blocks.items ++ record { offset = old.end; meta_len = length (batch_metadata types rows) + 8; body_len = o } ∷ []) b;
      end = end ∙ ap (λ (bytes : List ℕ). (old.end + length bytes) % 2 ^ 64) is.bytes;
    }
