-- What a head says of one of its blocks.
use Rattle.std.proofs.Common.{◌≡◌, ◌∙◌, ℕ, zero, suc, ◌+◌, ◌<◌, ◌≤◌, ℤ, pos, negsuc, List, [], ◌∷◌, length, map, take, drop, get_or, true, false, ◌&&◌, nat_le, unsigned_abs, slice_get, Option, Some, None, Result, Ok, Err, refl, sym, ap, subst, arith, rules, tests}
use Rattle.std.specs.Option.{option_map}
use Rattle.std.specs.Result.{result_ok}
use Rattle.world.specs.Reads.{Reads}
use Rattle.sub_types.specs.declared.value.Value.{Value}
use Rattle.arrow_meta.specs.declared.meta.Block.{Block}
use Rattle.arrow_meta.specs.declared.meta.RecordMeta.{RecordMeta}
use Rattle.arrow_meta.specs.Messages.{Place}
use Rattle.arrow_meta.specs.Message.{record_in}
use Rattle.arrow_meta.specs.Natural.{natural}
use Rattle.sub_types.specs.OptionSteps.{◌>>=◌, when}
use Rattle.arrow_meta.specs.Places.{place_in}
use Rattle.arrow_meta.specs.Footer.{Footer}
use Rattle.arrow_meta.specs.Head.{Head, head_with, head_of, footer_place, record_at, read_at, block_metadata, block_body}
use Rattle.arrow_meta.specs.Batch.{rows_in}
use Rattle.arrow_meta.specs.Table.{shapes_of, wanted_in, opened, rows_with, rows_of}
use Rattle.arrow_read.specs.declared.error.BlockError.{BlockError}
use Rattle.arrow_read.specs.declared.error.BlockError.TheVariants.{BadBatch, ReadFault, NoMemory}
use Rattle.arrow_read.specs.Sound.{IsPlaced, ArePlaced}
use Rattle.arrow_read.specs.BlockReads.{body_start, body_len, reads_block}
use Rattle.arrow_read.proofs.HeadLaws.{head_parts}

-- what a block's place is
pub record IsPlaceOf (end : ℕ) (o m b : ℤ) (place : Place) : Type 0 where
  pub offset : place.offset ≡ unsigned_abs o
  pub meta_len : place.meta_len ≡ unsigned_abs m
  pub body_len : place.body_len ≡ unsigned_abs b
  pub within : unsigned_abs o + unsigned_abs m + unsigned_abs b ≤ end

tested : (end x y z : ℕ) (place : Place) → when (nat_le 8 y && nat_le (x + y + z) end) (Some (record { offset = x; meta_len = y; body_len = z })) ≡ Some place
    → IsPlaceOf end (pos x) (pos y) (pos z) place
tested end x y z place h =
    let made : Place = record { offset = x; meta_len = y; body_len = z } in
    elim (nat_le 8 y) as (λ a. when (a && nat_le (x + y + z) end) (Some made) ≡ Some place → IsPlaceOf end (pos x) (pos y) (pos z) place) [
      | true ↦ λ e. elim (nat_le (x + y + z) end) as (λ b. nat_le (x + y + z) end ≡ b → when b (Some made) ≡ Some place → IsPlaceOf end (pos x) (pos y) (pos z) place) [
        | true ↦ λ t k.
            let same : made ≡ place = cc in
            let inside : x + y + z ≤ end = search (rules, tests) in
            record { offset = ap (λ (p : Place). p.offset) (sym same); meta_len = ap (λ (p : Place). p.meta_len) (sym same); body_len = ap (λ (p : Place). p.body_len) (sym same); within = inside }
        | false ↦ λ t k. absurd (cc)
      ] refl e
      | false ↦ λ e. absurd (cc)
    ] h

ints : (end : ℕ) (o m b : ℤ) (place : Place)
    → (natural o >>= λ offset. natural m >>= λ meta_len. natural b >>= λ body_len.
    when (nat_le 8 meta_len && nat_le (offset + meta_len + body_len) end) (Some (record { offset = offset; meta_len = meta_len; body_len = body_len }))) ≡ Some place
    → IsPlaceOf end o m b place
ints end (pos x) (pos y) (pos z) place h = tested end x y z place h
ints end (pos x) (pos y) (negsuc z) place h = absurd (cc)
ints end (pos x) (negsuc y) b place h = absurd (cc)
ints end (negsuc x) m b place h = absurd (cc)

place_is : (end : ℕ) (block : Block) (place : Place) → place_in end block ≡ Some place → IsPlaceOf end block.offset block.meta_len block.body_len place
unfolding place_in
place_is end block place h = ints end block.offset block.meta_len block.body_len place h

-- good metadata has a place
has_place : (told : List ℕ) (start : ℕ) (block : Block) (meta : RecordMeta) → result_ok (record_at told start block) ≡ Some meta → (place : Place) × (place_in start block ≡ Some place)
unfolding record_at
has_place told start block meta h =
    elim (place_in start block) as (λ found. result_ok (read_at record_in (block_metadata told found)) ≡ Some meta → (place : Place) × (found ≡ Some place)) [
      | Some place ↦ λ e. (place, refl)
      | None ↦ λ e. absurd (cc)
    ] h

-- an element at a place
pub item_at : {A : Type 0} (xs : List A) (i : ℕ) (x : A) → i < length xs → x ≡ get_or xs i x → slice_get xs i ≡ Some x
item_at [] i x below is = absurd (omega arith)
item_at (y ∷ xs) zero x below is = ap (λ z. Some z) (sym is)
item_at (y ∷ xs) (suc i) x below is = item_at xs i x (omega arith) is

slice_get-map : {A B : Type 0} (f : A → B) (xs : List A) (i : ℕ) → slice_get (map f xs) i ≡ option_map f (slice_get xs i)
slice_get-map f [] i = refl
slice_get-map f (x ∷ xs) zero = refl
slice_get-map f (x ∷ xs) (suc i) = slice_get-map f xs i

-- the metadata of a block is what its message says
meta_is : (told : List ℕ) (start : ℕ) (footer : Footer) (head : Head) (i : ℕ) (block : Block) (meta : RecordMeta) → head_with told start footer ≡ head
    → slice_get head.blocks i ≡ Some block → slice_get head.metas i ≡ Some (Some meta) → result_ok (record_at told start block) ≡ Some meta
unfolding head_with
meta_is told start footer head i block meta parts at good =
    let f : Block → Option RecordMeta = λ one. result_ok (record_at told start one) in
    let here : slice_get footer.records i ≡ Some block = ap (λ (h : Head). slice_get h.blocks i) parts ∙ at in
    let said : slice_get (map f footer.records) i ≡ Some (Some meta) = ap (λ (h : Head). slice_get h.metas i) parts ∙ good in
    let both : Some (f block) ≡ Some (Some meta) = sym (slice_get-map f footer.records i ∙ ap (option_map f) here) ∙ said in
    let same : f block ≡ Some meta = cc in
    same

-- what a file holds of a good block
pub record Found (told : List ℕ) (head : Head) (i : ℕ) (block : Block) (meta : RecordMeta) : Type 0 where
  pub within : body_start block + body_len block ≤ length told
  pub rows : (wanted : List ℕ) → rows_of told i wanted ≡ rows_in (shapes_of head.columns) meta (take (body_len block) (drop (body_start block) told)) (wanted_in head wanted)

opened_is : (told : List ℕ) (start : ℕ) (head : Head) → footer_place told ≡ Ok start → head_of told ≡ Ok head → opened told ≡ Some (record { footer = start; head = head })
unfolding opened
opened_is told start head place h = rw (place, h) refl

rows_from : (told : List ℕ) (start : ℕ) (head : Head) (i : ℕ) (block : Block) (meta : RecordMeta) (place : Place) (wanted : List ℕ) → opened told ≡ Some (record { footer = start; head = head })
    → slice_get head.blocks i ≡ Some block → slice_get head.metas i ≡ Some (Some meta) → place_in start block ≡ Some place
    → rows_of told i wanted ≡ rows_in (shapes_of head.columns) meta (take place.body_len (drop (place.offset + place.meta_len) told)) (wanted_in head wanted)
unfolding rows_of rows_with block_body
rows_from told start head i block meta place wanted read at good here = rw (read, at, good, here) refl

pub found : (told : List ℕ) (head : Head) (i : ℕ) (block : Block) (meta : RecordMeta) → head_of told ≡ Ok head → slice_get head.blocks i ≡ Some block → slice_get head.metas i ≡ Some (Some meta)
    → Found told head i block meta
found told head i block meta is at good =
    let whole = head_parts told head is in
    let placed = has_place told whole.start block meta (meta_is told whole.start whole.footer head i block meta whole.parts at good) in
    let place = placed.0 in
    let same = place_is whole.start block place placed.1 in
    let begin : place.offset + place.meta_len ≡ body_start block = omega (arith, same.offset, same.meta_len) in
    record {
      within = omega (arith, same.within, whole.within);
      rows = λ wanted. rows_from told whole.start head i block meta place wanted (opened_is told whole.start head whole.place is) at good placed.1
          ∙ ap (λ n. rows_in (shapes_of head.columns) meta (take n (drop (place.offset + place.meta_len) told)) (wanted_in head wanted)) same.body_len
          ∙ ap (λ n. rows_in (shapes_of head.columns) meta (take (body_len block) (drop n told)) (wanted_in head wanted)) begin;
    }

-- a bad block has no rows
unread : (told : List ℕ) (start : ℕ) (head : Head) (i : ℕ) (wanted : List ℕ) → opened told ≡ Some (record { footer = start; head = head }) → slice_get head.metas i ≡ Some None → rows_of told i wanted ≡ None
unfolding rows_of rows_with
unread told start head i wanted read bad =
    rw (read, bad) (elim (slice_get head.blocks i) as (λ r. ◌>>=◌ {B = List (List Value)} r (λ place. None) ≡ None) [ Some block ↦ refl | None ↦ refl ])

pub no_rows : (told : List ℕ) (head : Head) (i : ℕ) (wanted : List ℕ) → head_of told ≡ Ok head → slice_get head.metas i ≡ Some None → rows_of told i wanted ≡ None
no_rows told head i wanted is bad =
    let whole = head_parts told head is in
    unread told whole.start head i wanted (opened_is told whole.start head whole.place is) bad

-- an error is the same to each reader
pub reads_err : (A B : Type 0) (e : BlockError) (reads : Option Reads) (block : Option Block) → reads_block {A = A} (Err e) reads block ≡ reads_block {A = B} (Err e) reads block
unfolding reads_block
reads_err A B e reads None = refl
reads_err A B BadBatch reads (Some block) = refl
reads_err A B ReadFault reads (Some block) = refl
reads_err A B NoMemory reads (Some block) = refl

pub reads_ok : {A B : Type 0} (a : A) (b : B) (reads : Option Reads) (block : Option Block) → reads_block (Ok a) reads block ≡ reads_block (Ok b) reads block
unfolding reads_block
reads_ok a b reads None = refl
reads_ok a b reads (Some block) = refl

-- a call that isn't refused for a good block
pub never_bad : {A : Type 0} (result : Result A BlockError) (metas : List (Option RecordMeta)) (i : ℕ) (meta : RecordMeta) → slice_get metas i ≡ Some (Some meta)
    → (result ≡ Err BadBatch → ⊥) → (result ≡ Err BadBatch → slice_get metas i ≡ Some None) × (slice_get metas i ≡ Some None → result ≡ Err BadBatch)
never_bad result metas i meta good never = (λ h. absurd (never h), λ h. absurd (cc))

-- a block with good metadata is placed
pub good_placed : (blocks : List Block) (metas : List (Option RecordMeta)) (i : ℕ) (block : Block) (meta : RecordMeta) → ArePlaced blocks metas
    → slice_get blocks i ≡ Some block → slice_get metas i ≡ Some (Some meta) → IsPlaced block
good_placed [] metas i block meta all at good = absurd (cc)
good_placed (b ∷ blocks) [] i block meta all at good = absurd (cc)
good_placed (b ∷ blocks) (Some m ∷ metas) zero block meta all at good = let same : b ≡ block = cc in subst IsPlaced same all.0
good_placed (b ∷ blocks) (None ∷ metas) zero block meta all at good = absurd (cc)
good_placed (b ∷ blocks) (Some m ∷ metas) (suc i) block meta all at good = good_placed blocks metas i block meta all.1 at good
good_placed (b ∷ blocks) (None ∷ metas) (suc i) block meta all at good = good_placed blocks metas i block meta all at good
