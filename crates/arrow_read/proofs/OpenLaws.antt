-- A file's head from its parts, and its parts from its head.
use Rattle.std.proofs.Common.{◌≡◌, ◌∙◌, ℕ, ◌<◌, ◌≤◌, List, length, map, get_or, Bool, true, false, ◌||◌, Option, Some, None, IfSome, Result, Ok, Err, refl, sym, ap, arith}
use Rattle.std.specs.List.{list_any}
use Rattle.std.specs.Result.{result_ok}
use Rattle.std.proofs.lemmas.List.Folds.{list_any_at}
use Rattle.arrow_meta.specs.declared.meta.Block.{Block}
use Rattle.arrow_meta.specs.declared.meta.RecordMeta.{RecordMeta}
use Rattle.arrow_meta.specs.Dictionary.{DictionaryBlock, ColumnDictionary, column_dictionaries}
use Rattle.arrow_meta.specs.Footer.{Footer}
use Rattle.arrow_meta.specs.Head.{Refusal, NotArrow, BadFooter, Unsupported, Compressed, Head, footer_place, footer_at, refuse_if, is_compressed, record_at, dictionary_at, dictionary_block, has_compression, head_with, head_of}
use Rattle.arrow_read.specs.declared.error.OpenError.{OpenError}
use Rattle.arrow_read.specs.declared.error.OpenError.TheVariants as open_errors
use Rattle.arrow_read.specs.declared.metas.TextBlock.{TextBlock}
use Rattle.arrow_read.specs.Extents.{AreWithin, IsWithin}
use Rattle.arrow_read.specs.Refused.{Opens}
use Rattle.arrow_read.specs.Metas.{refuse_if_any, metas_of, texts_of}
use Rattle.arrow_read.proofs.MetaLaws.{said_clean, said_same}

-- why a part is refused is why the whole is
pub refused_whole : {A B C D : Type 0} (part_seen : A → B) (seen : C → D) (part : Result B Refusal) (whole : Result D Refusal)
    → ((r : Refusal) → part ≡ Err r → whole ≡ Err r) → (e : OpenError) → Opens part_seen (Err e) part → Opens seen (Err e) whole
refused_whole part_seen seen part whole through open_errors.NotArrow h = through NotArrow h
refused_whole part_seen seen part whole through (open_errors.BadFooter place) h = through (BadFooter place) h
refused_whole part_seen seen part whole through open_errors.Compressed h = through Compressed h
refused_whole part_seen seen part whole through (open_errors.Unsupported column) h = through (Unsupported column) h
refused_whole part_seen seen part whole through open_errors.ReadFault h = tt
refused_whole part_seen seen part whole through open_errors.NoMemory h = tt

-- no place for a footer
pub no_place : (told : List ℕ) (r : Refusal) → footer_place told ≡ Err r → head_of told ≡ Err r
unfolding head_of
no_place told r h = rw h refl

-- no footer
pub no_footer : (told : List ℕ) (start : ℕ) (r : Refusal) → footer_place told ≡ Ok start → footer_at told start ≡ Err r → head_of told ≡ Err r
unfolding head_of
no_footer told start r place h = rw (place, h) refl

-- a refusal of blocks is that one is compressed
pub said_compressed : {A : Type 0} (compressed : Bool) (said : A) (r : Refusal) → refuse_if compressed Compressed (Ok said) ≡ Err r → compressed ≡ true
said_compressed true said r h = refl
said_compressed false said r h = absurd (cc)

pub said_refusal : {A : Type 0} (compressed : Bool) (said : A) (r : Refusal) → refuse_if compressed Compressed (Ok said) ≡ Err r → r ≡ Compressed
said_refusal true said r h = cc
said_refusal false said r h = absurd (cc)

-- a block that is compressed, among others
pub each_refused : {A B : Type 0} (compressed : Block → Bool) (said : Block → A) (blocks : List Block) (i : ℕ) (d : Block) (one : B) (r : Refusal) → i < length blocks
    → refuse_if (compressed (get_or blocks i d)) Compressed (Ok one) ≡ Err r → refuse_if_any compressed said blocks ≡ Err r
each_refused compressed said blocks i d one r below h =
    let some = list_any_at compressed blocks i d below (said_compressed (compressed (get_or blocks i d)) one r h) in
    rw (some, said_refusal (compressed (get_or blocks i d)) one r h) refl

compressed_head : (told : List ℕ) (start : ℕ) (footer : Footer) → footer_place told ≡ Ok start → footer_at told start ≡ Ok footer → has_compression told start footer ≡ true → head_of told ≡ Err Compressed
unfolding head_of
compressed_head told start footer place at h = rw (place, at, h) refl

-- a compressed record batch
pub compressed_record : (told : List ℕ) (start : ℕ) (footer : Footer) (r : Refusal) → footer_place told ≡ Ok start → footer_at told start ≡ Ok footer
    → metas_of told start footer.records ≡ Err r → head_of told ≡ Err r
unfolding has_compression
compressed_record told start footer r place at h =
    let some = said_compressed (list_any (λ block. is_compressed (record_at told start block)) footer.records) (map (λ block. result_ok (record_at told start block)) footer.records) r h in
    let same = said_refusal (list_any (λ block. is_compressed (record_at told start block)) footer.records) (map (λ block. result_ok (record_at told start block)) footer.records) r h in
    let found : has_compression told start footer ≡ true = rw some refl in
    compressed_head told start footer place at found ∙ ap (λ x. Err x) (sym same)

-- a compressed dictionary
either : (a : Bool) → (a || true) ≡ true
either true = refl
either false = refl

pub compressed_text : (told : List ℕ) (start : ℕ) (footer : Footer) (r : Refusal) → footer_place told ≡ Ok start → footer_at told start ≡ Ok footer
    → texts_of told start footer.dictionaries ≡ Err r → head_of told ≡ Err r
unfolding has_compression
compressed_text told start footer r place at h =
    let some = said_compressed (list_any (λ block. is_compressed (dictionary_at told start block)) footer.dictionaries) (map (dictionary_block told start) footer.dictionaries) r h in
    let same = said_refusal (list_any (λ block. is_compressed (dictionary_at told start block)) footer.dictionaries) (map (dictionary_block told start) footer.dictionaries) r h in
    let found : has_compression told start footer ≡ true = rw some (either (list_any (λ block. is_compressed (record_at told start block)) footer.records)) in
    compressed_head told start footer place at found ∙ ap (λ x. Err x) (sym same)

-- the head from its parts
open_head : (told : List ℕ) (start : ℕ) (footer : Footer) → footer_place told ≡ Ok start → footer_at told start ≡ Ok footer → has_compression told start footer ≡ false
    → head_of told ≡ Ok (head_with told start footer)
unfolding head_of
open_head told start footer place at h = rw (place, at, h) refl

pub head_is : (told : List ℕ) (start : ℕ) (footer : Footer) (metas : List (Option RecordMeta)) (texts : List (Option DictionaryBlock)) (dictionaries : List ColumnDictionary)
    → footer_place told ≡ Ok start → footer_at told start ≡ Ok footer → metas_of told start footer.records ≡ Ok metas → texts_of told start footer.dictionaries ≡ Ok texts
    → dictionaries ≡ column_dictionaries texts footer.columns
    → head_of told ≡ Ok (record { columns = footer.columns; blocks = footer.records; metas = metas; dictionaries = dictionaries })
unfolding has_compression head_with
head_is told start footer metas texts dictionaries place at records blocks found =
    let clean_records = said_clean (list_any (λ block. is_compressed (record_at told start block)) footer.records) (map (λ block. result_ok (record_at told start block)) footer.records) metas records in
    let clean_texts = said_clean (list_any (λ block. is_compressed (dictionary_at told start block)) footer.dictionaries) (map (dictionary_block told start) footer.dictionaries) texts blocks in
    let same_records = said_same (list_any (λ block. is_compressed (record_at told start block)) footer.records) (map (λ block. result_ok (record_at told start block)) footer.records) metas records in
    let same_texts = said_same (list_any (λ block. is_compressed (dictionary_at told start block)) footer.dictionaries) (map (dictionary_block told start) footer.dictionaries) texts blocks in
    let none : has_compression told start footer ≡ false = rw (clean_records, clean_texts) refl in
    let head : List (Option RecordMeta) → List ColumnDictionary → Result Head Refusal = λ ms ds.
    Ok (record { columns = footer.columns; blocks = footer.records; metas = ms; dictionaries = ds }) in
    open_head told start footer place at none
    ∙ ap (λ ms. head ms (column_dictionaries (map (dictionary_block told start) footer.dictionaries) footer.columns)) same_records
    ∙ ap (λ ts. head metas (column_dictionaries ts footer.columns)) same_texts
    ∙ ap (head metas) (sym found)

-- blocks before a place are before a later one
within_more : (a b : ℕ) (found : Option TextBlock) → a ≤ b → IfSome found (IsWithin a) → IfSome found (IsWithin b)
within_more a b None h within = tt
within_more a b (Some block) h within = omega arith

pub within_longer : (a b : ℕ) (texts : List (Option TextBlock)) → a ≤ b → AreWithin a texts → AreWithin b texts
within_longer a b texts h within = λ k d below. within_more a b _ h (within k d below)
