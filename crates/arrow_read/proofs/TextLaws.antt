-- The texts of a dictionary, block after block.
use Rattle.std.proofs.Common.{◌≡◌, ◌∙◌, ℕ, ◌+◌, ◌^◌, ◌<◌, ◌≤◌, ℤ, List, [], ◌∷◌, ◌++◌, length, map, filter, drop, get_or, Bool, true, false, ◌&&◌, ◌||◌, Option, Some, None, nat_lt, refl, sym, ap, subst, arith, rules, tests, append_assoc, append-nil, length-append, drop-cons, add-one}
use Rattle.std.specs.List.{list_all}
use Rattle.std.specs.Ordering.{int_eq}
use Rattle.std.specs.Option.{option_map}
use Rattle.std.proofs.lemmas.List.Folds.{list_all-append}
use Rattle.arrow_meta.specs.declared.meta.RecordMeta.{RecordMeta}
use Rattle.sub_types.specs.OptionSteps.{◌>>=◌, when, all_of}
use Rattle.arrow_meta.specs.Batch.{count_in, column_buffers}
use Rattle.arrow_meta.specs.Values.{validity_in, binaries_in, texts_in, is_text}
use Rattle.arrow_meta.specs.Dictionary.{DictionaryBlock, block_texts, buffer_texts, batch_texts, are_deltas, joined, texts_of, dictionary_texts}
use Rattle.arrow_decode.specs.Dictionary.{AreTexts}
use Rattle.arrow_read.specs.declared.metas.TextBlock.{TextBlock}
use Rattle.arrow_read.specs.Extents.{block_seen, blocks_seen}

abbrev pub Texts : Type 0
Texts = List (Option (List ℕ))

-- all blocks add to those before, but for the first of all
abbrev pub deltas : Bool → List DictionaryBlock → Bool
deltas true blocks = are_deltas blocks
deltas false blocks = list_all (λ block. block.meta.is_delta) blocks

-- values, if they aren't too many
abbrev pub few_of : Texts → Option Texts
few_of texts = when (nat_lt (length texts) (2 ^ 31)) (Some texts)

-- texts, and behind them those of further blocks
abbrev pub texts_with : Bool → Texts → Bool → List DictionaryBlock → Option Texts
texts_with wide texts is_first blocks = when (deltas is_first blocks) (all_of (map (block_texts wide) blocks)) >>= λ lists. few_of (texts ++ joined lists)

-- texts, and behind them those of the blocks of an id
abbrev pub texts_among : ℤ → Bool → Texts → Bool → Option (List DictionaryBlock) → Option Texts
texts_among id wide texts is_first found = found >>= λ good. texts_with wide texts is_first (filter (λ block. int_eq block.meta.id id) good)

-- texts, and behind them those of the blocks of an id that are left
unfoldable pub texts_left : ℤ → Bool → Texts → Bool → List (Option DictionaryBlock) → Option Texts
texts_left id wide texts is_first blocks = texts_among id wide texts is_first (all_of blocks)

-- all texts of an id
pub all_texts : (id : ℤ) (wide : Bool) (blocks : List (Option DictionaryBlock)) → texts_left id wide [] true blocks ≡ dictionary_texts id wide blocks
unfolding texts_left dictionary_texts texts_of
all_texts id wide blocks = refl

-- a bad block
pub bad_block : (id : ℤ) (wide : Bool) (texts : Texts) (is_first : Bool) (rest : List (Option DictionaryBlock)) → texts_left id wide texts is_first (None ∷ rest) ≡ None
unfolding texts_left
bad_block id wide texts is_first rest = refl

-- a block of another id
pub other_block : (id : ℤ) (wide : Bool) (texts : Texts) (is_first : Bool) (block : DictionaryBlock) (rest : List (Option DictionaryBlock)) → int_eq block.meta.id id ≡ false
    → texts_left id wide texts is_first (Some block ∷ rest) ≡ texts_left id wide texts is_first rest
unfolding texts_left
other_block id wide texts is_first block rest other =
    elim (all_of rest) as (λ found. texts_among id wide texts is_first (found >>= λ good. Some (block ∷ good)) ≡ texts_among id wide texts is_first found) [ Some good ↦ rw other refl | None ↦ refl ]

-- a block that doesn't follow
unfollowing : (wide : Bool) (texts : Texts) (is_first : Bool) (block : DictionaryBlock) (blocks : List DictionaryBlock) → (is_first || block.meta.is_delta) ≡ false
    → texts_with wide texts is_first (block ∷ blocks) ≡ None
unfollowing wide texts true block blocks h = absurd (cc)
unfollowing wide texts false block blocks h = rw h refl

pub no_delta : (id : ℤ) (wide : Bool) (texts : Texts) (is_first : Bool) (block : DictionaryBlock) (rest : List (Option DictionaryBlock)) → int_eq block.meta.id id ≡ true
    → (is_first || block.meta.is_delta) ≡ false → texts_left id wide texts is_first (Some block ∷ rest) ≡ None
unfolding texts_left
no_delta id wide texts is_first block rest same h =
    elim (all_of rest) as (λ found. texts_among id wide texts is_first (found >>= λ good. Some (block ∷ good)) ≡ None) [
      | Some good ↦ rw same (unfollowing wide texts is_first block (filter (λ b. int_eq b.meta.id id) good) h)
      | None ↦ refl
    ]

-- a block whose texts are bad
unread : (wide : Bool) (texts : Texts) (is_first : Bool) (block : DictionaryBlock) (blocks : List DictionaryBlock) → block_texts wide block ≡ None
    → texts_with wide texts is_first (block ∷ blocks) ≡ None
unread wide texts is_first block blocks bad =
    elim (deltas is_first (block ∷ blocks)) as (λ b. (when b (all_of (map (block_texts wide) (block ∷ blocks))) >>= λ lists. few_of (texts ++ joined lists)) ≡ None) [ true ↦ rw bad refl | false ↦ refl ]

pub bad_texts : (id : ℤ) (wide : Bool) (texts : Texts) (is_first : Bool) (block : DictionaryBlock) (rest : List (Option DictionaryBlock)) → int_eq block.meta.id id ≡ true
    → block_texts wide block ≡ None → texts_left id wide texts is_first (Some block ∷ rest) ≡ None
unfolding texts_left
bad_texts id wide texts is_first block rest same bad =
    elim (all_of rest) as (λ found. texts_among id wide texts is_first (found >>= λ good. Some (block ∷ good)) ≡ None) [
      | Some good ↦ rw same (unread wide texts is_first block (filter (λ b. int_eq b.meta.id id) good) bad)
      | None ↦ refl
    ]

-- too many texts
many : (texts more others : Texts) → 2 ^ 31 ≤ length texts + length more → few_of (texts ++ (more ++ others)) ≡ None
many texts more others h =
    let long : nat_lt (length (texts ++ (more ++ others))) (2 ^ 31) ≡ false =
    let all : 2 ^ 31 ≤ length (texts ++ (more ++ others)) = omega (arith, length-append texts (more ++ others), length-append more others) in search (rules, tests) in
    rw long refl

too_many : (wide : Bool) (texts : Texts) (is_first : Bool) (block : DictionaryBlock) (blocks : List DictionaryBlock) (more : Texts) → block_texts wide block ≡ Some more
    → 2 ^ 31 ≤ length texts + length more → texts_with wide texts is_first (block ∷ blocks) ≡ None
too_many wide texts is_first block blocks more good h =
    elim (deltas is_first (block ∷ blocks)) as (λ b. (when b (all_of (map (block_texts wide) (block ∷ blocks))) >>= λ lists. few_of (texts ++ joined lists)) ≡ None) [
      | true ↦ rw good (elim (all_of (map (block_texts wide) blocks)) as (λ r. ((r >>= λ xs. Some (more ∷ xs)) >>= λ lists. few_of (texts ++ joined lists)) ≡ None) [ Some lists ↦ many texts more (joined lists) h | None ↦ refl ])
      | false ↦ refl
    ]

pub many_texts : (id : ℤ) (wide : Bool) (texts : Texts) (is_first : Bool) (block : DictionaryBlock) (rest : List (Option DictionaryBlock)) (more : Texts) → int_eq block.meta.id id ≡ true
    → block_texts wide block ≡ Some more → 2 ^ 31 ≤ length texts + length more → texts_left id wide texts is_first (Some block ∷ rest) ≡ None
unfolding texts_left
many_texts id wide texts is_first block rest more same good h =
    elim (all_of rest) as (λ found. texts_among id wide texts is_first (found >>= λ good. Some (block ∷ good)) ≡ None) [
      | Some others ↦ rw same (too_many wide texts is_first block (filter (λ b. int_eq b.meta.id id) others) more good h)
      | None ↦ refl
    ]

-- the texts of one block more
following : (is_first : Bool) (block : DictionaryBlock) (blocks : List DictionaryBlock) → (is_first || block.meta.is_delta) ≡ true → deltas is_first (block ∷ blocks) ≡ deltas false blocks
following true block blocks h = refl
following false block blocks h = rw h refl

added : (wide : Bool) (texts : Texts) (is_first : Bool) (block : DictionaryBlock) (blocks : List DictionaryBlock) (more : Texts) → (is_first || block.meta.is_delta) ≡ true
    → block_texts wide block ≡ Some more → texts_with wide texts is_first (block ∷ blocks) ≡ texts_with wide (texts ++ more) false blocks
added wide texts is_first block blocks more h good =
    ap (λ b. when b (all_of (map (block_texts wide) (block ∷ blocks))) >>= λ lists. few_of (texts ++ joined lists)) (following is_first block blocks h)
    ∙ ap (λ r. when (deltas false blocks) (r >>= λ x. all_of (map (block_texts wide) blocks) >>= λ xs. Some (x ∷ xs)) >>= λ lists. few_of (texts ++ joined lists)) good
    ∙ elim (deltas false blocks) as (λ b. (when b (all_of (map (block_texts wide) blocks) >>= λ xs. Some (more ∷ xs)) >>= λ lists. few_of (texts ++ joined lists))
    ≡ (when b (all_of (map (block_texts wide) blocks)) >>= λ lists. few_of ((texts ++ more) ++ joined lists))) [
      | true ↦ elim (all_of (map (block_texts wide) blocks)) as (λ r. ((r >>= λ xs. Some (more ∷ xs)) >>= λ lists. few_of (texts ++ joined lists)) ≡ (r >>= λ lists. few_of ((texts ++ more) ++ joined lists))) [
        | Some lists ↦ ap few_of (sym (append_assoc texts more (joined lists)))
        | None ↦ refl
      ]
      | false ↦ refl
    ]

pub more_texts : (id : ℤ) (wide : Bool) (texts : Texts) (is_first : Bool) (block : DictionaryBlock) (rest : List (Option DictionaryBlock)) (more : Texts) → int_eq block.meta.id id ≡ true
    → (is_first || block.meta.is_delta) ≡ true → block_texts wide block ≡ Some more
    → texts_left id wide texts is_first (Some block ∷ rest) ≡ texts_left id wide (texts ++ more) false rest
unfolding texts_left
more_texts id wide texts is_first block rest more same h good =
    elim (all_of rest) as (λ found. texts_among id wide texts is_first (found >>= λ good. Some (block ∷ good)) ≡ texts_among id wide (texts ++ more) false found) [
      | Some others ↦ rw same (added wide texts is_first block (filter (λ b. int_eq b.meta.id id) others) more h good)
      | None ↦ refl
    ]

-- no block is left
pub no_more : (id : ℤ) (wide : Bool) (texts : Texts) (is_first : Bool) → length texts < 2 ^ 31 → texts_left id wide texts is_first [] ≡ Some texts
unfolding texts_left
no_more id wide texts is_first few =
    let short : nat_lt (length texts) (2 ^ 31) ≡ true = search (rules, tests) in
    let none : deltas is_first [] ≡ true = elim is_first as (λ b. deltas b [] ≡ true) [ true ↦ refl | false ↦ refl ] in
    rw (none, append-nil, short) refl

-- the blocks that are left begin with the next
pub next_block : (told : List ℕ) (blocks : List (Option TextBlock)) (i : ℕ) (d : Option TextBlock) → i < length blocks
    → blocks_seen told (drop i blocks) ≡ option_map (block_seen told) (get_or blocks i d) ∷ blocks_seen told (drop (i + 1) blocks)
next_block told blocks i d below = rw (add-one, drop-cons blocks i d) refl

-- the texts that are decoded are texts
bound : {A B : Type 0} (P : B → Type 0) (found : Option A) (f : A → Option B) (y : B) → ((x : A) → f x ≡ Some y → P y) → (found >>= f) ≡ Some y → P y
bound P (Some x) f y each h = each x h
bound P None f y each h = absurd (cc)

checked : (texts found : Texts) → when (list_all is_text texts) (Some texts) ≡ Some found → AreTexts found
checked texts found h =
    elim (list_all is_text texts) as (λ b. list_all is_text texts ≡ b → when b (Some texts) ≡ Some found → AreTexts found) [
      | true ↦ λ e k. let same : texts ≡ found = cc in subst AreTexts same e
      | false ↦ λ e k. absurd (cc)
    ] refl h

in_buffers : (wide : Bool) (count : ℕ) (buffers : List (List ℕ)) (found : Texts) → buffer_texts wide count buffers ≡ Some found → AreTexts found
unfolding texts_in
in_buffers wide count [] found h = absurd (cc)
in_buffers wide count (a ∷ []) found h = absurd (cc)
in_buffers wide count (a ∷ b ∷ []) found h = absurd (cc)
in_buffers wide count (validity ∷ offsets ∷ bytes ∷ []) found h =
    bound AreTexts (validity_in count validity) (λ valid. texts_in wide count valid offsets bytes) found
    (λ valid k. bound AreTexts (binaries_in wide count valid offsets bytes) (λ texts. when (list_all is_text texts) (Some texts)) found (λ texts e. checked texts found e) k) h
in_buffers wide count (a ∷ b ∷ c ∷ d ∷ rest) found h = absurd (cc)

pub decoded_texts : (wide : Bool) (values : RecordMeta) (body : List ℕ) (found : Texts) → batch_texts wide values body ≡ Some found → AreTexts found
unfolding batch_texts
decoded_texts wide values body found h =
    bound AreTexts (count_in (3 ∷ []) values) (λ count. column_buffers (3 ∷ []) values body count 0 >>= λ buffers. buffer_texts wide count buffers) found
    (λ count k. bound AreTexts (column_buffers (3 ∷ []) values body count 0) (λ buffers. buffer_texts wide count buffers) found (λ buffers e. in_buffers wide count buffers found e) k) h

-- texts behind texts
pub texts-append : (texts more : Texts) → AreTexts texts → AreTexts more → AreTexts (texts ++ more)
texts-append texts more a b = list_all-append is_text texts more ∙ ap (λ x. x && list_all is_text more) a ∙ b
