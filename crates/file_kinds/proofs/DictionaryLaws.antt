-- The texts of a file's dictionaries are texts.
use Rattle.std.proofs.Common.{◌≡◌, ℕ, ◌^◌, ℤ, List, [], ◌∷◌, Bool, true, false, cond, Option, Some, None, map, length, ◌==◌, nat_lt, filter, refl, subst}
use Rattle.std.specs.List.{AllByRecursion, enumerate_from, find}
use Rattle.std.specs.Option.{ForSome, option_map, option_and_then}
use Rattle.std.specs.Ordering.{int_eq}
use Rattle.sub_types.specs.OptionSteps.{◌>>=◌, when, all_of}
use Rattle.arrow_meta.specs.declared.field.FieldMeta.{FieldMeta}
use Rattle.arrow_meta.specs.Dictionary.{DictionaryBlock, block_texts, are_deltas, joined, texts_of, dictionary_texts, ColumnDictionary, index_of, column_dictionary, column_dictionaries}
use Rattle.arrow_meta.specs.Table.{dictionary_of}
use Rattle.arrow_decode.specs.Dictionary.{AreTexts}
use Rattle.arrow_decode.proofs.InKindLaws.{when_true, bound}
use Rattle.arrow_read.proofs.TextLaws.{decoded_texts, texts-append}
use Rattle.well_typed.specs.WellTyped.{MayBe}
use Rattle.denote_typed.proofs.RowsLaws.{every, filter_mapped}

abbrev pub Texts : Type 0
Texts = List (Option (List ℕ))

-- all of them are so, where each is
pub all_found : {A B : Type 0} (P : B → Type 0) (f : A → Option B) (xs : List A) → ((x : A) → ForSome (f x) P) → ForSome (all_of (map f xs)) (AllByRecursion P)
all_found P f [] k ys is = let same : [] ≡ ys = cc in subst (AllByRecursion P) same tt
all_found P f (x ∷ xs) k ys is =
    let first = bound (f x) (λ y. all_of (map f xs) >>= (λ rest. Some (y ∷ rest))) ys is in
    let others = bound (all_of (map f xs)) (λ rest. Some (first.0 ∷ rest)) ys first.2 in
    let same : first.0 ∷ others.0 ≡ ys = let e = others.2 in cc in
    subst (AllByRecursion P) same (k x first.0 first.1, all_found P f xs k others.0 others.1)

when_found : {A : Type 0} (test : Bool) (found : Option A) (x : A) → when test found ≡ Some x → found ≡ Some x
when_found true found x is = is
when_found false found x is = absurd (cc)

joined_are : (lists : List Texts) → AllByRecursion AreTexts lists → AreTexts (joined lists)
joined_are [] all = refl
joined_are (texts ∷ lists) all = texts-append texts (joined lists) all.0 (joined_are lists all.1)

texts_of_are : (wide : Bool) (blocks : List DictionaryBlock) → ForSome (texts_of wide blocks) AreTexts
unfolding texts_of
texts_of_are wide blocks texts is =
    let lists = bound (when (are_deltas blocks) (all_of (map (block_texts wide) blocks))) (λ lists. when (nat_lt (length (joined lists)) (2 ^ 31)) (Some (joined lists))) texts is in
    let all = all_found AreTexts (block_texts wide) blocks (λ block. decoded_texts wide block.meta.values block.body) lists.0 (when_found (are_deltas blocks) (all_of (map (block_texts wide) blocks)) lists.0 lists.1) in
    let same = when_true (nat_lt (length (joined lists.0)) (2 ^ 31)) (joined lists.0) texts lists.2 in
    subst (λ (one : Texts). AreTexts one) same.1 (joined_are lists.0 all)

dictionary_texts_are : (id : ℤ) (wide : Bool) (blocks : List (Option DictionaryBlock)) → ForSome (dictionary_texts id wide blocks) AreTexts
unfolding dictionary_texts
dictionary_texts_are id wide blocks texts is =
    let good = bound (all_of blocks) (λ good. texts_of wide (filter (λ block. int_eq block.meta.id id) good)) texts is in
    texts_of_are wide (filter (λ (block : DictionaryBlock). int_eq block.meta.id id) good.0) texts good.2

-- the dictionary of a column holds texts, where it isn't bad
abbrev pub HoldsTexts : ColumnDictionary → Type 0
HoldsTexts dictionary = ForSome dictionary.values AreTexts

column_holds : (blocks : List (Option DictionaryBlock)) (column : ℕ × FieldMeta) → MayBe HoldsTexts (column_dictionary blocks column)
column_holds blocks column = by_index (index_of column.1.shape)
  where
    by_index : (index : Option (ℤ × Bool)) → MayBe HoldsTexts (option_map (λ (index : ℤ × Bool). record { column = column.0; values = dictionary_texts index.0 index.1 blocks }) index)
    by_index None = tt
    by_index (Some index) = dictionary_texts_are index.0 index.1 blocks

pub dictionaries_hold : (blocks : List (Option DictionaryBlock)) (columns : List FieldMeta) → AllByRecursion HoldsTexts (column_dictionaries blocks columns)
dictionaries_hold blocks columns =
    filter_mapped (λ _. Unit {0}) HoldsTexts (column_dictionary blocks) (enumerate_from 0 columns) (every (λ _. Unit {0}) (enumerate_from 0 columns) (λ _. tt)) (λ column _. column_holds blocks column)

pub dictionary_holds : (dictionaries : List ColumnDictionary) (column : ℕ) → AllByRecursion HoldsTexts dictionaries → ForSome (dictionary_of dictionaries column) AreTexts
dictionary_holds [] column all texts is = absurd (cc)
dictionary_holds (dictionary ∷ dictionaries) column all texts is = by_test (dictionary.column == column) (dictionary_holds dictionaries column all.1) texts is
  where
    by_test : (test : Bool) → ForSome (dictionary_of dictionaries column) AreTexts
        → ForSome (option_and_then (λ (one : ColumnDictionary). one.values) (cond test (Some dictionary) (find (λ (one : ColumnDictionary). one.column == column) dictionaries))) AreTexts
    by_test true rest = all.0
    by_test false rest = rest
