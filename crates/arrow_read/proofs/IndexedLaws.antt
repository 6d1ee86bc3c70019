-- The columns of indices and their dictionaries, one column after the other.
use Rattle.std.proofs.Common.{◌≡◌, ◌∙◌, ℕ, ◌+◌, ◌<◌, ℤ, List, [], ◌∷◌, ◌++◌, length, map, drop, get_or, Bool, Option, refl, sym, ap, append_assoc}
use Rattle.std.specs.List.{filter_map, cons_option, enumerate_from}
use Rattle.std.specs.Option.{option_map}
use Rattle.std.proofs.lemmas.List.{map-append, at_drop_more}
use Rattle.arrow_meta.specs.declared.field.FieldMeta.{FieldMeta}
use Rattle.arrow_meta.specs.Dictionary.{DictionaryBlock, ColumnDictionary, dictionary_texts, index_of, column_dictionary}
use Rattle.arrow_read.specs.Sound.{index_place}

-- the dictionary of the column at a place, if it is one of indices
abbrev pub dictionary_at : List (Option DictionaryBlock) → ℕ → Option (ℤ × Bool) → Option ColumnDictionary
dictionary_at blocks i named = option_map (λ index. record { column = i; values = dictionary_texts index.0 index.1 blocks }) named

-- the dictionaries of the columns that are left: that of the next, if it is one of indices, and those behind it
pub next_dictionary : (blocks : List (Option DictionaryBlock)) (columns : List FieldMeta) (i : ℕ) (d : FieldMeta) (named : Option (ℤ × Bool)) → i < length columns
    → named ≡ index_of (get_or columns i d).shape
    → filter_map (column_dictionary blocks) (enumerate_from i (drop i columns))
    ≡ cons_option (dictionary_at blocks i named) (filter_map (column_dictionary blocks) (enumerate_from (i + 1) (drop (i + 1) columns)))
next_dictionary blocks columns i d named below is =
    at_drop_more (λ left. filter_map (column_dictionary blocks) (enumerate_from i left)) columns i d below
    ∙ ap (λ index. cons_option (dictionary_at blocks i index) (filter_map (column_dictionary blocks) (enumerate_from (i + 1) (drop (i + 1) columns)))) (sym is)

-- and their places
pub next_place : (columns : List FieldMeta) (i : ℕ) (d : FieldMeta) (named : Option (ℤ × Bool)) → i < length columns → named ≡ index_of (get_or columns i d).shape
    → filter_map index_place (enumerate_from i (drop i columns))
    ≡ cons_option (option_map (λ index. i) named) (filter_map index_place (enumerate_from (i + 1) (drop (i + 1) columns)))
next_place columns i d named below is =
    at_drop_more (λ left. filter_map index_place (enumerate_from i left)) columns i d below
    ∙ ap (λ index. cons_option (option_map (λ named. i) index) (filter_map index_place (enumerate_from (i + 1) (drop (i + 1) columns)))) (sym is)

-- what a list gives with one more element
pub one_more : {A B : Type 0} (f : A → B) (xs ys : List A) (x : A) (y : B) (rest : List B) → ys ≡ xs ++ x ∷ [] → y ≡ f x → map f xs ++ (y ∷ rest) ≡ map f ys ++ rest
one_more f xs ys x y rest pushed same = rw (pushed, map-append f xs (x ∷ []), append_assoc (map f xs) (f x ∷ []) rest, same) refl
