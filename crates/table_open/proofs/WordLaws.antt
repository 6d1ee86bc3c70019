-- The bindings among the words that are left.
use Rattle.std.proofs.Common.{◌≡◌, ◌∙◌, ℕ, ◌+◌, ◌<◌, ◌≤◌, List, [], ◌∷◌, length, drop, get_or, false, Option, Some, None, MatchOption, refl, sym, ap, arith}
use Rattle.std.specs.List.{list_any, position_or_len, filter_map, enumerate_from}
use Rattle.std.proofs.lemmas.List.{drop_more, drop_all}
use Rattle.std.proofs.lemmas.List.Folds.{list_any_none}
use Rattle.std.proofs.lemmas.List.Sums.{fails_before_first}
use Rattle.table_open.specs.Words.{is_equals, bound_file, binding_in, bindings_of}

no_equals : (word : List ℕ) → position_or_len is_equals word ≡ length word → list_any is_equals word ≡ false
no_equals word h = list_any_none is_equals word (λ k d below. fails_before_first is_equals word k d (omega arith))

-- a word that isn't split binds nothing
pub never_bound : {X : Type 0} (name word : List ℕ) (r : Option X) (Q : X → Type 0) → r ≡ None → MatchOption r (position_or_len is_equals word ≡ length word) Q → bound_file name word ≡ None
unfolding bound_file
never_bound name word None Q is h = rw (no_equals word h) refl
never_bound name word (Some x) Q is h = absurd (cc)

-- the bindings of the name among the words from a place on
abbrev pub bindings_from : List ℕ → ℕ → List (List ℕ) → List (ℕ × List ℕ)
bindings_from name i words = filter_map (binding_in name) (enumerate_from (i + 1) (drop i words))

pub bindings_all : (name : List ℕ) (words : List (List ℕ)) → bindings_of name words ≡ bindings_from name 0 words
unfolding bindings_of
bindings_all name words = refl

words_more : (words : List (List ℕ)) (i : ℕ) (word : List ℕ) → i < length words → word ≡ get_or words i word → drop i words ≡ word ∷ drop (i + 1) words
words_more words i word below is = drop_more words i word below ∙ ap (λ (w : List ℕ). w ∷ drop (i + 1) words) (sym is)

-- what a word binds, by its text
pub found_is : (name word text file : List ℕ) → text ≡ word → Some file ≡ bound_file name text → bound_file name word ≡ Some file
found_is name word text file same found = ap (bound_file name) (sym same) ∙ sym found

pub bindings_more : (name : List ℕ) (words : List (List ℕ)) (i : ℕ) (word file : List ℕ) → i < length words → word ≡ get_or words i word → bound_file name word ≡ Some file
    → bindings_from name i words ≡ (i + 1, file) ∷ bindings_from name (i + 1) words
bindings_more name words i word file below is bound =
    ap (λ (ws : List (List ℕ)). filter_map (binding_in name) (enumerate_from (i + 1) ws)) (words_more words i word below is) ∙ rw bound refl

pub bindings_done : (name : List ℕ) (words : List (List ℕ)) (i : ℕ) → length words ≤ i → bindings_from name i words ≡ []
bindings_done name words i end = ap (λ (ws : List (List ℕ)). filter_map (binding_in name) (enumerate_from (i + 1) ws)) (drop_all i words end)
