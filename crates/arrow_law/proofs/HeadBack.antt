-- What is read of a footer's columns, all of which are wanted.
use Rattle.std.proofs.Common.{◌≡◌, ◌∙◌, ℕ, suc, ◌+◌, List, [], ◌∷◌, ◌++◌, Bool, false, Option, Some, None, length, map, refl, sym, ap, arith, append_assoc, length-append}
use Rattle.std.specs.List.{range_with_len, filter_map, enumerate_from, list_any, slice_get, All}
use Rattle.std.proofs.lemmas.List.Elements.{All-head, All-tail}
use Rattle.sub_types.specs.declared.kind.Ty.{Ty}
use Rattle.arrow_meta.specs.declared.field.FieldMeta.{FieldMeta}
use Rattle.arrow_meta.specs.declared.field.Layout.TheVariants.{Plain}
use Rattle.sub_types.specs.OptionSteps.{all_of}
use Rattle.arrow_meta.specs.Batch.{Wanted, known_buffers}
use Rattle.arrow_meta.specs.Dictionary.{DictionaryBlock, column_dictionary}
use Rattle.arrow_meta.specs.Written.{column_of, columns_of}
use Rattle.arrow_meta.specs.Table.{shapes_of, wanted_as, type_of}
use Rattle.arrow_law.proofs.Options.{slice_get_at}
use Rattle.arrow_law.proofs.BatchBack.{buffer_counts, wanted_from}

pub length-columns_of : (names : List (List ℕ)) (types : List Ty) → length names ≡ length types → length (columns_of names types) ≡ length types
length-columns_of [] [] same = refl
length-columns_of [] (ty ∷ types) same = absurd (omega arith)
length-columns_of (name ∷ names) [] same = absurd (omega arith)
length-columns_of (name ∷ names) (ty ∷ types) same = ap (λ n. suc n) (length-columns_of names types (omega arith))

pub names_back : (names : List (List ℕ)) (types : List Ty) → length names ≡ length types → map (λ field. field.name) (columns_of names types) ≡ names
names_back [] [] same = refl
names_back [] (ty ∷ types) same = absurd (omega arith)
names_back (name ∷ names) [] same = absurd (omega arith)
names_back (name ∷ names) (ty ∷ types) same = ap (λ rest. name ∷ rest) (names_back names types (omega arith))

pub types_back : (names : List (List ℕ)) (types : List Ty) → length names ≡ length types → all_of (map type_of (columns_of names types)) ≡ Some types
types_back [] [] same = refl
types_back [] (ty ∷ types) same = absurd (omega arith)
types_back (name ∷ names) [] same = absurd (omega arith)
types_back (name ∷ names) (ty ∷ types) same = rw (types_back names types (omega arith)) refl

pub shapes_back : (names : List (List ℕ)) (types : List Ty) → length names ≡ length types → shapes_of (columns_of names types) ≡ buffer_counts types
shapes_back [] [] same = refl
shapes_back [] (ty ∷ types) same = absurd (omega arith)
shapes_back (name ∷ names) [] same = absurd (omega arith)
shapes_back (name ∷ names) (ty ∷ types) same = ap (λ rest. known_buffers ty.kind Plain ∷ rest) (shapes_back names types (omega arith))

-- no column has indices
pub no_dictionaries : (blocks : List (Option DictionaryBlock)) (i : ℕ) (names : List (List ℕ)) (types : List Ty)
    → filter_map (column_dictionary blocks) (enumerate_from i (columns_of names types)) ≡ []
no_dictionaries blocks i [] types = refl
no_dictionaries blocks i (name ∷ names) [] = refl
no_dictionaries blocks i (name ∷ names) (ty ∷ types) = no_dictionaries blocks (i + 1) names types

-- all columns are wanted
pub wanted_back : (front : List FieldMeta) (names : List (List ℕ)) (types : List Ty) (all : List FieldMeta) (i : ℕ) → length names ≡ length types
    → length front ≡ i → all ≡ front ++ columns_of names types
    → filter_map (λ column. wanted_as [] column (slice_get all column)) (range_with_len i (length types)) ≡ wanted_from i types
wanted_back front [] [] all i same long are = refl
wanted_back front [] (ty ∷ types) all i same long are = absurd (omega arith)
wanted_back front (name ∷ names) [] all i same long are = absurd (omega arith)
wanted_back front (name ∷ names) (ty ∷ types) all i same long are =
    let field : FieldMeta = column_of name ty in
    let wanted : Wanted = record { column = i; kind = ty.kind; layout = Plain; dictionary = None } in
    let here : slice_get all i ≡ Some field = ap (λ xs. slice_get xs i) are ∙ slice_get_at front field (columns_of names types) i long in
    let longer : length (front ++ field ∷ []) ≡ i + 1 = length-append front (field ∷ []) ∙ omega (arith, long) in
    let others = wanted_back (front ++ field ∷ []) names types all (i + 1) (omega arith) longer (are ∙ sym (append_assoc front (field ∷ []) (columns_of names types))) in
    rw here (ap (λ rest. wanted ∷ rest) others)

-- no element passes
pub list_any_none : {A : Type 0} (test : A → Bool) (xs : List A) → All (λ x. test x ≡ false) xs → list_any test xs ≡ false
list_any_none test [] none = refl
list_any_none test (x ∷ xs) none =
    rw (All-head (λ y. test y ≡ false) x xs none) (list_any_none test xs (All-tail (λ y. test y ≡ false) x xs none))
