-- No two entries of the table fit one call.
use Rattle.std.proofs.Common.{◌≡◌, ◌≤◌, ◌+◌, ◌∙◌, refl, sym, cond, Bool, true, false, not, List, [], ◌∷◌, ◌&&◌, ◌||◌, ℕ, arith}
use Rattle.std.specs.List.{list_any, count_by}
use Rattle.std.specs.Str.{bytes_eq}
use Rattle.std.specs.Cmp.Lexicographic.{pointwise}
use Rattle.std.specs.Cmp.Derive.{both_true}
use Rattle.std.proofs.lemmas.Bool.{and_parts, or_parts, not-true, both_ways, false_from_ne_true}
use Rattle.std.proofs.lemmas.Slice.Eq.{bytes_eq-Decides}
use Rattle.sub_types.specs.declared.kind.Kind.{Kind}
use Rattle.func_table.specs.declared.row.Class.{Class}
use Rattle.func_table.specs.declared.row.Class.TheVariants.{Scalar, Aggregate}
use Rattle.func_table.specs.Kinds.{short_name}
use Rattle.func_table.specs.Entry.{Entry, Arguments, Each, AnyNumber, OneOrMore, any, takes_kind, takes_kinds, is_class, is_named, fits}
use Rattle.func_table.specs.Table.{table}
use Rattle.func_table.proofs.ListLaws.{count_by-cons}

-- two names that may stand for one kind
meet : List ℕ → List ℕ → Bool
meet a b = bytes_eq a any || bytes_eq b any || bytes_eq a b

-- two lists of arguments that may fit the same kinds; of arguments that repeat nothing is said
overlap : Arguments → Arguments → Bool
overlap (Each a) (Each b) = pointwise meet a b
overlap _ _ = true

-- two entries of one function whose arguments may fit the same kinds
clash : Entry → Entry → Bool
clash a b = is_named a.file a.row.name a.class b && overlap a.arguments b.arguments

-- no two of them clash
are_apart : List Entry → Bool
are_apart [] = true
are_apart (entry ∷ entries) = not (list_any (clash entry) entries) && are_apart entries

-- what a name that is any or a kind's own makes of two of them
either : (x y z u v : Bool) → (x || u) ≡ true → (y || v) ≡ true → (u ≡ true → v ≡ true → z ≡ true) → (x || y || z) ≡ true
either true y z u v first second both = refl
either false true z u v first second both = refl
either false false z u v first second both = both first second

equal_texts : (a b c : List ℕ) → bytes_eq a c ≡ true → bytes_eq b c ≡ true → bytes_eq a b ≡ true
equal_texts a b c first second = (bytes_eq-Decides a b).1 ((bytes_eq-Decides a c).0 first ∙ sym ((bytes_eq-Decides b c).0 second))

one_class : (a b c : Class) → is_class a c ≡ true → is_class b c ≡ true → is_class b a ≡ true
one_class Scalar Scalar c first second = refl
one_class Aggregate Aggregate c first second = refl
one_class Scalar Aggregate Scalar first second = cc
one_class Scalar Aggregate Aggregate first second = cc
one_class Aggregate Scalar Scalar first second = cc
one_class Aggregate Scalar Aggregate first second = cc

meet-takes : (a b : List ℕ) (kind : Kind) → takes_kind a kind ≡ true → takes_kind b kind ≡ true → meet a b ≡ true
unfolding meet
meet-takes a b kind first second = either _ _ _ _ _ first second (equal_texts a b (short_name kind))

all_meet : (some others : List (List ℕ)) (kinds : List Kind) → pointwise takes_kind some kinds ≡ true → pointwise takes_kind others kinds ≡ true → pointwise meet some others ≡ true
all_meet [] [] kinds first second = refl
all_meet [] (b ∷ others) [] first second = cc
all_meet [] (b ∷ others) (kind ∷ kinds) first second = cc
all_meet (a ∷ some) others [] first second = cc
all_meet (a ∷ some) [] (kind ∷ kinds) first second = cc
all_meet (a ∷ some) (b ∷ others) (kind ∷ kinds) first second =
    let one = and_parts _ _ first in
    let other = and_parts _ _ second in
    both_true (meet-takes a b kind one.0 other.0) (all_meet some others kinds one.1 other.1)

overlap-takes : (a b : Arguments) (kinds : List Kind) → takes_kinds a kinds ≡ true → takes_kinds b kinds ≡ true → overlap a b ≡ true
unfolding overlap
overlap-takes (Each a) (Each b) kinds first second = all_meet a b kinds first second
overlap-takes (Each a) (AnyNumber b) kinds first second = refl
overlap-takes (Each a) (OneOrMore b) kinds first second = refl
overlap-takes (AnyNumber a) b kinds first second = refl
overlap-takes (OneOrMore a) b kinds first second = refl

-- what is known of an entry that fits
record IsFitting (file name : List ℕ) (kinds : List Kind) (class : Class) (entry : Entry) : Type 0 where
  of_file : bytes_eq entry.file file ≡ true
  of_name : bytes_eq entry.row.name name ≡ true
  of_class : is_class entry.class class ≡ true
  of_kinds : takes_kinds entry.arguments kinds ≡ true

fitting : (file name : List ℕ) (kinds : List Kind) (class : Class) (entry : Entry) → fits file name kinds class entry ≡ true → IsFitting file name kinds class entry
fitting file name kinds class entry fit =
    let taken = and_parts _ _ (and_parts _ _ fit).0 in
    let named = and_parts _ _ taken.0 in
    let both = and_parts _ _ named.0 in
    record { of_file = both.0; of_name = both.1; of_class = named.1; of_kinds = taken.1 }

-- two entries that fit one call clash
clash-fits : (file name : List ℕ) (kinds : List Kind) (class : Class) (a b : Entry) → fits file name kinds class a ≡ true → fits file name kinds class b ≡ true → clash a b ≡ true
unfolding clash
clash-fits file name kinds class a b first second =
    let one = fitting file name kinds class a first in
    let other = fitting file name kinds class b second in
    let same_file = equal_texts b.file a.file file other.of_file one.of_file in
    let same_name = equal_texts b.row.name a.row.name name other.of_name one.of_name in
    let same_class = one_class a.class b.class class one.of_class other.of_class in
    both_true (both_true (both_true same_file same_name) same_class) (overlap-takes a.arguments b.arguments kinds one.of_kinds other.of_kinds)

-- where one fits that clashes with none of the others, none of these fits
none_fits : (file name : List ℕ) (kinds : List Kind) (class : Class) (entry : Entry) (entries : List Entry) → fits file name kinds class entry ≡ true → list_any (clash entry) entries ≡ false → count_by (fits file name kinds class) entries ≡ 0
none_fits file name kinds class entry [] fit none = refl
none_fits file name kinds class entry (other ∷ entries) fit none =
    let apart = or_parts _ _ none in
    let later = none_fits file name kinds class entry entries fit apart.1 in
    let unfit = false_from_ne_true (fits file name kinds class other) (λ other_fit. both_ways _ apart.0 (clash-fits file name kinds class entry other fit other_fit)) in
    count_by-cons (fits file name kinds class) other entries ∙ rw (unfit, later) refl

-- the first, where it fits, and then none of the others, and else one of the others at most
first_or_later : (b : Bool) (n : ℕ) → (b ≡ true → n ≡ 0) → n ≤ 1 → cond b 1 0 + n ≤ 1
first_or_later true n none later = let no_more : n ≡ 0 = none refl in omega arith
first_or_later false n none later = omega arith

-- at most one of them fits
one_fits : (file name : List ℕ) (kinds : List Kind) (class : Class) (entries : List Entry) → are_apart entries ≡ true → count_by (fits file name kinds class) entries ≤ 1
unfolding are_apart
one_fits file name kinds class [] apart = omega arith
one_fits file name kinds class (entry ∷ entries) apart =
    let parts = and_parts _ _ apart in
    let no_more = λ (fit : fits file name kinds class entry ≡ true). none_fits file name kinds class entry entries fit (not-true _ parts.0) in
    rw count_by-cons (first_or_later (fits file name kinds class entry) _ no_more (one_fits file name kinds class entries parts.1))

apart : are_apart table ≡ true
unfolding table are_apart clash overlap meet
apart = refl

pub one_row_fits : (file name : List ℕ) (kinds : List Kind) (class : Class) → count_by (fits file name kinds class) table ≤ 1
one_row_fits file name kinds class = one_fits file name kinds class table apart
