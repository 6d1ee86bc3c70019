-- What holds of each row of a stream, by what holds of the rows that it is made of.
use Rattle.std.proofs.Common.{◌≡◌, ℕ, zero, suc, List, [], ◌∷◌, ◌++◌, Bool, true, false, cond, not, Option, Some, None, Result, Ok, Err, IfOk, map, length, ◌≤◌, refl, arith}
use Rattle.std.specs.Prelude.{take, drop, if◌then◌else◌}
use Rattle.std.proofs.lemmas.List.Sums.{length-filter, count_by-le-length}
use Rattle.std.specs.List.{AllByRecursion, cons_option, filter, filter_map, flat_map}
use Rattle.well_typed.specs.WellTyped.{MayBe}
use Rattle.sub_types.specs.declared.fault.Fault.{Fault}
use Rattle.sub_types.specs.declared.fault.FaultKind.{FaultKind}
use Rattle.sub_types.specs.Stream.{Stream, ended, followed_by, glue, each_stream, stream_of}
use Rattle.plan_denote.specs.Rows.{◌>>=◌, only_if, at_relation, each_row, unless_fault, from_all}
use Rattle.plan_denote.specs.Distinct.{distinct}

-- each row of a stream
abbrev pub Rows : {A : Type 0} → (A → Type 0) → Stream A → Type 0
Rows P s = AllByRecursion P s.rows

-- lists
pub appended : {A : Type 0} (P : A → Type 0) (xs ys : List A) → AllByRecursion P xs → AllByRecursion P ys → AllByRecursion P (xs ++ ys)
appended P [] ys all others = others
appended P (x ∷ xs) ys all others = (all.0, appended P xs ys all.1 others)

pub mapped : {A B : Type 0} (P : A → Type 0) (Q : B → Type 0) (f : A → B) (xs : List A) → AllByRecursion P xs → ((x : A) → P x → Q (f x)) → AllByRecursion Q (map f xs)
mapped P Q f [] all k = tt
mapped P Q f (x ∷ xs) all k = (k x all.0, mapped P Q f xs all.1 k)

pub weakened : {A : Type 0} (P Q : A → Type 0) (xs : List A) → AllByRecursion P xs → ((x : A) → P x → Q x) → AllByRecursion Q xs
weakened P Q [] all k = tt
weakened P Q (x ∷ xs) all k = (k x all.0, weakened P Q xs all.1 k)

pub every : {A : Type 0} (P : A → Type 0) (xs : List A) → ((x : A) → P x) → AllByRecursion P xs
every P [] k = tt
every P (x ∷ xs) k = (k x, every P xs k)

cond_all : {A : Type 0} (P : A → Type 0) (x : A) (xs : List A) (test : Bool) → (test ≡ true → P x) → AllByRecursion P xs → AllByRecursion P (cond test (x ∷ xs) xs)
cond_all P x xs true k all = (k refl, all)
cond_all P x xs false k all = all

-- what passes a test
pub passed : {A : Type 0} (P Q : A → Type 0) (test : A → Bool) (xs : List A) → AllByRecursion P xs → ((x : A) → P x → test x ≡ true → Q x) → AllByRecursion Q (filter test xs)
passed P Q test [] all k = tt
passed P Q test (x ∷ xs) all k = cond_all Q x (filter test xs) (test x) (k x all.0) (passed P Q test xs all.1 k)

pub filtered_all : {A : Type 0} (P : A → Type 0) (test : A → Bool) (xs : List A) → AllByRecursion P xs → AllByRecursion P (filter test xs)
filtered_all P test xs all = passed P P test xs all (λ x holds _. holds)

pub distinct_all : {A : Type 0} (P : A → Type 0) (same : A → A → Bool) (xs : List A) → AllByRecursion P xs → AllByRecursion P (distinct same xs)
distinct_all P same [] all = tt
distinct_all P same (x ∷ xs) all = (all.0, filtered_all P (λ y. not (same x y)) (distinct same xs) (distinct_all P same xs all.1))

pub flat_all : {A B : Type 0} (P : A → Type 0) (Q : B → Type 0) (f : A → List B) (xs : List A) → AllByRecursion P xs → ((x : A) → P x → AllByRecursion Q (f x)) → AllByRecursion Q (flat_map f xs)
flat_all P Q f [] all k = tt
flat_all P Q f (x ∷ xs) all k = appended Q (f x) (flat_map f xs) (k x all.0) (flat_all P Q f xs all.1 k)

pub taken : {A : Type 0} (P : A → Type 0) (count : ℕ) (xs : List A) → AllByRecursion P xs → AllByRecursion P (take count xs)
taken P zero xs all = tt
taken P (suc count) [] all = tt
taken P (suc count) (x ∷ xs) all = (all.0, taken P count xs all.1)

pub dropped : {A : Type 0} (P : A → Type 0) (count : ℕ) (xs : List A) → AllByRecursion P xs → AllByRecursion P (drop count xs)
dropped P zero xs all = all
dropped P (suc count) [] all = tt
dropped P (suc count) (x ∷ xs) all = dropped P count xs all.1

pub only_if_all : {A : Type 0} (P : A → Type 0) (test : Bool) (x : A) → P x → AllByRecursion P (only_if test x)
only_if_all P true x holds = (holds, tt)
only_if_all P false x holds = tt

pub filter_mapped : {A B : Type 0} (P : A → Type 0) (Q : B → Type 0) (f : A → Option B) (xs : List A) → AllByRecursion P xs → ((x : A) → P x → MayBe Q (f x)) → AllByRecursion Q (filter_map f xs)
filter_mapped P Q f [] all k = tt
filter_mapped {B = B} P Q f (x ∷ xs) all k = with_found (f x) (k x all.0) (filter_mapped P Q f xs all.1 k)
  where
    with_found : (found : Option B) → MayBe Q found → AllByRecursion Q (filter_map f xs) → AllByRecursion Q (cons_option found (filter_map f xs))
    with_found None holds rest = rest
    with_found (Some y) holds rest = (holds, rest)

-- what is left out of a list leaves no more
pub fewer_passed : {A : Type 0} (test : A → Bool) (xs : List A) → length (filter test xs) ≤ length xs
fewer_passed test xs = omega (arith, length-filter test xs, count_by-le-length test xs)

pub fewer_found : {A B : Type 0} (f : A → Option B) (xs : List A) → length (filter_map f xs) ≤ length xs
fewer_found f [] = omega arith
fewer_found {B = B} f (x ∷ xs) = with_found (f x) (fewer_found f xs)
  where
    with_found : (found : Option B) → length (filter_map f xs) ≤ length xs → length (cons_option found (filter_map f xs)) ≤ length (x ∷ xs)
    with_found None fewer = omega (arith, fewer)
    with_found (Some y) fewer = omega (arith, fewer)

pub fewer_distinct : {A : Type 0} (same : A → A → Bool) (xs : List A) → length (distinct same xs) ≤ length xs
fewer_distinct same [] = omega arith
fewer_distinct same (x ∷ xs) = omega (arith, fewer_passed (λ y. not (same x y)) (distinct same xs), fewer_distinct same xs)

-- results
pub any_result : {A E : Type 0} (given : Result A E) → IfOk given (λ _. Unit {0})
any_result (Ok x) = tt
any_result (Err e) = tt

pub stepped : {A B E : Type 0} (P : A → Type 0) (Q : B → Type 0) (first : Result A E) (next : A → Result B E) → IfOk first P → ((x : A) → P x → IfOk (next x) Q) → IfOk (first >>= next) Q
stepped P Q (Ok x) next known k = k x known
stepped P Q (Err e) next known k = tt

-- one of two streams
pub either_all : {A : Type 0} (P : A → Type 0) (test : Bool) (a b : Stream A) → (test ≡ true → Rows P a) → (test ≡ false → Rows P b) → Rows P (if test then a else b)
either_all P true a b k l = k refl
either_all P false a b k l = l refl

-- streams
followed_rows : {A : Type 0} (P : A → Type 0) (rows : List A) (end : Option Fault) (rest : Stream A) → AllByRecursion P rows → Rows P rest → Rows P (followed_by (record { rows = rows; end = end }) rest)
followed_rows P rows None rest all others = appended P rows rest.rows all others
followed_rows P rows (Some fault) rest all others = all

pub followed_all : {A : Type 0} (P : A → Type 0) (s rest : Stream A) → Rows P s → Rows P rest → Rows P (followed_by s rest)
followed_all P s rest all others = followed_rows P s.rows s.end rest all others

pub glued : {A : Type 0} (P : A → Type 0) (pieces : List (Stream A)) → AllByRecursion (Rows P) pieces → Rows P (glue pieces)
glued P [] all = tt
glued P (piece ∷ pieces) all = followed_all P piece (glue pieces) all.0 (glued P pieces all.1)

pub each_stream_all : {A B : Type 0} (P : A → Type 0) (Q : B → Type 0) (f : A → Stream B) (s : Stream A) → Rows P s → ((x : A) → P x → Rows Q (f x)) → Rows Q (each_stream f s)
each_stream_all P Q f s all k = followed_all Q (glue (map f s.rows)) (ended s.end) (glued Q (map f s.rows) (mapped P (Rows Q) f s.rows all k)) tt

stream_rows : {A : Type 0} (P : A → Type 0) (number : ℕ) (given : Result (List A) FaultKind) → IfOk given (AllByRecursion P) → Rows P (stream_of (at_relation number given))
stream_rows P number (Ok rows) all = all
stream_rows P number (Err kind) all = tt

pub each_row_all : {A B : Type 0} (P : A → Type 0) (Q : B → Type 0) (number : ℕ) (given : A → Result (List B) FaultKind) (s : Stream A) → Rows P s → ((x : A) → P x → IfOk (given x) (AllByRecursion Q))
    → Rows Q (each_row number given s)
each_row_all P Q number given s all k = each_stream_all P Q (λ row. stream_of (at_relation number (given row))) s all (λ x holds. stream_rows Q number (given x) (k x holds))

unless_rows : {A : Type 0} (P : A → Type 0) (fault : Option Fault) (s : Stream A) → Rows P s → Rows P (unless_fault fault s)
unless_rows P None s all = all
unless_rows P (Some fault) s all = tt

pub unless_all : {A : Type 0} (P : A → Type 0) (fault : Option Fault) (s : Stream A) → Rows P s → Rows P (unless_fault fault s)
unless_all P fault s all = unless_rows P fault s all

pub from_all_rows : {A B : Type 0} (Q : B → Type 0) (given : List A → Stream B) (s : Stream A) → Rows Q (given s.rows) → Rows Q (from_all given s)
from_all_rows Q given s all = unless_rows Q s.end (given s.rows) all
