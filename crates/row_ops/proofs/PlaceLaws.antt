-- The places of the rows at which a test is true.
use Rattle.std.proofs.Common.{◌≡◌, ◌∙◌, ℕ, suc, ◌+◌, ◌-◌, ◌<◌, ◌≤◌, List, [], ◌∷◌, Bool, true, false, Option, None, length, map, get_or, refl, sym, ap, ap₂, arith, if◌then◌else◌, zero}
use Rattle.std.specs.List.{All, filter, range_with_len}
use Rattle.std.specs.Prelude.{Result, Ok, Err}
use Rattle.std.proofs.lemmas.List.FromFn.{fill_by_all, get_or-range_with_len}
use Rattle.sub_types.specs.declared.fault.Fault.{Fault}
use Rattle.sub_types.specs.declared.fault.FaultKind.{FaultKind}
use Rattle.sub_types.specs.declared.value.Value.TheVariants.{Null}
use Rattle.sub_types.specs.Rows.{picked}
use Rattle.sub_types.specs.Stream.{Stream}
use Rattle.plan_typed.specs.declared.expr.Expr.{Expr}
use Rattle.plan_denote.specs.Rows.{Row}
use Rattle.plan_denote.specs.Eval.{eval}
use Rattle.plan_denote.specs.Filter.{filtered}
use Rattle.batch.specs.declared.batch.Batch.{Batch}
use Rattle.batch.specs.BatchRows.{rows_of, columns_of}
use Rattle.batch.proofs.RowLaws.{length-transpose}
use Rattle.kernels.specs.declared.selection.Stop.{Stop}
use Rattle.kernels.specs.Until.{Until, step, until}
use Rattle.batch_nodes.specs.Evaluated.{evaluated, row_at}
use Rattle.row_ops.proofs.StepLaws.{filter_until}
use Rattle.std.proofs.lemmas.List.{length-map}
use Rattle.std.proofs.lemmas.List.Elements.{All-cons, All-head, All-tail}
use Rattle.std.proofs.lemmas.List.FromFn.{length-range_with_len}
use Rattle.sub_types.specs.declared.value.Value.{Value}
use Rattle.sub_types.specs.Nullable.{bool_value}
use Rattle.plan_denote.specs.Computed.{Computed, is_true}
use Rattle.row_ops.specs.Stepped.{chosen_by, end_by}

abbrev stream : List Row → Option Fault → Stream Row
stream rows end = record { rows = rows; end = end }

-- a test that is asked for by its place, from a place on
abbrev test_from : ℕ → List (Option Bool) → ℕ → Bool
test_from a tests i = is_true (bool_value (get_or tests (i - a) None))

-- tests that are the same at the places of a range
filter_same : (p q : ℕ → Bool) (a n : ℕ) → ((i : ℕ) → a ≤ i → p i ≡ q i) → filter p (range_with_len a n) ≡ filter q (range_with_len a n)
filter_same p q a zero same = refl
filter_same p q a (suc n) same =
    ap₂ (λ (test : Bool) rest. if test then a ∷ rest else rest) (same a (omega arith)) (filter_same p q (a + 1) n (λ i above. same i (omega (arith, above))))

later_test : (a : ℕ) (test : Option Bool) (tests : List (Option Bool)) (i : ℕ) → a + 1 ≤ i → test_from a (test ∷ tests) i ≡ test_from (a + 1) tests i
later_test a test tests i above =
    let one : i - a ≡ suc (i - (a + 1)) = omega (arith, above) in
    ap (λ k. is_true (bool_value (get_or (test ∷ tests) k None))) one

places_from : (a : ℕ) (tests : List (Option Bool)) → filter (test_from a tests) (range_with_len a (length tests)) ≡ chosen_by (range_with_len a (length tests)) (map bool_value tests)
places_from a [] = refl
places_from a (test ∷ tests) =
    let none : a - a ≡ 0 = omega arith in
    let here : test_from a (test ∷ tests) a ≡ is_true (bool_value test) = ap (λ k. is_true (bool_value (get_or (test ∷ tests) k None))) none in
    let rest : filter (test_from a (test ∷ tests)) (range_with_len (a + 1) (length tests)) ≡ chosen_by (range_with_len (a + 1) (length tests)) (map bool_value tests) =
    filter_same (test_from a (test ∷ tests)) (test_from (a + 1) tests) (a + 1) (length tests) (later_test a test tests) ∙ places_from (a + 1) tests in
    ap₂ (λ (is : Bool) rest. if is then a ∷ rest else rest) here rest

pub places_are : (tests : List (Option Bool)) → filter (λ i. is_true (bool_value (get_or tests i None))) (range_with_len 0 (length tests)) ≡ chosen_by (range_with_len 0 (length (map bool_value tests))) (map bool_value tests)
places_are tests =
    filter_same (λ i. is_true (bool_value (get_or tests i None))) (test_from 0 tests) 0 (length tests) (λ i above. let same : i ≡ i - 0 = omega arith in ap (λ k. is_true (bool_value (get_or tests k None))) same)
    ∙ places_from 0 tests ∙ ap (λ n. chosen_by (range_with_len 0 n) (map bool_value tests)) (sym (length-map tests bool_value))

-- rows behind the last test aren't chosen
pub chosen_within : (a n m : ℕ) (tests : List Value) → length tests ≤ n → length tests ≤ m → chosen_by (range_with_len a n) tests ≡ chosen_by (range_with_len a m) tests
chosen_within a zero zero tests few fewer = refl
chosen_within a zero (suc m) [] few fewer = refl
chosen_within a (suc n) zero [] few fewer = refl
chosen_within a (suc n) (suc m) [] few fewer = refl
chosen_within a zero m (test ∷ tests) few fewer = absurd (omega (arith, few))
chosen_within a (suc n) zero (test ∷ tests) few fewer = absurd (omega (arith, fewer))
chosen_within a (suc n) (suc m) (test ∷ tests) few fewer =
    ap (λ rest. if is_true test then a ∷ rest else rest) (chosen_within (a + 1) n m tests (omega (arith, few)) (omega (arith, fewer)))

-- what holds of all rows holds of those that are chosen
all_either : (P : ℕ → Type 0) (is : Bool) (row : ℕ) (rest : List ℕ) → P row → All P rest → All P (if is then row ∷ rest else rest)
all_either P true row rest here there = All-cons P row rest here there
all_either P false row rest here there = there

pub chosen_all : (P : ℕ → Type 0) (rows : List ℕ) (tests : List Value) → All P rows → All P (chosen_by rows tests)
chosen_all P [] tests all = all
chosen_all P (row ∷ rows) [] all = λ k d below. absurd (omega (arith, below))
chosen_all P (row ∷ rows) (test ∷ tests) all =
    all_either P (is_true test) row (chosen_by rows tests) (All-head P row rows all) (chosen_all P rows tests (All-tail P row rows all))

-- as many as there are rows are all of them
chosen_few : (rows : List ℕ) (tests : List Value) → length (chosen_by rows tests) ≤ length rows
chosen_few [] tests = omega arith
chosen_few (row ∷ rows) [] = omega arith
chosen_few (row ∷ rows) (test ∷ tests) = few_either (is_true test) row rows (chosen_by rows tests) (chosen_few rows tests)
  where
    few_either : (is : Bool) (row : ℕ) (rows rest : List ℕ) → length rest ≤ length rows → length (if is then row ∷ rest else rest) ≤ length (row ∷ rows)
    few_either true row rows rest few = omega (arith, few)
    few_either false row rows rest few = omega (arith, few)

pub chosen_whole : (rows : List ℕ) (tests : List Value) → length (chosen_by rows tests) ≡ length rows → chosen_by rows tests ≡ rows
chosen_whole [] tests many = refl
chosen_whole (row ∷ rows) [] many = absurd (omega (arith, many))
chosen_whole (row ∷ rows) (test ∷ tests) many = whole_either (is_true test) row rows tests many (λ same. chosen_whole rows tests same)
  where
    whole_either : (is : Bool) (row : ℕ) (rows : List ℕ) (tests : List Value) → length (if is then row ∷ chosen_by rows tests else chosen_by rows tests) ≡ length (row ∷ rows)
        → (length (chosen_by rows tests) ≡ length rows → chosen_by rows tests ≡ rows) → (if is then row ∷ chosen_by rows tests else chosen_by rows tests) ≡ row ∷ rows
    whole_either true row rows tests many next = ap (λ rest. row ∷ rest) (next (omega (arith, many)))
    whole_either false row rows tests many next = absurd (omega (arith, many, chosen_few rows tests))

pub all_below : (n m : ℕ) → n ≤ m → All (λ row. row < m) (range_with_len 0 n)
all_below n m few k d below =
    let there : k < n = omega (arith, below, length-range_with_len 0 n) in
    omega (arith, few, there, get_or-range_with_len 0 n k d there)

-- the first rows are as many as there are values
pub until-few : {X : Type 0} (f : ℕ → Result X FaultKind) (rows : List ℕ) → length (until f rows).values ≤ length rows
until-few f [] = omega arith
until-few f (row ∷ rows) = step-few row (f row) rows (until f rows) (until-few f rows)
  where
    step-few : {X : Type 0} (row : ℕ) (r : Result X FaultKind) (rows : List ℕ) (rest : Until X) → length rest.values ≤ length rows → length (step row r rest).values ≤ length (row ∷ rows)
    step-few row (Ok x) rows rest few = omega (arith, few)
    step-few row (Err kind) rows rest few = omega arith

pub chosen_until : (f : ℕ → Computed) (n : ℕ) → chosen_by (range_with_len 0 (length (until f (range_with_len 0 n)).values)) (until f (range_with_len 0 n)).values ≡ chosen_by (range_with_len 0 n) (until f (range_with_len 0 n)).values
chosen_until f n =
    let values = (until f (range_with_len 0 n)).values in
    chosen_within 0 (length values) n values (omega arith) (omega (arith, until-few f (range_with_len 0 n), length-range_with_len 0 n))

-- the rows of a batch, one by one
pub rows_at : (batch : Batch) → rows_of batch ≡ map (row_at batch) (range_with_len 0 batch.rows)
rows_at batch = fill_by_all (row_at batch) (rows_of batch) batch.rows [] (length-transpose Null batch.rows (columns_of batch)) (λ i below. refl)

pub picked_all : (batch : Batch) → picked [] (range_with_len 0 batch.rows) (rows_of batch) ≡ rows_of batch
picked_all batch = sym (rows_at batch)

pub filter_stream : (number : ℕ) (condition : Expr) (batch : Batch) (end : Option Fault) (places : List ℕ) (stop : Stop) (kept : Batch) (ended : Option Fault)
    → places ≡ chosen_by (range_with_len 0 batch.rows) (evaluated condition batch (range_with_len 0 batch.rows)).values → stop ≡ (evaluated condition batch (range_with_len 0 batch.rows)).stop
    → rows_of kept ≡ picked [] places (rows_of batch) → ended ≡ end_by number stop end
    → ◌≡◌ {A = Stream Row} (record { rows = rows_of kept; end = ended }) (filtered number (eval condition) (record { rows = rows_of batch; end = end }))
filter_stream number condition batch end places stop kept ended places_is stop_is rows_is ended_is =
    ap₂ (λ (rows : List Row) (one : Option Fault). stream rows one) (rows_is ∙ ap (λ (at : List ℕ). picked [] at (rows_of batch)) places_is) (ended_is ∙ ap (λ one. end_by number one end) stop_is)
    ∙ sym (filter_until number (eval condition) (row_at batch) (range_with_len 0 batch.rows) end)
    ∙ ap (λ (rows : List Row). filtered number (eval condition) (stream rows end)) (sym (rows_at batch))
