-- The rows for which a test is true, and what is taken of them.
use Rattle.std.proofs.Common.{◌≡◌, ◌∙◌, ℕ, zero, suc, ◌+◌, ◌-◌, ◌≤◌, List, [], ◌∷◌, Bool, true, false, cond, Option, Some, None, Result, Ok, Err, length, map, replicate, get_or, refl, sym, ap, ap₂, subst, arith}
use Rattle.std.specs.List.{All, filter, range_with_len}
use Rattle.std.proofs.lemmas.List.{length-map, length-replicate}
use Rattle.std.proofs.lemmas.List.Elements.{All-cons, All-nil, All-head, All-tail}
use Rattle.sub_types.specs.declared.fault.FaultKind.{FaultKind}
use Rattle.sub_types.specs.declared.kind.Kind.{Kind}
use Rattle.sub_types.specs.declared.value.Value.{Value}
use Rattle.sub_types.specs.declared.value.Value.TheVariants as values
use Rattle.sub_types.specs.Nullable.{bool_value}
use Rattle.plan_typed.specs.declared.expr.Expr.{Expr}
use Rattle.plan_denote.specs.Computed.{Row, is_true}
use Rattle.plan_denote.specs.Eval.{eval}
use Rattle.well_typed.specs.WellTyped.{MayBe}
use Rattle.batch.specs.declared.batch.Batch.{Batch}
use Rattle.batch.specs.declared.column.Column as stored
use Rattle.batch.specs.Column.{column_values}
use Rattle.kernels.specs.declared.selection.Stop.{Stop}
use Rattle.kernels.specs.declared.selection.Stop.TheVariants.{Never, At}
use Rattle.kernels.specs.Until.{Until, step, until}
use Rattle.batch_nodes.specs.Evaluated.{eval_at, row_at}
use Rattle.batch_nodes.specs.Found.{IsUntil, found_values}
use Rattle.batch_nodes.specs.declared.found.Found.{Found}
use Rattle.group_laws.specs.Columns.{Column, column, first_stop, chosen, next_value, spread}
use Rattle.group_columns.specs.Columns.{values_or_true, trues_in}
use Rattle.group_inputs.specs.declared.before.Before.{Before}
use Rattle.group_inputs.specs.Before.{first_rows, kind_in, IsColumn}
use Rattle.group_inputs.specs.Taking.{places_in, IsTest, IsBefore, argument_at, IsChosen, IsArgument}
use Rattle.group_inputs.proofs.UntilLaws.{many_first, column_short, column_full, column_true, column_until}

-- ---- places

-- a test that is asked for by its place, from a place on
abbrev test_from : ℕ → List (Option Bool) → ℕ → Bool
test_from a tests i = is_true (bool_value (get_or tests (i - a) None))

filter_same : (p q : ℕ → Bool) (a n : ℕ) → ((i : ℕ) → a ≤ i → p i ≡ q i) → filter p (range_with_len a n) ≡ filter q (range_with_len a n)
filter_same p q a zero same = refl
filter_same p q a (suc n) same =
    ap₂ (λ (test : Bool) rest. cond test (a ∷ rest) rest) (same a (omega arith)) (filter_same p q (a + 1) n (λ i above. same i (omega (arith, above))))

later_test : (a : ℕ) (test : Option Bool) (tests : List (Option Bool)) (i : ℕ) → a + 1 ≤ i → test_from a (test ∷ tests) i ≡ test_from (a + 1) tests i
later_test a test tests i above =
    let one : i - a ≡ suc (i - (a + 1)) = omega (arith, above) in
    ap (λ k. is_true (bool_value (get_or (test ∷ tests) k None))) one

places_from : (a : ℕ) (tests : List (Option Bool)) → filter (test_from a tests) (range_with_len a (length tests)) ≡ places_in (range_with_len a (length tests)) (map bool_value tests)
places_from a [] = refl
places_from a (test ∷ tests) =
    let none : a - a ≡ 0 = omega arith in
    let here : test_from a (test ∷ tests) a ≡ is_true (bool_value test) = ap (λ k. is_true (bool_value (get_or (test ∷ tests) k None))) none in
    let rest : filter (test_from a (test ∷ tests)) (range_with_len (a + 1) (length tests)) ≡ places_in (range_with_len (a + 1) (length tests)) (map bool_value tests) =
    filter_same (test_from a (test ∷ tests)) (test_from (a + 1) tests) (a + 1) (length tests) (later_test a test tests) ∙ places_from (a + 1) tests in
    ap₂ (λ (is : Bool) rest. cond is (a ∷ rest) rest) here rest

pub places_are : (tests : List (Option Bool)) → filter (λ i. is_true (bool_value (get_or tests i None))) (range_with_len 0 (length tests)) ≡ places_in (range_with_len 0 (length (map bool_value tests))) (map bool_value tests)
places_are tests =
    filter_same (λ i. is_true (bool_value (get_or tests i None))) (test_from 0 tests) 0 (length tests) (λ i above. let same : i ≡ i - 0 = omega arith in ap (λ k. is_true (bool_value (get_or tests k None))) same)
    ∙ places_from 0 tests ∙ ap (λ n. places_in (range_with_len 0 n) (map bool_value tests)) (sym (length-map tests bool_value))

-- rows behind the last test aren't chosen
places_within : (a n m : ℕ) (tests : List Value) → length tests ≤ n → length tests ≤ m → places_in (range_with_len a n) tests ≡ places_in (range_with_len a m) tests
places_within a zero zero tests few fewer = refl
places_within a zero (suc m) [] few fewer = refl
places_within a (suc n) zero [] few fewer = refl
places_within a (suc n) (suc m) [] few fewer = refl
places_within a zero m (test ∷ tests) few fewer = absurd (omega (arith, few))
places_within a (suc n) zero (test ∷ tests) few fewer = absurd (omega (arith, fewer))
places_within a (suc n) (suc m) (test ∷ tests) few fewer =
    ap (λ rest. cond (is_true test) (a ∷ rest) rest) (places_within (a + 1) n m tests (omega (arith, few)) (omega (arith, fewer)))

-- what holds of all rows holds of those that are chosen
all_either : (P : ℕ → Type 0) (is : Bool) (row : ℕ) (rest : List ℕ) → P row → All P rest → All P (cond is (row ∷ rest) rest)
all_either P true row rest here there = All-cons P row rest here there
all_either P false row rest here there = there

pub all_places : (P : ℕ → Type 0) (rows : List ℕ) (tests : List Value) → All P rows → All P (places_in rows tests)
all_places P [] tests all = All-nil P
all_places P (row ∷ rows) [] all = All-nil P
all_places P (row ∷ rows) (test ∷ tests) all =
    all_either P (is_true test) row (places_in rows tests) (All-head P row rows all) (all_places P rows tests (All-tail P row rows all))

-- the rows at these places
rows_either : (g : ℕ → Row) (is : Bool) (row : ℕ) (rest : List ℕ) (chosen : List Row) → map g rest ≡ chosen → map g (cond is (row ∷ rest) rest) ≡ cond is (g row ∷ chosen) chosen
rows_either g true row rest chosen e = ap (λ l. g row ∷ l) e
rows_either g false row rest chosen e = e

chosen_places : (g : ℕ → Row) (rows : List ℕ) (tests : List Value) → map g (places_in rows tests) ≡ chosen tests (map g rows)
chosen_places g [] [] = refl
chosen_places g [] (test ∷ tests) = refl
chosen_places g (row ∷ rows) [] = refl
chosen_places g (row ∷ rows) (test ∷ tests) = rows_either g (is_true test) row (places_in rows tests) (chosen tests (map g rows)) (chosen_places g rows tests)

-- with no more tests than rows
pub chosen_first : (batch : Batch) (n m : ℕ) (tests : List Value) → length tests ≤ n → length tests ≤ m → chosen tests (first_rows n batch) ≡ chosen tests (first_rows m batch)
chosen_first batch n m tests few fewer =
    sym (chosen_places (row_at batch) (range_with_len 0 n) tests) ∙ ap (map (row_at batch)) (places_within 0 n m tests few fewer) ∙ chosen_places (row_at batch) (range_with_len 0 m) tests

-- ---- how far the values of chosen rows reach

abbrev spread_if : Bool → List Value → List Value → List (Option Value)
spread_if b tests given = cond b (next_value given (spread tests)) (None ∷ spread tests given)

abbrev trues_if : Bool → List Value → ℕ
trues_if b tests = cond b (suc (trues_in tests)) (trues_in tests)

abbrev Reaches : ℕ → ℕ → List (Option Value) → ℕ → List Value → Stop → Type 0
Reaches a many taken trues given Never = (length taken ≡ many) × (trues ≤ length given)
Reaches a many taken trues given (At row kind) = a + length taken ≡ row

reaches_next : (a : ℕ) (tests given : List Value) (value : Value) (stop : Stop) → Reaches (a + 1) (length tests) (spread tests given) (trues_in tests) given stop → Reaches a (suc (length tests)) (Some value ∷ spread tests given) (suc (trues_in tests)) (value ∷ given) stop
reaches_next a tests given value Never r = (ap suc r.0, omega (arith, r.1))
reaches_next a tests given value (At row kind) r = omega (arith, r)

reaches_none : (a : ℕ) (tests given : List Value) (stop : Stop) → Reaches (a + 1) (length tests) (spread tests given) (trues_in tests) given stop → Reaches a (suc (length tests)) (None ∷ spread tests given) (trues_in tests) given stop
reaches_none a tests given Never r = (ap suc r.0, r.1)
reaches_none a tests given (At row kind) r = omega (arith, r)

reaches_row : (a : ℕ) (tests : List Value) (r : Result Value FaultKind) (rest : Until Value) → Reaches (a + 1) (length tests) (spread tests rest.values) (trues_in tests) rest.values rest.stop
    → Reaches a (suc (length tests)) (next_value (step a r rest).values (spread tests)) (suc (trues_in tests)) (step a r rest).values (step a r rest).stop
reaches_row a tests (Ok value) rest r = reaches_next a tests rest.values value rest.stop r
reaches_row a tests (Err kind) rest r = omega arith

reaches_if : (f : ℕ → Result Value FaultKind) (a : ℕ) (b : Bool) (tests : List Value) (places : List ℕ) → Reaches (a + 1) (length tests) (spread tests (until f places).values) (trues_in tests) (until f places).values (until f places).stop
    → Reaches a (suc (length tests)) (spread_if b tests (until f (cond b (a ∷ places) places)).values) (trues_if b tests) (until f (cond b (a ∷ places) places)).values (until f (cond b (a ∷ places) places)).stop
reaches_if f a true tests places r = reaches_row a tests (f a) (until f places) r
reaches_if f a false tests places r = reaches_none a tests (until f places).values (until f places).stop r

reaches : (f : ℕ → Result Value FaultKind) (a : ℕ) (tests : List Value) → Reaches a (length tests) (spread tests (until f (places_in (range_with_len a (length tests)) tests)).values) (trues_in tests) (until f (places_in (range_with_len a (length tests)) tests)).values (until f (places_in (range_with_len a (length tests)) tests)).stop
reaches f a [] = (refl, omega arith)
reaches f a (test ∷ tests) = reaches_if f a (is_true test) tests (places_in (range_with_len (a + 1) (length tests)) tests) (reaches f (a + 1) tests)

after_reach : (tests given : List Value) (trues : ℕ) (stop : Stop) (tested after : Before) → length tests ≡ tested.rows → Reaches 0 (length tests) (spread tests given) trues given stop → IsBefore stop tested after
    → (after.rows ≡ length (spread tests given)) × (after.stop ≡ first_stop (kind_in stop) tested.stop)
after_reach tests given trues Never tested after long r is = (ap (λ (one : Before). one.rows) is ∙ sym long ∙ sym r.0, ap (λ (one : Before). one.stop) is)
after_reach tests given trues (At row kind) tested after long r is = (is.0 ∙ sym r ∙ omega arith, is.1)

whole_reach : (a many : ℕ) (taken : List (Option Value)) (trues : ℕ) (given : List Value) (stop : Stop) → Reaches a many taken trues given stop → kind_in stop ≡ None → trues ≤ length given
whole_reach a many taken trues given Never r e = r.1
whole_reach a many taken trues given (At row kind) r e = absurd (cc)

-- an expression at chosen rows
pub chosen_found : (arg : Expr) (batch : Batch) (tests : stored.Column) (tested after : Before) (places : List ℕ) (kind : Kind) (found : Found) (stop : Stop) (given : stored.Column)
    → IsTest tested.rows tests → places ≡ places_in (range_with_len 0 (length (column_values tests))) (column_values tests) → IsUntil (eval_at arg batch) places kind found stop → column_values given ≡ found_values found → IsBefore stop tested after
    → IsChosen arg batch (column_values tests) tested given after
chosen_found arg batch tests tested after places kind found stop given is_test at is values left =
    let all = column_values tests in
    let own = places_in (range_with_len 0 (length all)) all in
    let seen = until (eval_at arg batch) own in
    let one = argument_at (Some arg) batch tested.rows all in
    let there : map (row_at batch) own ≡ chosen all (first_rows tested.rows batch) =
    chosen_places (row_at batch) (range_with_len 0 (length all)) all ∙ ap (λ n. chosen all (first_rows n batch)) is_test.long in
    let whole : one ≡ record { values = seen.values; stop = kind_in seen.stop } = sym (ap (column (eval arg)) there) ∙ column_until (eval arg) (row_at batch) own in
    let own_values : found_values found ≡ seen.values = is.values ∙ ap (λ l. (until (eval_at arg batch) l).values) at in
    let own_stop : stop ≡ seen.stop = is.stop ∙ ap (λ l. (until (eval_at arg batch) l).stop) at in
    let left_own : IsBefore seen.stop tested after = subst (λ s. IsBefore s tested after) own_stop left in
    let r = reaches (eval_at arg batch) 0 all in
    let ended = after_reach all seen.values (trues_in all) seen.stop tested after is_test.long r left_own in
    record {
      values = values ∙ own_values ∙ sym (ap (λ (c : Column Value). c.values) whole);
      after = record {
        rows = ended.0 ∙ sym (ap (λ (c : Column Value). length (spread all c.values)) whole);
        stop = ended.1 ∙ sym (ap (λ (c : Column Value). first_stop c.stop tested.stop) whole);
      };
      whole = λ none. subst (λ l. trues_in all ≤ length l) (sym (values ∙ own_values)) (whole_reach 0 (length all) (spread all seen.values) (trues_in all) seen.values seen.stop r (sym (ap (λ (c : Column Value). c.stop) whole) ∙ none));
    }

-- ---- where there is no filter or no argument

abbrev yes : Value
yes = values.Bool true

abbrev taken_if : Value → Option Value
taken_if test = cond (is_true test) (Some yes) None

few_trues_if : (b : Bool) (tests : List Value) → trues_in tests ≤ length tests → trues_if b tests ≤ suc (length tests)
few_trues_if true tests few = omega (arith, few)
few_trues_if false tests few = omega (arith, few)

pub few_trues : (tests : List Value) → trues_in tests ≤ length tests
few_trues [] = omega arith
few_trues (test ∷ tests) = few_trues_if (is_true test) tests (few_trues tests)

spread_yes_if : (b : Bool) (n : ℕ) (tests : List Value) → trues_if b tests ≤ n → ((m : ℕ) → trues_in tests ≤ m → spread tests (replicate m yes) ≡ map taken_if tests) → spread_if b tests (replicate n yes) ≡ cond b (Some yes) None ∷ map taken_if tests
spread_yes_if true zero tests few next = absurd (omega (arith, few))
spread_yes_if true (suc n) tests few next = ap (λ l. Some yes ∷ l) (next n (omega (arith, few)))
spread_yes_if false n tests few next = ap (λ l. None ∷ l) (next n few)

spread_yes : (tests : List Value) (n : ℕ) → trues_in tests ≤ n → spread tests (replicate n yes) ≡ map taken_if tests
spread_yes [] n few = refl
spread_yes (test ∷ tests) n few = spread_yes_if (is_true test) n tests few (λ m fewer. spread_yes tests m fewer)

chosen_many_if : (b : Bool) (row : Row) (rest : List Row) (tests : List Value) → length rest ≡ trues_in tests → length (cond b (row ∷ rest) rest) ≡ trues_if b tests
chosen_many_if true row rest tests e = ap suc e
chosen_many_if false row rest tests e = e

chosen_many : (tests : List Value) (rows : List Row) → length rows ≡ length tests → length (chosen tests rows) ≡ trues_in tests
chosen_many [] [] e = refl
chosen_many [] (row ∷ rows) e = refl
chosen_many (test ∷ tests) [] e = absurd (omega (arith, e))
chosen_many (test ∷ tests) (row ∷ rows) e = chosen_many_if (is_true test) row (chosen tests rows) tests (chosen_many tests rows (omega (arith, e)))

pub tests_there : (tests : Option stored.Column) (rows : ℕ) → MayBe (IsTest rows) tests → length (values_or_true rows tests) ≡ rows
tests_there None rows is = length-replicate rows yes
tests_there (Some tests) rows is = is.long

pub no_argument : (batch : Batch) (tests : Option stored.Column) (tested : Before) → length (values_or_true tested.rows tests) ≡ tested.rows → IsArgument None batch tests tested None tested
no_argument batch tests tested long =
    let all = values_or_true tested.rows tests in
    let rows = chosen all (first_rows tested.rows batch) in
    let one = argument_at None batch tested.rows all in
    let is : one ≡ record { values = replicate (length rows) yes; stop = None } = column_true rows in
    let many : length rows ≡ trues_in all = chosen_many all (first_rows tested.rows batch) (many_first tested.rows batch ∙ sym long) in
    let enough : trues_in all ≤ length rows = omega (arith, many) in
    let few : trues_in all ≤ tested.rows = omega (arith, long, few_trues all) in
    let taken : spread all one.values ≡ map taken_if all = ap (λ (c : Column Value). spread all c.values) is ∙ spread_yes all (length rows) enough in
    record {
      after = record {
        rows = sym long ∙ sym (length-map all taken_if) ∙ sym (ap length taken);
        stop = sym (ap (λ (c : Column Value). first_stop c.stop tested.stop) is);
      };
      values = spread_yes all tested.rows few ∙ sym taken;
      whole = λ none. omega (arith, few, length-replicate tested.rows yes);
    }

chosen_yes : (n : ℕ) (rows : List Row) → length rows ≡ n → chosen (replicate n yes) rows ≡ rows
chosen_yes zero [] e = refl
chosen_yes zero (row ∷ rows) e = absurd (omega (arith, e))
chosen_yes (suc n) [] e = refl
chosen_yes (suc n) (row ∷ rows) e = ap (λ l. row ∷ l) (chosen_yes n rows (omega (arith, e)))

spread_all : (n : ℕ) (given : List Value) → length given ≤ n → length (spread (replicate n yes) given) ≡ length given
spread_all zero [] few = refl
spread_all zero (value ∷ given) few = absurd (omega (arith, few))
spread_all (suc n) [] few = refl
spread_all (suc n) (value ∷ given) few = ap suc (spread_all n given (omega (arith, few)))

pub all_argument : (arg : Expr) (batch : Batch) (tested after : Before) (given : stored.Column) → IsColumn arg batch tested given after → IsArgument (Some arg) batch None tested (Some given) after
all_argument arg batch tested after given is =
    let n = tested.rows in
    let all = replicate n yes in
    let rows = first_rows n batch in
    let one = argument_at (Some arg) batch n all in
    let same : one ≡ column (eval arg) rows = ap (column (eval arg)) (chosen_yes n rows (many_first n batch)) in
    let few : length (column (eval arg) rows).values ≤ n = omega (arith, column_short (eval arg) rows, many_first n batch) in
    record {
      after = record {
        rows = is.after.rows ∙ sym (spread_all n (column (eval arg) rows).values few) ∙ sym (ap (λ (c : Column Value). length (spread all c.values)) same);
        stop = is.after.stop ∙ sym (ap (λ (c : Column Value). first_stop c.stop tested.stop) same);
      };
      values = ap (spread all) (is.values ∙ sym (ap (λ (c : Column Value). c.values) same));
      whole = λ none.
          let full = column_full (eval arg) rows (sym (ap (λ (c : Column Value). c.stop) same) ∙ none) in
          omega (arith, few_trues all, length-replicate n yes, full, many_first n batch, ap length is.values);
    }

pub chosen_argument : (arg : Expr) (batch : Batch) (tests : stored.Column) (tested after : Before) (given : stored.Column) → IsChosen arg batch (column_values tests) tested given after → IsArgument (Some arg) batch (Some tests) tested (Some given) after
chosen_argument arg batch tests tested after given is = record { after = is.after; values = ap (spread (column_values tests)) is.values; whole = is.whole }
