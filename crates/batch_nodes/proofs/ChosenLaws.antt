-- Expressions that are chosen by their numbers.
use Rattle.std.proofs.Common.{◌≡◌, ◌∙◌, ℕ, ◌+◌, ◌<◌, ◌≤◌, List, [], ◌∷◌, ◌++◌, length, map, drop, get_or, append_assoc, eqb-true, is_some, Bool, true, false, Option, Some, None, Result, Ok, Err, refl, sym, ap, ap₂, subst, ◌==◌, if◌then◌else◌, arith}
use Rattle.std.proofs.Math.ListN.{drop_of_length-le}
use Rattle.std.proofs.lemmas.List.{append-nil, drop_more}
use Rattle.sub_types.specs.declared.fault.FaultKind.{FaultKind}
use Rattle.sub_types.specs.declared.value.Value.{Value}
use Rattle.plan_denote.specs.Computed.{Computed, ◌>>=◌, is_true}
use Rattle.plan_denote.specs.Logic.{first_true, first_equal}
use Rattle.kernels.specs.declared.selection.Stop.{Stop}
use Rattle.kernels.specs.Until.{Until, step, until}
use Rattle.batch_nodes.specs.Narrowed.{opened, narrowed, left_open, open_rows}
use Rattle.batch_nodes.proofs.UntilLaws.{prefixed}
use Rattle.batch_nodes.specs.Chosen.{other_than, marked, tried, tail_of, without_first, took, scattered}

-- ---- conditions one after the other

pub tried-append : (n j : ℕ) (s : Result ℕ FaultKind) (tests : List Computed) (test : Computed) → tried n j s (tests ++ test ∷ []) ≡ narrowed (other_than n) (marked n (j + length tests)) (tried n j s tests) test
tried-append n j s [] test = let e : j ≡ j + 0 = omega arith in ap (λ k. narrowed (other_than n) (marked n k) s test) e
tried-append n j s (one ∷ tests) test =
    let e : j + 1 + length tests ≡ j + length (one ∷ tests) = omega arith in
    tried-append n (j + 1) (narrowed (other_than n) (marked n j) s one) tests test
    ∙ ap (λ k. narrowed (other_than n) (marked n k) (tried n (j + 1) (narrowed (other_than n) (marked n j) s one) tests) test) e

-- what is settled stays so
settled-other : (n c : ℕ) → (c == n) ≡ false → other_than n c ≡ Some c
settled-other n c is = ap (λ same. if same then None else Some c) is

tried-settled : (n j c : ℕ) (tests : List Computed) → (c == n) ≡ false → tried n j (Ok c) tests ≡ Ok c
tried-settled n j c [] is = refl
tried-settled n j c (test ∷ tests) is =
    ap (λ s. tried n (j + 1) (opened (marked n j) c s test) tests) (settled-other n c is) ∙ tried-settled n (j + 1) c tests is

tried-fault : (n j : ℕ) (kind : FaultKind) (tests : List Computed) → tried n j (Err kind) tests ≡ Err kind
tried-fault n j kind [] = refl
tried-fault n j kind (test ∷ tests) = tried-fault n (j + 1) kind tests

-- from a number on, these are the values of arms
abbrev pub AreFrom : (ℕ → Computed) → ℕ → List (Computed × Computed) → Type 0
AreFrom chosen j [] = Unit {0}
AreFrom chosen j (arm ∷ arms) = (chosen j ≡ arm.1) × AreFrom chosen (j + 1) arms

same_number : (n : ℕ) → (n == n) ≡ true
same_number n = grind arith

less_number : (n j : ℕ) → j < n → (j == n) ≡ false
less_number n j less = grind arith

open-itself : (n : ℕ) → other_than n n ≡ None
open-itself n = ap (λ same. if same then None else Some n) (same_number n)

module _ (n : ℕ) (chosen : ℕ → Computed) (other : Computed) (last : chosen n ≡ other) where
  abbrev chosen_from : ℕ → List (Computed × Computed) → Computed
  chosen_from j arms = tried n j (Ok n) (map (λ arm. arm.0) arms) >>= chosen

  after : (j : ℕ) (arms : List (Computed × Computed)) (value : Computed) (test : Bool) → j < n → chosen j ≡ value → chosen_from (j + 1) arms ≡ first_true arms other
      → (tried n (j + 1) (Ok (if test then j else n)) (map (λ arm. arm.0) arms) >>= chosen) ≡ (if test then value else first_true arms other)
  after j arms value true less is rest = ap (λ found. found >>= chosen) (tried-settled n (j + 1) j (map (λ arm. arm.0) arms) (less_number n j less)) ∙ is
  after j arms value false less is rest = rest

  step-on : (j : ℕ) (arms : List (Computed × Computed)) (condition value : Computed) → j < n → chosen j ≡ value → chosen_from (j + 1) arms ≡ first_true arms other
      → (tried n (j + 1) (opened (marked n j) n None condition) (map (λ arm. arm.0) arms) >>= chosen) ≡ (condition >>= (λ test. if is_true test then value else first_true arms other))
  step-on j arms (Ok test) value less is rest = after j arms value (is_true test) less is rest
  step-on j arms (Err kind) value less is rest = ap (λ found. found >>= chosen) (tried-fault n (j + 1) kind (map (λ arm. arm.0) arms))

  pub tried-first_true : (j : ℕ) (arms : List (Computed × Computed)) → j + length arms ≡ n → AreFrom chosen j arms → chosen_from j arms ≡ first_true arms other
  tried-first_true j [] long are = last
  tried-first_true j ((condition, value) ∷ arms) long are =
      let less : j < n = omega (arith, long) in
      let more : j + 1 + length arms ≡ n = omega (arith, long) in
      ap (λ s. tried n (j + 1) (opened (marked n j) n s condition) (map (λ arm. arm.0) arms) >>= chosen) (open-itself n)
      ∙ step-on j arms condition value less are.0 (tried-first_true (j + 1) arms more are.1)

-- ---- the values of all rows

scattered-same : (columns others : ℕ → Until Value) → ((k : ℕ) → columns k ≡ others k) → (rows choices : List ℕ) (stop : Stop) → scattered columns rows choices stop ≡ scattered others rows choices stop
scattered-same columns others same [] choices stop = refl
scattered-same columns others same (row ∷ rows) [] stop = refl
scattered-same columns others same (row ∷ rows) (choice ∷ choices) stop =
    ap (λ (column : Until Value). took row column.values column.stop (scattered (without_first choice columns) rows choices stop)) (same choice)
    ∙ ap (took row (others choice).values (others choice).stop)
    (scattered-same (without_first choice columns) (without_first choice others) (λ k. ap (λ column. if k == choice then tail_of column else column) (same k)) rows choices stop)

pub scattered-pointwise : (columns others : ℕ → Until Value) → ((k : ℕ) → columns k ≡ others k) → (rows choices : List ℕ) (stop : Stop) → scattered columns rows choices stop ≡ scattered others rows choices stop
scattered-pointwise = scattered-same

-- each choice's values at the rows that choose it
abbrev pub columns_at : (ℕ → ℕ → Computed) → List ℕ → List ℕ → ℕ → Until Value
columns_at k rows choices j = until (k j) (open_rows (other_than j) rows choices)

other_way : (j c : ℕ) → (j == c) ≡ false → (c == j) ≡ false
other_way j c is = grind (arith, is)

same_way : (j c : ℕ) → (j == c) ≡ true → j ≡ c
same_way j c is = eqb-true j c is

module _ (k : ℕ → ℕ → Computed) (row : ℕ) (rows : List ℕ) (choice : ℕ) (choices : List ℕ) where
  here : (c : ℕ) → c ≡ choice → columns_at k (row ∷ rows) (choice ∷ choices) c ≡ step row (k c row) (columns_at k rows choices c)
  here c is =
      let e : other_than c choice ≡ None = ap (other_than c) (sym is) ∙ open-itself c in
      ap (λ s. until (k c) (left_open row s (open_rows (other_than c) rows choices))) e

  elsewhere : (c : ℕ) → (c == choice) ≡ false → columns_at k (row ∷ rows) (choice ∷ choices) c ≡ columns_at k rows choices c
  elsewhere c is = ap (λ s. until (k c) (left_open row s (open_rows (other_than c) rows choices))) (settled-other c choice (other_way c choice is))

  left : (value : Value) → k choice row ≡ Ok value → (c : ℕ) → without_first choice (columns_at k (row ∷ rows) (choice ∷ choices)) c ≡ columns_at k rows choices c
  left value is c = by (c == choice) refl
    where
      by : (same : Bool) → (c == choice) ≡ same → (if same then tail_of (columns_at k (row ∷ rows) (choice ∷ choices) c) else columns_at k (row ∷ rows) (choice ∷ choices) c) ≡ columns_at k rows choices c
      by true same =
          let e = same_way c choice same in
          ap tail_of (here c e) ∙ ap (λ r. tail_of (step row r (columns_at k rows choices c))) (ap (λ j. k j row) e ∙ is)
      by false same = elsewhere c same

  one_row : (stop : Stop) (rest : Until Value) → rest ≡ scattered (columns_at k rows choices) rows choices stop
      → step row (k choice row) rest ≡ scattered (columns_at k (row ∷ rows) (choice ∷ choices)) (row ∷ rows) (choice ∷ choices) stop
  one_row stop rest is =
      by (k choice row) refl
      ∙ ap (λ (column : Until Value). took row column.values column.stop (scattered (without_first choice (columns_at k (row ∷ rows) (choice ∷ choices))) rows choices stop)) (sym (here choice refl))
    where
      by : (r : Computed) → k choice row ≡ r
          → step row r rest ≡ (let column = step row (k choice row) (columns_at k rows choices choice) in took row column.values column.stop (scattered (without_first choice (columns_at k (row ∷ rows) (choice ∷ choices))) rows choices stop))
      by (Err kind) found = ap (λ r. let column = step row r (columns_at k rows choices choice) in took row column.values column.stop (scattered (without_first choice (columns_at k (row ∷ rows) (choice ∷ choices))) rows choices stop)) (sym found)
      by (Ok value) found =
          ap (step row (Ok value)) (is ∙ sym (scattered-same (without_first choice (columns_at k (row ∷ rows) (choice ∷ choices))) (columns_at k rows choices) (left value found) rows choices stop))
          ∙ ap (λ r. let column = step row r (columns_at k rows choices choice) in took row column.values column.stop (scattered (without_first choice (columns_at k (row ∷ rows) (choice ∷ choices))) rows choices stop)) (sym found)

-- each row's choice, and then each choice's values at the rows that choose it
module _ (f : ℕ → Result ℕ FaultKind) (k : ℕ → ℕ → Computed) where
  abbrev pub choosing : ℕ → Computed
  choosing i = f i >>= (λ choice. k choice i)

  by_choice : (row : ℕ) (rows : List ℕ) (r : Result ℕ FaultKind) (first : Until ℕ) (whole : Until Value) → whole ≡ scattered (columns_at k rows first.values) rows first.values first.stop
      → step row (r >>= (λ choice. k choice row)) whole ≡ (let found = step row r first in scattered (columns_at k (row ∷ rows) found.values) (row ∷ rows) found.values found.stop)
  by_choice row rows (Ok choice) first whole is = one_row k row rows choice first.values first.stop whole is
  by_choice row rows (Err kind) first whole is = refl

  pub until-chosen : (rows : List ℕ) → until choosing rows ≡ scattered (columns_at k rows (until f rows).values) rows (until f rows).values (until f rows).stop
  until-chosen [] = refl
  until-chosen (row ∷ rows) = by_choice row rows (f row) (until f rows) (until choosing rows) (until-chosen rows)

-- ---- the loop over the rows

-- the columns without the values that were used
abbrev pub used : (ℕ → Until Value) → (ℕ → ℕ) → ℕ → Until Value
used columns next j = record { values = drop (next j) (columns j).values; stop = (columns j).stop }

module _ (columns : ℕ → Until Value) (rows choices : List ℕ) (stop : Stop) where
  abbrev pub IsScatteredSoFar : ℕ → (ℕ → ℕ) → List Value → Type 0
  IsScatteredSoFar i next built = scattered columns rows choices stop ≡ prefixed built (scattered (used columns next) (drop i rows) (drop i choices) stop)

  pub IsScattered-none : (next : ℕ → ℕ) → ((j : ℕ) → next j ≡ 0) → IsScatteredSoFar 0 next []
  IsScattered-none next none = scattered-same columns (used columns next) (λ j. ap (λ n. record { values = drop n (columns j).values; stop = (columns j).stop }) (sym (none j))) rows choices stop

  -- what is to come, by the next row and its choice
  coming : (next : ℕ → ℕ) (i : ℕ) → i < length rows → i < length choices
      → scattered (used columns next) (drop i rows) (drop i choices) stop
      ≡ (let c = get_or choices i 0 in took (get_or rows i 0) (drop (next c) (columns c).values) (columns c).stop (scattered (without_first c (used columns next)) (drop (i + 1) rows) (drop (i + 1) choices) stop))
  coming next i row_there there = ap₂ (λ rows choices. scattered (used columns next) rows choices stop) (drop_more rows i 0 row_there) (drop_more choices i 0 there)

  tail-drop : (xs : List Value) (n : ℕ) (s : Stop) (d : Value) → n < length xs → tail_of (record { values = drop n xs; stop = s }) ≡ record { values = drop (n + 1) xs; stop = s }
  tail-drop xs n s d below = ap (λ values. tail_of (record { values = values; stop = s })) (drop_more xs n d below)

  pub IsScattered-more : (next after : ℕ → ℕ) (i : ℕ) (d value : Value) (built : List Value) → IsScatteredSoFar i next built → i < length rows → i < length choices
      → next (get_or choices i 0) < length (columns (get_or choices i 0)).values → value ≡ get_or (columns (get_or choices i 0)).values (next (get_or choices i 0)) d
      → ((j : ℕ) → after j ≡ (if j == get_or choices i 0 then next j + 1 else next j)) → IsScatteredSoFar (i + 1) after (built ++ value ∷ [])
  IsScattered-more next after i d value built so_far row_there there below is moves =
      let c = get_or choices i 0 in
      let row = get_or rows i 0 in
      let first = drop_more (columns c).values (next c) d below in
      let rest = scattered (used columns after) (drop (i + 1) rows) (drop (i + 1) choices) stop in
      so_far
      ∙ ap (prefixed built) (
      coming next i row_there there
      ∙ ap (λ values. took row values (columns c).stop (scattered (without_first c (used columns next)) (drop (i + 1) rows) (drop (i + 1) choices) stop)) first
      ∙ ap (λ x. step row (Ok x) (scattered (without_first c (used columns next)) (drop (i + 1) rows) (drop (i + 1) choices) stop)) (sym is)
      ∙ ap (step row (Ok value)) (scattered-same (without_first c (used columns next)) (used columns after) same (drop (i + 1) rows) (drop (i + 1) choices) stop))
      ∙ ap (λ values. record { values = values; stop = rest.stop }) (sym (append_assoc built (value ∷ []) rest.values))
    where
      same : (j : ℕ) → without_first (get_or choices i 0) (used columns next) j ≡ used columns after j
      same j = by (j == get_or choices i 0) refl
        where
          by : (is : Bool) → (j == get_or choices i 0) ≡ is → (if is then tail_of (used columns next j) else used columns next j) ≡ used columns after j
          by true found =
              let e = same_way j (get_or choices i 0) found in
              let moved : after j ≡ next j + 1 = moves j ∙ ap (λ is. if is then next j + 1 else next j) found in
              tail-drop (columns j).values (next j) (columns j).stop d (subst (λ c. next c < length (columns c).values) (sym e) below) ∙ ap (λ n. record { values = drop n (columns j).values; stop = (columns j).stop }) (sym moved)
          by false found =
              let moved : after j ≡ next j = moves j ∙ ap (λ is. if is then next j + 1 else next j) found in
              ap (λ n. record { values = drop n (columns j).values; stop = (columns j).stop }) (sym moved)

  pub IsScattered-stopped : (next : ℕ → ℕ) (i : ℕ) (built : List Value) → IsScatteredSoFar i next built → i < length rows → i < length choices
      → length (columns (get_or choices i 0)).values ≤ next (get_or choices i 0) → scattered columns rows choices stop ≡ record { values = built; stop = (columns (get_or choices i 0)).stop }
  IsScattered-stopped next i built so_far row_there there end =
      let c = get_or choices i 0 in
      so_far
      ∙ ap (prefixed built) (
      coming next i row_there there
      ∙ ap (λ values. took (get_or rows i 0) values (columns c).stop (scattered (without_first c (used columns next)) (drop (i + 1) rows) (drop (i + 1) choices) stop)) (drop_of_length-le (columns c).values end))
      ∙ ap (λ values. record { values = values; stop = (columns c).stop }) (append-nil built)

  scattered-none : (columns : ℕ → Until Value) (rows : List ℕ) → scattered columns rows [] stop ≡ record { values = []; stop = stop }
  scattered-none columns [] = refl
  scattered-none columns (row ∷ rows) = refl

  pub IsScattered-end : (next : ℕ → ℕ) (i : ℕ) (built : List Value) → IsScatteredSoFar i next built → length choices ≤ i → scattered columns rows choices stop ≡ record { values = built; stop = stop }
  IsScattered-end next i built so_far end =
      so_far
      ∙ ap (prefixed built) (ap (λ left. scattered (used columns next) (drop i rows) left stop) (drop_of_length-le choices end) ∙ scattered-none (used columns next) (drop i rows))
      ∙ ap (λ values. record { values = values; stop = stop }) (append-nil built)

-- ---- which choices are open

pub is_open : (n c : ℕ) → c ≡ n → is_some (other_than n c) ≡ false
is_open n c is = ap (λ found. is_some found) (ap (other_than n) is ∙ open-itself n)

pub is_settled : (n c : ℕ) → (c ≡ n → ⊥) → is_some (other_than n c) ≡ true
is_settled n c differs = ap (λ found. is_some found) (settled-other n c (by (c == n) refl))
  where
    by : (same : Bool) → (c == n) ≡ same → (c == n) ≡ false
    by true same = absurd (differs (eqb-true c n same))
    by false same = same
