-- Columns one after the other, each at the rows before the first fault of those before it.
use Rattle.std.proofs.Common.{◌≡◌, ◌∙◌, ℕ, zero, suc, ◌<◌, ◌≤◌, List, [], ◌∷◌, Option, None, length, map, take, get_or, refl, sym, ap, ap₂, subst, arith}
use Rattle.std.proofs.lemmas.List.{length-map, length-take-le, take_all}
use Rattle.sub_types.specs.declared.value.Value.{Value}
use Rattle.plan_denote.specs.Computed.{Row}
use Rattle.plan_denote.specs.Rows.{Formula}
use Rattle.plan_denote.specs.Aggregate.{Measure, member_at}
use Rattle.batch.specs.declared.batch.Batch.{Batch}
use Rattle.group_laws.specs.Columns.{Column, column, before, first_stop, zipped, beside, columns, members, members_of}
use Rattle.group_laws.proofs.ColumnLaws.{members_are}
use Rattle.group_inputs.specs.declared.before.Before.{Before}
use Rattle.group_inputs.specs.Before.{first_rows, IsAfter}
use Rattle.group_inputs.proofs.UntilLaws.{first_of_three, none_first, none_second, many_first, first_of_first, column_short, column_full}

zipped_many : {A B C : Type 0} (pair : A → B → C) (xs : List A) (ys : List B) → length ys ≤ length xs → length (zipped pair xs ys) ≡ length ys
zipped_many pair [] [] few = refl
zipped_many pair [] (y ∷ ys) few = absurd (omega (arith, few))
zipped_many pair (x ∷ xs) [] few = refl
zipped_many pair (x ∷ xs) (y ∷ ys) few = ap suc (zipped_many pair xs ys (omega (arith, few)))

zipped_firsts : {A B C D : Type 0} (pair : A → B → C) (first : C → D) (of : A → D) → ((x : A) (y : B) → first (pair x y) ≡ of x) → (xs : List A) (ys : List B) → length ys ≡ length xs → map first (zipped pair xs ys) ≡ map of xs
zipped_firsts pair first of h [] [] e = refl
zipped_firsts pair first of h [] (y ∷ ys) e = absurd (omega (arith, e))
zipped_firsts pair first of h (x ∷ xs) [] e = absurd (omega (arith, e))
zipped_firsts pair first of h (x ∷ xs) (y ∷ ys) e = ap₂ (λ d l. d ∷ l) (h x y) (zipped_firsts pair first of h xs ys (omega (arith, e)))

zipped_seconds : {A B C D : Type 0} (pair : A → B → C) (second : C → D) (of : B → D) → ((x : A) (y : B) → second (pair x y) ≡ of y) → (xs : List A) (ys : List B) → length ys ≡ length xs → map second (zipped pair xs ys) ≡ map of ys
zipped_seconds pair second of h [] [] e = refl
zipped_seconds pair second of h [] (y ∷ ys) e = absurd (omega (arith, e))
zipped_seconds pair second of h (x ∷ xs) [] e = absurd (omega (arith, e))
zipped_seconds pair second of h (x ∷ xs) (y ∷ ys) e = ap₂ (λ d l. d ∷ l) (h x y) (zipped_seconds pair second of h xs ys (omega (arith, e)))

itself : {A : Type 0} (xs : List A) → map (λ x. x) xs ≡ xs
itself [] = refl
itself (x ∷ xs) = ap (λ l. x ∷ l) (itself xs)

pub firsts : {A B : Type 0} (xs : List A) (ys : List B) → length ys ≡ length xs → map (λ (one : A × B). one.0) (zipped (λ x y. (x, y)) xs ys) ≡ xs
firsts xs ys e = zipped_firsts (λ x y. (x, y)) (λ one. one.0) (λ x. x) (λ x y. refl) xs ys e ∙ itself xs

pub seconds : {A B : Type 0} (xs : List A) (ys : List B) → length ys ≡ length xs → map (λ (one : A × B). one.1) (zipped (λ x y. (x, y)) xs ys) ≡ ys
seconds xs ys e = zipped_seconds (λ x y. (x, y)) (λ one. one.1) (λ y. y) (λ x y. refl) xs ys e ∙ itself ys

module _ {X A : Type 0} (C : X → List Row → Column A) (short : (x : X) (rows : List Row) → length (C x rows).values ≤ length rows) (full : (x : X) (rows : List Row) → (C x rows).stop ≡ None → length (C x rows).values ≡ length rows) where
  abbrev pub no_values : Row → List A
  no_values row = []

  abbrev pub each : List X → List Row → Column (List A)
  each [] rows = record { values = map no_values rows; stop = None }
  each (x ∷ xs) rows = beside (λ y ys. y ∷ ys) (C x rows) (each xs (before (C x rows) rows))

  pub each_short : (xs : List X) (rows : List Row) → length (each xs rows).values ≤ length rows
  each_short [] rows = omega (arith, length-map rows no_values)
  each_short (x ∷ xs) rows =
      let one = C x rows in
      let rest = each_short xs (before one rows) in
      let left : length (before one rows) ≡ length one.values = length-take-le (length one.values) rows (short x rows) in
      let fewer : length (each xs (before one rows)).values ≤ length one.values = omega (arith, rest, left) in
      omega (arith, zipped_many (λ y ys. y ∷ ys) one.values (each xs (before one rows)).values fewer, rest, left, short x rows)

  each_many : (x : X) (xs : List X) (rows : List Row) → length (each (x ∷ xs) rows).values ≡ length (each xs (before (C x rows) rows)).values
  each_many x xs rows =
      let one = C x rows in
      let left : length (before one rows) ≡ length one.values = length-take-le (length one.values) rows (short x rows) in
      zipped_many (λ y ys. y ∷ ys) one.values (each xs (before one rows)).values (omega (arith, each_short xs (before one rows), left))

  -- ---- where nothing stops
  whole_rows : (n : ℕ) (rows : List Row) → n ≡ length rows → take n rows ≡ rows
  whole_rows n rows e = take_all n rows (omega (arith, e))

  pub next_stop : (x : X) (xs : List X) (rows : List Row) → (each (x ∷ xs) rows).stop ≡ None → ((C x rows).stop ≡ None) × ((each xs rows).stop ≡ None)
  next_stop x xs rows none =
      let one = C x rows in
      let own = none_second (each xs (before one rows)).stop one.stop none in
      (own, subst (λ l. (each xs l).stop ≡ None) (whole_rows (length one.values) rows (full x rows own)) (none_first (each xs (before one rows)).stop one.stop none))

  pub next_values : (x : X) (xs : List X) (rows : List Row) → (C x rows).stop ≡ None → (each (x ∷ xs) rows).values ≡ zipped (λ y ys. y ∷ ys) (C x rows).values (each xs rows).values
  next_values x xs rows none = ap (λ l. zipped (λ y ys. y ∷ ys) (C x rows).values (each xs l).values) (whole_rows (length (C x rows).values) rows (full x rows none))

  pub each_full : (xs : List X) (rows : List Row) → (each xs rows).stop ≡ None → length (each xs rows).values ≡ length rows
  each_full [] rows none = length-map rows no_values
  each_full (x ∷ xs) rows none =
      let both = next_stop x xs rows none in
      let rest = each_full xs rows both.1 in
      let own = full x rows both.0 in
      ap length (next_values x xs rows both.0) ∙ zipped_many (λ y ys. y ∷ ys) (C x rows).values (each xs rows).values (omega (arith, rest, own)) ∙ rest

  -- each column by itself
  pub each_column : (d : A) (xs : List X) (rows : List Row) (place : ℕ) → (each xs rows).stop ≡ None → place < length xs → map (λ row. get_or row place d) (each xs rows).values ≡ get_or (map (λ x. (C x rows).values) xs) place []
  each_column d [] rows place none there = absurd (omega (arith, there))
  each_column d (x ∷ xs) rows zero none there =
      let both = next_stop x xs rows none in
      ap (map (λ row. get_or row 0 d)) (next_values x xs rows both.0)
      ∙ zipped_firsts (λ y ys. y ∷ ys) (λ row. get_or row 0 d) (λ y. y) (λ y ys. refl) (C x rows).values (each xs rows).values (each_full xs rows both.1 ∙ sym (full x rows both.0))
      ∙ itself (C x rows).values
  each_column d (x ∷ xs) rows (suc place) none there =
      let both = next_stop x xs rows none in
      ap (map (λ row. get_or row (suc place) d)) (next_values x xs rows both.0)
      ∙ zipped_seconds (λ y ys. y ∷ ys) (λ row. get_or row (suc place) d) (λ ys. get_or ys place d) (λ y ys. refl) (C x rows).values (each xs rows).values (each_full xs rows both.1 ∙ sym (full x rows both.0))
      ∙ each_column d xs rows place both.1 (omega (arith, there))

  -- each row by itself
  zipped_at : (d : A) (ys : List A) (rows : List (List A)) (i : ℕ) → i < length ys → i < length rows → get_or (zipped (λ y ys. y ∷ ys) ys rows) i [] ≡ get_or ys i d ∷ get_or rows i []
  zipped_at d [] rows i there within = absurd (omega (arith, there))
  zipped_at d (y ∷ ys) [] i there within = absurd (omega (arith, within))
  zipped_at d (y ∷ ys) (row ∷ rows) zero there within = refl
  zipped_at d (y ∷ ys) (row ∷ rows) (suc i) there within = zipped_at d ys rows i (omega (arith, there)) (omega (arith, within))

  none_at : (rows : List Row) (i : ℕ) → get_or (map no_values rows) i [] ≡ []
  none_at [] zero = refl
  none_at [] (suc i) = refl
  none_at (row ∷ rows) zero = refl
  none_at (row ∷ rows) (suc i) = none_at rows i

  pub each_row_at : (d : A) (xs : List X) (rows : List Row) (i : ℕ) → (each xs rows).stop ≡ None → i < length rows → get_or (each xs rows).values i [] ≡ map (λ x. get_or (C x rows).values i d) xs
  each_row_at d [] rows i none there = none_at rows i
  each_row_at d (x ∷ xs) rows i none there =
      let both = next_stop x xs rows none in
      ap (λ l. get_or l i []) (next_values x xs rows both.0)
      ∙ zipped_at d (C x rows).values (each xs rows).values i (omega (arith, there, full x rows both.0)) (omega (arith, there, each_full xs rows both.1))
      ∙ ap (λ l. get_or (C x rows).values i d ∷ l) (each_row_at d xs rows i both.1 there)

  -- ---- one after the other, at the rows that are left
  pub record IsLeft (all rest : List X) (batch : Batch) (start state : Before) : Type 0 where
    pub rows : length (each all (first_rows start.rows batch)).values ≡ length (each rest (first_rows state.rows batch)).values
    pub stop : first_stop (each all (first_rows start.rows batch)).stop start.stop ≡ first_stop (each rest (first_rows state.rows batch)).stop state.stop
    pub few : state.rows ≤ start.rows
    pub whole : state.stop ≡ None → state.rows ≡ start.rows

  pub left_first : (all : List X) (batch : Batch) (start : Before) → IsLeft all all batch start start
  left_first all batch start = record { rows = refl; stop = refl; few = omega arith; whole = λ e. refl }

  pub left_next : (all rest more : List X) (x : X) (batch : Batch) (start state after : Before) → IsLeft all rest batch start state → rest ≡ x ∷ more → IsAfter (C x (first_rows state.rows batch)) state after → IsLeft all more batch start after
  left_next all rest more x batch start state after is at step =
      let rows = first_rows state.rows batch in
      let one = C x rows in
      let few : length one.values ≤ state.rows = omega (arith, short x rows, many_first state.rows batch) in
      let left : before one rows ≡ first_rows after.rows batch = first_of_first (length one.values) state.rows batch few ∙ ap (λ n. first_rows n batch) (sym step.rows) in
      record {
        rows = is.rows ∙ ap (λ l. length (each l rows).values) at ∙ each_many x more rows ∙ ap (λ l. length (each more l).values) left;
        stop =
            is.stop ∙ ap (λ l. first_stop (each l rows).stop state.stop) at
            ∙ sym (first_of_three (each more (before one rows)).stop one.stop state.stop)
            ∙ ap₂ (λ l s. first_stop (each more l).stop s) left (sym step.stop);
        few = omega (arith, is.few, few, step.rows);
        whole = λ none.
            let stopped : first_stop one.stop state.stop ≡ None = sym step.stop ∙ none in
            let all_rows = full x rows (none_first one.stop state.stop stopped) in
            step.rows ∙ all_rows ∙ many_first state.rows batch ∙ is.whole (none_second one.stop state.stop stopped);
      }

  pub left_last : (all rest : List X) (batch : Batch) (start state : Before) → IsLeft all rest batch start state → rest ≡ [] → IsAfter (each all (first_rows start.rows batch)) start state
  left_last all rest batch start state is at = record {
    rows = sym (many_first state.rows batch) ∙ sym (length-map (first_rows state.rows batch) no_values) ∙ sym (is.rows ∙ ap (λ l. length (each l (first_rows state.rows batch)).values) at);
    stop = sym (is.stop ∙ ap (λ l. first_stop (each l (first_rows state.rows batch)).stop state.stop) at);
  }

-- ---- expressions, and what measures take

pub columns_each : {X : Type 0} (f : X → Formula) (xs : List X) (rows : List Row) → columns (map f xs) rows ≡ each (λ x. column (f x)) (λ x. column_short (f x)) (λ x. column_full (f x)) xs rows
columns_each f [] rows = refl
columns_each f (x ∷ xs) rows = ap (beside (λ y ys. y ∷ ys) (column (f x) rows)) (columns_each f xs (before (column (f x) rows) rows))

pub members_short : (measure : Measure) (rows : List Row) → length (members measure rows).values ≤ length rows
members_short measure rows = omega (arith, ap (λ (c : Column (Option Value)). length c.values) (members_are measure rows), column_short (λ row. member_at row measure) rows)

pub members_full : (measure : Measure) (rows : List Row) → (members measure rows).stop ≡ None → length (members measure rows).values ≡ length rows
members_full measure rows none =
    let same = members_are measure rows in
    sym (ap (λ (c : Column (Option Value)). length c.values) same) ∙ column_full (λ row. member_at row measure) rows (ap (λ (c : Column (Option Value)). c.stop) same ∙ none)

pub members_each : {X : Type 0} (f : X → Measure) (xs : List X) (rows : List Row) → members_of (map f xs) rows ≡ each (λ x. members (f x)) (λ x. members_short (f x)) (λ x. members_full (f x)) xs rows
members_each f [] rows = refl
members_each f (x ∷ xs) rows = ap (beside (λ y ys. y ∷ ys) (members (f x) rows)) (members_each f xs (before (members (f x) rows) rows))
