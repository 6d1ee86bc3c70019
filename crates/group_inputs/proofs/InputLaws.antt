-- What a measure takes, and the keys and what all measures take.
use Rattle.std.proofs.Common.{◌≡◌, ◌∙◌, ℕ, zero, suc, ◌+◌, ◌<◌, ◌≤◌, List, [], ◌∷◌, ◌++◌, true, Option, Some, None, length, map, take, drop, drop-cons, replicate, get_or, refl, sym, ap, ap₂, subst, arith}
use Rattle.std.specs.List.{All, range_with_len}
use Rattle.std.specs.Option.{option_map}
use Rattle.std.proofs.lemmas.List.{length-map, length-replicate, map-append, take_more}
use Rattle.std.proofs.lemmas.List.Elements.{All-nil, All-cons, All-push}
use Rattle.std.proofs.lemmas.List.FromFn.{fill_by_all}
use Rattle.std.proofs.lemmas.Simd.{map-map}
use Rattle.sub_types.specs.declared.value.Value.{Value}
use Rattle.sub_types.specs.declared.value.Value.TheVariants as values
use Rattle.plan_typed.specs.declared.expr.Expr.{Expr}
use Rattle.plan_typed.specs.declared.rel.TypedMeasure.{TypedMeasure}
use Rattle.plan_denote.specs.Computed.{Row, truth}
use Rattle.plan_denote.specs.Rows.{condition_of}
use Rattle.plan_denote.specs.Aggregate as aggregate
use Rattle.plan_denote.specs.Aggregate.{Entry}
use Rattle.plan_denote.specs.Denote.{measure_of}
use Rattle.plan_denote.specs.Eval.{eval}
use Rattle.batch.specs.declared.batch.Batch.{Batch}
use Rattle.batch.specs.declared.column.Column as stored
use Rattle.batch.specs.BatchRows.{columns_of}
use Rattle.batch.specs.Column.{column_values}
use Rattle.batch.specs.ColumnValues.{values_of}
use Rattle.batch.proofs.RowLaws.{columns-all}
use Rattle.row_keys.specs.Keys.{key_of}
use Rattle.group_laws.specs.Columns.{Column, column, before, first_stop, columns, spread, members, members_of, entries_of}
use Rattle.group_numbers.specs.Keys.{keys_at}
use Rattle.group_columns.specs.declared.taken.Taken.{Taken}
use Rattle.group_columns.specs.Columns as taken
use Rattle.group_columns.specs.Columns.{IsWhole, values_or_true, keys_of, members_at}
use Rattle.group_states.specs.States.{AreTaken}
use Rattle.group_inputs.specs.declared.before.Before.{Before}
use Rattle.group_inputs.specs.declared.inputs.Inputs.{Inputs}
use Rattle.group_inputs.specs.Before.{first_rows, IsAfter, IsColumn}
use Rattle.group_inputs.specs.Taking.{IsTested, IsArgument, argument_at, IsWholly, IsTaking, AreWholly, AreTakings}
use Rattle.group_inputs.specs.Inputs.{AreKeyColumns, entries_at, AreInputs}
use Rattle.group_inputs.proofs.UntilLaws.{first_of_three, or_none, none_first, none_second, many_first, first_of_first, all_rows, column_short, column_full, column_true, all_below}
use Rattle.group_inputs.proofs.ChosenLaws.{chosen_first}
use Rattle.group_inputs.proofs.EachLaws.{firsts, seconds, each, each_short, next_stop, each_full, each_column, each_row_at, columns_each, members_short, members_full, members_each}

-- ---- filters

pub no_filter : (batch : Batch) (start : Before) → IsTested None batch start None start
no_filter batch start =
    let rows = first_rows start.rows batch in
    let is : column (λ (row : Row). truth true) rows ≡ record { values = replicate (length rows) (values.Bool true); stop = None } = column_true rows in
    record {
      values = ap (λ n. replicate n (values.Bool true)) (sym (many_first start.rows batch)) ∙ sym (ap (λ (c : Column Value). c.values) is);
      after = record {
        rows = sym (many_first start.rows batch) ∙ sym (length-replicate (length rows) (values.Bool true)) ∙ sym (ap (λ (c : Column Value). length c.values) is);
        stop = sym (ap (λ (c : Column Value). first_stop c.stop start.stop) is);
      };
    }

pub own_filter : (filter : Expr) (batch : Batch) (start tested : Before) (tests : stored.Column) → IsColumn filter batch start tests tested → IsTested (Some filter) batch start (Some tests) tested
own_filter filter batch start tested tests is = record { values = is.values; after = is.after }

-- ---- a measure

same_tests : (n m : ℕ) (tests : Option stored.Column) → m ≡ length (values_or_true n tests) → values_or_true m tests ≡ values_or_true n tests
same_tests n m None e = ap (λ k. replicate k (values.Bool true)) (e ∙ length-replicate n (values.Bool true))
same_tests n m (Some tests) e = refl

pub tests_long : (filter : Option Expr) (batch : Batch) (start tested : Before) (tests : Option stored.Column) → IsTested filter batch start tests tested → length (values_or_true tested.rows tests) ≡ tested.rows
tests_long filter batch start tested tests is =
    let many : tested.rows ≡ length (values_or_true start.rows tests) = is.after.rows ∙ sym (ap length is.values) in
    ap length (same_tests start.rows tested.rows tests many) ∙ sym many

pub measure_takes : (measure : TypedMeasure) (batch : Batch) (start tested after : Before) (tests values : Option stored.Column) → IsTested measure.filter batch start tests tested → IsArgument measure.arg batch tests tested values after
    → IsTaking measure batch start (record { tests = tests; values = values }) after
measure_takes measure batch start tested after tests values is argument =
    let rows = first_rows start.rows batch in
    let condition = column (condition_of (option_map eval measure.filter)) rows in
    let all = values_or_true tested.rows tests in
    let many : tested.rows ≡ length (values_or_true start.rows tests) = is.after.rows ∙ sym (ap length is.values) in
    let same : all ≡ values_or_true start.rows tests = same_tests start.rows tested.rows tests many in
    let own : all ≡ condition.values = same ∙ is.values in
    let long : length all ≡ tested.rows = ap length same ∙ sym many in
    let few : tested.rows ≤ start.rows = omega (arith, is.after.rows, column_short (condition_of (option_map eval measure.filter)) rows, many_first start.rows batch) in
    let given = argument_at measure.arg batch tested.rows all in
    let there : given ≡ argument_at measure.arg batch start.rows condition.values =
    ap (column (aggregate.argument_of (option_map eval measure.arg))) (chosen_first batch tested.rows start.rows all (omega (arith, long)) (omega (arith, long, few))) ∙ ap (argument_at measure.arg batch start.rows) own in
    let one = members (measure_of measure) rows in
    let taken_is : one.values ≡ spread all given.values = sym (ap₂ (λ l (c : Column Value). spread l c.values) own there) in
    let stop_is : one.stop ≡ first_stop given.stop condition.stop = sym (ap (λ (c : Column Value). first_stop c.stop condition.stop) there) in
    let ends : after.stop ≡ first_stop one.stop start.stop =
    argument.after.stop ∙ ap (first_stop given.stop) is.after.stop ∙ first_of_three given.stop condition.stop start.stop ∙ ap (λ s. first_stop s start.stop) (sym stop_is) in
    record {
      after = record { rows = argument.after.rows ∙ sym (ap length taken_is); stop = ends };
      wholly = λ none.
          let neither : first_stop given.stop condition.stop ≡ None = sym stop_is ∙ none_first one.stop start.stop (sym ends ∙ none) in
          let full = column_full (condition_of (option_map eval measure.filter)) rows (none_second given.stop condition.stop neither) in
          let whole : tested.rows ≡ start.rows = is.after.rows ∙ full ∙ many_first start.rows batch in
          record {
            members = ap (λ n. spread (values_or_true n tests) (values_or_true n values)) (sym whole) ∙ argument.values ∙ sym taken_is;
            whole = subst (λ n. IsWhole n (record { tests = tests; values = values })) whole (record { tests = long; values = argument.whole (none_first given.stop condition.stop neither) });
          };
    }

-- ---- entries

record_at : (entries : List Entry) (place : ℕ) → members_at place entries ≡ map (λ row. get_or row place None) (map (λ (entry : Entry). entry.1) entries)
record_at entries place = sym (map-map (λ row. get_or row place None) (λ (entry : Entry). entry.1) entries)

taken_from : (rows start : ℕ) (entries : List Entry) (all : List Taken) (columns : List (List (Option Value))) → map (taken.members_of rows) all ≡ columns
    → ((place : ℕ) → place < length columns → members_at (start + place) entries ≡ get_or columns place []) → AreTaken rows start all entries
taken_from rows start entries [] columns e h = tt
taken_from rows start entries (one ∷ all) [] e h = absurd (cc)
taken_from rows start entries (one ∷ all) (own ∷ columns) e h =
    let here : start + 0 ≡ start = omega arith in (
      ap (λ (l : List (List (Option Value))). get_or l 0 []) e ∙ sym (h 0 (omega arith)) ∙ ap (λ k. members_at k entries) here,
      taken_from rows (suc start) entries all columns (ap (drop 1) e) (λ place below.
          let next : start + suc place ≡ suc start + place = omega arith in
          sym (ap (λ k. members_at k entries) next) ∙ h (suc place) (omega (arith, below))),
    )

by_place : {X Y : Type 0} (f : List X → Y) (columns : List (List X)) (n : ℕ) → length columns ≡ n → map (λ j. f (get_or columns j [])) (range_with_len 0 n) ≡ map f columns
by_place f columns n e = sym (map-map f (λ j. get_or columns j []) (range_with_len 0 n)) ∙ ap (map f) (columns-all columns n e)

module _ (groups : List Expr) (measures : List TypedMeasure) (batch : Batch) (start keyed after : Before) (key_columns : List stored.Column) (all : List Taken)
    (starts : start.rows ≡ batch.rows) (clean : start.stop ≡ None) (keys : AreKeyColumns groups batch start key_columns keyed) (takes : AreTakings measures batch keyed all after) where
  abbrev rows : List Row
  rows = first_rows batch.rows batch

  abbrev key_rows : Column Row
  key_rows = columns (map eval groups) rows

  abbrev taken_rows : Column (List (Option Value))
  taken_rows = members_of (map measure_of measures) (before key_rows rows)

  at_rows : first_rows start.rows batch ≡ rows
  at_rows = ap (λ n. first_rows n batch) starts

  keys_after : IsAfter key_rows start keyed
  keys_after = subst (λ l. IsAfter (columns (map eval groups) l) start keyed) at_rows keys.after

  keys_few : length key_rows.values ≤ batch.rows
  keys_few = omega (arith, ap (λ (c : Column Row). length c.values) (columns_each eval groups rows), each_short (λ x. column (eval x)) (λ x. column_short (eval x)) (λ x. column_full (eval x)) groups rows, many_first batch.rows batch)

  left : before key_rows rows ≡ first_rows keyed.rows batch
  left = first_of_first (length key_rows.values) batch.rows batch keys_few ∙ ap (λ n. first_rows n batch) (sym keys_after.rows)

  takes_after : IsAfter taken_rows keyed after
  takes_after = subst (λ l. IsAfter (members_of (map measure_of measures) l) keyed after) (sym left) takes.after

  entries_are : entries_at groups measures batch ≡ entries_of (map eval groups) (map measure_of measures) rows
  entries_are = ap (entries_of (map eval groups) (map measure_of measures)) (all_rows batch)

  -- the first fault
  pub stops : (entries_at groups measures batch).stop ≡ after.stop
  stops =
      ap (λ (c : Column Entry). c.stop) entries_are
      ∙ ap (first_stop taken_rows.stop) (sym (or_none key_rows.stop) ∙ ap (first_stop key_rows.stop) (sym clean) ∙ sym keys_after.stop)
      ∙ sym takes_after.stop

  module _ (none : after.stop ≡ None) where
    keyed_none : keyed.stop ≡ None
    keyed_none = none_second taken_rows.stop keyed.stop (sym takes_after.stop ∙ none)

    keys_none : key_rows.stop ≡ None
    keys_none = none_first key_rows.stop start.stop (sym keys_after.stop ∙ keyed_none)

    each_keys : (each (λ x. column (eval x)) (λ x. column_short (eval x)) (λ x. column_full (eval x)) groups rows).stop ≡ None
    each_keys = sym (ap (λ (c : Column Row). c.stop) (columns_each eval groups rows)) ∙ keys_none

    keys_many : length key_rows.values ≡ batch.rows
    keys_many = ap (λ (c : Column Row). length c.values) (columns_each eval groups rows) ∙ each_full (λ x. column (eval x)) (λ x. column_short (eval x)) (λ x. column_full (eval x)) groups rows each_keys ∙ many_first batch.rows batch

    keyed_rows : keyed.rows ≡ batch.rows
    keyed_rows = keys_after.rows ∙ keys_many

    all_left : before key_rows rows ≡ rows
    all_left = left ∙ ap (λ n. first_rows n batch) keyed_rows

    own_rows : Column (List (Option Value))
    own_rows = members_of (map measure_of measures) rows

    takes_none : (each (λ x. members (measure_of x)) (λ x. members_short (measure_of x)) (λ x. members_full (measure_of x)) measures rows).stop ≡ None
    takes_none =
        sym (ap (λ (c : Column (List (Option Value))). c.stop) (members_each measure_of measures rows))
        ∙ ap (λ l. (members_of (map measure_of measures) l).stop) (sym all_left)
        ∙ none_first taken_rows.stop keyed.stop (sym takes_after.stop ∙ none)

    takes_values : taken_rows.values ≡ (each (λ x. members (measure_of x)) (λ x. members_short (measure_of x)) (λ x. members_full (measure_of x)) measures rows).values
    takes_values = ap (λ l. (members_of (map measure_of measures) l).values) all_left ∙ ap (λ (c : Column (List (Option Value))). c.values) (members_each measure_of measures rows)

    takes_many : length taken_rows.values ≡ batch.rows
    takes_many = ap length takes_values ∙ each_full (λ x. members (measure_of x)) (λ x. members_short (measure_of x)) (λ x. members_full (measure_of x)) measures rows takes_none ∙ many_first batch.rows batch

    abbrev entries : List Entry
    entries = (entries_at groups measures batch).values

    entry_keys : keys_of entries ≡ key_rows.values
    entry_keys = ap (λ (c : Column Entry). keys_of c.values) entries_are ∙ firsts key_rows.values taken_rows.values (takes_many ∙ sym keys_many)

    entry_members : map (λ (entry : Entry). entry.1) entries ≡ taken_rows.values
    entry_members = ap (λ (c : Column Entry). map (λ (entry : Entry). entry.1) c.values) entries_are ∙ seconds key_rows.values taken_rows.values (takes_many ∙ sym keys_many)

    -- each key column has a value for each row
    pub key_sizes : map (λ (column : stored.Column). length (values_of column.values)) key_columns ≡ map (λ (group : Expr). batch.rows) groups
    key_sizes =
        sym (map-map length column_values key_columns) ∙ ap (map length) (keys.values keyed_none) ∙ map-map length (λ group. (column (eval group) (first_rows start.rows batch)).values) groups
        ∙ ap (λ l. map (λ group. length (column (eval group) l).values) groups) at_rows ∙ sized groups each_keys
      where
        sized : (some : List Expr) → (each (λ x. column (eval x)) (λ x. column_short (eval x)) (λ x. column_full (eval x)) some rows).stop ≡ None → map (λ group. length (column (eval group) rows).values) some ≡ map (λ (group : Expr). batch.rows) some
        sized [] e = refl
        sized (x ∷ some) e =
            let both = next_stop (λ x. column (eval x)) (λ x. column_short (eval x)) (λ x. column_full (eval x)) x some rows e in
            ap₂ (λ n l. n ∷ l) (column_full (eval x) rows both.0 ∙ many_first batch.rows batch) (sized some both.1)

    pub keys_are : (kept : Batch) (places : List ℕ) → kept.rows ≡ batch.rows → kept.columns.items ≡ key_columns → places ≡ range_with_len 0 (length groups) → keys_of entries ≡ keys_at places kept
    keys_are kept places sized own at =
        let given = map (λ group. (column (eval group) rows).values) groups in
        let same : columns_of kept ≡ given =
        ap (map column_values) own ∙ keys.values keyed_none ∙ ap (λ l. map (λ group. (column (eval group) l).values) groups) at_rows in
        entry_keys
        ∙ fill_by_all (key_of places kept) key_rows.values batch.rows [] keys_many (λ i below.
        ap (λ (c : Column Row). get_or c.values i []) (columns_each eval groups rows)
        ∙ each_row_at (λ x. column (eval x)) (λ x. column_short (eval x)) (λ x. column_full (eval x)) values.Null groups rows i each_keys (omega (arith, below, many_first batch.rows batch))
        ∙ sym (map-map (λ column. get_or column i values.Null) (λ group. (column (eval group) rows).values) groups)
        ∙ sym (by_place (λ column. get_or column i values.Null) given (length groups) (length-map groups (λ group. (column (eval group) rows).values)))
        ∙ ap₂ (λ (l : List (List Value)) (k : List ℕ). map (λ j. get_or (get_or l j []) i values.Null) k) (sym same) (sym at))
        ∙ ap (λ n. map (key_of places kept) (range_with_len 0 n)) (sym sized)

    takes_are : AreTaken batch.rows 0 all entries
    takes_are =
        taken_from batch.rows 0 entries all (map (λ measure. (members (measure_of measure) rows).values) measures)
        (ap (λ n. map (taken.members_of n) all) (sym keyed_rows) ∙ (takes.wholly none).members ∙ ap (λ n. map (λ measure. (members (measure_of measure) (first_rows n batch)).values) measures) keyed_rows)
        (λ place below.
        let there : place < length measures = omega (arith, below, length-map measures (λ measure. (members (measure_of measure) rows).values)) in
        let at : 0 + place ≡ place = omega arith in
        ap (λ k. members_at k entries) at
        ∙ record_at entries place ∙ ap (map (λ row. get_or row place None)) (entry_members ∙ takes_values)
        ∙ each_column (λ x. members (measure_of x)) (λ x. members_short (measure_of x)) (λ x. members_full (measure_of x)) None measures rows place takes_none there)

    pub inputs_are : (inputs : Inputs) → inputs.keys.rows ≡ batch.rows → inputs.keys.columns.items ≡ key_columns → inputs.columns.items ≡ range_with_len 0 (length groups) → inputs.taken.items ≡ all → AreInputs groups measures batch inputs
    inputs_are inputs sized own at same =
        let whole = (takes.wholly none).whole in
        let many : length key_columns ≡ length groups =
        sym (length-map key_columns column_values) ∙ ap length (keys.values keyed_none) ∙ length-map groups (λ group. (column (eval group) (first_rows start.rows batch)).values) in
        record {
          none = stops ∙ none;
          entries = record {
            keys = keys_are inputs.keys inputs.columns.items sized own at;
            takes = subst (λ n. AreTaken n 0 inputs.taken.items entries) (sym sized) (subst (λ l. AreTaken batch.rows 0 l entries) (sym same) takes_are);
          };
          rows = sized;
          places = at;
          columns = subst (All (λ column. column < length inputs.keys.columns.items)) (sym at) (all_below (length groups) (length inputs.keys.columns.items) (omega (arith, ap length own, many)));
          all = ap length same ∙ sym (length-map all (taken.members_of keyed.rows)) ∙ ap length (takes.wholly none).members ∙ length-map measures (λ measure. (members (measure_of measure) (first_rows keyed.rows batch)).values);
          whole = subst (λ n. All (IsWhole n) inputs.taken.items) keyed_rows (subst (All (IsWhole keyed.rows)) (sym same) whole);
        }

-- ---- one after the other

one_taken : {X : Type 0} (xs : List X) (n : ℕ) (x : X) → n < length xs → x ≡ get_or xs n x → take (n + 1) xs ≡ take n xs ++ x ∷ []
one_taken xs n x there is = take_more xs n x there ∙ ap (λ one. take n xs ++ one ∷ []) (sym is)

pub one_left : {X : Type 0} (xs : List X) (n : ℕ) (x : X) → n < length xs → x ≡ get_or xs n x → drop n xs ≡ x ∷ drop (n + 1) xs
one_left xs n x there is =
    let next : suc n ≡ n + 1 = omega arith in
    drop-cons xs n x there ∙ ap₂ (λ one k. one ∷ drop k xs) (sym is) next

pub views_more : {X Y V : Type 0} (view : Y → V) (of : X → V) (xs : List X) (n : ℕ) (x : X) (done more : List Y) (y : Y) → n < length xs → x ≡ get_or xs n x → more ≡ done ++ y ∷ [] → view y ≡ of x → map view done ≡ map of (take n xs) → map view more ≡ map of (take (n + 1) xs)
views_more view of xs n x done more y there is pushed own so_far =
    ap (map view) pushed ∙ map-append view done (y ∷ [])
    ∙ ap₂ (λ l one. l ++ one ∷ []) so_far own
    ∙ sym (ap (map of) (one_taken xs n x there is) ∙ map-append of (take n xs) (x ∷ []))

pub wholly_more : (measures : List TypedMeasure) (batch : Batch) (start state after : Before) (n : ℕ) (measure : TypedMeasure) (done more : List Taken) (one : Taken) → n < length measures → measure ≡ get_or measures n measure → more ≡ done ++ one ∷ []
    → (state.stop ≡ None → state.rows ≡ start.rows) → IsTaking measure batch state one after → (state.stop ≡ None → AreWholly (take n measures) batch start.rows done) → after.stop ≡ None → AreWholly (take (n + 1) measures) batch start.rows more
wholly_more measures batch start state after n measure done more one there is pushed whole own so_far none =
    let before_none = none_second (members (measure_of measure) (first_rows state.rows batch)).stop state.stop (sym own.after.stop ∙ none) in
    let old = so_far before_none in
    let here = subst (λ k. IsWholly measure batch k one) (whole before_none) (own.wholly none) in
    record {
      members = views_more (taken.members_of start.rows) (λ measure. (members (measure_of measure) (first_rows start.rows batch)).values) measures n measure done more one there is pushed here.members old.members;
      whole = subst (All (IsWhole start.rows)) (sym pushed) (All-push (IsWhole start.rows) done one old.whole here.whole);
    }

pub wholly_none : (batch : Batch) (rows : ℕ) (all : List Taken) → all ≡ [] → AreWholly [] batch rows all
wholly_none batch rows all none = record { members = ap (map (taken.members_of rows)) none; whole = subst (All (IsWhole rows)) (sym none) (All-nil (IsWhole rows)) }

pub keys_more : (groups : List Expr) (batch : Batch) (start state after : Before) (n : ℕ) (group : Expr) (done more : List stored.Column) (one : stored.Column) → n < length groups → group ≡ get_or groups n group → more ≡ done ++ one ∷ []
    → (state.stop ≡ None → state.rows ≡ start.rows) → IsColumn group batch state one after → (state.stop ≡ None → map column_values done ≡ map (λ group. (column (eval group) (first_rows start.rows batch)).values) (take n groups))
    → after.stop ≡ None → map column_values more ≡ map (λ group. (column (eval group) (first_rows start.rows batch)).values) (take (n + 1) groups)
keys_more groups batch start state after n group done more one there is pushed whole own so_far none =
    let before_none = none_second (column (eval group) (first_rows state.rows batch)).stop state.stop (sym own.after.stop ∙ none) in
    views_more column_values (λ group. (column (eval group) (first_rows start.rows batch)).values) groups n group done more one there is pushed
    (own.values ∙ ap (λ k. (column (eval group) (first_rows k batch)).values) (whole before_none)) (so_far before_none)

range_push : (from n : ℕ) → range_with_len from (suc n) ≡ range_with_len from n ++ (from + n) ∷ []
range_push from zero = ap (λ one. one ∷ []) (omega arith)
range_push from (suc n) =
    let same : from + 1 + n ≡ from + suc n = omega arith in
    ap (λ rest. from ∷ rest) (range_push (from + 1) n ∙ ap (λ k. range_with_len (from + 1) n ++ k ∷ []) same)

pub places_more : (n : ℕ) (done more : List ℕ) → more ≡ done ++ n ∷ [] → done ≡ range_with_len 0 n → more ≡ range_with_len 0 (n + 1)
places_more n done more pushed so_far =
    let next : suc n ≡ n + 1 = omega arith in
    let own : n ≡ 0 + n = omega arith in
    pushed ∙ ap₂ (λ l one. l ++ one ∷ []) so_far own ∙ sym (range_push 0 n) ∙ ap (range_with_len 0) next

-- each key column has a value for each row
pub columns_sized : (rows : ℕ) (groups : List Expr) (columns : List stored.Column) → map (λ (column : stored.Column). length (values_of column.values)) columns ≡ map (λ (group : Expr). rows) groups → All (λ (column : stored.Column). length (values_of column.values) ≡ rows) columns
columns_sized rows groups [] e = All-nil (λ (column : stored.Column). length (values_of column.values) ≡ rows)
columns_sized rows [] (one ∷ columns) e = absurd (cc)
columns_sized rows (group ∷ groups) (one ∷ columns) e =
    All-cons (λ (column : stored.Column). length (values_of column.values) ≡ rows) one columns (ap (λ l. get_or l 0 rows) e) (columns_sized rows groups columns (ap (drop 1) e))

pub tested_few : (filter : Option Expr) (batch : Batch) (start tested : Before) (tests : Option stored.Column) → IsTested filter batch start tests tested → start.rows ≤ batch.rows → tested.rows ≤ batch.rows
tested_few filter batch start tested tests is few =
    omega (arith, few, is.after.rows, column_short (condition_of (option_map eval filter)) (first_rows start.rows batch), many_first start.rows batch)

pub keyed_few : (groups : List Expr) (batch : Batch) (start keyed : Before) (columns : List stored.Column) → AreKeyColumns groups batch start columns keyed → start.rows ≤ batch.rows → keyed.rows ≤ batch.rows
keyed_few groups batch start keyed given is few =
    let rows = first_rows start.rows batch in
    omega (arith, few, is.after.rows, ap (λ (c : Column Row). length c.values) (columns_each eval groups rows), each_short (λ x. column (eval x)) (λ x. column_short (eval x)) (λ x. column_full (eval x)) groups rows, many_first start.rows batch)
