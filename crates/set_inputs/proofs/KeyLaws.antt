-- The keys of sets, and the pairs of values and keys, by the columns of a batch.
use Rattle.std.proofs.Common.{◌≡◌, ◌∙◌, ℕ, zero, suc, ◌+◌, ◌<◌, ◌≤◌, List, [], ◌∷◌, ◌++◌, Bool, true, false, cond, None, map, length, get_or, replicate, refl, sym, ap, ap₂, subst, arith, ◌==◌}
use Rattle.std.specs.Prelude.{slice_index_or}
use Rattle.std.specs.List.{All, AllByRecursion, list_any, range_with_len}
use Rattle.std.proofs.lemmas.List.{length-map, length-append}
use Rattle.std.proofs.lemmas.List.Elements.{All-from_get_or}
use Rattle.std.proofs.lemmas.List.FromFn.{length-map-range_with_len, get_or-map-range_with_len, fill_by_all}
use Rattle.sub_types.specs.declared.value.Value.{Value}
use Rattle.sub_types.specs.declared.value.Value.TheVariants.{Null}
use Rattle.plan_typed.specs.declared.rel.SetMeasure.{SetMeasure}
use Rattle.plan_denote.specs.Computed.{Row}
use Rattle.plan_denote.specs.Aggregate.{Entry}
use Rattle.plan_denote.specs.GroupSets.{key_over, entry_in}
use Rattle.batch.specs.declared.batch.Batch.{Batch}
use Rattle.batch.specs.BatchRows.{columns_of, column_of}
use Rattle.batch.specs.Column.{column_values}
use Rattle.group_laws.specs.Columns.{zipped}
use Rattle.group_inputs.specs.declared.inputs.Inputs.{Inputs}
use Rattle.row_keys.specs.Keys.{key_of, value_in}
use Rattle.group_numbers.specs.Keys.{keys_at}
use Rattle.group_columns.specs.declared.taken.Taken.{Taken}
use Rattle.group_columns.specs.Columns.{IsWhole, keys_of, members_at, members_of}
use Rattle.group_states.specs.States.{AreTaken, AreEntries}
use Rattle.group_firsts.specs.Firsts.{or_null, pair_at}
use Rattle.set_inputs.specs.declared.inputs.SetInputs.{SetInputs}
use Rattle.set_inputs.specs.Inputs.{column_over, columns_over, values_once, AreValues, AreInputs}

abbrev head_or : {A : Type 0} → A → List A → A
head_or d [] = d
head_or d (x ∷ xs) = x

abbrev rest_of : {A : Type 0} → List A → List A
rest_of [] = []
rest_of (x ∷ xs) = xs

pub map-over : {A B C : Type 0} (g : B → C) (f : A → B) (xs : List A) → map g (map f xs) ≡ map (λ x. g (f x)) xs
map-over g f [] = refl
map-over g f (x ∷ xs) = ap (λ l. g (f x) ∷ l) (map-over g f xs)

map_each : {A B : Type 0} (f g : A → B) → ((x : A) → f x ≡ g x) → (xs : List A) → map f xs ≡ map g xs
map_each f g h [] = refl
map_each f g h (x ∷ xs) = ap₂ (λ y l. y ∷ l) (h x) (map_each f g h xs)

range_alike : {A : Type 0} (f g : ℕ → A) (start count : ℕ) → ((i : ℕ) → i < start + count → f i ≡ g i) → map f (range_with_len start count) ≡ map g (range_with_len start count)
range_alike f g start zero h = refl
range_alike f g start (suc count) h = ap₂ (λ x l. x ∷ l) (h start (omega arith)) (range_alike f g (start + 1) count (λ i below. h i (omega (arith, below))))

pub nulls_at : (n i : ℕ) → get_or (replicate n Null) i Null ≡ Null
nulls_at zero zero = refl
nulls_at zero (suc i) = refl
nulls_at (suc n) zero = refl
nulls_at (suc n) (suc i) = nulls_at n i

-- a value of a key in a set
value_by : (batch : Batch) (nulls row place : ℕ) (b : Bool) → column_of nulls batch ≡ replicate batch.rows Null → value_in batch row (cond b place nulls) ≡ cond b (value_in batch row place) Null
value_by batch nulls row place true e = refl
value_by batch nulls row place false e = ap (λ l. slice_index_or l row Null) e ∙ nulls_at batch.rows row

key_by : (batch : Batch) (nulls width row : ℕ) (set : List ℕ) → column_of nulls batch ≡ replicate batch.rows Null → key_of (columns_over nulls width set) batch row ≡ key_over set (key_of (range_with_len 0 width) batch row)
key_by batch nulls width row set e =
    let key = key_of (range_with_len 0 width) batch row in
    let many : length key ≡ width = length-map-range_with_len (value_in batch row) 0 width in
    map-over (value_in batch row) (column_over nulls set) (range_with_len 0 width)
    ∙ range_alike (λ place. value_in batch row (column_over nulls set place)) (λ place. cond (list_any (λ one. one == place) set) (slice_index_or key place Null) Null) 0 width (λ place below.
    value_by batch nulls row place (list_any (λ one. one == place) set) e
    ∙ ap (λ v. cond (list_any (λ one. one == place) set) v Null) (sym (get_or-map-range_with_len (value_in batch row) 0 width place place Null (omega (arith, below)) (omega arith))))
    ∙ ap (λ n. map (λ place. cond (list_any (λ one. one == place) set) (slice_index_or key place Null) Null) (range_with_len 0 n)) (sym many)

keys_over : (batch : Batch) (nulls width : ℕ) (set rows : List ℕ) → column_of nulls batch ≡ replicate batch.rows Null → map (key_of (columns_over nulls width set) batch) rows ≡ map (key_over set) (map (key_of (range_with_len 0 width) batch) rows)
keys_over batch nulls width set [] e = refl
keys_over batch nulls width set (row ∷ rows) e = ap₂ (λ x l. x ∷ l) (key_by batch nulls width row set e) (keys_over batch nulls width set rows e)

keys_in_set : (set : List ℕ) (later : List Entry) → keys_of (map (entry_in set) later) ≡ map (key_over set) (keys_of later)
keys_in_set set [] = refl
keys_in_set set (entry ∷ later) = ap (λ l. key_over set entry.0 ∷ l) (keys_in_set set later)

members_in_set : (set : List ℕ) (place : ℕ) (later : List Entry) → members_at place (map (entry_in set) later) ≡ members_at place later
members_in_set set place [] = refl
members_in_set set place (entry ∷ later) = ap (λ l. slice_index_or entry.1 place None ∷ l) (members_in_set set place later)

taken_in_set : (set : List ℕ) (rows place : ℕ) (taken : List Taken) (later : List Entry) → AreTaken rows place taken later → AreTaken rows place taken (map (entry_in set) later)
taken_in_set set rows place [] later are = are
taken_in_set set rows place (one ∷ taken) later are = (are.0 ∙ sym (members_in_set set place later), taken_in_set set rows (suc place) taken later are.1)

module _ (width : ℕ) (measures : List SetMeasure) (later : List Entry) (inputs : SetInputs) (are : AreInputs width measures later inputs) where
  abbrev batch : Batch
  batch = inputs.batch

  -- the keys of a set
  pub set_keys : (set : List ℕ) → keys_of (map (entry_in set) later) ≡ keys_at (columns_over inputs.nulls width set) batch
  set_keys set = keys_in_set set later ∙ ap (map (key_over set)) are.keys ∙ sym (keys_over batch inputs.nulls width set (range_with_len 0 batch.rows) are.nulls)

  -- the rows, in a set
  pub set_entries : (set : List ℕ) → AreEntries (columns_over inputs.nulls width set) batch inputs.taken.items (map (entry_in set) later)
  set_entries set = record { keys = set_keys set; takes = taken_in_set set batch.rows 0 inputs.taken.items later are.takes }

  pub rows_many : length later ≡ batch.rows
  rows_many = sym (length-map later (λ (entry : Entry). entry.0)) ∙ ap length are.keys ∙ length-map-range_with_len (key_of (range_with_len 0 width) batch) 0 batch.rows

  -- its columns are there
  below_by : (place : ℕ) (b : Bool) → place < width → cond b place inputs.nulls < length batch.columns.items
  below_by place true h = omega (arith, h, are.few, are.wide)
  below_by place false h = omega (arith, are.wide)

  pub set_below : (set : List ℕ) → All (λ column. column < length batch.columns.items) (columns_over inputs.nulls width set)
  set_below set =
      let columns = columns_over inputs.nulls width set in
      let many : length columns ≡ width = length-map-range_with_len (column_over inputs.nulls set) 0 width in
      All-from_get_or (λ column. column < length batch.columns.items) columns 0 (λ i h.
      let below : i < width = omega (arith, h, many) in
      subst (λ n. n < length batch.columns.items) (sym (get_or-map-range_with_len (column_over inputs.nulls set) 0 width i i 0 below (omega arith))) (below_by i (list_any (λ one. one == i) set) below))

  -- each key has a value for each group
  wide_keys : (rows : List ℕ) (keys : List Entry) → map (λ (entry : Entry). entry.0) keys ≡ map (key_of (range_with_len 0 width) batch) rows → AllByRecursion (λ (entry : Entry). length entry.0 ≡ width) keys
  wide_keys rows [] e = tt
  wide_keys [] (entry ∷ keys) e = absurd (cc)
  wide_keys (row ∷ rows) (entry ∷ keys) e = (
    ap length (ap (head_or []) e) ∙ length-map-range_with_len (value_in batch row) 0 width,
    wide_keys rows keys (ap rest_of e),
  )

  pub all_wide : AllByRecursion (λ (entry : Entry). length entry.0 ≡ width) later
  all_wide = wide_keys (range_with_len 0 batch.rows) later are.keys

-- pairs of values and keys, one after the other
beside : {A B : Type 0} (v : A → Value) (k : A → Row) (w : B → Value) (j : B → Row) (xs : List A) (ys : List B) → map v xs ≡ map w ys → map k xs ≡ map j ys → map (λ x. v x ∷ k x) xs ≡ map (λ y. w y ∷ j y) ys
beside v k w j [] [] e f = refl
beside v k w j [] (y ∷ ys) e f = absurd (cc)
beside v k w j (x ∷ xs) [] e f = absurd (cc)
beside v k w j (x ∷ xs) (y ∷ ys) e f =
    ap (λ l. (v x ∷ k x) ∷ l) (beside v k w j xs ys (ap rest_of e) (ap rest_of f))
    ∙ ap (λ p. (p ∷ k x) ∷ map (λ y. w y ∷ j y) ys) (ap (head_or (v x)) e)
    ∙ ap (λ p. (w y ∷ p) ∷ map (λ y. w y ∷ j y) ys) (ap (head_or (k x)) f)

value_there : (batch : Batch) (later : List Entry) (column place i : ℕ) (measures : List SetMeasure) (measure : SetMeasure) → AreValues column place measures batch later → i < length measures → measure ≡ get_or measures i measure → measure.distinct ≡ true
    → column_of (column + i) batch ≡ map or_null (members_at (place + i) later)
value_there batch later column place i [] measure are h is e = absurd (omega (arith, h))
value_there batch later column place zero (one ∷ measures) measure are h is e =
    let c : column + 0 ≡ column = omega arith in
    let p : place + 0 ≡ place = omega arith in
    ap (λ n. column_of n batch) c ∙ are.0 (ap (λ (m : SetMeasure). m.distinct) (sym is) ∙ e) ∙ ap (λ n. map or_null (members_at n later)) (sym p)
value_there batch later column place (suc i) (one ∷ measures) measure are h is e =
    let c : column + suc i ≡ suc column + i = omega arith in
    let p : place + suc i ≡ suc place + i = omega arith in
    ap (λ n. column_of n batch) c ∙ value_there batch later (suc column) (suc place) i measures measure are.1 (omega (arith, h)) is e ∙ ap (λ n. map or_null (members_at n later)) (sym p)

pub set_pairs : (width : ℕ) (measures : List SetMeasure) (later : List Entry) (inputs : SetInputs) → AreInputs width measures later inputs → (set : List ℕ) (i : ℕ) (measure : SetMeasure) → i < length measures → measure ≡ get_or measures i measure → measure.distinct ≡ true
    → map (pair_at i) (map (entry_in set) later) ≡ keys_at ((suc inputs.nulls + i) ∷ columns_over inputs.nulls width set) inputs.batch
set_pairs width measures later inputs are set i measure h is e =
    let batch = inputs.batch in
    let c = suc inputs.nulls + i in
    let cols = columns_over inputs.nulls width set in
    let at : 0 + i ≡ i = omega arith in
    let column : column_of c batch ≡ map or_null (members_at i later) = value_there batch later (suc inputs.nulls) 0 i measures measure are.values h is e ∙ ap (λ n. map or_null (members_at n later)) at in
    let many : length (column_of c batch) ≡ batch.rows =
    ap length column ∙ length-map (members_at i later) or_null ∙ length-map later (λ (entry : Entry). slice_index_or entry.1 i None) ∙ rows_many width measures later inputs are in
    let values : map (λ row. value_in batch row c) (range_with_len 0 batch.rows) ≡ map (λ (entry : Entry). or_null (slice_index_or entry.1 i None)) later =
    sym (fill_by_all (λ row. value_in batch row c) (column_of c batch) batch.rows Null many (λ k below. refl)) ∙ column ∙ map-over or_null (λ (entry : Entry). slice_index_or entry.1 i None) later in
    let keys : map (key_of cols batch) (range_with_len 0 batch.rows) ≡ map (λ (entry : Entry). key_over set entry.0) later =
    sym (set_keys width measures later inputs are set) ∙ map-over (λ (entry : Entry). entry.0) (entry_in set) later in
    map-over (pair_at i) (entry_in set) later
    ∙ sym (beside (λ row. value_in batch row c) (key_of cols batch) (λ (entry : Entry). or_null (slice_index_or entry.1 i None)) (λ (entry : Entry). key_over set entry.0) (range_with_len 0 batch.rows) later values keys)

-- ---- the columns of inputs

get_left : {A : Type 0} (xs ys : List A) (i : ℕ) (d : A) → i < length xs → get_or (xs ++ ys) i d ≡ get_or xs i d
get_left [] ys i d h = absurd (omega (arith, h))
get_left (x ∷ xs) ys zero d h = refl
get_left (x ∷ xs) ys (suc i) d h = get_left xs ys i d (omega (arith, h))

get_right : {A : Type 0} (xs ys : List A) (i : ℕ) (d : A) → get_or (xs ++ ys) (length xs + i) d ≡ get_or ys i d
get_right [] ys i d = ap (λ n. get_or ys n d) (omega arith)
get_right (x ∷ xs) ys i d =
    let next : length (x ∷ xs) + i ≡ suc (length xs + i) = omega arith in
    ap (λ n. get_or ((x ∷ xs) ++ ys) n d) next ∙ get_right xs ys i d

keys_alike : (batch kept : Batch) (width : ℕ) (others : List (List Value)) → width ≤ length (columns_of kept) → columns_of batch ≡ columns_of kept ++ others → batch.rows ≡ kept.rows → keys_at (range_with_len 0 width) kept ≡ keys_at (range_with_len 0 width) batch
keys_alike batch kept width others many is rows =
    map_each (key_of (range_with_len 0 width) kept) (key_of (range_with_len 0 width) batch) (λ row.
    range_alike (λ column. value_in kept row column) (λ column. value_in batch row column) 0 width (λ column below.
    ap (λ l. slice_index_or l row Null) (sym (get_left (columns_of kept) others column [] (omega (arith, below, many))) ∙ ap (λ l. get_or l column []) (sym is)))) (range_with_len 0 kept.rows)
    ∙ ap (λ n. map (key_of (range_with_len 0 width) batch) (range_with_len 0 n)) (sym rows)

values_are : (rows place column : ℕ) (measures : List SetMeasure) (taken : List Taken) (batch : Batch) (later : List Entry) → length taken ≡ length measures → AreTaken rows place taken later
    → ((i : ℕ) → column_of (column + i) batch ≡ get_or (zipped (λ (m : SetMeasure) (t : Taken). values_once rows m.distinct t) measures taken) i []) → AreValues column place measures batch later
values_are rows place column [] taken batch later many are at = tt
values_are rows place column (measure ∷ measures) [] batch later many are at = absurd (omega (arith, many))
values_are rows place column (measure ∷ measures) (one ∷ taken) batch later many are at =
    let first : column + 0 ≡ column = omega arith in (
      λ e. ap (λ n. column_of n batch) (sym first) ∙ at 0 ∙ ap (λ b. cond b (map or_null (members_of rows one)) (replicate rows Null)) e ∙ ap (map or_null) are.0,
      values_are rows (suc place) (suc column) measures taken batch later (omega (arith, many)) are.1 (λ i. ap (λ n. column_of n batch) (omega arith) ∙ at (suc i)),
    )

zipped_many : (rows : ℕ) (measures : List SetMeasure) (taken : List Taken) → length taken ≡ length measures → length (zipped (λ (m : SetMeasure) (t : Taken). values_once rows m.distinct t) measures taken) ≡ length measures
zipped_many rows [] taken e = refl
zipped_many rows (measure ∷ measures) [] e = absurd (omega (arith, e))
zipped_many rows (measure ∷ measures) (one ∷ taken) e = ap suc (zipped_many rows measures taken (omega (arith, e)))

pub inputs_are : (width : ℕ) (measures : List SetMeasure) (inputs : Inputs) (out : SetInputs) (later : List Entry) → length inputs.taken.items ≡ length measures → All (IsWhole inputs.keys.rows) inputs.taken.items
    → out.taken.items ≡ inputs.taken.items → out.batch.rows ≡ inputs.keys.rows → out.nulls ≡ length inputs.keys.columns.items
    → columns_of out.batch ≡ columns_of inputs.keys ++ replicate inputs.keys.rows Null ∷ zipped (λ (m : SetMeasure) (t : Taken). values_once inputs.keys.rows m.distinct t) measures inputs.taken.items
    → inputs.columns.items ≡ range_with_len 0 width → width ≤ length inputs.keys.columns.items → AreEntries inputs.columns.items inputs.keys inputs.taken.items later → AreInputs width measures later out
inputs_are width measures inputs out later many whole same rows first columns at few are =
    let long : out.nulls ≡ length (columns_of inputs.keys) = first ∙ sym (length-map inputs.keys.columns.items column_values) in
    let values = zipped (λ (m : SetMeasure) (t : Taken). values_once inputs.keys.rows m.distinct t) measures inputs.taken.items in
    let others = replicate inputs.keys.rows Null ∷ values in
    let zero_more : length (columns_of inputs.keys) + 0 ≡ out.nulls = omega (arith, long) in
    record {
      keys = are.keys ∙ ap (λ l. keys_at l inputs.keys) at ∙ keys_alike out.batch inputs.keys width others (omega (arith, few, first, long)) columns rows;
      few = omega (arith, few, first);
      nulls = ap (λ l. get_or l out.nulls []) columns ∙ ap (λ n. get_or (columns_of inputs.keys ++ others) n []) (sym zero_more) ∙ get_right (columns_of inputs.keys) others 0 [] ∙ ap (λ n. replicate n Null) (sym rows);
      values =
          values_are inputs.keys.rows 0 (suc out.nulls) measures inputs.taken.items out.batch later many are.takes (λ i.
          let next : suc out.nulls + i ≡ length (columns_of inputs.keys) + suc i = omega (arith, long) in
          ap (λ l. get_or l (suc out.nulls + i) []) columns ∙ ap (λ n. get_or (columns_of inputs.keys ++ others) n []) next ∙ get_right (columns_of inputs.keys) others (suc i) []);
      takes = subst (λ n. AreTaken n 0 out.taken.items later) (sym rows) (subst (λ l. AreTaken inputs.keys.rows 0 l later) (sym same) are.takes);
      wide =
          let all : length (columns_of out.batch) ≡ length (columns_of inputs.keys) + length others = ap length columns ∙ length-append (columns_of inputs.keys) others in
          let own : length out.batch.columns.items ≡ length (columns_of out.batch) = sym (length-map out.batch.columns.items column_values) in
          omega (arith, all, own, long, zipped_many inputs.keys.rows measures inputs.taken.items many);
      all = ap length same ∙ many;
      whole = subst (λ n. All (IsWhole n) out.taken.items) (sym rows) (subst (All (IsWhole inputs.keys.rows)) (sym same) whole);
    }
