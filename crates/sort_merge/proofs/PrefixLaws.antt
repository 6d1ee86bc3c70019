-- Prefixes order rows as their keys do, as far as they tell them apart.
use Rattle.std.proofs.Common.{◌≡◌, ◌∙◌, ℕ, zero, suc, ℤ, pos, negsuc, ◌<◌, ◌≤◌, ◌+◌, ◌-◌, ◌^◌, List, [], ◌∷◌, Bool, true, false, cond, map, drop, refl, sym, ap, subst, arith}
use Rattle.std.specs.Cmp.{IsTotalOrder}
use Rattle.std.specs.List.{AllByRecursion, range_with_len}
use Rattle.std.specs.Ordering.{int_cmp, nat_cmp, bool_cmp, on, ordering_then, ordering_reverse, MatchOrdering}
use Rattle.std.specs.declared.cmp.Ordering.{Ordering}
use Rattle.std.specs.declared.cmp.Ordering.TheVariants.{Less, Equal, Greater}
use Rattle.std.proofs.Math.Pow.{shr_mono}
use Rattle.std.proofs.Math.Dec.{leb}
use Rattle.std.proofs.lemmas.Bool.{lt-ltb, leb-true, leb-false}
use Rattle.std.proofs.lemmas.Cmp.{ranked, nat_cmp_total, on_total, then_total}
use Rattle.sub_types.specs.declared.value.Value.{Value}
use Rattle.sub_types.specs.declared.value.Value.TheVariants as values
use Rattle.batch.specs.declared.batch.Batch.{Batch}
use Rattle.batch_places.specs.BatchRow.{has_row, row_at}
use Rattle.row_keys.specs.Keys.{sort_key_of, direction_of}
use Rattle.plan_denote.specs.Computed.{is_null}
use Rattle.plan_denote.specs.Order.{value_cmp}
use Rattle.plan_denote.specs.Rows.{Row}
use Rattle.plan_denote.specs.Sort.{Direction, IsArrangement, arranged, first_key, null_cmp, sized_cmp, key_cmp}
use Rattle.plan_denote.proofs.OrderLaws.{key_cmp_total}
use Rattle.plan_denote.proofs.SortLaws.{arrangement, is_arranged}
use Rattle.plan_pipes.specs.RowMeaning.{keyed_by, direction_in}
use Rattle.rel_specs.specs.declared.key_order.KeyOrder.{KeyOrder}
use Rattle.sort_merge.specs.Prefix.{most, int_prefix, value_prefix, null_prefix, sized_prefix, key_prefix, shortened, packed, prefix_of, row_of, prefixed_at, prefixed_cmp}
use Rattle.sort_merge.specs.RowOrder.{row_cmp, place_cmp}
use Rattle.sort_merge.specs.declared.scale.Scale.{Scale}
use Rattle.sort_merge.proofs.ArrangedLaws.{map-arranged, arranged_alike}
use Rattle.sort_merge.proofs.OrderLaws.{by_rows, place_total}
use Rattle.sort_merge.proofs.RowLaws.{key_at}

int_up : (a b : ℤ) → int_prefix a < int_prefix b → int_cmp a b ≡ Less
int_up (pos a) (pos b) up = let less : a < b = omega arith in rw (lt-ltb a b less) refl
int_up (pos a) (negsuc b) up = absurd (omega arith)
int_up (negsuc a) (pos b) up = refl
int_up (negsuc a) (negsuc b) up = let less : b < a = omega arith in rw (lt-ltb b a less) refl

int_low : (a : ℤ) → int_prefix a ≤ most
int_low (pos a) = omega arith
int_low (negsuc a) = omega arith

value_low : (v : Value) → value_prefix v ≤ most
value_low values.Null = omega arith
value_low (values.Bool a) = omega arith
value_low (values.Int a) = int_low a
value_low (values.Dec a) = omega arith
value_low (values.Bytes a) = omega arith

value_up : (v w : Value) → value_prefix v < value_prefix w → value_cmp v w ≡ Less
value_up values.Null values.Null up = absurd (omega arith)
value_up values.Null (values.Bool b) up = refl
value_up values.Null (values.Int b) up = refl
value_up values.Null (values.Dec b) up = refl
value_up values.Null (values.Bytes b) up = refl
value_up (values.Bool a) values.Null up = absurd (omega arith)
value_up (values.Bool a) (values.Bool b) up = absurd (omega arith)
value_up (values.Bool a) (values.Int b) up = refl
value_up (values.Bool a) (values.Dec b) up = refl
value_up (values.Bool a) (values.Bytes b) up = refl
value_up (values.Int a) values.Null up = absurd (omega arith)
value_up (values.Int a) (values.Bool b) up = absurd (omega arith)
value_up (values.Int a) (values.Int b) up = ap (λ o. ordering_then o Equal) (int_up a b up)
value_up (values.Int a) (values.Dec b) up = refl
value_up (values.Int a) (values.Bytes b) up = refl
value_up (values.Dec a) w up = absurd (omega (arith, value_low w))
value_up (values.Bytes a) w up = absurd (omega (arith, value_low w))

module _ (v w : Value) where
  sized_up : (descending : Bool) → sized_prefix descending (value_prefix v) < sized_prefix descending (value_prefix w) → sized_cmp descending v w ≡ Less
  sized_up true up = value_up w v (omega arith)
  sized_up false up = value_up v w up

  sized_low : (descending : Bool) → sized_prefix descending (value_prefix w) ≤ most
  sized_low true = omega arith
  sized_low false = value_low w

  nulls_first : (descending first second : Bool) → cond first 0 (sized_prefix descending (value_prefix v)) < cond second 0 (sized_prefix descending (value_prefix w))
      → ordering_then (bool_cmp second first) (sized_cmp descending v w) ≡ Less
  nulls_first descending true true up = absurd (omega arith)
  nulls_first descending true false up = refl
  nulls_first descending false true up = absurd (omega arith)
  nulls_first descending false false up = sized_up descending up

  nulls_last : (descending first second : Bool) → cond first most (sized_prefix descending (value_prefix v)) < cond second most (sized_prefix descending (value_prefix w))
      → ordering_then (bool_cmp first second) (sized_cmp descending v w) ≡ Less
  nulls_last descending true true up = absurd (omega arith)
  nulls_last descending true false up = absurd (omega (arith, sized_low descending))
  nulls_last descending false true up = refl
  nulls_last descending false false up = sized_up descending up

  directed_up : (first descending : Bool) → cond (is_null v) (null_prefix first) (sized_prefix descending (value_prefix v)) < cond (is_null w) (null_prefix first) (sized_prefix descending (value_prefix w))
      → ordering_then (null_cmp first v w) (sized_cmp descending v w) ≡ Less
  directed_up true descending up = nulls_first descending (is_null v) (is_null w) up
  directed_up false descending up = nulls_last descending (is_null v) (is_null w) up

key_up : (directions : List Direction) (x y : List Value) → key_prefix directions x < key_prefix directions y → key_cmp directions x y ≡ Less
key_up [] x y up = absurd (omega arith)
key_up (direction ∷ directions) x y up =
    ap (λ o. ordering_then o (key_cmp directions (drop 1 x) (drop 1 y))) (directed_up (first_key x) (first_key y) direction.nulls_first direction.descending up)

-- a number that decides as an order does, before it, changes nothing
decided : (m n : ℕ) (o : Ordering) → (m < n → o ≡ Less) → (n < m → o ≡ Greater) → ordering_then (nat_cmp m n) o ≡ o
decided m n o less greater = by (nat_cmp m n) (ranked m n (nat_cmp m n) refl)
  where
    by : (r : Ordering) → MatchOrdering r (m < n) (m ≡ n) (n < m) → ordering_then r o ≡ o
    by Less is = sym (less is)
    by Equal is = refl
    by Greater is = sym (greater is)

-- what is less on a scale is less
short_up : (scale : Scale) (m n : ℕ) → shortened scale m < shortened scale n → m < n
short_up scale m n up = less (leb n m) refl
  where
    less : (test : Bool) → leb n m ≡ test → m < n
    less true down =
        let below : n ≤ m = leb-true n m down in
        let low : n - scale.least ≤ m - scale.least = omega arith in
        absurd (omega (arith, up, shr_mono scale.shift low))
    less false down = omega (arith, leb-false n m down)

short_key_up : (scale : Scale) (directions : List Direction) (x y : List Value) → shortened scale (key_prefix directions x) < shortened scale (key_prefix directions y) → key_cmp directions x y ≡ Less
short_key_up scale directions x y up = key_up directions x y (short_up scale (key_prefix directions x) (key_prefix directions y) up)

key_decided : (scale : Scale) (directions : List Direction) (x y : List Value)
    → ordering_then (nat_cmp (shortened scale (key_prefix directions x)) (shortened scale (key_prefix directions y))) (key_cmp directions x y) ≡ key_cmp directions x y
key_decided scale directions x y =
    decided (shortened scale (key_prefix directions x)) (shortened scale (key_prefix directions y)) (key_cmp directions x y) (short_key_up scale directions x y) (λ down.
    (key_cmp_total directions).antisymm x y ∙ ap ordering_reverse (short_key_up scale directions y x down))

module _ (scale : Scale) (keys : List KeyOrder) (is_there : ℕ → Bool) (row_at : ℕ → Row) where
  -- a row is there, and this is its prefix
  pub record IsPrefixed (one : ℕ) : Type 0 where
    pub here : is_there (row_of one) ≡ true
    pub prefix : prefix_of one ≡ shortened scale (key_prefix (map direction_in keys) (keyed_by keys (row_at (row_of one))).0)

  pub prefixed_total : IsTotalOrder (prefixed_cmp keys is_there row_at)
  prefixed_total = then_total (on_total prefix_of nat_cmp_total) (on_total row_of (place_total keys is_there row_at))

  agree : (x y : ℕ) → IsPrefixed x → IsPrefixed y → prefixed_cmp keys is_there row_at x y ≡ place_cmp keys is_there row_at (row_of x) (row_of y)
  agree x y first second =
      let same = by_rows keys is_there row_at (row_of x) (row_of y) first.here second.here in
      ap (ordering_then (nat_cmp (prefix_of x) (prefix_of y))) same
      ∙ ap (λ n. ordering_then (nat_cmp n (prefix_of y)) (row_cmp keys (row_at (row_of x)) (row_at (row_of y)))) first.prefix
      ∙ ap (λ n. ordering_then (nat_cmp (shortened scale (key_prefix (map direction_in keys) (keyed_by keys (row_at (row_of x))).0)) n) (row_cmp keys (row_at (row_of x)) (row_at (row_of y)))) second.prefix
      ∙ key_decided scale (map direction_in keys) (keyed_by keys (row_at (row_of x))).0 (keyed_by keys (row_at (row_of y))).0
      ∙ sym same

  -- the places of rows in order by their prefixes and keys are the places in order by the rows
  pub places_in_order : (rows ordered : List ℕ) → AllByRecursion IsPrefixed rows → IsArrangement (prefixed_cmp keys is_there row_at) rows ordered
      → IsArrangement (place_cmp keys is_there row_at) (map row_of rows) (map row_of ordered)
  places_in_order rows ordered all is =
      let cmp = place_cmp keys is_there row_at in
      let places : map row_of ordered ≡ arranged cmp (map row_of rows) =
      ap (map row_of) (is_arranged (prefixed_cmp keys is_there row_at) prefixed_total rows ordered is)
      ∙ ap (map row_of) (arranged_alike IsPrefixed (prefixed_cmp keys is_there row_at) (on row_of cmp) agree rows all)
      ∙ map-arranged row_of cmp rows in
      subst (IsArrangement cmp (map row_of rows)) (sym places) (arrangement cmp (place_total keys is_there row_at) (map row_of rows))

-- the parts of a packed number
pub prefix_packed : (prefix row : ℕ) → row < 2 ^ 32 → prefix_of (packed prefix row) ≡ prefix
prefix_packed prefix row below = omega arith

row_packed : (prefix row : ℕ) → row < 2 ^ 32 → row_of (packed prefix row) ≡ row
row_packed prefix row below = omega arith

module _ (scale : Scale) (keys : List KeyOrder) (batch : Batch) (few : batch.rows ≤ 2 ^ 32) where
  all_from : (a n : ℕ) → a + n ≤ batch.rows → AllByRecursion (IsPrefixed scale keys (has_row batch) (row_at batch)) (map (prefixed_at scale keys batch) (range_with_len a n))
  all_from a zero within = tt
  all_from a (suc n) within =
      let below : a < 2 ^ 32 = omega arith in
      let prefix = shortened scale (key_prefix (map direction_of keys) (sort_key_of keys batch a)) in
      let row = row_packed prefix a below in (
        record {
          here = ap (has_row batch) row ∙ lt-ltb a batch.rows (omega arith);
          prefix =
              prefix_packed prefix a below
              ∙ ap (λ key. shortened scale (key_prefix (map direction_in keys) key)) (sym (key_at keys batch a (omega arith)))
              ∙ ap (λ i. shortened scale (key_prefix (map direction_in keys) (keyed_by keys (row_at batch i)).0)) (sym row);
        },
        all_from (a + 1) n (omega arith),
      )

  rows_from : (a n : ℕ) → a + n ≤ batch.rows → map row_of (map (prefixed_at scale keys batch) (range_with_len a n)) ≡ range_with_len a n
  rows_from a zero within = refl
  rows_from a (suc n) within =
      ap (λ row. row ∷ map row_of (map (prefixed_at scale keys batch) (range_with_len (a + 1) n))) (row_packed (shortened scale (key_prefix (map direction_of keys) (sort_key_of keys batch a))) a (omega arith))
      ∙ ap (λ rest. a ∷ rest) (rows_from (a + 1) n (omega arith))

  -- the rows of a batch in order by their prefixes and keys are at the places of the rows in order
  pub rows_in_order : (ordered places : List ℕ) → IsArrangement (prefixed_cmp keys (has_row batch) (row_at batch)) (map (prefixed_at scale keys batch) (range_with_len 0 batch.rows)) ordered → places ≡ map row_of ordered
      → IsArrangement (place_cmp keys (has_row batch) (row_at batch)) (range_with_len 0 batch.rows) places
  rows_in_order ordered places is given =
      let rows = map (prefixed_at scale keys batch) (range_with_len 0 batch.rows) in
      let done = places_in_order scale keys (has_row batch) (row_at batch) rows ordered (all_from 0 batch.rows (omega arith)) is in
      subst (λ start. IsArrangement (place_cmp keys (has_row batch) (row_at batch)) start places) (rows_from 0 batch.rows (omega arith))
      (subst (IsArrangement (place_cmp keys (has_row batch) (row_at batch)) (map row_of rows)) (sym given) done)
