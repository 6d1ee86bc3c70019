-- The demo's relations over the demo's tables: no fault ends them.
use Rattle.std.proofs.Common.{◌≡◌, ◌∙◌, ℕ, suc, ℤ, pos, ◌+◌, ◌*◌, ◌≤◌, List, [], ◌∷◌, ◌++◌, Bool, true, false, None, Some, Ok, map, min, length, slice_index_or, nat_lt, nat_le, if◌then◌else◌, refl, sym, ap, subst, arith}
use Rattle.std.specs.List.{AllByRecursion, list_all}
use Rattle.std.specs.Ordering.{is_gt, on}
use Rattle.std.specs.declared.cmp.Ordering.{Ordering}
use Rattle.std.proofs.lemmas.Bool.{le-ltb, le-leb}
use Rattle.std.proofs.lemmas.List.{length-map}
use Rattle.std.proofs.lemmas.Nat.{mul-le}
use Rattle.sub_types.specs.Value.{MAX_TEXT}
use Rattle.sub_types.specs.Stream.{Stream, rows_alone, ended, followed_by, each_stream}
use Rattle.sub_types.specs.declared.fault.FaultKind.{FaultKind}
use Rattle.sub_types.specs.declared.fault.FaultKind.TheVariants as faults
use Rattle.sub_types.specs.declared.value.Value.{Value}
use Rattle.sub_types.specs.declared.value.Value.TheVariants as values
use Rattle.plan_typed.specs.declared.rel.JoinKind.TheVariants as joins
use Rattle.plan_denote.specs.Rows.{Row, Computed, ◌>>=◌, condition_of, only_if, each_row, fault_at}
use Rattle.plan_denote.specs.Read.{read_row, read_rows}
use Rattle.plan_denote.specs.Filter.{filter_row, filtered}
use Rattle.plan_denote.specs.Project.{emitted, columns_at}
use Rattle.plan_denote.specs.Join.{match_of, equal_at, partners, pairs, joined_row, joined}
use Rattle.plan_denote.specs.Distinct.{is_same_row}
use Rattle.plan_denote.specs.Tally.{not_null}
use Rattle.plan_denote.specs.Aggregate.{MAX_INPUT, Entry, entry_of, keys_in, members_in, Group, group_of, group_row, groups_if, summary, rows_of_summary, aggregated}
use Rattle.plan_denote.specs.Sort.{Keyed, key_cmp, keyed, placed, arranged, sorted_rows, sorted}
use Rattle.gen_data.specs.Rows.{MAX_NUMBER, order_rows, line_rows}
use Rattle.gen_data.specs.Checked.{line_types, order_types}
use Rattle.gen_data.specs.Summary.{IsSum, IsSummaryRow}
use Rattle.denote_typed.proofs.RowsLaws.{mapped, distinct_all}
use Rattle.demo_laws.proofs.CleanLaws.{Are, IsClean, Gives, behind, none_at_all, at_most, each_stream_clean, each_row_clean, one_row, from_all_clean}
use Rattle.demo_laws.proofs.DemoLevels.{column_at, sum_and_count, by_order, rising, read_table, ordered_rows, region_rows, sorted_regions, demo_over}
use Rattle.demo_laws.proofs.FewLaws.{IsAmong, few_distinct}
use Rattle.demo_laws.proofs.ShapeLaws.{IsQuantity, IsLine, IsOrder, IsOrdered, IsKey, IsEntry, lines_are, orders_are, short_region, three_keys, among_three, same_itself}
use Rattle.demo_laws.proofs.SumLaws.{sum_fits}

emitted_clean : (P Q : Row → Type 0) (most : ℕ) (columns : List ℕ) (s : Stream Row) → ((row : Row) → P row → Q (columns_at columns row)) → IsClean P most s → IsClean Q most (emitted columns s)
unfolding emitted
emitted_clean P Q most columns s k clean = record {
  end = clean.end;
  rows = record { each = mapped P Q (columns_at columns) s.rows clean.rows.each k; few = omega (arith, length-map s.rows (columns_at columns), clean.rows.few) };
}

-- reads
quantity_read : (order : ℤ) (quantity : Value) → IsQuantity quantity → read_row line_types (condition_of None) (0 ∷ 1 ∷ []) (values.Int order ∷ quantity ∷ []) ≡ Ok ((values.Int order ∷ quantity ∷ []) ∷ [])
quantity_read order values.Null is = refl
quantity_read order (values.Int n) is = refl
quantity_read order _ is = absurd is

line_read : (row : Row) → IsLine row → read_row line_types (condition_of None) (0 ∷ 1 ∷ []) row ≡ Ok (row ∷ [])
line_read (values.Int order ∷ quantity ∷ []) is = quantity_read order quantity is
line_read _ is = absurd is

order_read : (row : Row) → IsOrder row → read_row order_types (condition_of None) (0 ∷ 1 ∷ []) row ≡ Ok (row ∷ [])
order_read (values.Int order ∷ values.Bytes region ∷ []) is =
    let short : nat_lt MAX_TEXT (length region) ≡ false = le-ltb MAX_TEXT (length region) (omega (arith, short_region region is)) in
    rw short refl
order_read _ is = absurd is

line_emitted : (row : Row) → IsLine row → IsLine (columns_at (0 ∷ 1 ∷ []) row)
line_emitted (values.Int order ∷ quantity ∷ []) is = is
line_emitted _ is = absurd is

order_emitted : (row : Row) → IsOrder row → IsOrder (columns_at (0 ∷ 1 ∷ []) row)
order_emitted (values.Int order ∷ values.Bytes region ∷ []) is = is
order_emitted _ is = absurd is

lines_read : (most : ℕ) (s : Stream Row) → IsClean IsLine most s → IsClean IsLine most (read_table 3 line_types s)
unfolding read_rows
lines_read most s clean =
    emitted_clean IsLine IsLine most (0 ∷ 1 ∷ []) _ line_emitted
    (at_most IsLine (most * 1) most _ (omega arith)
    (each_row_clean IsLine IsLine most 1 3 (read_row line_types (condition_of None) (0 ∷ 1 ∷ [])) s (λ row is. one_row IsLine _ row (line_read row is) is) clean))

orders_read : (most : ℕ) (s : Stream Row) → IsClean IsOrder most s → IsClean IsOrder most (read_table 4 order_types s)
unfolding read_rows
orders_read most s clean =
    emitted_clean IsOrder IsOrder most (0 ∷ 1 ∷ []) _ order_emitted
    (at_most IsOrder (most * 1) most _ (omega arith)
    (each_row_clean IsOrder IsOrder most 1 4 (read_row order_types (condition_of None) (0 ∷ 1 ∷ [])) s (λ row is. one_row IsOrder _ row (order_read row is) is) clean))

-- the join: each condition is a key, so no match faults
hit_gives : (test : Bool) (right : Row) → IsOrder right → Gives {E = FaultKind} IsOrder 1 ((if test then Ok true else Ok false) >>= (λ hit. Ok (only_if hit right)))
hit_gives true right is = record { rows = right ∷ []; is = refl; are = record { each = (is, tt); few = omega arith } }
hit_gives false right is = record { rows = []; is = refl; are = record { each = tt; few = omega arith } }

partners_clean : (left : Row) (most : ℕ) (rights : List Row) → Are IsOrder most rights → IsClean IsOrder most (partners by_order rights left)
unfolding partners match_of
partners_clean left most rights are =
    at_most IsOrder (most * 1) most _ (omega arith)
    (each_row_clean IsOrder IsOrder most 1 2 (λ right. by_order.matches left right >>= (λ hit. Ok (only_if hit right))) (rows_alone rights)
    (λ right is. hit_gives (list_all (equal_at left right) (record { left = 0; right = 0 } ∷ [])) right is) (record { end = refl; rows = are }))

pair_is : (left right : Row) → IsLine left → IsOrder right → IsOrdered (left ++ right)
pair_is (values.Int a ∷ quantity ∷ []) (values.Int b ∷ values.Bytes region ∷ []) line order = (line, order)
pair_is (values.Int a ∷ quantity ∷ []) _ line order = absurd order
pair_is _ right line order = absurd line

pairs_clean : (left : Row) (most : ℕ) (found : Stream Row) → IsLine left → IsClean IsOrder most found → IsClean IsOrdered most (pairs left found)
pairs_clean left most found line clean = record {
  end = clean.end;
  rows = record {
    each = mapped IsOrder IsOrdered (λ right. left ++ right) found.rows clean.rows.each (λ right order. pair_is left right line order);
    few = omega (arith, length-map found.rows (λ (right : Row). left ++ right), clean.rows.few);
  };
}

joined_clean : (many most : ℕ) (lines orders : Stream Row) → IsClean IsLine many lines → IsClean IsOrder most orders → IsClean IsOrdered (many * most) (joined joins.Inner by_order lines orders)
unfolding joined
joined_clean many most lines orders line order =
    from_all_clean IsOrder IsOrdered most (many * most) (λ rights. followed_by (each_stream (λ row. joined_row joins.Inner 2 row (partners by_order rights row)) lines) (rows_alone [])) orders
    (λ rights are.
    at_most IsOrdered (many * most + 0) (many * most) _ (omega arith)
    (behind IsOrdered (many * most) 0 (each_stream (λ row. joined_row joins.Inner 2 row (partners by_order rights row)) lines) (rows_alone [])
    (each_stream_clean IsLine IsOrdered most (λ row. joined_row joins.Inner 2 row (partners by_order rights row)) (λ row is. pairs_clean row most (partners by_order rights row) is (partners_clean row most rights are)) many lines line)
    (none_at_all IsOrdered)))
    order

ordered_emitted : (row : Row) → IsOrdered row → IsOrdered (columns_at (0 ∷ 1 ∷ 2 ∷ 3 ∷ []) row)
ordered_emitted (values.Int a ∷ quantity ∷ values.Int b ∷ values.Bytes region ∷ []) is = is
ordered_emitted _ is = absurd is

ordered_clean : (many most : ℕ) (lines orders : Stream Row) → IsClean IsLine many lines → IsClean IsOrder most orders → IsClean IsOrdered (many * most) (ordered_rows lines orders)
unfolding filtered
ordered_clean many most lines orders line order =
    emitted_clean IsOrdered IsOrdered (many * most) (0 ∷ 1 ∷ 2 ∷ 3 ∷ []) _ ordered_emitted
    (at_most IsOrdered (many * most * 1) (many * most) _ (omega arith)
    (each_row_clean IsOrdered IsOrdered (many * most) 1 2 (filter_row (condition_of None)) (joined joins.Inner by_order lines orders) (λ row is. one_row IsOrdered _ row refl is) (joined_clean many most lines orders line order)))

-- the regions
entry_gives : (row : Row) → IsOrdered row → Gives IsEntry 1 (entry_of (column_at 3 ∷ []) sum_and_count row)
entry_gives (values.Int a ∷ quantity ∷ values.Int b ∷ values.Bytes region ∷ []) is = record {
  rows = ((values.Bytes region ∷ []), (Some quantity ∷ Some quantity ∷ [])) ∷ [];
  is = refl;
  are = record { each = ((is.1, is.0), tt); few = omega arith };
}
entry_gives _ is = absurd is

abbrev IsGroup : Group → Type 0
IsGroup group = Gives IsSummaryRow 1 (group_row sum_and_count group)

measured_row : (key : Row) (sum : Value) (count : ℤ) → IsKey key → IsSum sum → IsSummaryRow (key ++ (sum ∷ values.Int count ∷ []))
measured_row (values.Bytes region ∷ []) sum count is total = total
measured_row _ sum count is total = absurd is

group_gives : (entries : List Entry) → AllByRecursion IsEntry entries → length entries ≤ MAX_INPUT → (key : Row) → IsKey key → IsGroup (group_of sum_and_count entries key)
group_gives entries all few key is =
    let found = sum_fits key entries all few in
    let count = values.Int (pos (length (not_null (members_in entries key 1)))) in
    record {
      rows = (key ++ (found.0 ∷ count ∷ [])) ∷ [];
      is = ap (λ (sum : Computed). (sum >>= (λ value. Ok (value ∷ count ∷ []))) >>= (λ measured. Ok ((key ++ measured) ∷ []))) found.2;
      are = record { each = (measured_row key found.0 (pos (length (not_null (members_in entries key 1)))) is found.1, tt); few = omega arith };
    }

three_groups : (entries : List Entry) → AllByRecursion IsEntry entries → length (keys_in (column_at 3 ∷ []) [] entries) ≤ 3
three_groups entries all = few_distinct is_same_row same_itself three_keys (map (λ (entry : Entry). entry.0) entries) (mapped IsEntry (IsAmong three_keys) (λ (entry : Entry). entry.0) entries all (λ entry is. among_three entry.0 is.0))

keys_are : (entries : List Entry) → AllByRecursion IsEntry entries → AllByRecursion IsKey (keys_in (column_at 3 ∷ []) [] entries)
keys_are entries all = distinct_all IsKey is_same_row (map (λ (entry : Entry). entry.0) entries) (mapped IsEntry IsKey (λ (entry : Entry). entry.0) entries all (λ entry is. is.0))

groups_clean : (entries : List Entry) → AllByRecursion IsEntry entries → length entries ≤ MAX_INPUT
    → IsClean IsSummaryRow 3 (each_row 1 (group_row sum_and_count) (rows_alone (map (group_of sum_and_count entries) (keys_in (column_at 3 ∷ []) [] entries))))
groups_clean entries all few =
    let keys = keys_in (column_at 3 ∷ []) [] entries in
    each_row_clean IsGroup IsSummaryRow 3 1 1 (group_row sum_and_count) (rows_alone (map (group_of sum_and_count entries) keys)) (λ group is. is) (record {
      end = refl;
      rows = record {
        each = mapped IsKey IsGroup (group_of sum_and_count entries) keys (keys_are entries all) (λ key is. group_gives entries all few key is);
        few = omega (arith, length-map keys (group_of sum_and_count entries), three_groups entries all);
      };
    })

summary_clean : (entries : List Entry) → Are IsEntry MAX_INPUT entries → IsClean IsSummaryRow 3 (rows_of_summary 1 sum_and_count (summary (column_at 3 ∷ []) sum_and_count entries))
unfolding summary rows_of_summary
summary_clean entries are =
    let groups = map (group_of sum_and_count entries) (keys_in (column_at 3 ∷ []) [] entries) in
    let few : nat_le (min (length entries) (suc MAX_INPUT)) MAX_INPUT ≡ true = le-leb (min (length entries) (suc MAX_INPUT)) MAX_INPUT (omega (arith, are.few)) in
    let kept : nat_le (length entries) MAX_INPUT ≡ true = le-leb (length entries) MAX_INPUT are.few in
    subst (λ (test : Bool). IsClean IsSummaryRow 3 (if test then each_row 1 (group_row sum_and_count) (rows_alone (groups_if (nat_le (length entries) MAX_INPUT) groups)) else ended (Some (fault_at 1 faults.TooManyRows)))) (sym few)
    (subst (λ (test : Bool). IsClean IsSummaryRow 3 (each_row 1 (group_row sum_and_count) (rows_alone (groups_if test groups)))) (sym kept) (groups_clean entries are.each are.few))

summary_emitted : (row : Row) → IsSummaryRow row → IsSummaryRow (columns_at (0 ∷ 1 ∷ 2 ∷ []) row)
summary_emitted (values.Bytes region ∷ sum ∷ values.Int count ∷ []) is = is
summary_emitted _ is = absurd is

regions_clean : (s : Stream Row) → IsClean IsOrdered MAX_INPUT s → IsClean IsSummaryRow 3 (region_rows s)
unfolding aggregated
regions_clean s clean =
    emitted_clean IsSummaryRow IsSummaryRow 3 (0 ∷ 1 ∷ 2 ∷ []) _ summary_emitted
    (from_all_clean IsEntry IsSummaryRow MAX_INPUT 3 (λ entries. rows_of_summary 1 sum_and_count (summary (column_at 3 ∷ []) sum_and_count entries)) (each_row 1 (entry_of (column_at 3 ∷ []) sum_and_count) s) summary_clean
    (each_row_clean IsOrdered IsEntry MAX_INPUT 1 1 (entry_of (column_at 3 ∷ []) sum_and_count) s entry_gives clean))

-- a sort keeps their number, and what they are
length_if : {A : Type 0} (test : Bool) (a b : List A) (n : ℕ) → length a ≡ n → length b ≡ n → length (if test then a else b) ≡ n
length_if true a b n is are = is
length_if false a b n is are = are

length_placed : {A : Type 0} (cmp : A → A → Ordering) (x : A) (xs : List A) → length (placed cmp x xs) ≡ suc (length xs)
length_placed cmp x [] = refl
length_placed cmp x (y ∷ ys) = length_if (is_gt (cmp x y)) (y ∷ placed cmp x ys) (x ∷ y ∷ ys) (suc (suc (length ys))) (ap suc (length_placed cmp x ys)) refl

length_arranged : {A : Type 0} (cmp : A → A → Ordering) (xs : List A) → length (arranged cmp xs) ≡ length xs
length_arranged cmp [] = refl
length_arranged cmp (x ∷ xs) = length_placed cmp x (arranged cmp xs) ∙ ap suc (length_arranged cmp xs)

length_sorted : (rows : List Keyed) → length (sorted_rows rising rows) ≡ length rows
unfolding sorted_rows
length_sorted rows = length-map _ (λ (one : Keyed). one.1) ∙ length_arranged (on (λ (one : Keyed). one.0) (key_cmp rising)) rows

abbrev IsKeyed : Keyed → Type 0
IsKeyed one = IsSummaryRow one.1

either_all : (test : Bool) (a b : List Keyed) → AllByRecursion IsKeyed a → AllByRecursion IsKeyed b → AllByRecursion IsKeyed (if test then a else b)
either_all true a b are others = are
either_all false a b are others = others

placed_all : (cmp : Keyed → Keyed → Ordering) (x : Keyed) (xs : List Keyed) → IsKeyed x → AllByRecursion IsKeyed xs → AllByRecursion IsKeyed (placed cmp x xs)
placed_all cmp x [] is all = (is, tt)
placed_all cmp x (y ∷ ys) is all = either_all (is_gt (cmp x y)) (y ∷ placed cmp x ys) (x ∷ y ∷ ys) (all.0, placed_all cmp x ys is all.1) (is, all)

arranged_all : (cmp : Keyed → Keyed → Ordering) (xs : List Keyed) → AllByRecursion IsKeyed xs → AllByRecursion IsKeyed (arranged cmp xs)
arranged_all cmp [] all = tt
arranged_all cmp (x ∷ xs) all = placed_all cmp x (arranged cmp xs) all.0 (arranged_all cmp xs all.1)

sorted_all : (rows : List Keyed) → AllByRecursion IsKeyed rows → AllByRecursion IsSummaryRow (sorted_rows rising rows)
unfolding sorted_rows
sorted_all rows all =
    let cmp = on (λ (one : Keyed). one.0) (key_cmp rising) in
    mapped IsKeyed IsSummaryRow (λ (one : Keyed). one.1) (arranged cmp rows) (arranged_all cmp rows all) (λ one is. is)

sorted_clean : (s : Stream Row) → IsClean IsSummaryRow 3 s → IsClean IsSummaryRow 3 (sorted_regions s)
unfolding sorted
sorted_clean s clean =
    emitted_clean IsSummaryRow IsSummaryRow 3 (0 ∷ 1 ∷ 2 ∷ []) _ summary_emitted
    (from_all_clean {A = Keyed} IsKeyed IsSummaryRow 3 3 (λ rows. rows_alone (sorted_rows rising rows)) (each_row 0 (keyed (column_at 0 ∷ [])) s)
    (λ rows are. record { end = refl; rows = record { each = sorted_all rows are.each; few = omega (arith, length_sorted rows, are.few) } })
    (each_row_clean IsSummaryRow IsKeyed 3 1 0 (keyed (column_at 0 ∷ [])) s (λ row is. one_row IsKeyed _ ((slice_index_or row 0 values.Null ∷ []), row) refl is) clean))

-- the demo's rows
pub demo_clean : (number : ℕ) → number ≤ MAX_NUMBER → IsClean IsSummaryRow 3 (demo_over (rows_alone (line_rows number)) (rows_alone (order_rows number)))
demo_clean number most =
    sorted_clean _ (regions_clean _
    (at_most IsOrdered (4 * number * number) MAX_INPUT _ (omega (arith, mul-le (4 * number) number 800000 200000 (omega (arith, most)) most))
    (ordered_clean (4 * number) number _ _
    (lines_read (4 * number) (rows_alone (line_rows number)) (record { end = refl; rows = lines_are number }))
    (orders_read number (rows_alone (order_rows number)) (record { end = refl; rows = orders_are number })))))
