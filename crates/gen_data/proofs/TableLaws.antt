-- Tables of two columns.
use Rattle.std.proofs.Common.{◌≡◌, ◌∙◌, sym, ap, subst, ℕ, pos, ◌<◌, List, [], ◌∷◌, length, get_or, map, zero-add}
use Rattle.std.specs.List.{range_with_len, All}
use Rattle.std.proofs.lemmas.List.Elements.{All-nil, All-push}
use Rattle.std.proofs.lemmas.List.FromFn.{get_or-map-range_with_len, length-map-range_with_len}
use Rattle.sub_types.specs.declared.value.Value.{Value}
use Rattle.sub_types.specs.declared.value.Value.TheVariants.{Null}
use Rattle.sub_types.specs.declared.value.Value.TheVariants as values
use Rattle.sub_types.specs.Rows.{across, transpose}
use Rattle.batch.specs.declared.column.Column.{Column}
use Rattle.batch.specs.Column.{column_values}
use Rattle.batch.proofs.RowLaws.{transpose-from}
use Rattle.gen_data.specs.Rows.{region_of, order_of, quantity_of, order_row, line_row}

-- the row at a place of two columns
row-at : (f g : ℕ → Value) (n i : ℕ) → i < n
    → get_or (map (λ k. f k ∷ g k ∷ []) (range_with_len 0 n)) i [] ≡ across Null (map f (range_with_len 0 n) ∷ map g (range_with_len 0 n) ∷ []) i
row-at f g n i below =
    get_or-map-range_with_len (λ k. f k ∷ g k ∷ []) 0 n i i [] below (zero-add i)
    ∙ ap (λ value. value ∷ g i ∷ []) (sym (get_or-map-range_with_len f 0 n i i Null below (zero-add i)))
    ∙ ap (λ value. get_or (map f (range_with_len 0 n)) i Null ∷ value ∷ []) (sym (get_or-map-range_with_len g 0 n i i Null below (zero-add i)))

-- the rows of two columns
two_columns : (f g : ℕ → Value) (n : ℕ) → transpose Null n (map f (range_with_len 0 n) ∷ map g (range_with_len 0 n) ∷ []) ≡ map (λ k. f k ∷ g k ∷ []) (range_with_len 0 n)
two_columns f g n =
    transpose-from Null n (map f (range_with_len 0 n) ∷ map g (range_with_len 0 n) ∷ []) (map (λ k. f k ∷ g k ∷ []) (range_with_len 0 n))
    (length-map-range_with_len (λ k. f k ∷ g k ∷ []) 0 n) (row-at f g n)

-- both columns have so many values
pub both_long : (n : ℕ) (first second : Column) (columns : List Column) → columns ≡ first ∷ second ∷ [] → length (column_values first) ≡ n → length (column_values second) ≡ n → All (λ column. length (column_values column) ≡ n) columns
both_long n first second columns same long_first long_second =
    let P = λ (column : Column). length (column_values column) ≡ n in
    subst (All P) (sym same) (All-push P (first ∷ []) second (All-push P [] first (All-nil P) long_first) long_second)

-- the rows of the orders' and of the lines' columns
pub order_columns : (n : ℕ) (ids regions : List Value) → ids ≡ map (λ order. values.Int (pos order)) (range_with_len 0 n) → regions ≡ map (λ order. values.Bytes (region_of order)) (range_with_len 0 n)
    → transpose Null n (ids ∷ regions ∷ []) ≡ map order_row (range_with_len 0 n)
order_columns n ids regions same_ids same_regions =
    ap (λ columns. transpose Null n (columns ∷ regions ∷ [])) same_ids ∙ ap (λ columns. transpose Null n (map (λ order. values.Int (pos order)) (range_with_len 0 n) ∷ columns ∷ [])) same_regions
    ∙ two_columns (λ order. values.Int (pos order)) (λ order. values.Bytes (region_of order)) n

pub line_columns : (number n : ℕ) (oids quantities : List Value) → oids ≡ map (λ line. values.Int (pos (order_of number line))) (range_with_len 0 n) → quantities ≡ map quantity_of (range_with_len 0 n)
    → transpose Null n (oids ∷ quantities ∷ []) ≡ map (line_row number) (range_with_len 0 n)
line_columns number n oids quantities same_oids same_quantities =
    ap (λ columns. transpose Null n (columns ∷ quantities ∷ [])) same_oids ∙ ap (λ columns. transpose Null n (map (λ line. values.Int (pos (order_of number line))) (range_with_len 0 n) ∷ columns ∷ [])) same_quantities
    ∙ two_columns (λ line. values.Int (pos (order_of number line))) quantity_of n

pub so_many : (f : ℕ → Value) (n : ℕ) (column : List Value) → column ≡ map f (range_with_len 0 n) → length column ≡ n
so_many f n column same = ap length same ∙ length-map-range_with_len f 0 n
