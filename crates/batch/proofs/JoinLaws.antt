-- Batches one behind the other: their columns, and their rows.
use Rattle.std.proofs.Common.{◌≡◌, ◌∙◌, ℕ, ◌+◌, ◌<◌, List, [], ◌∷◌, ◌++◌, length, map, get_or, take, Some, slice_get, zero-add, refl, sym, ap, arith}
use Rattle.std.specs.List.{All, flat_map, sum_by, range_with_len}
use Rattle.std.proofs.Math.ListN.{get_or-map}
use Rattle.std.proofs.lemmas.List.{length-map, length-append, map_push, take_more}
use Rattle.std.proofs.lemmas.Option.{get_or_from_slice_get}
use Rattle.std.proofs.lemmas.List.Sums.{sum_by-cons}
use Rattle.std.proofs.lemmas.List.FromFn.{get_or-range_with_len, length-range_with_len, map-range_with_len_more, length-map-range_with_len, get_or-map-range_with_len}
use Rattle.std.proofs.lemmas.List.Elements.{All-head, All-tail, All-map}
use Rattle.sub_types.specs.declared.kind.Ty.{Ty}
use Rattle.sub_types.specs.declared.value.Value.TheVariants.{Null}
use Rattle.batch.specs.declared.batch.Batch.{Batch}
use Rattle.batch.specs.declared.column.Column.{Column}
use Rattle.batch.specs.Column.{column_values, column_type}
use Rattle.batch.specs.BatchRows.{columns_of, column_of, types_of, rows_of}
use Rattle.sub_types.specs.Rows.{transpose}
use Rattle.batch.proofs.RowLaws.{transpose-append, columns-all}

-- as many columns as types
pub length-columns : (batch : Batch) (types : List Ty) → types_of batch ≡ types → length batch.columns.items ≡ length types
length-columns batch types same = sym (length-map batch.columns.items column_type) ∙ ap length same

-- each column has the batch's rows
pub length-column_of : (batch : Batch) (types : List Ty) (j : ℕ) → types_of batch ≡ types → j < length types → length (column_of j batch) ≡ batch.rows
length-column_of batch types j same below =
    let inside : j < length (columns_of batch) = omega (arith, length-columns batch types same, length-map batch.columns.items column_values) in
    All-map (λ values. length values ≡ batch.rows) column_values batch.columns.items batch.sized j [] inside

-- a joined column has the rows of all parts
pub length-joined : (types : List Ty) (j : ℕ) (parts : List Batch) → All (λ part. types_of part ≡ types) parts → j < length types → length (flat_map (column_of j) parts) ≡ sum_by (λ part. part.rows) parts
length-joined types j [] alike below = refl
length-joined types j (part ∷ parts) alike below =
    let here = length-column_of part types j (All-head (λ part. types_of part ≡ types) part parts alike) below in
    let rest = length-joined types j parts (All-tail (λ part. types_of part ≡ types) part parts alike) below in
    omega (arith, here, rest, length-append (column_of j part) (flat_map (column_of j) parts), sum_by-cons (λ part. part.rows) part parts)

-- the rows over the joined columns are the rows of the parts, one part behind the other
pub rows-joined : (types : List Ty) (parts : List Batch) → All (λ part. types_of part ≡ types) parts → transpose Null (sum_by (λ part. part.rows) parts) (map (λ j. flat_map (column_of j) parts) (range_with_len 0 (length types))) ≡ flat_map rows_of parts
rows-joined types [] alike = refl
rows-joined types (part ∷ parts) alike =
    let js = range_with_len 0 (length types) in
    let same = All-head (λ part. types_of part ≡ types) part parts alike in
    let rest = rows-joined types parts (All-tail (λ part. types_of part ≡ types) part parts alike) in
    let total = sum_by (λ part. part.rows) parts in
    let long : All (λ j. length (column_of j part) ≡ part.rows) js = λ k d below. length-column_of part types (get_or js k d) same (omega (arith, get_or-range_with_len 0 (length types) k d (omega (arith, length-range_with_len 0 (length types))), length-range_with_len 0 (length types))) in
    let whole : map (λ j. column_of j part) js ≡ columns_of part = columns-all (columns_of part) (length types) (length-map part.columns.items column_values ∙ length-columns part types same) in
    ap (λ n. transpose Null n (map (λ j. column_of j part ++ flat_map (column_of j) parts) js)) (sum_by-cons (λ part. part.rows) part parts)
    ∙ transpose-append Null part.rows total (λ j. column_of j part) (λ j. flat_map (column_of j) parts) js long
    ∙ ap (λ columns. transpose Null part.rows columns ++ transpose Null total (map (λ j. flat_map (column_of j) parts) js)) whole
    ∙ ap (λ rows. rows_of part ++ rows) rest

-- the columns are those at the first so many places, of all parts
pub record JoinedColumns (types : List Ty) (parts : List Batch) (columns : List Column) (i : ℕ) : Type 0 where
  pub values : map column_values columns ≡ map (λ j. flat_map (column_of j) parts) (range_with_len 0 i)
  pub types_are : map column_type columns ≡ take i types

-- one more
pub JoinedColumns-more : (types : List Ty) (parts : List Batch) (columns : List Column) (i : ℕ) (column : Column) → i < length types → column_values column ≡ flat_map (column_of i) parts → slice_get types i ≡ Some (column_type column) → JoinedColumns types parts columns i → JoinedColumns types parts (columns ++ column ∷ []) (i + 1)
JoinedColumns-more types parts columns i column below values ty so_far =
    let next : column_type column ≡ get_or types i (column_type column) = sym (get_or_from_slice_get types i (column_type column) (column_type column) ty) in
    record {
      values = rw (map_push column_values columns column, map-range_with_len_more (λ j. flat_map (column_of j) parts) 0 i i (zero-add i), so_far.values, values);
      types_are = rw (map_push column_type columns column, take_more types i (column_type column) below, so_far.types_are, ← next);
    }

-- all of them have the rows of all parts
pub JoinedColumns-sized : (types : List Ty) (parts : List Batch) (columns : List Column) (i n : ℕ) → i ≡ length types → n ≡ sum_by (λ part. part.rows) parts → All (λ part. types_of part ≡ types) parts → JoinedColumns types parts columns i → All (λ column. length (column_values column) ≡ n) columns
JoinedColumns-sized types parts columns i n done total alike joined k d below =
    let joined_at = λ (j : ℕ). flat_map (column_of j) parts in
    let count : length columns ≡ length types = sym (length-map columns column_values) ∙ ap length joined.values ∙ length-map-range_with_len joined_at 0 i ∙ done in
    let here : column_values (get_or columns k d) ≡ joined_at k =
    sym (get_or-map column_values columns k d) ∙ ap (λ all. get_or all k (column_values d)) joined.values ∙ get_or-map-range_with_len joined_at 0 i k k (column_values d) (omega (arith, count)) (zero-add k) in
    ap length here ∙ length-joined types k parts alike (omega (arith, count)) ∙ sym total

-- and the rows over them are the rows of the parts
pub JoinedColumns-rows : (types : List Ty) (parts : List Batch) (columns : List Column) (i n : ℕ) → i ≡ length types → n ≡ sum_by (λ part. part.rows) parts → All (λ part. types_of part ≡ types) parts → JoinedColumns types parts columns i → transpose Null n (map column_values columns) ≡ flat_map rows_of parts
JoinedColumns-rows types parts columns i n done total alike joined =
    let joined_at = λ (j : ℕ). flat_map (column_of j) parts in
    ap (transpose Null n) (joined.values ∙ ap (λ m. map joined_at (range_with_len 0 m)) done)
    ∙ ap (λ m. transpose Null m (map joined_at (range_with_len 0 (length types)))) total ∙ rows-joined types parts alike
