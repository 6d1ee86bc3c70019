-- Keys of one whole number or of null.
use Rattle.std.proofs.Common.{◌≡◌, ◌∙◌, ◌<◌, ℕ, ℤ, List, [], ◌∷◌, ◌++◌, Bool, true, false, not, ◌||◌, cond, Option, None, map, length, get_or, refl, sym, ap, subst, arith}
use Rattle.std.specs.List.{list_any, range_with_len}
use Rattle.std.proofs.lemmas.List.{append-nil, append_assoc, length-map, get_or-map}
use Rattle.std.proofs.lemmas.List.Folds.{list_any-append}
use Rattle.std.proofs.lemmas.List.FromFn.{fill_by_all}
use Rattle.sub_types.specs.Nullable.{int_value}
use Rattle.sub_types.specs.declared.value.Value.{Value}
use Rattle.sub_types.specs.declared.value.Value.TheVariants.{Null}
use Rattle.batch.specs.declared.batch.Batch.{Batch}
use Rattle.batch.specs.declared.column_data.ColumnData.{ColumnData}
use Rattle.batch.specs.BatchRows.{column_of}
use Rattle.batch.specs.ColumnValues.{values_of, storage_of}
use Rattle.key_hashes.specs.KeyNumbers.{is_stored_as_numbers}
use Rattle.plan_denote.specs.Computed.{Row}
use Rattle.plan_denote.specs.Distinct.{is_same_row}
use Rattle.group_laws.proofs.SameLaws.{same_rows}
use Rattle.group_keys.specs.Keys.{with_item, key_of_number}
use Rattle.group_numbers.specs.Keys.{IsOnce, IsKept, with_keys, keys_at}
use Rattle.group_numbers.specs.Numbers.{HasNumbers}
use Rattle.group_numbers.specs.declared.keys.GroupKeys.{GroupKeys}
use Rattle.group_numbers.proofs.PlaceLaws.{swapped, none_head, apart}

-- the keys of a batch of one column
single : (xs : List ℕ) → length xs ≡ 1 → xs ≡ get_or xs 0 0 ∷ []
single [] e = absurd (omega (arith, e))
single (x ∷ []) e = refl
single (x ∷ y ∷ xs) e = absurd (omega (arith, e))

pub has_numbers : (columns : List ℕ) (batch : Batch) (column : ColumnData) → length columns ≡ 1 → is_stored_as_numbers (storage_of column) ≡ true
    → values_of column ≡ column_of (get_or columns 0 0) batch → length (values_of column) ≡ batch.rows → HasNumbers columns batch column
has_numbers columns batch column one s v r = record {
  stored = s;
  all = r;
  keys =
      ap (λ cs. keys_at cs batch) (single columns one)
      ∙ ap (λ xs. map (λ row. get_or xs row Null ∷ []) (range_with_len 0 batch.rows)) (sym v);
}

pub numbered_keys : (numbers : List (Option ℤ)) (values : List Value) → values ≡ map int_value numbers → map (λ row. get_or values row Null ∷ []) (range_with_len 0 (length numbers)) ≡ map key_of_number numbers
numbered_keys numbers values v =
    let each : (k : ℕ) → k < length numbers → get_or (map key_of_number numbers) k [] ≡ get_or (map int_value numbers) k Null ∷ []
    = λ k lt. get_or-map key_of_number numbers k None [] lt ∙ ap (λ value. value ∷ []) (sym (get_or-map int_value numbers k None Null lt)) in
    ap (λ xs. map (λ row. get_or xs row Null ∷ []) (range_with_len 0 (length numbers))) v
    ∙ sym (fill_by_all (λ row. get_or (map int_value numbers) row Null ∷ []) (map key_of_number numbers) (length numbers) [] (length-map numbers key_of_number) each)

-- a key more
pub whole_more : (rows grown stored : List Row) (key : Row) (is_new : Bool) → stored ≡ rows → is_new ≡ not (list_any (is_same_row key) stored) → grown ≡ cond is_new (rows ++ key ∷ []) rows → grown ≡ with_item is_same_row rows key
whole_more rows grown stored key is_new s n g =
    g
    ∙ ap (λ u. cond u (rows ++ key ∷ []) rows) (n ∙ ap (λ l. not (list_any (is_same_row key) l)) s)
    ∙ swapped (list_any (is_same_row key) rows) (rows ++ key ∷ []) rows

pub to_whole : (keys : GroupKeys) → keys.by_number ≡ true → IsOnce keys.rows → map key_of_number keys.whole.keys ≡ keys.rows → IsKept keys
to_whole keys e once w = record {
  once = once;
  whole = λ t. w;
  bytes = λ f. absurd (apart keys.by_number f e);
}

-- keys that are there once are themselves again, one after the other
once_apart : (front rest : List Row) (key : Row) → IsOnce (front ++ key ∷ rest) → list_any (is_same_row key) front ≡ false
once_apart [] rest key o = refl
once_apart (f ∷ front) rest key o =
    let parts = none_head (list_any (is_same_row f) front) (is_same_row f key || list_any (is_same_row f) rest) (sym (list_any-append (is_same_row f) front (key ∷ rest)) ∙ o.0) in
    let here = none_head (is_same_row f key) (list_any (is_same_row f) rest) parts.1 in
    ap (λ b. b || list_any (is_same_row key) front) (same_rows.symm key f ∙ here.0) ∙ once_apart front rest key o.1

with_fresh : (front rows : List Row) → IsOnce (front ++ rows) → with_keys front rows ≡ front ++ rows
with_fresh front [] o = sym (append-nil front)
with_fresh front (key ∷ rows) o =
    ap (λ b. with_keys (cond b front (front ++ key ∷ [])) rows) (once_apart front rows key o)
    ∙ with_fresh (front ++ key ∷ []) rows (subst IsOnce (sym (append_assoc front (key ∷ []) rows)) o)
    ∙ append_assoc front (key ∷ []) rows

pub once_again : (rows : List Row) → IsOnce rows → with_keys [] rows ≡ rows
once_again rows o = with_fresh [] rows o
