-- A column of a batch: its values, how many there are, and its kind.
use Rattle.std.proofs.Common.{◌≡◌, ◌∙◌, ℕ, zero, suc, ◌<◌, List, [], ◌∷◌, length, map, get_or, Some, refl, sym, ap, subst, arith}
use Rattle.std.specs.Prelude.{slice_get}
use Rattle.std.specs.List.{All}
use Rattle.std.proofs.lemmas.List.{get_or-map}
use Rattle.std.proofs.lemmas.List.Elements.{All-get_or}
use Rattle.sub_types.specs.declared.kind.Ty.{Ty}
use Rattle.sub_types.specs.declared.value.Value.{Value}
use Rattle.batch.specs.BatchRows.{types_of, column_of}
use Rattle.batch.specs.Column.{column_values, column_type}
use Rattle.batch.specs.declared.batch.Batch.{Batch}
use Rattle.batch.specs.declared.column.Column.{Column}

module _ (batch : Batch) (index : ℕ) (column : Column) (there : index < length batch.columns.items) (at : column ≡ get_or batch.columns.items index column) where
  pub values_are : column_values column ≡ column_of index batch
  values_are = ap column_values at ∙ sym (get_or-map column_values batch.columns.items index column [] there)

  pub values_long : length (column_values column) ≡ batch.rows
  values_long =
      ap (λ (one : Column). length (column_values one)) at ∙ All-get_or (λ (one : Column). length (column_values one) ≡ batch.rows) batch.columns.items index column there batch.sized

  pub rows_in : (rows : List ℕ) → All (λ row. row < batch.rows) rows → All (λ row. row < length (column_values column)) rows
  rows_in rows exist = subst (λ n. All (λ row. row < n) rows) (sym values_long) exist

typed_at : {X Y : Type 0} (f : X → Y) (xs : List X) (i : ℕ) (y : Y) (x : X) → slice_get (map f xs) i ≡ Some y → x ≡ get_or xs i x → f x ≡ y
typed_at f [] i y x found at = absurd (cc)
typed_at f (one ∷ xs) zero y x found at = ap f at ∙ cc
typed_at f (one ∷ xs) (suc i) y x found at = typed_at f xs i y x found at

pub kind_at : (batch : Batch) (index : ℕ) (column : Column) (ty : Ty) → column ≡ get_or batch.columns.items index column → slice_get (types_of batch) index ≡ Some ty → ty.kind ≡ column.ty.kind
kind_at batch index column ty at found = sym (ap (λ (one : Ty). one.kind) (typed_at column_type batch.columns.items index ty column found at))
