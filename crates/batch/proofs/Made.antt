-- Columns that are made of others one by one, with their types.
use Rattle.std.proofs.Common.{◌≡◌, ◌∙◌, ℕ, ◌+◌, ◌<◌, ◌≤◌, List, [], ◌∷◌, ◌++◌, length, map, get_or, take, refl, sym, ap, arith}
use Rattle.std.specs.List.{All}
use Rattle.std.proofs.Math.ListN.{get_or-map}
use Rattle.std.proofs.lemmas.List.{get_or-map as get_or-map_within, take_more, take_all, map_push, length-map}
use Rattle.sub_types.specs.declared.value.Value.{Value}
use Rattle.batch.specs.declared.column.Column.{Column}
use Rattle.batch.specs.Column.{column_values, column_type}

-- the new columns are the first so many of the old ones, with their values changed
pub record Made (change : List Value → List Value) (old new : List Column) (i : ℕ) : Type 0 where
  pub values : map column_values new ≡ map change (map column_values (take i old))
  pub types : map column_type new ≡ map column_type (take i old)

-- none so far
pub Made-none : (change : List Value → List Value) (old : List Column) → Made change old [] 0
Made-none change old = record { values = refl; types = refl }

-- one more
pub Made-more : (change : List Value → List Value) (old new : List Column) (i : ℕ) (from made : Column) → i < length old → from ≡ get_or old i from → column_values made ≡ change (column_values from) → column_type made ≡ column_type from → Made change old new i → Made change old (new ++ made ∷ []) (i + 1)
Made-more change old new i from made below here values types so_far =
    let front : take (i + 1) old ≡ take i old ++ from ∷ [] = take_more old i from below ∙ ap (λ column. take i old ++ column ∷ []) (sym here) in
    record {
      values = rw (front, map_push column_values new made, map_push column_values (take i old) from, map_push change (map column_values (take i old)) (column_values from), so_far.values, values);
      types = rw (front, map_push column_type new made, map_push column_type (take i old) from, so_far.types, types);
    }

-- all
pub Made-values : (change : List Value → List Value) (old new : List Column) (i : ℕ) → length old ≤ i → Made change old new i → map column_values new ≡ map change (map column_values old)
Made-values change old new i done made = made.values ∙ ap (λ columns. map change (map column_values columns)) (take_all i old done)

pub Made-types : (change : List Value → List Value) (old new : List Column) (i : ℕ) → length old ≤ i → Made change old new i → map column_type new ≡ map column_type old
Made-types change old new i done made = made.types ∙ ap (map column_type) (take_all i old done)

-- the new columns have one length where the change gives it
pub Made-sized : (change : List Value → List Value) (old new : List Column) (i n m : ℕ) → length old ≤ i → Made change old new i → All (λ column. length (column_values column) ≡ n) old → ((values : List Value) → length values ≡ n → length (change values) ≡ m) → All (λ column. length (column_values column) ≡ m) new
Made-sized change old new i n m done made sized kept k d below =
    let same : length new ≡ length old = sym (length-map new column_values) ∙ ap length (Made-values change old new i done made) ∙ length-map (map column_values old) change ∙ length-map old column_values in
    let inside : k < length (map column_values old) = omega (arith, same, length-map old column_values) in
    let here : column_values (get_or new k d) ≡ change (column_values (get_or old k d)) =
    sym (get_or-map column_values new k d) ∙ ap (λ columns. get_or columns k (column_values d)) (Made-values change old new i done made)
    ∙ get_or-map_within change (map column_values old) k (column_values d) (column_values d) inside ∙ ap change (get_or-map column_values old k d) in
    ap length here ∙ kept (column_values (get_or old k d)) (sized k d (omega (arith, same)))
