-- Columns with other types.
use Rattle.std.proofs.Common.{◌≡◌, ◌∙◌, ℕ, zero, suc, ◌+◌, ◌<◌, List, [], ◌∷◌, ◌++◌, length, map, get_or, set, take, drop, refl, sym, ap, arith}
use Rattle.std.specs.List.{All}
use Rattle.std.proofs.Math.ListN.{get_or-map as get_or-of_map}
use Rattle.std.proofs.lemmas.List.{length-map, map-set, take_more, take_more_set, take_at}
use Rattle.sub_types.specs.declared.kind.Kind.{Kind}
use Rattle.sub_types.specs.declared.kind.Ty.{Ty}
use Rattle.batch.specs.declared.column.Column.{Column}
use Rattle.batch.specs.Column.{column_values, column_type}
use Rattle.batch.specs.ColumnValues.{values_of}
use Rattle.table_rows.specs.Read.{kinds_of}

-- the kind of the column at a place
pub kind_at : (columns : List Column) (types : List Ty) (i : ℕ) (d : Column) (e : Ty) → kinds_of (map column_type columns) ≡ kinds_of types → i < length types → (get_or columns i d).ty.kind ≡ (get_or types i e).kind
kind_at columns [] i d e same below = absurd (omega arith)
kind_at [] (ty ∷ types) i d e same below = absurd (cc)
kind_at (column ∷ columns) (ty ∷ types) zero d e same below = cc
kind_at (column ∷ columns) (ty ∷ types) (suc i) d e same below =
    let rest : kinds_of (map column_type columns) ≡ kinds_of types = cc in
    kind_at columns types i d e rest (omega arith)

-- as many columns as types
pub length-kinds : (columns : List Column) (types : List Ty) → kinds_of (map column_type columns) ≡ kinds_of types → length columns ≡ length types
length-kinds columns types same =
    sym (length-map columns column_type) ∙ sym (length-map (map column_type columns) (λ (ty : Ty). ty.kind)) ∙ ap length same ∙ length-map types (λ (ty : Ty). ty.kind)

-- a column in place of one that is alike
pub map-set_same : {A : Type 0} (f : Column → A) (columns : List Column) (i : ℕ) (new d : Column) → f new ≡ f (get_or columns i d) → map f (set columns i new) ≡ map f columns
map-set_same f [] i new d same = refl
map-set_same f (column ∷ columns) zero new d same = ap (λ x. x ∷ map f columns) same
map-set_same f (column ∷ columns) (suc i) new d same = ap (λ rest. f column ∷ rest) (map-set_same f columns i new d same)

pub kinds-set_same : (columns : List Column) (i : ℕ) (new d : Column) → new.ty.kind ≡ (get_or columns i d).ty.kind → kinds_of (map column_type (set columns i new)) ≡ kinds_of (map column_type columns)
kinds-set_same [] i new d same = refl
kinds-set_same (column ∷ columns) zero new d same = ap (λ (kind : Kind). kind ∷ kinds_of (map column_type columns)) same
kinds-set_same (column ∷ columns) (suc i) new d same = ap (λ (rest : List Kind). column.ty.kind ∷ rest) (kinds-set_same columns i new d same)

-- one type more
pub types-more : (columns : List Column) (types : List Ty) (i : ℕ) (new : Column) (e : Ty) → i < length columns → i < length types → new.ty ≡ get_or types i e
    → take i (map column_type columns) ≡ take i types → take (i + 1) (map column_type (set columns i new)) ≡ take (i + 1) types
types-more columns types i new e within typed is so_far =
    ap (take (i + 1)) (map-set column_type columns i new)
    ∙ take_more_set (map column_type columns) i new.ty (omega (arith, length-map columns column_type))
    ∙ ap (λ front. front ++ new.ty ∷ []) so_far ∙ ap (λ (ty : Ty). take i types ++ ty ∷ []) is ∙ sym (take_more types i e typed)

-- what stands in a vector all of which was lent
pub all_written : (new old : List Column) (len : ℕ) → length new ≡ length old → len ≡ length old → take len (new ++ drop (length new) old) ≡ new
all_written new old len same long = take_at new (drop (length new) old) len (same ∙ sym long)

-- columns of the same values have the same rows
pub sized_same : (rows : ℕ) (new old : List Column) → map column_values new ≡ map column_values old → All (λ column. length (values_of column.values) ≡ rows) old
    → All (λ column. length (values_of column.values) ≡ rows) new
sized_same rows new old same sized = λ k d below.
    let long : length new ≡ length old = sym (length-map new column_values) ∙ ap length same ∙ length-map old column_values in
    ap length (sym (get_or-of_map column_values new k d) ∙ ap (λ all. get_or all k (column_values d)) same ∙ get_or-of_map column_values old k d) ∙ sized k d (omega arith)
