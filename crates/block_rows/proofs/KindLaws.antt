-- Whether two lists have the same kinds, place by place.
use Rattle.std.proofs.Common.{◌≡◌, ◌∙◌, ℕ, zero, suc, ◌<◌, List, [], ◌∷◌, length, map, get_or, take, sym, ap, arith}
use Rattle.sub_types.specs.declared.kind.Kind.{Kind}
use Rattle.sub_types.specs.declared.kind.Ty.{Ty}
use Rattle.batch.specs.declared.column.Column.{Column}
use Rattle.batch.specs.Column.{column_type}
use Rattle.table_rows.specs.Read.{kinds_of}

-- the kinds at a place
pub at_place : (columns : List Column) (types : List Ty) (i : ℕ) (column : Column) (ty : Ty) → i < length columns → i < length types → column ≡ get_or columns i column → ty ≡ get_or types i ty
    → kinds_of (map column_type columns) ≡ kinds_of types → column.ty.kind ≡ ty.kind
at_place [] types i column ty within typed is_column is_ty same = absurd (omega (arith, within))
at_place (first ∷ columns) [] i column ty within typed is_column is_ty same = absurd (omega (arith, typed))
at_place (first ∷ columns) (one ∷ types) zero column ty within typed is_column is_ty same =
    let here : first.ty.kind ≡ one.kind = cc in
    ap (λ (c : Column). c.ty.kind) is_column ∙ here ∙ ap (λ (t : Ty). t.kind) (sym is_ty)
at_place (first ∷ columns) (one ∷ types) (suc i) column ty within typed is_column is_ty same =
    let rest : kinds_of (map column_type columns) ≡ kinds_of types = cc in
    at_place columns types i column ty (omega (arith, within)) (omega (arith, typed)) is_column is_ty rest

-- one place more
pub one_more : (columns : List Column) (types : List Ty) (i : ℕ) (column : Column) (ty : Ty) → i < length columns → i < length types → column ≡ get_or columns i column → ty ≡ get_or types i ty
    → column.ty.kind ≡ ty.kind → take i (kinds_of (map column_type columns)) ≡ take i (kinds_of types) → take (suc i) (kinds_of (map column_type columns)) ≡ take (suc i) (kinds_of types)
one_more [] types i column ty within typed is_column is_ty kind same = absurd (omega (arith, within))
one_more (first ∷ columns) [] i column ty within typed is_column is_ty kind same = absurd (omega (arith, typed))
one_more (first ∷ columns) (one ∷ types) zero column ty within typed is_column is_ty kind same =
    let here : first.ty.kind ≡ one.kind = ap (λ (c : Column). c.ty.kind) (sym is_column) ∙ kind ∙ ap (λ (t : Ty). t.kind) is_ty in
    ap (λ (k : Kind). k ∷ []) here
one_more (first ∷ columns) (one ∷ types) (suc i) column ty within typed is_column is_ty kind same =
    let here : first.ty.kind ≡ one.kind = cc in
    let rest : take i (kinds_of (map column_type columns)) ≡ take i (kinds_of types) = cc in
    let more = one_more columns types i column ty (omega (arith, within)) (omega (arith, typed)) is_column is_ty kind rest in
    ap (λ (k : Kind). k ∷ take (suc i) (kinds_of (map column_type columns))) here ∙ ap (λ (ks : List Kind). one.kind ∷ ks) more
