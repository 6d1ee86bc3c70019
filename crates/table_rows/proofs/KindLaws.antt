-- The kinds of wanted columns.
use Rattle.std.proofs.Common.{rules, ◌≡◌, ◌∙◌, ℕ, List, [], ◌∷◌, map, slice_get, Option, Some, None, IsSome, refl, ap, subst}
use Rattle.std.specs.List.{All}
use Rattle.std.specs.Option.{option_map, option_and_then}
use Rattle.std.proofs.lemmas.List.Elements.{All-nil, All-cons}
use Rattle.std.proofs.lemmas.Option.{slice_get_within, get_or_from_slice_get}
use Rattle.sub_types.specs.Kind.{IsKind}
use Rattle.sub_types.specs.declared.kind.Kind.{Kind}
use Rattle.sub_types.specs.declared.kind.Ty.{Ty}
use Rattle.arrow_meta.specs.declared.field.FieldMeta.{FieldMeta}
use Rattle.arrow_meta.specs.declared.field.Layout.{Layout}
use Rattle.arrow_meta.specs.declared.field.Shape.{Shape}
use Rattle.arrow_meta.specs.declared.field.Shape.TheVariants.{Known, Skip}
use Rattle.arrow_meta.specs.Known.{IsShape}
use Rattle.arrow_decode.specs.Seen.{wanted_type}
use Rattle.arrow_read.specs.Sound.{AreShapes}
use Rattle.arrow_read.specs.Known.{known_shape, known_column}
use Rattle.table_rows.specs.Read.{kinds_of}
use Rattle.table_rows.specs.Blocks.{HaveKinds}

-- the kind of a column that can be read
abbrev known_kind : Option (ℕ × Kind × Layout) → Option Kind
known_kind found = option_map (λ known. known.1) found

is_known : (found : Option (ℕ × Kind × Layout)) (kind : Kind) → known_kind found ≡ Some kind → IsSome found
is_known (Some known) kind h = search rules
is_known None kind h = absurd (cc)

-- each of them can be read
pub all_known : (columns : List FieldMeta) (wanted : List ℕ) (types : List Ty) → HaveKinds columns wanted types → All (λ column. IsSome (known_column columns column)) wanted
all_known columns [] types h = All-nil (λ (column : ℕ). IsSome (known_column columns column))
all_known columns (column ∷ wanted) [] h = absurd (cc)
all_known columns (column ∷ wanted) (ty ∷ types) h =
    let here : known_kind (known_column columns column) ≡ Some ty.kind = cc in
    let rest : HaveKinds columns wanted types = cc in
    All-cons (λ (one : ℕ). IsSome (known_column columns one)) column wanted (is_known (known_column columns column) ty.kind here) (all_known columns wanted types rest)

-- the columns that are read have the kinds of the types
pub kinds_are : (columns : List FieldMeta) (found : List (ℕ × Kind × Layout)) (wanted : List ℕ) (types : List Ty) → map Some found ≡ map (known_column columns) wanted
    → HaveKinds columns wanted types → kinds_of (map wanted_type found) ≡ kinds_of types
kinds_are columns [] [] [] same h = refl
kinds_are columns [] [] (ty ∷ types) same h = absurd (cc)
kinds_are columns [] (column ∷ wanted) types same h = absurd (cc)
kinds_are columns (one ∷ found) [] types same h = absurd (cc)
kinds_are columns (one ∷ found) (column ∷ wanted) [] same h = absurd (cc)
kinds_are columns (one ∷ found) (column ∷ wanted) (ty ∷ types) same h =
    let known : Some one ≡ known_column columns column = cc in
    let others : map Some found ≡ map (known_column columns) wanted = cc in
    let kind : known_kind (known_column columns column) ≡ Some ty.kind = cc in
    let rest : HaveKinds columns wanted types = cc in
    let both : Some one.1 ≡ Some ty.kind = ap known_kind known ∙ kind in
    let here : one.1 ≡ ty.kind = cc in
    ap (λ (k : Kind). k ∷ kinds_of (map wanted_type found)) here ∙ ap (λ (ks : List Kind). ty.kind ∷ ks) (kinds_are columns found wanted types others rest)

of_shape : (column : ℕ) (shape : Shape) (kind : Kind) → IsShape shape → known_kind (known_shape column shape) ≡ Some kind → IsKind kind
of_shape column (Known one layout) kind sound h = let same : one ≡ kind = cc in subst IsKind same sound.0
of_shape column (Skip buffers) kind sound h = absurd (cc)

shape_at : (columns : List FieldMeta) (column : ℕ) (field : FieldMeta) → AreShapes columns → slice_get columns column ≡ Some field → IsShape field.shape
shape_at columns column field sound at =
    let P : FieldMeta → Type 0 = λ one. IsShape one.shape in
    subst P (get_or_from_slice_get columns column field field at) (sound column field (slice_get_within columns column field at))

kind_sound : (columns : List FieldMeta) (column : ℕ) (kind : Kind) → AreShapes columns → known_kind (known_column columns column) ≡ Some kind → IsKind kind
kind_sound columns column kind sound h =
    elim (slice_get columns column) as (λ field. slice_get columns column ≡ field → known_kind (option_and_then (λ one. known_shape column one.shape) field) ≡ Some kind → IsKind kind) [
      | None ↦ λ at e. absurd (cc)
      | Some field ↦ λ at e. of_shape column field.shape kind (shape_at columns column field sound at) e
    ] refl h

-- a plan may name the kinds of columns that can be read
pub kinds_sound : (columns : List FieldMeta) (wanted : List ℕ) (types : List Ty) → AreShapes columns → HaveKinds columns wanted types → All (λ ty. IsKind ty.kind) types
kinds_sound columns wanted [] sound h = All-nil (λ (ty : Ty). IsKind ty.kind)
kinds_sound columns [] (ty ∷ types) sound h = absurd (cc)
kinds_sound columns (column ∷ wanted) (ty ∷ types) sound h =
    let here : known_kind (known_column columns column) ≡ Some ty.kind = cc in
    let rest : HaveKinds columns wanted types = cc in
    All-cons (λ (one : Ty). IsKind one.kind) ty types (kind_sound columns column ty.kind sound here) (kinds_sound columns wanted types sound rest)
