-- The columns that are wanted.
use Rattle.std.proofs.Common.{◌≡◌, ◌∙◌, ℕ, zero, suc, ◌<◌, List, [], ◌∷◌, length, map, slice_get, slice_index, Option, Some, None, refl, sym, ap, subst, arith}
use Rattle.std.specs.List.{All, AllByRecursion, filter_map, cons_option}
use Rattle.std.specs.Option.{option_map, option_and_then}
use Rattle.std.proofs.lemmas.List.Elements.{All-from_recursion}
use Rattle.sub_types.specs.declared.kind.Kind.{Kind}
use Rattle.arrow_meta.specs.declared.field.FieldMeta.{FieldMeta}
use Rattle.arrow_meta.specs.declared.field.Layout.{Layout}
use Rattle.arrow_meta.specs.declared.field.Shape.{Shape}
use Rattle.arrow_meta.specs.declared.field.Shape.TheVariants.{Known, Skip}
use Rattle.arrow_meta.specs.Known.{IsShape}
use Rattle.arrow_meta.specs.Batch.{buffers_of}
use Rattle.arrow_meta.specs.Dictionary.{ColumnDictionary}
use Rattle.arrow_meta.specs.Head.{Head}
use Rattle.arrow_meta.specs.Table.{shapes_of, wanted_as, wanted_in}
use Rattle.arrow_decode.specs.declared.dictionary.DictColumn.{DictColumn}
use Rattle.arrow_decode.specs.RawColumn.{IsWanted}
use Rattle.arrow_decode.specs.Seen.{dictionary_seen, wanted_with}
use Rattle.arrow_read.specs.Sound.{AreShapes}
use Rattle.arrow_read.specs.Known.{known_shape, known_column}

-- a column that can be read, with its dictionary
as_known : (dictionaries : List DictColumn) (column : ℕ) (field : Option FieldMeta)
    → wanted_as (map dictionary_seen dictionaries) column field ≡ option_map (wanted_with dictionaries) (option_and_then (λ f. known_shape column f.shape) field)
as_known dictionaries column None = refl
as_known dictionaries column (Some field) =
    elim field.shape as (λ shape. wanted_as (map dictionary_seen dictionaries) column (Some (record field { shape = shape })) ≡ option_map (wanted_with dictionaries) (known_shape column shape)) [
      | Known kind layout ↦ refl
      | Skip buffers ↦ refl
    ]

all_known : (dictionaries : List DictColumn) (columns : List FieldMeta) (found : List (ℕ × Kind × Layout)) (wanted : List ℕ) → map Some found ≡ map (known_column columns) wanted
    → filter_map (λ column. wanted_as (map dictionary_seen dictionaries) column (slice_get columns column)) wanted ≡ map (wanted_with dictionaries) found
all_known dictionaries columns [] [] h = refl
all_known dictionaries columns [] (w ∷ wanted) h = absurd (cc)
all_known dictionaries columns (one ∷ found) [] h = absurd (cc)
all_known dictionaries columns (one ∷ found) (w ∷ wanted) h =
    let here : Some one ≡ known_column columns w = cc in
    let others : map Some found ≡ map (known_column columns) wanted = cc in
    let first : wanted_as (map dictionary_seen dictionaries) w (slice_get columns w) ≡ Some (wanted_with dictionaries one) =
    as_known dictionaries w (slice_get columns w) ∙ ap (option_map (wanted_with dictionaries)) (sym here) in
    ap (λ o. cons_option o (filter_map (λ column. wanted_as (map dictionary_seen dictionaries) column (slice_get columns column)) wanted)) first
    ∙ ap (λ rest. wanted_with dictionaries one ∷ rest) (all_known dictionaries columns found wanted others)

pub wanted_is : (dictionaries : List DictColumn) (head : Head) (found : List (ℕ × Kind × Layout)) (wanted : List ℕ) → head.dictionaries ≡ map dictionary_seen dictionaries
    → map Some found ≡ map (known_column head.columns) wanted → wanted_in head wanted ≡ map (wanted_with dictionaries) found
unfolding wanted_in
wanted_is dictionaries head found wanted same h =
    ap (λ ds. filter_map (λ column. wanted_as ds column (slice_get head.columns column)) wanted) same ∙ all_known dictionaries head.columns found wanted h

-- a column with its shape
record HasShape (columns : List FieldMeta) (column : ℕ) (shape : Shape) : Type 0 where
  exists : column < length (shapes_of columns)
  counted : slice_index (shapes_of columns) column ≡ buffers_of shape
  sound : IsShape shape

at_column : (columns : List FieldMeta) (column : ℕ) (field : FieldMeta) → AreShapes columns → slice_get columns column ≡ Some field → HasShape columns column field.shape
at_column [] column field sound h = absurd (cc)
at_column (one ∷ columns) zero field sound h =
    let same : one ≡ field = cc in
    let P : FieldMeta → Type 0 = λ f. HasShape (one ∷ columns) zero f.shape in
    subst P same (record { exists = omega arith; counted = refl; sound = sound 0 one (omega arith) })
at_column (one ∷ columns) (suc column) field sound h =
    let rest = at_column columns column field (λ k d below. sound (suc k) d (omega arith)) h in
    record { exists = omega (arith, rest.exists); counted = rest.counted; sound = rest.sound }

one_known : (columns : List FieldMeta) (column : ℕ) (shape : Shape) (one : ℕ × Kind × Layout) → HasShape columns column shape → known_shape column shape ≡ Some one → IsWanted (shapes_of columns) one
one_known columns column (Known kind layout) one has h =
    let same : (column, kind, layout) ≡ one = cc in
    subst (IsWanted (shapes_of columns)) same (record { exists = has.exists; counted = has.counted; kind = has.sound.0; layout = has.sound.1 })
one_known columns column (Skip buffers) one has h = absurd (cc)

one_wanted : (columns : List FieldMeta) (column : ℕ) (one : ℕ × Kind × Layout) → AreShapes columns → known_column columns column ≡ Some one → IsWanted (shapes_of columns) one
one_wanted columns column one sound h =
    elim (slice_get columns column) as (λ found. slice_get columns column ≡ found → option_and_then (λ field. known_shape column field.shape) found ≡ Some one → IsWanted (shapes_of columns) one) [
      | Some field ↦ λ e k. one_known columns column field.shape one (at_column columns column field sound e) k
      | None ↦ λ e k. absurd (cc)
    ] refl h

each_wanted : (columns : List FieldMeta) (found : List (ℕ × Kind × Layout)) (wanted : List ℕ) → AreShapes columns → map Some found ≡ map (known_column columns) wanted
    → AllByRecursion (IsWanted (shapes_of columns)) found
each_wanted columns [] wanted sound h = tt
each_wanted columns (one ∷ found) [] sound h = absurd (cc)
each_wanted columns (one ∷ found) (w ∷ wanted) sound h =
    let here : Some one ≡ known_column columns w = cc in
    let others : map Some found ≡ map (known_column columns) wanted = cc in
    (one_wanted columns w one sound (sym here), each_wanted columns found wanted sound others)

pub all_wanted : (columns : List FieldMeta) (found : List (ℕ × Kind × Layout)) (wanted : List ℕ) → AreShapes columns → map Some found ≡ map (known_column columns) wanted
    → All (IsWanted (shapes_of columns)) found
all_wanted columns found wanted sound h = All-from_recursion (IsWanted (shapes_of columns)) found (each_wanted columns found wanted sound h)

-- the places of columns, as they are seen
pub columns_seen : (dictionaries : List DictColumn) → map (λ (d : ColumnDictionary). d.column) (map dictionary_seen dictionaries) ≡ map (λ (d : DictColumn). d.column) dictionaries
columns_seen [] = refl
columns_seen (d ∷ dictionaries) = ap (λ rest. d.column ∷ rest) (columns_seen dictionaries)
