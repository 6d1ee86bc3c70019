-- The columns of a table and the kinds of the fields that were found for them.
use Rattle.std.proofs.Common.{◌≡◌, ◌∙◌, ℕ, ◌+◌, ◌<◌, ◌≤◌, List, [], ◌∷◌, length, map, drop, get_or, Bool, true, false, if◌then◌else◌, slice_get, Option, Some, None, IsSome, Result, Ok, Err, refl, sym, ap, subst, arith, rules, tests}
use Rattle.std.specs.List.{All, position, zip, enumerate_from}
use Rattle.std.specs.Option.{option_map, option_map_or, option_and_then}
use Rattle.std.proofs.lemmas.List.{drop_more, drop_all}
use Rattle.sub_types.specs.declared.kind.Kind.{Kind}
use Rattle.sub_types.specs.declared.kind.Kind.TheVariants as kinds
use Rattle.sub_types.specs.declared.kind.Ty.{Ty}
use Rattle.arrow_meta.specs.declared.field.FieldMeta.{FieldMeta}
use Rattle.arrow_meta.specs.declared.field.Layout.{Layout}
use Rattle.arrow_meta.specs.declared.field.Shape.{Shape}
use Rattle.arrow_meta.specs.declared.field.Shape.TheVariants.{Known, Skip}
use Rattle.arrow_read.specs.Known.{known_shape, known_column}
use Rattle.table_open.specs.declared.error.FileRule.{FileRule}
use Rattle.table_open.specs.declared.error.FileRule.TheVariants.{WrongType}
use Rattle.sub_types.specs.ResultSteps.{collect}
use Rattle.table_open.specs.Columns.{is_kind, has_kind, is_named, match_place, match_column, match_one, match_columns}
use Rattle.table_open.specs.Ready.{kind_at}
use Rattle.table_open.specs.declared.error.FileError.{FileError}
use Rattle.table_open.specs.declared.error.FileError.TheVariants as file_errors
use Rattle.table_open.specs.Answers.{FitsFile}
use Rattle.table_open.proofs.StepLaws.{followed, followed_stops, collect_map, collect_all}

-- the columns of the plan from a place on
abbrev pub columns_from : ℕ → List (List ℕ) → List Ty → List (ℕ × (List ℕ × Ty))
columns_from i names types = enumerate_from i (zip (drop i names) (drop i types))

pub columns_all : (relation : ℕ) (fields : List FieldMeta) (names : List (List ℕ)) (types : List Ty)
    → match_columns relation fields names types ≡ collect (map (match_one relation fields) (columns_from 0 names types))
unfolding match_columns
columns_all relation fields names types = refl

pub columns_more : (names : List (List ℕ)) (types : List Ty) (i : ℕ) (name : List ℕ) (ty : Ty) → i < length names → i < length types → name ≡ get_or names i name → ty ≡ get_or types i ty
    → columns_from i names types ≡ (i, (name, ty)) ∷ columns_from (i + 1) names types
columns_more names types i name ty below within is at =
    let first : drop i names ≡ name ∷ drop (i + 1) names = drop_more names i name below ∙ ap (λ (w : List ℕ). w ∷ drop (i + 1) names) (sym is) in
    let second : drop i types ≡ ty ∷ drop (i + 1) types = drop_more types i ty within ∙ ap (λ (t : Ty). t ∷ drop (i + 1) types) (sym at) in
    ap (λ (ns : List (List ℕ)). enumerate_from i (zip ns (drop i types))) first ∙ ap (λ (ts : List Ty). enumerate_from i (zip (name ∷ drop (i + 1) names) ts)) second

pub columns_done : (names : List (List ℕ)) (types : List Ty) (i : ℕ) → length names ≤ i → columns_from i names types ≡ []
columns_done names types i end = ap (λ (ns : List (List ℕ)). enumerate_from i (zip ns (drop i types))) (drop_all i names end)

-- a column isn't there
pub columns_stop : {A B : Type 0} (f : ℕ × (List ℕ × Ty) → Result ℕ FileRule) (seen : A → List ℕ) (other : B → ℕ) (so_far : List ℕ) (one : ℕ × (List ℕ × Ty)) (rest : List (ℕ × (List ℕ × Ty)))
    (e : FileError) (denoted : Result (List ℕ) FileRule) → denoted ≡ followed f so_far (one ∷ rest) → FitsFile other (Err e) (f one) → FitsFile seen (Err e) denoted
columns_stop f seen other so_far one rest (file_errors.Refused rule) denoted here h = here ∙ followed_stops f so_far one rest rule h
columns_stop f seen other so_far one rest file_errors.ReadFault denoted here h = tt
columns_stop f seen other so_far one rest file_errors.NoMemory denoted here h = tt

-- equal kinds
kind_same : (known kind : Kind) → is_kind known kind ≡ true → known ≡ kind
kind_same kinds.Bool kinds.Bool h = refl
kind_same kinds.I8 kinds.I8 h = refl
kind_same kinds.I16 kinds.I16 h = refl
kind_same kinds.I32 kinds.I32 h = refl
kind_same kinds.I64 kinds.I64 h = refl
kind_same kinds.Text kinds.Text h = refl
kind_same kinds.Binary kinds.Binary h = refl
kind_same kinds.Date kinds.Date h = refl
kind_same kinds.Timestamp kinds.Timestamp h = refl
kind_same (kinds.Decimal precision scale) (kinds.Decimal digits behind) h =
    let first : precision ≡ digits = search (rules, tests) in
    let second : scale ≡ behind = search (rules, tests) in
    ap (λ n. kinds.Decimal n scale) first ∙ ap (λ n. kinds.Decimal digits n) second
kind_same _ _ h = absurd (cc)

shape_kind : (place : ℕ) (kind : Kind) (shape : Shape) → has_kind kind shape ≡ true → option_map (λ known. known.1) (known_shape place shape) ≡ Some kind
shape_kind place kind (Known known layout) h = ap (λ (k : Kind). Some k) (kind_same known kind h)
shape_kind place kind (Skip buffers) h = absurd (cc)

place_kind : (fields : List FieldMeta) (kind : Kind) (place : ℕ) → option_map_or (λ field. has_kind kind field.shape) (slice_get fields place) false ≡ true → kind_at fields place ≡ Some kind
place_kind fields kind place h =
    elim (slice_get fields place) as (λ (found : Option FieldMeta). option_map_or (λ field. has_kind kind field.shape) found false ≡ true
    → option_map (λ known. known.1) (option_and_then (λ field. known_shape place field.shape) found) ≡ Some kind) [
      | Some field ↦ λ e. shape_kind place kind field.shape e
      | None ↦ λ e. absurd (cc)
    ] h

-- the field of a column is of the column's kind
column_kind : (relation column : ℕ) (fields : List FieldMeta) (name : List ℕ) (kind : Kind) (place : ℕ) → match_column relation column fields name kind ≡ Ok place → kind_at fields place ≡ Some kind
column_kind relation column fields name kind place h =
    elim (position (is_named name) fields) as (λ r. match_place relation column fields kind r ≡ Ok place → kind_at fields place ≡ Some kind) [
      | None ↦ λ e. absurd (cc)
      | Some found ↦ λ e.
          let test : Bool = option_map_or (λ field. has_kind kind field.shape) (slice_get fields found) false in
          elim test as (λ b. test ≡ b → (if b then Ok found else Err (WrongType relation column)) ≡ Ok place → kind_at fields place ≡ Some kind) [
            | true ↦ λ t k.
                let same : found ≡ place = cc in
                let P : ℕ → Type 0 = λ n. kind_at fields n ≡ Some kind in
                subst P same (place_kind fields kind found t)
            | false ↦ λ t k. absurd (cc)
          ] refl e
    ] h

one_kind : (relation : ℕ) (fields : List FieldMeta) (one : ℕ × (List ℕ × Ty)) (place : ℕ) → match_one relation fields one ≡ Ok place → kind_at fields place ≡ Some one.1.1.kind
one_kind relation fields (column, (name, ty)) place h = column_kind relation column fields name ty.kind place h

is_known : (fields : List FieldMeta) (place : ℕ) (kind : Kind) → kind_at fields place ≡ Some kind → IsSome (known_column fields place)
is_known fields place kind h =
    elim (known_column fields place) as (λ (found : Option (ℕ × Kind × Layout)). option_map (λ known. known.1) found ≡ Some kind → IsSome found) [
      | Some known ↦ λ e. refl
      | None ↦ λ e. absurd (cc)
    ] h

kinds_from : (i : ℕ) (names : List (List ℕ)) (types : List Ty) → length names ≡ length types → map (λ (one : ℕ × (List ℕ × Ty)). Some one.1.1.kind) (enumerate_from i (zip names types)) ≡ map (λ ty. Some ty.kind) types
kinds_from i [] [] h = refl
kinds_from i [] (ty ∷ types) h = absurd (omega arith)
kinds_from i (name ∷ names) [] h = absurd (omega arith)
kinds_from i (name ∷ names) (ty ∷ types) h = ap (λ (l : List (Option Kind)). Some ty.kind ∷ l) (kinds_from (i + 1) names types (omega arith))

-- the wanted columns have the kinds of the table's columns
pub wanted_kinds : (relation : ℕ) (fields : List FieldMeta) (names : List (List ℕ)) (types : List Ty) (places : List ℕ) → length names ≡ length types
    → match_columns relation fields names types ≡ Ok places → map (kind_at fields) places ≡ map (λ ty. Some ty.kind) types
wanted_kinds relation fields names types places same h =
    collect_map (match_one relation fields) (kind_at fields) (λ (one : ℕ × (List ℕ × Ty)). Some one.1.1.kind) (one_kind relation fields) (columns_from 0 names types) places
    (sym (columns_all relation fields names types) ∙ h)
    ∙ kinds_from 0 names types same

-- and they can be read
pub wanted_known : (relation : ℕ) (fields : List FieldMeta) (names : List (List ℕ)) (types : List Ty) (places : List ℕ)
    → match_columns relation fields names types ≡ Ok places → All (λ column. IsSome (known_column fields column)) places
wanted_known relation fields names types places h =
    collect_all (match_one relation fields) (λ column. IsSome (known_column fields column)) (λ one place e. is_known fields place one.1.1.kind (one_kind relation fields one place e))
    (columns_from 0 names types) places (sym (columns_all relation fields names types) ∙ h)
