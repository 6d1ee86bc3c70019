-- The columns and rows of a block are of the kinds of the columns that are wanted.
use Rattle.std.proofs.Common.{◌≡◌, ℕ, ◌+◌, ◌-◌, ◌<◌, zero, suc, ℤ, List, [], ◌∷◌, Bool, true, false, Option, Some, None, map, length, take, drop, get_or, nat_le, slice_index_or, subst, arith}
use Rattle.std.specs.Prelude.{slice_get, slice_index}
use Rattle.std.specs.List.{AllByRecursion, cons_option, filter_map, range_with_len, slice_range, sum}
use Rattle.std.specs.Option.{ForSome, option_map, option_and_then}
use Rattle.std.proofs.lemmas.List.Elements.{recursion_from_All}
use Rattle.sub_types.specs.OptionSteps.{◌>>=◌, when, all_of}
use Rattle.sub_types.specs.Rows.{across, transpose}
use Rattle.sub_types.specs.Value.{InKind}
use Rattle.sub_types.specs.declared.kind.Kind.{Kind}
use Rattle.sub_types.specs.declared.kind.Kind.TheVariants as kinds
use Rattle.sub_types.specs.declared.kind.Ty.{Ty}
use Rattle.sub_types.specs.declared.value.Value.{Value}
use Rattle.sub_types.specs.declared.value.Value.TheVariants as values
use Rattle.arrow_meta.specs.declared.field.FieldMeta.{FieldMeta}
use Rattle.arrow_meta.specs.declared.field.Layout.{Layout}
use Rattle.arrow_meta.specs.declared.field.Layout.TheVariants.{Plain, Wide, Index}
use Rattle.arrow_meta.specs.declared.field.Shape.{Shape}
use Rattle.arrow_meta.specs.declared.field.Shape.TheVariants.{Known, Skip}
use Rattle.arrow_meta.specs.declared.meta.RecordMeta.{RecordMeta}
use Rattle.arrow_meta.specs.Batch.{Wanted, count_in, buffer_in, is_counted, column_buffers, buffer_values, column_in, columns_in, rows_in}
use Rattle.arrow_meta.specs.Dictionary.{ColumnDictionary}
use Rattle.arrow_meta.specs.Head.{Head}
use Rattle.arrow_meta.specs.Known.{IsShape, IsLayout}
use Rattle.arrow_meta.specs.Natural.{natural}
use Rattle.arrow_meta.specs.Table.{dictionary_of, wanted_as, wanted_in}
use Rattle.arrow_meta.specs.Values.{validity_in, values_in}
use Rattle.arrow_decode.specs.Dictionary.{AreTexts}
use Rattle.arrow_decode.proofs.InKindLaws.{values_in_kind, when_true, bound}
use Rattle.arrow_read.specs.Known.{known_shape, known_column}
use Rattle.table_rows.specs.Blocks.{HaveKinds}
use Rattle.well_typed.specs.WellTyped.{MayBe}
use Rattle.denote_typed.specs.Kinded.{AreInKinds}
use Rattle.denote_typed.proofs.RowsLaws.{mapped, every, taken, dropped}
use Rattle.file_kinds.proofs.DictionaryLaws.{HoldsTexts, dictionary_holds, all_found}
use Rattle.file_kinds.proofs.ShapeLaws.{AreSound}

-- bytes
abbrev pub AreBytes : List ℕ → Type 0
AreBytes bytes = AllByRecursion (λ byte. byte < 256) bytes

byte_at : (bytes : List ℕ) (i : ℕ) → AreBytes bytes → get_or bytes i 0 < 256
byte_at [] i all = omega arith
byte_at (byte ∷ bytes) zero all = all.0
byte_at (byte ∷ bytes) (suc i) all = byte_at bytes i all.1

-- the buffers of a column
buffer_is : (body : List ℕ) (buffer : ℤ × ℤ) → AreBytes body → ForSome (buffer_in body buffer) AreBytes
unfolding buffer_in
buffer_is body buffer all found is =
    let offset = bound (natural buffer.0) _ found is in
    let len = bound (natural buffer.1) _ found offset.2 in
    let cut = slice_range body offset.0 (offset.0 + len.0) in
    let same = when_true (nat_le (offset.0 + len.0) (length body)) cut found len.2 in
    subst (λ (one : List ℕ). AreBytes one) same.1 (taken (λ byte. byte < 256) (offset.0 + len.0 - offset.0) (drop offset.0 body) (dropped (λ byte. byte < 256) offset.0 body all))

when_all : {A : Type 0} (P : A → Type 0) (test : Bool) (found : Option A) → ForSome found P → ForSome (when test found) P
when_all P true found k x is = k x is
when_all P false found k x is = absurd (cc)

buffers_are : (shapes : List ℕ) (meta : RecordMeta) (body : List ℕ) (count column : ℕ) → AreBytes body → ForSome (column_buffers shapes meta body count column) (AllByRecursion AreBytes)
unfolding column_buffers
buffers_are shapes meta body count column all =
    let own = take (slice_index shapes column) (drop (sum (take column shapes)) meta.buffers) in
    when_all (AllByRecursion AreBytes) (is_counted count (slice_get meta.nodes column)) (all_of (map (buffer_in body) own)) (all_found AreBytes (buffer_in body) own (λ buffer. buffer_is body buffer all))

-- a column whose layout a file can have, with a dictionary of texts
pub record IsSound (wanted : Wanted) : Type 0 where
  pub layout : IsLayout wanted.kind wanted.layout
  pub texts : ForSome wanted.dictionary AreTexts

no_buffers : (kind : Kind) (layout : Layout) (dictionary : Option (List (Option (List ℕ)))) (count : ℕ) (valid : List Bool) (found : List Value) → values_in kind layout dictionary count valid [] ≡ Some found → ⊥
no_buffers kind (Index id size signed wide) dictionary count valid found is = cc
no_buffers kinds.Bool Plain dictionary count valid found is = cc
no_buffers kinds.I8 Plain dictionary count valid found is = cc
no_buffers kinds.I16 Plain dictionary count valid found is = cc
no_buffers kinds.I32 Plain dictionary count valid found is = cc
no_buffers kinds.I64 Plain dictionary count valid found is = cc
no_buffers kinds.Text Plain dictionary count valid found is = cc
no_buffers kinds.Binary Plain dictionary count valid found is = cc
no_buffers kinds.Date Plain dictionary count valid found is = cc
no_buffers kinds.Timestamp Plain dictionary count valid found is = cc
no_buffers (kinds.Decimal precision scale) Plain dictionary count valid found is = cc
no_buffers kinds.Bool Wide dictionary count valid found is = cc
no_buffers kinds.I8 Wide dictionary count valid found is = cc
no_buffers kinds.I16 Wide dictionary count valid found is = cc
no_buffers kinds.I32 Wide dictionary count valid found is = cc
no_buffers kinds.I64 Wide dictionary count valid found is = cc
no_buffers kinds.Text Wide dictionary count valid found is = cc
no_buffers kinds.Binary Wide dictionary count valid found is = cc
no_buffers kinds.Date Wide dictionary count valid found is = cc
no_buffers kinds.Timestamp Wide dictionary count valid found is = cc
no_buffers (kinds.Decimal precision scale) Wide dictionary count valid found is = cc

from_buffers : (wanted : Wanted) (count : ℕ) (buffers : List (List ℕ)) → IsSound wanted → AllByRecursion AreBytes buffers → ForSome (buffer_values wanted count buffers) (AllByRecursion (InKind wanted.kind))
from_buffers wanted count [] sound all found is = absurd (cc)
from_buffers wanted count (validity ∷ []) sound all found is =
    let valid = bound (validity_in count validity) (λ valid. values_in wanted.kind wanted.layout wanted.dictionary count valid []) found is in
    absurd (no_buffers wanted.kind wanted.layout wanted.dictionary count valid.0 found valid.2)
from_buffers wanted count (validity ∷ first ∷ others) sound all found is =
    let valid = bound (validity_in count validity) (λ valid. values_in wanted.kind wanted.layout wanted.dictionary count valid (first ∷ others)) found is in
    recursion_from_All (InKind wanted.kind) found (values_in_kind wanted.kind wanted.layout wanted.dictionary count valid.0 first others found sound.texts (λ i. byte_at first i all.1.0) sound.layout valid.2)

column_is : (shapes : List ℕ) (meta : RecordMeta) (body : List ℕ) (count : ℕ) (wanted : Wanted) → AreBytes body → IsSound wanted → ForSome (column_in shapes meta body count wanted) (AllByRecursion (InKind wanted.kind))
unfolding column_in
column_is shapes meta body count wanted all sound found is =
    let buffers = bound (column_buffers shapes meta body count wanted.column) (buffer_values wanted count) found is in
    from_buffers wanted count buffers.0 sound (buffers_are shapes meta body count wanted.column all buffers.0 buffers.1) found buffers.2

-- columns of the kinds of types
abbrev pub AreWanted : List Ty → List Wanted → Type 0
AreWanted [] [] = Unit {0}
AreWanted (ty ∷ types) (wanted ∷ others) = (wanted.kind ≡ ty.kind) × IsSound wanted × AreWanted types others
AreWanted _ _ = ⊥

abbrev AreColumns : List Ty → List (List Value) → Type 0
AreColumns [] [] = Unit {0}
AreColumns (ty ∷ types) (column ∷ columns) = AllByRecursion (InKind ty.kind) column × AreColumns types columns
AreColumns _ _ = ⊥

all_columns : (f : Wanted → Option (List Value)) → ((wanted : Wanted) → IsSound wanted → ForSome (f wanted) (AllByRecursion (InKind wanted.kind)))
    → (types : List Ty) (wanted : List Wanted) → AreWanted types wanted → ForSome (all_of (map f wanted)) (AreColumns types)
all_columns f k [] [] are columns is = let same : [] ≡ columns = cc in subst (AreColumns []) same tt
all_columns f k [] (wanted ∷ others) are columns is = absurd are
all_columns f k (ty ∷ types) [] are columns is = absurd are
all_columns f k (ty ∷ types) (wanted ∷ others) are columns is =
    let first = bound (f wanted) (λ y. all_of (map f others) >>= (λ rest. Some (y ∷ rest))) columns is in
    let rest = bound (all_of (map f others)) (λ rest. Some (first.0 ∷ rest)) columns first.2 in
    let same : first.0 ∷ rest.0 ≡ columns = let e = rest.2 in cc in
    subst (AreColumns (ty ∷ types)) same
    (subst (λ (kind : Kind). AllByRecursion (InKind kind) first.0) are.0 (k wanted are.1 first.0 first.1), all_columns f k types others are.2 rest.0 rest.1)

value_at : (kind : Kind) (column : List Value) (i : ℕ) → AllByRecursion (InKind kind) column → InKind kind (slice_index_or column i values.Null)
value_at kind [] i all = tt
value_at kind (value ∷ column) zero all = all.0
value_at kind (value ∷ column) (suc i) all = value_at kind column i all.1

row_is : (types : List Ty) (columns : List (List Value)) (i : ℕ) → AreColumns types columns → AreInKinds types (across values.Null columns i)
row_is [] [] i are = tt
row_is [] (column ∷ columns) i are = absurd are
row_is (ty ∷ types) [] i are = absurd are
row_is (ty ∷ types) (column ∷ columns) i are = (value_at ty.kind column i are.0, row_is types columns i are.1)

pub rows_are : (types : List Ty) (shapes : List ℕ) (meta : RecordMeta) (body : List ℕ) (wanted : List Wanted) → AreBytes body → AreWanted types wanted → ForSome (rows_in shapes meta body wanted) (AllByRecursion (AreInKinds types))
unfolding rows_in columns_in
rows_are types shapes meta body wanted all are rows is =
    let count = bound (count_in shapes meta) _ rows is in
    let columns = bound (all_of (map (column_in shapes meta body count.0) wanted)) (λ columns. Some (transpose values.Null count.0 columns)) rows count.2 in
    let known = all_columns (column_in shapes meta body count.0) (λ one sound. column_is shapes meta body count.0 one all sound) types wanted are columns.0 columns.1 in
    let same : transpose values.Null count.0 columns.0 ≡ rows = let e = columns.2 in cc in
    subst (AllByRecursion (AreInKinds types)) same
    (mapped (λ _. Unit {0}) (AreInKinds types) (across values.Null columns.0) (range_with_len 0 count.0) (every (λ _. Unit {0}) (range_with_len 0 count.0) (λ _. tt)) (λ i _. row_is types columns.0 i known))

-- the columns that are wanted of a head
field_at : {A : Type 0} (P : A → Type 0) (xs : List A) (i : ℕ) → AllByRecursion P xs → MayBe P (slice_get xs i)
field_at P [] i all = tt
field_at P (x ∷ xs) zero all = all.0
field_at P (x ∷ xs) (suc i) all = field_at P xs i all.1

abbrev kind_in : Option (ℕ × Kind × Layout) → Option Kind
kind_in found = option_map (λ (known : ℕ × Kind × Layout). known.1) found

module _ (dictionaries : List ColumnDictionary) (hold : AllByRecursion HoldsTexts dictionaries) (ty : Ty) (types : List Ty) (others : List Wanted) (rest : AreWanted types others) (column : ℕ) where
  by_shape : (shape : Shape) → IsShape shape → kind_in (known_shape column shape) ≡ Some ty.kind → AreWanted (ty ∷ types) (cons_option (elim shape [
    | Known kind layout ↦ Some (record { column = column; kind = kind; layout = layout; dictionary = dictionary_of dictionaries column })
    | Skip buffers ↦ None
  ]) others)
  by_shape (Known kind layout) is same = let kinds_are : kind ≡ ty.kind = cc in (kinds_are, record { layout = is.1; texts = dictionary_holds dictionaries column hold }, rest)
  by_shape (Skip buffers) is same = absurd (cc)

  by_field : (found : Option FieldMeta) → MayBe (λ (field : FieldMeta). IsShape field.shape) found → kind_in (option_and_then (λ (field : FieldMeta). known_shape column field.shape) found) ≡ Some ty.kind
      → AreWanted (ty ∷ types) (cons_option (wanted_as dictionaries column found) others)
  by_field None is same = absurd (cc)
  by_field (Some field) is same = by_shape field.shape is same

wanted_from : (columns : List FieldMeta) (dictionaries : List ColumnDictionary) (wanted : List ℕ) (types : List Ty) → AreSound columns → AllByRecursion HoldsTexts dictionaries → HaveKinds columns wanted types
    → AreWanted types (filter_map (λ column. wanted_as dictionaries column (slice_get columns column)) wanted)
wanted_from columns dictionaries [] [] sound hold same = tt
wanted_from columns dictionaries [] (ty ∷ types) sound hold same = absurd (cc)
wanted_from columns dictionaries (column ∷ wanted) [] sound hold same = absurd (cc)
wanted_from columns dictionaries (column ∷ wanted) (ty ∷ types) sound hold same =
    let here : kind_in (known_column columns column) ≡ Some ty.kind = cc in
    let rest : HaveKinds columns wanted types = cc in
    by_field dictionaries hold ty types (filter_map (λ column. wanted_as dictionaries column (slice_get columns column)) wanted) (wanted_from columns dictionaries wanted types sound hold rest) column
    (slice_get columns column) (field_at (λ (field : FieldMeta). IsShape field.shape) columns column sound) here

pub wanted_are : (head : Head) (wanted : List ℕ) (types : List Ty) → AreSound head.columns → AllByRecursion HoldsTexts head.dictionaries → HaveKinds head.columns wanted types → AreWanted types (wanted_in head wanted)
unfolding wanted_in
wanted_are head wanted types sound hold same = wanted_from head.columns head.dictionaries wanted types sound hold same
