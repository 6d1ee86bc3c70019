-- What a record batch holds, or that it is bad (Arrow columnar format, "RecordBatch message").
use Rattle.std.specs.Prelude.{ℕ, ◌+◌, ◌^◌, ℤ, pos, List, [], ◌∷◌, length, map, take, drop, Bool, Option, Some, None, false, ◌&&◌, ◌==◌, nat_le, nat_lt, slice_index}
use Rattle.std.specs.List.{slice_range, slice_get, sum}
use Rattle.std.specs.Ordering.{int_eq}
use Rattle.sub_types.specs.Rows.{transpose}
use Rattle.sub_types.specs.declared.kind.Kind.{Kind}
use Rattle.sub_types.specs.declared.kind.Kind.TheVariants as kinds
use Rattle.sub_types.specs.declared.value.Value.{Value}
use Rattle.sub_types.specs.declared.value.Value.TheVariants.{Null}
use Rattle.arrow_meta.specs.declared.field.Layout.{Layout}
use Rattle.arrow_meta.specs.declared.field.Layout.TheVariants.{Index}
use Rattle.arrow_meta.specs.declared.field.Shape.{Shape}
use Rattle.arrow_meta.specs.declared.field.Shape.TheVariants.{Known, Skip}
use Rattle.arrow_meta.specs.declared.meta.RecordMeta.{RecordMeta}
use Rattle.arrow_meta.specs.Natural.{natural}
use Rattle.sub_types.specs.OptionSteps.{◌>>=◌, when, all_of}
use Rattle.arrow_meta.specs.Values.{validity_in, values_in}

-- how many buffers the columns of a kind and a layout have
abbrev pub known_buffers : Kind → Layout → ℕ
known_buffers kind (Index id width signed wide) = 2
known_buffers kinds.Text layout = 3
known_buffers kinds.Binary layout = 3
known_buffers kind layout = 2

abbrev pub buffers_of : Shape → ℕ
buffers_of (Known kind layout) = known_buffers kind layout
buffers_of (Skip buffers) = buffers

-- the number of rows, where there is a node for each column and as many buffers as the columns have together
unfoldable pub count_in : List ℕ → RecordMeta → Option ℕ
count_in shapes meta = do
  count ← natural meta.length
  when (nat_lt count (2 ^ 31) && length meta.nodes == length shapes && length meta.buffers == sum shapes) (Some count)

-- a buffer that lies in the body
unfoldable pub buffer_in : List ℕ → ℤ × ℤ → Option (List ℕ)
buffer_in body buffer = do
  offset ← natural buffer.0
  len ← natural buffer.1
  when (nat_le (offset + len) (length body)) (Some (slice_range body offset (offset + len)))

-- the number of values that a column's node states is the number of rows
abbrev pub is_counted : ℕ → Option (ℤ × ℤ) → Bool
is_counted count node = elim node [ None ↦ false | Some pair ↦ int_eq pair.0 (pos count) ]

-- the buffers of a column, behind those of the columns before it
unfoldable pub column_buffers : List ℕ → RecordMeta → List ℕ → ℕ → ℕ → Option (List (List ℕ))
column_buffers shapes meta body count column =
    when (is_counted count (slice_get meta.nodes column))
    (all_of (map (buffer_in body) (take (slice_index shapes column) (drop (sum (take column shapes)) meta.buffers))))

-- a column that is read: its place, its kind and layout, and its dictionary if it has one that isn't bad
pub record Wanted : Type 0 where
  pub column : ℕ
  pub kind : Kind
  pub layout : Layout
  pub dictionary : Option (List (Option (List ℕ)))

-- the values of a column from its buffers, the first of which is its validity
abbrev pub buffer_values : Wanted → ℕ → List (List ℕ) → Option (List Value)
buffer_values wanted count [] = None
buffer_values wanted count (validity ∷ buffers) =
    validity_in count validity >>= λ valid. values_in wanted.kind wanted.layout wanted.dictionary count valid buffers

unfoldable pub column_in : List ℕ → RecordMeta → List ℕ → ℕ → Wanted → Option (List Value)
column_in shapes meta body count wanted = column_buffers shapes meta body count wanted.column >>= buffer_values wanted count

-- the values of the wanted columns
unfoldable pub columns_in : List ℕ → RecordMeta → List ℕ → ℕ → List Wanted → Option (List (List Value))
columns_in shapes meta body count wanted = all_of (map (column_in shapes meta body count) wanted)

-- the rows of the wanted columns
unfoldable pub rows_in : List ℕ → RecordMeta → List ℕ → List Wanted → Option (List (List Value))
rows_in shapes meta body wanted = do
  count ← count_in shapes meta
  columns ← columns_in shapes meta body count wanted
  Some (transpose Null count columns)
