-- The body of a record batch in the making.
use Rattle.std.specs.Prelude.{◌≡◌, ℕ, List, [], ◌∷◌, ◌++◌, length, map, Bool, true, false, if◌then◌else◌}
use Rattle.std.specs.List.{sum_by, list_all}
use Rattle.sub_types.specs.declared.kind.Kind.{Kind}
use Rattle.sub_types.specs.declared.kind.Kind.TheVariants as kinds
use Rattle.sub_types.specs.declared.kind.Ty.{Ty}
use Rattle.sub_types.specs.declared.value.Value.{Value}
use Rattle.batch.specs.declared.column.Column.{Column}
use Rattle.batch.specs.Column.{column_values}
use Rattle.arrow_meta.specs.Buffers.{packed, column_buffers, null_count, body_of, buffer_places, batch_buffers, batch_nodes}
use Rattle.arrow_meta.specs.Meta.{unsigned_pair}
use Rattle.arrow_write.specs.declared.body.Body.{Body}

-- these buffers stand behind those of a body, each with its place and its length
pub record Puts (old new : Body) (buffers : List (List ℕ)) : Type 0 where
  pub bytes : new.bytes.items ≡ old.bytes.items ++ body_of buffers
  pub places : map unsigned_pair new.places.items ≡ map unsigned_pair old.places.items ++ buffer_places (length old.bytes.items) buffers

-- and this number of values and of nulls behind those of a body
abbrev pub PutsNode : Body → Body → ℕ × ℕ → Type 0
PutsNode old new node = map unsigned_pair new.nodes.items ≡ map unsigned_pair old.nodes.items ++ node ∷ []

-- how many truth values are false
abbrev pub count_false : List Bool → ℕ
count_false bits = sum_by (λ bit. if bit then 0 else 1) bits

-- the validity of a column by which of its values are there: none where all are
abbrev pub validity_bytes : List Bool → List ℕ
validity_bytes bits = if list_all (λ bit. bit) bits then [] else packed bits

-- whether the values of the kind are texts or binaries
abbrev pub has_offsets : Kind → Bool
has_offsets kinds.Text = true
has_offsets kinds.Binary = true
has_offsets _ = false

-- the buffers of a column, and the number of its values and of its nulls
abbrev pub buffers_of : Column → List (List ℕ)
buffers_of column = column_buffers column.ty.kind (column_values column)

abbrev pub node_of : Column → ℕ × ℕ
node_of column = (length (column_values column), null_count (column_values column))

-- the body has the buffers of these rows and nothing else
pub record HasRows (types : List Ty) (rows : List (List Value)) (body : Body) : Type 0 where
  pub bytes : body.bytes.items ≡ body_of (batch_buffers types rows)
  pub places : map unsigned_pair body.places.items ≡ buffer_places 0 (batch_buffers types rows)
  pub nodes : map unsigned_pair body.nodes.items ≡ batch_nodes types rows
