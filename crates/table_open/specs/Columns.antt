-- The columns of a file that a table wants, found by their names.
use Rattle.std.specs.Prelude.{ℕ, List, Bool, true, false, Option, Some, None, Result, Ok, Err, map, ◌&&◌, ◌==◌, if◌then◌else◌, slice_get}
use Rattle.std.specs.List.{position, zip, enumerate_from}
use Rattle.std.specs.Option.{option_map_or}
use Rattle.std.specs.Str.{bytes_eq}
use Rattle.sub_types.specs.declared.kind.Kind.{Kind}
use Rattle.sub_types.specs.declared.kind.Kind.TheVariants as kinds
use Rattle.sub_types.specs.declared.kind.Ty.{Ty}
use Rattle.arrow_meta.specs.declared.field.FieldMeta.{FieldMeta}
use Rattle.arrow_meta.specs.declared.field.Shape.{Shape}
use Rattle.arrow_meta.specs.declared.field.Shape.TheVariants.{Known, Skip}
use Rattle.table_open.specs.declared.error.FileRule.{FileRule}
use Rattle.table_open.specs.declared.error.FileRule.TheVariants.{NoColumn, WrongType}
use Rattle.sub_types.specs.ResultSteps.{collect}

-- the kinds are equal; decimals with precision and scale
abbrev pub is_kind : Kind → Kind → Bool
is_kind kinds.Bool kinds.Bool = true
is_kind kinds.I8 kinds.I8 = true
is_kind kinds.I16 kinds.I16 = true
is_kind kinds.I32 kinds.I32 = true
is_kind kinds.I64 kinds.I64 = true
is_kind kinds.Text kinds.Text = true
is_kind kinds.Binary kinds.Binary = true
is_kind kinds.Date kinds.Date = true
is_kind kinds.Timestamp kinds.Timestamp = true
is_kind (kinds.Decimal precision scale) (kinds.Decimal digits behind) = precision == digits && scale == behind
is_kind _ _ = false

-- the column can be read, as values of the kind
abbrev pub has_kind : Kind → Shape → Bool
has_kind kind (Known known layout) = is_kind known kind
has_kind kind (Skip buffers) = false

-- the field has the name
abbrev pub is_named : List ℕ → FieldMeta → Bool
is_named name field = bytes_eq field.name name

-- what a found place is to a column of the plan, which wants a kind
abbrev pub match_place : ℕ → ℕ → List FieldMeta → Kind → Option ℕ → Result ℕ FileRule
match_place relation column fields kind None = Err (NoColumn relation column)
match_place relation column fields kind (Some place) =
    if option_map_or (λ field. has_kind kind field.shape) (slice_get fields place) false then Ok place else Err (WrongType relation column)

-- the place of the first field with the name, which must have the kind
abbrev pub match_column : ℕ → ℕ → List FieldMeta → List ℕ → Kind → Result ℕ FileRule
match_column relation column fields name kind = match_place relation column fields kind (position (is_named name) fields)

-- the place of a column of the plan, with its place there, its name and its type
abbrev pub match_one : ℕ → List FieldMeta → ℕ × (List ℕ × Ty) → Result ℕ FileRule
match_one relation fields (column, (name, ty)) = match_column relation column fields name ty.kind

-- the places of all columns of a table, or the refusal of the first that isn't there
unfoldable pub match_columns : ℕ → List FieldMeta → List (List ℕ) → List Ty → Result (List ℕ) FileRule
match_columns relation fields names types = collect (map (match_one relation fields) (enumerate_from 0 (zip names types)))
