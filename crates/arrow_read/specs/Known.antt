-- The columns of a head that can be read.
use Rattle.std.specs.Prelude.{ℕ, List, Option, Some, None, slice_get}
use Rattle.std.specs.Option.{option_and_then}
use Rattle.sub_types.specs.declared.kind.Kind.{Kind}
use Rattle.arrow_meta.specs.declared.field.FieldMeta.{FieldMeta}
use Rattle.arrow_meta.specs.declared.field.Layout.{Layout}
use Rattle.arrow_meta.specs.declared.field.Shape.{Shape}
use Rattle.arrow_meta.specs.declared.field.Shape.TheVariants.{Known, Skip}

-- a column of this shape at a place, with its kind and layout if it can be read
abbrev pub known_shape : ℕ → Shape → Option (ℕ × Kind × Layout)
known_shape column (Known kind layout) = Some (column, kind, layout)
known_shape column (Skip buffers) = None

-- the column at a place with its kind and layout, if it exists and can be read
abbrev pub known_column : List FieldMeta → ℕ → Option (ℕ × Kind × Layout)
known_column columns column = option_and_then (λ field. known_shape column field.shape) (slice_get columns column)
