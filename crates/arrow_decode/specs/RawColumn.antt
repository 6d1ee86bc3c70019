-- What is so of the columns that are wanted of a raw batch.
use Rattle.std.specs.Prelude.{◌≡◌, ℕ, ◌<◌, List, length, slice_index}
use Rattle.std.specs.List.{All}
use Rattle.std.proofs.Props.{props}
use Rattle.sub_types.specs.Kind.{IsKind}
use Rattle.sub_types.specs.declared.kind.Kind.{Kind}
use Rattle.sub_types.specs.declared.kind.Kind.TheVariants as kinds
use Rattle.batch.specs.KindLaws.{IsKind-prop}
use Rattle.arrow_meta.specs.declared.field.Layout.{Layout}
use Rattle.arrow_meta.specs.declared.field.Layout.TheVariants.{Plain, Wide, Index}
use Rattle.arrow_meta.specs.Batch.{known_buffers}
use Rattle.arrow_meta.specs.Known.{IsLayout}

-- the column exists, has the buffers of its kind and layout, and these are ones that a file can have
pub record IsWanted (shapes : List ℕ) (wanted : ℕ × Kind × Layout) : Type 0 where
  pub exists : wanted.0 < length shapes
  pub counted : slice_index shapes wanted.0 ≡ known_buffers wanted.1 wanted.2
  pub kind : IsKind wanted.1
  pub layout : IsLayout wanted.1 wanted.2

pub IsLayout-prop : (kind : Kind) (layout : Layout) → IsProp (IsLayout kind layout)
IsLayout-prop kind Plain = hlevel props
IsLayout-prop kinds.Text Wide = hlevel props
IsLayout-prop kinds.Binary Wide = hlevel props
IsLayout-prop kinds.Text (Index id size signed wide) = hlevel props
IsLayout-prop kind layout = hlevel props

pub IsWanted-prop : (shapes : List ℕ) (wanted : ℕ × Kind × Layout) → IsProp (IsWanted shapes wanted)
IsWanted-prop shapes wanted = hlevel (props, IsKind-prop, IsLayout-prop)

pub AreWanted-prop : (shapes : List ℕ) (wanted : List (ℕ × Kind × Layout)) → IsProp (All (IsWanted shapes) wanted)
AreWanted-prop shapes wanted = hlevel (props, IsWanted-prop shapes)
