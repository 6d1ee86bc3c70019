-- Which layouts the columns of a kind can have.
use Rattle.std.specs.Prelude.{ℕ, Bool, IsTrue, ◌==◌, ◌||◌}
use Rattle.sub_types.specs.Kind.{IsKind}
use Rattle.sub_types.specs.declared.kind.Kind.{Kind}
use Rattle.sub_types.specs.declared.kind.Kind.TheVariants as kinds
use Rattle.arrow_meta.specs.declared.field.Layout.{Layout}
use Rattle.arrow_meta.specs.declared.field.Layout.TheVariants.{Plain, Wide, Index}
use Rattle.arrow_meta.specs.declared.field.Shape.{Shape}
use Rattle.arrow_meta.specs.declared.field.Shape.TheVariants.{Known, Skip}

-- an index has 1, 2, 4 or 8 bytes
abbrev pub is_index_size : ℕ → Bool
is_index_size size = size == 1 || size == 2 || size == 4 || size == 8

-- offsets may be wide for texts and binaries, and texts may be under a dictionary
abbrev pub IsLayout : Kind → Layout → Type 0
IsLayout kind Plain = Unit {0}
IsLayout kinds.Text Wide = Unit {0}
IsLayout kinds.Binary Wide = Unit {0}
IsLayout kinds.Text (Index id size signed wide) = IsTrue (is_index_size size)
IsLayout kind layout = ⊥

-- a shape that a file's column can have
abbrev pub IsShape : Shape → Type 0
IsShape (Known kind layout) = IsKind kind × IsLayout kind layout
IsShape (Skip buffers) = Unit {0}
