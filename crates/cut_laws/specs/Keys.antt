-- Keys of joins over the columns of both sides.
use Rattle.std.specs.Prelude.{List}
use Rattle.sub_types.specs.declared.kind.Ty.{Ty}
use Rattle.plan_denote.specs.Conjuncts.{Key}
use Rattle.plan_pipes.specs.TypeMeaning.{IsKeyOver}

-- a key has a column on each side, of the same kind
abbrev pub HasColumns : List Ty → List Ty → Key → Type 0
HasColumns left right key = IsKeyOver left right (key.left, key.right)
