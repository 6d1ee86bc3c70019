-- The marks of many pieces, put together.
use Rattle.std.specs.Prelude.{◌≡◌, List, [], ◌∷◌, Bool, length, map}
use Rattle.plan_pipes.specs.Pieces.{merged_each}
use Rattle.pipe_work.specs.declared.kept.Kept.{Kept}

-- what these mark, or any of the others, step by step
abbrev pub merged_all : List (List Bool) → List (List (List Bool)) → List (List Bool)
merged_all marks [] = marks
merged_all marks (others ∷ more) = merged_all (merged_each marks others) more

-- a piece's marks are of as many rows, step by step
abbrev pub HaveSameRows : List (List Bool) → Kept → Type 0
HaveSameRows marks kept = map length kept.marks.items ≡ map length marks
