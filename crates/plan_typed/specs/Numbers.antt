-- The numbers of checked relations.
use Rattle.std.specs.Prelude.{ℕ, List, [], ◌∷◌, ◌++◌}
use Rattle.std.specs.List.{concat}
use Rattle.plan_typed.specs.declared.rel.Rel.{Rel, fold-Rel}
use Rattle.plan_typed.specs.declared.rel.Op.TheOpen.{Op-F}

-- one level of a checked relation, with the numbers in each of its inputs in the input's place
abbrev pub op_numbers : Op-F (List ℕ) (List ℕ) → List ℕ
op_numbers (Op-F.Read source names types filter mask) = []
op_numbers (Op-F.Filter input condition) = input
op_numbers (Op-F.Project input exprs) = input
op_numbers (Op-F.Fetch input offset count) = input
op_numbers (Op-F.Sort input keys) = input
op_numbers (Op-F.Aggregate input groups measures) = input
op_numbers (Op-F.GroupSets input groups sets measures) = input
op_numbers (Op-F.Join left right kind on post) = left ++ right
op_numbers (Op-F.Cross left right) = left ++ right
op_numbers (Op-F.Set inputs op) = concat inputs

-- the numbers of a checked relation and of those below it
abbrev pub numbers_of : Rel → List ℕ
numbers_of = fold-Rel (List ℕ) (List ℕ) op_numbers (λ rel. rel.number ∷ rel.op)
