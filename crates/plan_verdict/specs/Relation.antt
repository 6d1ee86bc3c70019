-- What is common to relations: their inputs, how they are finished, and how they are numbered (Substrait `RelCommon`).
use Rattle.std.specs.Prelude.{ℕ, List, Option}
use Rattle.sub_types.specs.declared.kind.Ty.{Ty}
use Rattle.plan_leaves.specs.declared.common.RelCommon.{RelCommon}
use Rattle.plan_typed.specs.declared.rel.Op.{Op}
use Rattle.plan_typed.specs.declared.rel.Rel.{Rel}
use Rattle.plan_verdict.specs.Checking.{Checking, ◌>>=◌, ◌>>◌, accept, part, present, next_relation, nodes_so_far, nodes_from}
use Rattle.plan_verdict.specs.Columns.{finished_in}

-- a relation has the next number, before its inputs and the subqueries of its expressions; its expressions are numbered from 0
abbrev pub numbered : (ℕ → Checking Rel) → Checking Rel
numbered relation = do
  number ← next_relation
  outer ← nodes_so_far
  nodes_from 0
  rel ← relation number
  nodes_from outer
  accept rel

-- an input that must be there
abbrev pub input : ℕ → Option (ℕ → Checking Rel) → Checking Rel
input number written = do
  relation ← present number written
  numbered relation

-- a relation of these direct columns
abbrev pub finished : ℕ → Option RelCommon → Op → List Ty → Checking Rel
finished number common op direct = part number (finished_in number common op direct)
