-- The read relations of a well-typed plan have a type for each name, of a valid kind.
use Rattle.std.proofs.Common.{ℕ, List, [], ◌∷◌}
use Rattle.std.specs.List.{AllByRecursion}
use Rattle.plan_typed.specs.declared.rel.Op.{Op, out-Op}
use Rattle.plan_typed.specs.declared.rel.Op.TheOpen.{Op-F}
use Rattle.plan_typed.specs.declared.rel.Rel.{Rel}
use Rattle.plan_typed.specs.declared.sub.Holed.{Holed}
use Rattle.plan_typed.specs.declared.sub.Sub.{Sub}
use Rattle.well_typed.specs.WellTyped.{HasParts, IsRelation, AreTyped, IsTypedSub, IsWellTyped}
use Rattle.plan_reads.specs.Reads.{reads_in, reads_of}
use Rattle.plan_laws.specs.Shaped.{IsShaped}
use Rattle.plan_laws.proofs.EveryLaws.{reads_from_every}
use Rattle.plan_laws.proofs.Levels.{OwnRead}
use Rattle.plan_laws.proofs.PlanReadLaws.{of_plan}

level_shaped : (level : Op-F Op Rel) (number : ℕ) → HasParts level → OwnRead IsShaped level number
level_shaped (Op-F.Read source names types filter mask) number parts = (parts.0, parts.1)
level_shaped (Op-F.Filter input condition) number parts = tt
level_shaped (Op-F.Project input exprs) number parts = tt
level_shaped (Op-F.Fetch input offset count) number parts = tt
level_shaped (Op-F.Sort input keys) number parts = tt
level_shaped (Op-F.Aggregate input groups measures) number parts = tt
level_shaped (Op-F.GroupSets input groups sets measures) number parts = tt
level_shaped (Op-F.Join left right kind on post) number parts = tt
level_shaped (Op-F.Cross left right) number parts = tt
level_shaped (Op-F.Set inputs op) number parts = tt

-- of a relation
shaped_in : (rel : Rel) → AreTyped rel → AllByRecursion IsShaped (reads_in rel)
shaped_in = reads_from_every IsShaped IsRelation (λ rel is. level_shaped (out-Op rel.op) rel.number is.0)

-- of subqueries
shaped_in_subs : (subs : List Sub) → AllByRecursion IsTypedSub subs → AllByRecursion (λ (sub : Sub). AllByRecursion IsShaped (reads_in sub.rel)) subs
shaped_in_subs [] typed = tt
shaped_in_subs (sub ∷ subs) typed = (shaped_in sub.rel typed.0.0, shaped_in_subs subs typed.1)

-- of a plan
pub law_of_shapes : (plan : Holed) → IsWellTyped plan → AllByRecursion IsShaped (reads_of plan)
law_of_shapes plan typed = of_plan IsShaped plan (shaped_in_subs plan.subs typed.subqueries) (shaped_in plan.typed.rel typed.plan)
