-- The read relations of a plan, by their numbers.
use Rattle.std.specs.Prelude.{ℕ, ◌^◌, ◌<◌, List, [], ◌∷◌, ◌++◌, length}
use Rattle.std.specs.List.{flat_map}
use Rattle.std.specs.Ordering.{nat_cmp, on}
use Rattle.std.specs.declared.cmp.Ordering.{Ordering}
use Rattle.sub_types.specs.declared.kind.Ty.{Ty}
use Rattle.plan_typed.specs.declared.rel.Op.TheOpen.{Op-F}
use Rattle.plan_typed.specs.declared.rel.Rel.{Rel, Rel-F, fold-Rel}
use Rattle.plan_typed.specs.declared.rel.Source.{Source}
use Rattle.plan_typed.specs.declared.rel.Source.TheVariants as sources
use Rattle.plan_typed.specs.declared.sub.Holed.{Holed}
use Rattle.plan_typed.specs.declared.sub.Sub.{Sub}
use Rattle.plan_denote.specs.Sort.{arranged}
use Rattle.plan_reads.specs.declared.reads.Origin.{Origin}
use Rattle.plan_reads.specs.declared.reads.Origin.TheVariants as origins
use Rattle.plan_reads.specs.declared.reads.PlanRead.{PlanRead}

-- what a source is for a read: the names of its tables, or how many rows it has
abbrev pub origin_of : Source → Origin
origin_of (sources.Named names) = origins.Named names
origin_of (sources.Rows rows) = origins.Rows (length rows)

abbrev pub read_of : ℕ → Source → List (List ℕ) → List Ty → PlanRead
read_of number source names types = record { relation = number; origin = origin_of source; names = names; types = types }

-- the read relations of what a relation of this number does, by those of its inputs
abbrev pub op_reads : Op-F (ℕ → List PlanRead) (List PlanRead) → ℕ → List PlanRead
op_reads (Op-F.Read source names types filter mask) number = read_of number source names types ∷ []
op_reads (Op-F.Filter input condition) number = input
op_reads (Op-F.Project input exprs) number = input
op_reads (Op-F.Fetch input offset count) number = input
op_reads (Op-F.Sort input keys) number = input
op_reads (Op-F.Aggregate input groups measures) number = input
op_reads (Op-F.GroupSets input groups sets measures) number = input
op_reads (Op-F.Join left right kind on post) number = left ++ right
op_reads (Op-F.Cross left right) number = left ++ right
op_reads (Op-F.Set inputs op) number = flat_map (λ input. input) inputs

abbrev pub rel_reads : Rel-F (ℕ → List PlanRead) (List PlanRead) → List PlanRead
rel_reads rel = rel.op rel.number

-- the read relations of a relation and below it, each before those to its right
unfoldable pub reads_in : Rel → List PlanRead
reads_in = fold-Rel (ℕ → List PlanRead) (List PlanRead) op_reads rel_reads

-- by the number of the relation
abbrev pub by_relation : PlanRead → PlanRead → Ordering
by_relation = on (λ (read : PlanRead). read.relation) nat_cmp

-- the read relations of a plan and of its subqueries, by their numbers
unfoldable pub reads_of : Holed → List PlanRead
reads_of plan = arranged by_relation (flat_map (λ (sub : Sub). reads_in sub.rel) plan.subs ++ reads_in plan.typed.rel)

-- 32 bits hold the place of each of its columns
abbrev pub HasFewNames : PlanRead → Type 0
HasFewNames read = length read.names < 2 ^ 32
