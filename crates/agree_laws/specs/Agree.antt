-- Tables that agree where relations read, and the numbers of what they read.
use Rattle.std.specs.Prelude.{◌≡◌, ◌≤◌, ℕ, List, [], ◌∷◌, map, ◌==◌, if◌then◌else◌}
use Rattle.std.specs.List.{AllByRecursion, count_by, flat_map}
use Rattle.sub_types.specs.declared.kind.Ty.{Ty}
use Rattle.plan_typed.specs.declared.rel.Rel.{Rel}
use Rattle.plan_typed.specs.declared.sub.Holed.{Holed}
use Rattle.plan_typed.specs.declared.sub.Sub.{Sub}
use Rattle.plan_denote.specs.Denote.{Tables}
use Rattle.plan_reads.specs.declared.reads.PlanRead.{PlanRead}
use Rattle.plan_reads.specs.Reads.{reads_in, reads_of}

-- the tables are the same where a read relation reads, and where each of a relation and below it does
abbrev pub Agrees : Tables → Tables → PlanRead → Type 0
Agrees a b read = a read.relation ≡ b read.relation

abbrev pub Agree : Tables → Tables → Rel → Type 0
Agree a b rel = AllByRecursion (Agrees a b) (reads_in rel)

-- the columns that are read have the types of the read relation's number
abbrev pub IsOfTypes : (ℕ → List Ty) → PlanRead → Type 0
IsOfTypes types read = types read.relation ≡ read.types

-- what is known of read relations, found by the number of one
abbrev pub found_for : {B : Type 0} → (PlanRead → B) → B → List PlanRead → ℕ → B
found_for value none [] number = none
found_for value none (read ∷ reads) number = if read.relation == number then value read else found_for value none reads number

-- the types of the columns that a plan reads, by the numbers of its read relations
abbrev pub types_in : Holed → ℕ → List Ty
types_in plan = found_for (λ (read : PlanRead). read.types) [] (reads_of plan)

-- the numbers of read relations
abbrev pub numbers_in : List PlanRead → List ℕ
numbers_in reads = map (λ (read : PlanRead). read.relation) reads

-- one's tables where these read, and the other's elsewhere
abbrev pub joint : List PlanRead → Tables → Tables → Tables
joint [] own other number = other number
joint (read ∷ reads) own other number = if read.relation == number then own number else joint reads own other number

-- no number stands twice among what relations read
abbrev pub ReadOnce : List Rel → Type 0
ReadOnce rels = (number : ℕ) → count_by (λ (read : PlanRead). read.relation == number) (flat_map reads_in rels) ≤ 1

-- the relations of subqueries
abbrev pub rels_of : List Sub → List Rel
rels_of subs = map (λ (sub : Sub). sub.rel) subs
