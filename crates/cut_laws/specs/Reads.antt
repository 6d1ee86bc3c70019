-- The read relations of a plan: their numbers in the order in which they run, and what they read.
use Rattle.std.specs.Prelude.{◌≡◌, ℕ, List, [], ◌∷◌, ◌++◌}
use Rattle.std.specs.List.{AllByRecursion, flat_map}
use Rattle.sub_types.specs.declared.kind.Ty.{Ty}
use Rattle.plan_typed.specs.declared.rel.Op.{Op, out-Op, fold-Op}
use Rattle.plan_typed.specs.declared.rel.Op.TheOpen.{Op-F}
use Rattle.plan_typed.specs.declared.rel.Rel.{Rel, Rel-F, fold-Rel, every-Rel}
use Rattle.plan_denote.specs.Denote.{Tables, source_rows}

-- the inputs are the rows that a read relation reads: of its tables, or those in the plan
abbrev pub GivesAt : Tables → Tables → ℕ → Op-F Op Rel → Type 0
GivesAt tables inputs number (Op-F.Read source names types filter mask) = inputs number ≡ source_rows tables number source
GivesAt tables inputs number _ = Unit {0}

abbrev pub ReadGives : Tables → Tables → Rel-F Op Rel → Type 0
ReadGives tables inputs rel = GivesAt tables inputs rel.number (out-Op rel.op)

-- the same of each read relation of a relation and below it
abbrev pub ReadsGive : Tables → Tables → Rel → Type 0
ReadsGive tables inputs rel = every-Rel (λ _. Unit {0}) (ReadGives tables inputs) rel

-- a read relation reads columns of these types
abbrev pub HasAt : (ℕ → List Ty) → ℕ → Op-F Op Rel → Type 0
HasAt columns number (Op-F.Read source names types filter mask) = types ≡ columns number
HasAt columns number _ = Unit {0}

abbrev pub ReadHas : (ℕ → List Ty) → Rel-F Op Rel → Type 0
ReadHas columns rel = HasAt columns rel.number (out-Op rel.op)

abbrev pub ReadsHave : (ℕ → List Ty) → Rel → Type 0
ReadsHave columns rel = every-Rel (λ _. Unit {0}) (ReadHas columns) rel

-- the numbers of the read relations of a relation and below it, in the order in which they run: those of a join's right input
-- before those of its left one
abbrev pub op_reads : Op-F (ℕ → List ℕ) (List ℕ) → ℕ → List ℕ
op_reads (Op-F.Read source names types filter mask) number = number ∷ []
op_reads (Op-F.Filter input condition) number = input
op_reads (Op-F.Project input exprs) number = input
op_reads (Op-F.Fetch input offset count) number = input
op_reads (Op-F.Sort input keys) number = input
op_reads (Op-F.Aggregate input groups measures) number = input
op_reads (Op-F.GroupSets input groups sets measures) number = input
op_reads (Op-F.Join left right kind on post) number = right ++ left
op_reads (Op-F.Cross left right) number = right ++ left
op_reads (Op-F.Set inputs op) number = flat_map (λ input. input) inputs

abbrev pub rel_reads : Rel-F (ℕ → List ℕ) (List ℕ) → List ℕ
rel_reads rel = rel.op rel.number

unfoldable pub reads_of : Rel → List ℕ
reads_of = fold-Rel (ℕ → List ℕ) (List ℕ) op_reads rel_reads

unfoldable pub reads_of_op : Op → ℕ → List ℕ
reads_of_op = fold-Op (ℕ → List ℕ) (List ℕ) op_reads rel_reads

-- what holds of the inputs of an operation
abbrev pub Inputs : (Rel → Type 0) → Op-F Op Rel → Type 0
Inputs P (Op-F.Read source names types filter mask) = Unit {0}
Inputs P (Op-F.Filter input condition) = P input
Inputs P (Op-F.Project input exprs) = P input
Inputs P (Op-F.Fetch input offset count) = P input
Inputs P (Op-F.Sort input keys) = P input
Inputs P (Op-F.Aggregate input groups measures) = P input
Inputs P (Op-F.GroupSets input groups sets measures) = P input
Inputs P (Op-F.Join left right kind on post) = P left × P right
Inputs P (Op-F.Cross left right) = P left × P right
Inputs P (Op-F.Set inputs op) = AllByRecursion P inputs
