-- The read relations of a plan with what they read, found by their numbers.
use Rattle.std.specs.Prelude.{ℕ, List, [], ◌∷◌, ◌++◌, Option, Some, None, ◌==◌, if◌then◌else◌}
use Rattle.std.specs.List.{flat_map}
use Rattle.sub_types.specs.declared.kind.Ty.{Ty}
use Rattle.sub_types.specs.Stream.{Stream, rows_alone}
use Rattle.plan_typed.specs.declared.rel.Op.{Op, fold-Op}
use Rattle.plan_typed.specs.declared.rel.Op.TheOpen.{Op-F}
use Rattle.plan_typed.specs.declared.rel.Rel.{Rel, Rel-F, fold-Rel}
use Rattle.plan_typed.specs.declared.rel.Source.{Source}
use Rattle.plan_denote.specs.Denote.{Tables, source_rows}
use Rattle.plan_denote.specs.Rows.{Row}

-- a read relation: its number, what it reads, and the types of its columns
pub record ReadRel : Type 0 where
  pub number : ℕ
  pub source : Source
  pub types : List Ty

-- those of a relation and below it, in the order in which they run
abbrev pub op_read_rels : Op-F (ℕ → List ReadRel) (List ReadRel) → ℕ → List ReadRel
op_read_rels (Op-F.Read source names types filter mask) number = record { number = number; source = source; types = types } ∷ []
op_read_rels (Op-F.Filter input condition) number = input
op_read_rels (Op-F.Project input exprs) number = input
op_read_rels (Op-F.Fetch input offset count) number = input
op_read_rels (Op-F.Sort input keys) number = input
op_read_rels (Op-F.Aggregate input groups measures) number = input
op_read_rels (Op-F.GroupSets input groups sets measures) number = input
op_read_rels (Op-F.Join left right kind on post) number = right ++ left
op_read_rels (Op-F.Cross left right) number = right ++ left
op_read_rels (Op-F.Set inputs op) number = flat_map (λ input. input) inputs

abbrev pub rel_read_rels : Rel-F (ℕ → List ReadRel) (List ReadRel) → List ReadRel
rel_read_rels rel = rel.op rel.number

unfoldable pub read_rels : Rel → List ReadRel
read_rels = fold-Rel (ℕ → List ReadRel) (List ReadRel) op_read_rels rel_read_rels

unfoldable pub read_rels_of_op : Op → ℕ → List ReadRel
read_rels_of_op = fold-Op (ℕ → List ReadRel) (List ReadRel) op_read_rels rel_read_rels

-- the first of this number
abbrev pub read_at : ℕ → List ReadRel → Option ReadRel
read_at number [] = None
read_at number (read ∷ reads) = if read.number == number then Some read else read_at number reads

-- the rows that it reads
abbrev pub rows_read : Tables → ℕ → Option ReadRel → Stream Row
rows_read tables number None = rows_alone []
rows_read tables number (Some read) = source_rows tables number read.source

abbrev pub types_read : Option ReadRel → List Ty
types_read None = []
types_read (Some read) = read.types

-- the rows that the read relations of a plan read, by their numbers, and the types of their columns
abbrev pub inputs_of : Tables → Rel → Tables
inputs_of tables rel number = rows_read tables number (read_at number (read_rels rel))

abbrev pub columns_read : Rel → ℕ → List Ty
columns_read rel number = types_read (read_at number (read_rels rel))
