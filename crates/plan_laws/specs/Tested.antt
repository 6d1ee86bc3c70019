-- Tables whose rows were tested by the types that they are read as.
use Rattle.std.specs.Prelude.{◌≡◌}
use Rattle.std.specs.List.{AllByRecursion}
use Rattle.sub_types.specs.Stream.{each}
use Rattle.plan_typed.specs.declared.rel.Rel.{Rel}
use Rattle.plan_typed.specs.declared.sub.Holed.{Holed}
use Rattle.plan_typed.specs.declared.sub.Sub.{Sub}
use Rattle.plan_denote.specs.Denote.{Tables}
use Rattle.plan_reads.specs.declared.reads.Origin.{Origin}
use Rattle.plan_reads.specs.declared.reads.Origin.TheVariants as origins
use Rattle.plan_reads.specs.declared.reads.PlanRead.{PlanRead}
use Rattle.plan_reads.specs.Reads.{reads_in}
use Rattle.table_rows.specs.Read.{read_row}

-- what a read from tables must satisfy; of rows that stand in the plan nothing is said
abbrev pub IfNamed : Origin → Type 0 → Type 0
IfNamed (origins.Named names) claim = claim
IfNamed (origins.Rows count) claim = Unit {0}

-- the one table of a read has the rows of the other, tested by the read's types, up to the first fault
abbrev pub IsTestedTable : Tables → Tables → PlanRead → Type 0
IsTestedTable tested tables read = tested read.relation ≡ each (read_row read.relation read.types) (tables read.relation)

abbrev pub IsTestedRead : Tables → Tables → PlanRead → Type 0
IsTestedRead tested tables read = IfNamed read.origin (IsTestedTable tested tables read)

-- the tables of a relation and of those below it
abbrev pub AreTested : Tables → Tables → Rel → Type 0
AreTested tested tables rel = AllByRecursion (IsTestedRead tested tables) (reads_in rel)

-- the tables of a plan's subqueries and of its main relation
pub record AreTestedIn (tested tables : Tables) (plan : Holed) : Type 0 where
  pub subqueries : AllByRecursion (λ (sub : Sub). AreTested tested tables sub.rel) plan.subs
  pub main : AreTested tested tables plan.typed.rel
