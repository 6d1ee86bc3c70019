-- The open files of a plan's read relations, and how many batches each is read in.
use Rattle.std.specs.Prelude.{◌≡◌, ℕ, ◌+◌, ◌/◌, List, Result}
use Rattle.std.specs.List.{AllByRecursion}
use Rattle.sub_types.specs.Stream.{Stream}
use Rattle.sub_types.specs.Value.{Fits}
use Rattle.sub_types.specs.declared.fault.Fault.{Fault}
use Rattle.plan_typed.specs.declared.rel.Rel.{Rel}
use Rattle.plan_typed.specs.declared.sub.Sub.{Sub}
use Rattle.plan_typed.specs.Types.{columns_of}
use Rattle.plan_denote.specs.Denote.{Tables, denote}
use Rattle.plan_denote.specs.Holes.{Worth}
use Rattle.plan_denote.specs.Rows.{Row}
use Rattle.plan_denote.specs.Subqueries.{worth_of_stream}
use Rattle.plan_reads.specs.declared.reads.Origin.{Origin}
use Rattle.plan_reads.specs.declared.reads.Origin.TheVariants as origins
use Rattle.plan_reads.specs.declared.reads.PlanRead.{PlanRead}
use Rattle.open_blocks.specs.Files.{FilesSeen, AreOpenFor, files_at}
pub use Rattle.table_engine.specs.Inputs.{AreTablesOf, IsReceiptOf, TellsRows, blocks_at, gathered_stream}

-- the files of a read relation are open for it
pub record IsOpenRead (read : PlanRead) (one : FilesSeen) : Type 0 where
  pub relation : one.relation ≡ read.relation
  pub open_for : AreOpenFor read.types one

-- in how many batches a read relation is read: a block each, or 1,024 rows of the plan's own
abbrev pub batches_of : List FilesSeen → ℕ → Origin → ℕ
batches_of files number (origins.Named names) = blocks_at (files_at number files)
batches_of files number (origins.Rows count) = (count + 1023) / 1024

abbrev pub input_read : List FilesSeen → PlanRead → ℕ × ℕ
input_read files read = (read.relation, batches_of files read.relation read.origin)

-- rows that a relation denotes over tables that are those of the files, wherever these tell their bytes; they fit its columns
pub record AreRowsOf (files : List FilesSeen) (rel : Rel) (rows : Stream Row) : Type 0 where
  pub tables : Tables
  pub told : AreTablesOf files tables
  pub denoted : rows ≡ denote tables rel
  pub fit : AllByRecursion (Fits (columns_of rel)) rows.rows

-- what a subquery is worth by such rows of its relation, with the values of earlier ones put in
pub record IsWorthOf (files : List FilesSeen) (sub : Sub) (rel : Rel) (found : Result Worth Fault) : Type 0 where
  pub rows : Stream Row
  pub are : AreRowsOf files rel rows
  pub worth : found ≡ worth_of_stream sub rows
