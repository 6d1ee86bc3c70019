-- The rows of a plan over the files of its read relations.
use Rattle.std.specs.Prelude.{◌≡◌, ℕ, List}
use Rattle.sub_types.specs.Stream.{Stream}
use Rattle.plan_typed.specs.declared.sub.Holed.{Holed}
use Rattle.plan_denote.specs.Denote.{Tables}
use Rattle.plan_denote.specs.Rows.{Row}
use Rattle.plan_denote.specs.Subqueries.{denote_plan}
use Rattle.plan_tables.specs.Tables.{Opened, batches_in, tables_of}
pub use Rattle.plan_rounds.specs.Inputs.{gathered_stream}

-- the plan denotes them over some tables, and over those of its files where these are told
pub record AreRowsOver (told : Type 0) (opened : List Opened) (plan : Holed) (rows : Stream Row) : Type 0 where
  pub tables : Tables
  pub denoted : rows ≡ denote_plan tables plan
  pub over : told → rows ≡ denote_plan (tables_of opened) plan

-- a read relation, and in how many batches it is read
abbrev pub input_of : Opened → ℕ × ℕ
input_of one = (one.read.relation, batches_in one)
