-- Why the tables of read relations aren't opened.
use Rattle.std.specs.Prelude.{ℕ, List}
use Rattle.std.specs.List.{Contains}
use Rattle.plan_reads.specs.declared.reads.PlanRead.{PlanRead}
use Rattle.table_open.specs.declared.error.FileRule.{FileRule}
use Rattle.table_open.specs.declared.error.TableError.{TableError}
use Rattle.table_open.specs.declared.error.TableError.TheVariants as table_errors
use Rattle.table_open.specs.Answers.{IsTableRule}

-- the rule refuses a table of one of the read relations
pub record IsRefused (reads : List PlanRead) (words file : ℕ) (rule : FileRule) : Type 0 where
  pub read : PlanRead
  pub among : Contains reads read
  pub by_rule : IsTableRule read.relation words file rule

-- a refusal is by such a rule
abbrev pub IsRefusal : List PlanRead → ℕ → TableError → Type 0
IsRefusal reads words (table_errors.Refused file rule) = IsRefused reads words file rule
IsRefusal reads words _ = Unit {0}
