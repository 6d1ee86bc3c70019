-- Which relations may be run over open files.
use Rattle.std.specs.Prelude.{List}
use Rattle.std.specs.List.{All}
use Rattle.plan_typed.specs.declared.rel.Rel.{Rel}
use Rattle.plan_typed.specs.Numbers.{numbers_of}
use Rattle.well_typed.specs.WellTyped.{AreTyped, AllDiffer}
use Rattle.cut_laws.specs.Found.{read_rels}
use Rattle.open_blocks.specs.Files.{FilesSeen}
use Rattle.table_engine.specs.Inputs.{IsOpenFor}

-- a well-typed relation, over files that are open for what it reads
pub record IsReady (rel : Rel) (files : List FilesSeen) : Type 0 where
  pub typed : AreTyped rel
  pub numbers : AllDiffer (numbers_of rel)
  pub opened : All (IsOpenFor (read_rels rel)) files
