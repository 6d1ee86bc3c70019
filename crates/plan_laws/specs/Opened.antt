-- The opened read relations of a plan, and the tables that stand for them.
use Rattle.std.specs.Prelude.{◌≡◌, List, map}
use Rattle.std.specs.List.{AllByRecursion}
use Rattle.sub_types.specs.Value.{Fits}
use Rattle.plan_typed.specs.declared.sub.Holed.{Holed}
use Rattle.plan_reads.specs.Reads.{reads_of}
use Rattle.plan_tables.specs.Tables.{Opened, stream_in, tested_in, tables_of, tested_tables}

-- they are the read relations of the plan, in this order
abbrev pub AreOpened : Holed → List Opened → Type 0
AreOpened plan opened = map (λ (one : Opened). one.read) opened ≡ reads_of plan

-- a read relation's table is that of its own files, and its tested table that of their tested rows
pub record HasOwnTable (opened : List Opened) (one : Opened) : Type 0 where
  pub rows : tables_of opened one.read.relation ≡ stream_in one
  pub tested : tested_tables opened one.read.relation ≡ tested_in one

-- each row of an opened read relation's tables fits its types, once it was tested
abbrev pub HasFittingRows : Opened → Type 0
HasFittingRows one = AllByRecursion (Fits one.read.types) (tested_in one).rows
