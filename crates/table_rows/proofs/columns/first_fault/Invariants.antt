use Rattle.std.proofs.Common.{take}
use Rattle.sub_types.specs.Rows.{across}
use Rattle.sub_types.specs.declared.value.Value.TheVariants.{Null}
use Rattle.batch.specs.BatchRows.{columns_of}
use Rattle.table_rows.specs.First.{IsFirst}
use Rattle.table_rows.specs.Read.{row_fault}
use Rattle.table_rows.proofs.columns.first_fault.Given as goal

abbrev pub invariant-loop-index : goal.invariant-loop-index
invariant-loop-index l = IsFirst (λ k. row_fault (take l.index l.types) (across Null (columns_of l.batch) k)) l.batch.rows l.first
