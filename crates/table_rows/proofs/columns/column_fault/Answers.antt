use Rattle.std.proofs.Common.{length, get_or}
use Rattle.sub_types.specs.declared.value.Value.TheVariants.{Null}
use Rattle.batch.specs.ColumnValues.{values_of}
use Rattle.table_rows.specs.Read as spec
use Rattle.table_rows.proofs.columns.column_fault.Goals as goal

pub returns : goal.returns
returns c =
    let column = values_of c.args.column.now in
    c.earlier.ensures (λ k. spec.null_fault c.args.ty (get_or column k Null)) (λ k. spec.length_fault (get_or column k Null)) (length column) c.null_fault.ensures c.length_fault.ensures
