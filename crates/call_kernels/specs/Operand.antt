-- The values of an argument.
use Rattle.std.specs.Prelude.{ℕ, List, replicate}
use Rattle.sub_types.specs.declared.value.Value.{Value}
use Rattle.batch.specs.ColumnValues.{values_of}
use Rattle.call_kernels.specs.declared.operand.Operand.{Operand}
use Rattle.call_kernels.specs.declared.operand.Operand.TheVariants.{Column, Constant}

-- those of a column, or so many times a constant
abbrev pub values : ℕ → Operand → List Value
values n (Column column) = values_of column.now.values
values n (Constant value) = replicate n value.now
