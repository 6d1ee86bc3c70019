-- The first values of what is lent.
use Rattle.batch.specs.ColumnValues.{values_of}
use Rattle.batch_calls.proofs.KernelLaws.{whole_made, whole_lent, constant_is_first}
use Rattle.batch_calls.proofs.apply.operand_of.Goals as goal

pub returns-in-Made : goal.returns-in-Made
returns-in-Made c = rw c.in-Made.is (whole_made c.whole.result (values_of c.in-Made.column.values) c.args.n c.whole.ensures)

pub returns-in-Whole : goal.returns-in-Whole
returns-in-Whole c = rw c.in-Whole.is (whole_lent c.whole-in-Whole.result (values_of c.in-Whole.column.now.values) c.args.n c.in-Whole.field-1 (rw c.in-Whole.is at c.requires) c.whole-in-Whole.ensures)

pub returns-in-Constant : goal.returns-in-Constant
returns-in-Constant c = rw c.in-Constant.is (constant_is_first c.in-Constant.value.now c.args.n c.in-Constant.field-1 (rw c.in-Constant.is at c.requires))
