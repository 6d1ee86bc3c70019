-- The bits of validity are the test.
use Rattle.std.proofs.Common.{◌∙◌, map, sym, ap}
use Rattle.plan_denote.specs.Computed.{truth}
use Rattle.batch.specs.ColumnValues.{values_of}
use Rattle.call_kernels.specs.Nulls.{there_test}
use Rattle.call_kernels.specs.Operand.{values}
use Rattle.call_kernels.specs.declared.operand.Operand.{Operand}
use Rattle.call_kernels.proofs.NullLaws.{truths_there}
use Rattle.call_kernels.proofs.nulls.is_not_null_one.Goals as goal

pub returns-in_ok-known-in-Column : goal.returns-in_ok-known-in-Column
returns-in_ok-known-in-Column c = λ n.
    c.in_ok-known-in-Column.ensures
    ∙ ap (map truth) c.validity_of.ensures
    ∙ truths_there (values_of c.in-Column.column.now.values)
    ∙ ap (λ (operand : Operand). map there_test (values n operand)) (sym c.in-Column.is)
