-- Each loop: what the parts up to here give at the rows.
use Rattle.std.proofs.Common.{◌≡◌, ◌≤◌, length, take}
use Rattle.plan_typed.specs.declared.expr.Expr.{Expr}
use Rattle.batch.specs.ColumnValues.{values_of}
use Rattle.batch_nodes.specs.Found.{found_values}
use Rattle.batch_nodes.specs.Parts.{AreColumns, AreChosen, arm_at}
use Rattle.batch_nodes.proofs.StepLaws.{IsEarlySoFar}
use Rattle.batch_nodes.proofs.NodeUntil.{AreTried, AreSought}
use Rattle.eval_batch.proofs.eval.+eval.Given as goal

abbrev pub invariant-early_call-loop-arg : goal.invariant-early_call-loop-arg
invariant-early_call-loop-arg l = (l.state.0.ty ≡ l.ty) × IsEarlySoFar l.early l.batch l.rows (take l.arg-index l.args) (values_of l.state.0.values) l.state.1

abbrev pub invariant-columns_of-loop-arg : goal.invariant-columns_of-loop-arg
invariant-columns_of-loop-arg l = AreColumns (take l.arg-index l.args) l.batch l.rows l.found.items l.len l.stop

abbrev pub invariant-first_true-loop-arm : goal.invariant-first_true-loop-arm
invariant-first_true-loop-arm l = (l.number ≡ l.arm-index) × AreTried (length l.arms) l.batch l.rows (take l.arm-index l.arms) l.state.0.items l.state.1

abbrev pub invariant-arm_columns-loop-arm : goal.invariant-arm_columns-loop-arm
invariant-arm_columns-loop-arm l = (length l.columns.items ≡ l.arm-index) × ((other : Expr) → AreChosen (arm_at l.arms other) l.batch l.rows l.choices l.fn.ty.kind l.columns.items)

abbrev pub invariant-case_columns-loop-arm : goal.invariant-case_columns-loop-arm
invariant-case_columns-loop-arm l = (length l.columns.items ≡ l.arm-index) × ((other : Expr) → AreChosen (arm_at l.arms other) l.batch l.rows l.choices l.fn.ty.kind l.columns.items)

abbrev pub invariant-look_each-loop-option : goal.invariant-look_each-loop-option
invariant-look_each-loop-option l =
    (l.state.0.ty ≡ l.ty) × (length (values_of l.state.0.values) ≤ length (found_values l.values)) × AreSought l.batch l.value l.rows l.values (take l.option-index l.options) (values_of l.state.0.values) l.state.1
