-- The rows fit, and the expression is well typed over them.
use Rattle.std.proofs.Common.{sym, subst}
use Rattle.well_typed.specs.ExprTyped.{IsTypedOver}
use Rattle.eval_batch_tests.proofs.FitLaws.{batch_fits}
use Rattle.eval_batch_tests.proofs.beside.worth.Goals as goal

pub eval_batch-requires-clause-typed : goal.eval_batch-requires-clause-typed
eval_batch-requires-clause-typed c = subst (λ types. IsTypedOver types c.args.expr.now) (sym c.requires.types) c.requires.expr.typed

pub eval_batch-requires-clause-fit : goal.eval_batch-requires-clause-fit
eval_batch-requires-clause-fit c = batch_fits c.args.batch.now c.requires.types
