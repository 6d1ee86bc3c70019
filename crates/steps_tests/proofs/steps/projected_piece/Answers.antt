-- The rows fit, and the expressions are well typed over them.
use Rattle.std.proofs.Common.{sym, subst, get_or}
use Rattle.plan_typed.specs.declared.expr.Expr.{Expr}
use Rattle.well_typed.specs.ExprTyped.{IsTypedOver}
use Rattle.steps_tests.proofs.FitLaws.{batch_fits}
use Rattle.steps_tests.proofs.steps.projected_piece.Goals as goal

pub project-requires-clause-typed : goal.project-requires-clause-typed
project-requires-clause-typed c = λ k (d : Expr) below.
    subst (λ types. IsTypedOver types (get_or c.args.exprs.now k d)) (sym c.requires.types) ((c.requires.exprs k d below).typed)

pub project-requires-clause-fit : goal.project-requires-clause-fit
project-requires-clause-fit c = batch_fits c.args.piece.batch c.requires.types
