-- The rows fit, and the condition is well typed over them.
use Rattle.std.proofs.Common.{sym, subst, ap}
use Rattle.sub_types.specs.declared.kind.Ty.{Ty}
use Rattle.well_typed.specs.ExprTyped.{IsTypedOver}
use Rattle.steps_tests.proofs.FitLaws.{batch_fits}
use Rattle.steps_tests.proofs.steps.filtered_piece.Goals as goal

pub filter-requires-clause-typed : goal.filter-requires-clause-typed
filter-requires-clause-typed c = subst (λ types. IsTypedOver types c.args.condition.now) (sym c.requires.types) c.requires.condition.typed

pub filter-requires-clause-is_test : goal.filter-requires-clause-is_test
filter-requires-clause-is_test c = ap (λ (ty : Ty). ty.kind) c.requires.condition.ty_is

pub filter-requires-clause-fit : goal.filter-requires-clause-fit
filter-requires-clause-fit c = batch_fits c.args.piece.batch c.requires.types
