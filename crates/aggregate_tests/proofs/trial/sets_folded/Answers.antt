use Rattle.std.proofs.Common.{List, All, sym, subst}
use Rattle.sub_types.specs.Value.{Fits}
use Rattle.batch.specs.BatchRows.{rows_of}
use Rattle.sub_types.specs.declared.kind.Ty.{Ty}
use Rattle.group_sets.specs.States.{IsFor}
use Rattle.aggregate_tests.specs.Typed.{numbers}
use Rattle.aggregate_tests.proofs.trial.sets_folded.Goals as goal

pub loop-part-init : goal.loop-part-init
loop-part-init c = c.in_ok-partial.ensures.over numbers c.requires

pub fold_batch-requires-clause-over : goal.fold_batch-requires-clause-over
fold_batch-requires-clause-over c = subst (λ (types : List Ty). IsFor types c.args.spec.now c.loop-part.partial) (sym c.in_ok-batch.ensures.types) c.loop-part.invariant

pub loop-part-preserved : goal.loop-part-preserved
loop-part-preserved c = subst (λ (types : List Ty). IsFor types c.args.spec.now c.fold_batch.new.self) c.in_ok-batch.ensures.types c.fold_batch.ensures.over

pub fold_batch-requires-clause-fit : goal.fold_batch-requires-clause-fit
fold_batch-requires-clause-fit c = subst (λ (types : List Ty). All (Fits types) (rows_of c.in_ok-batch.batch)) (sym c.in_ok-batch.ensures.types) c.in_ok-batch.ensures.fit
