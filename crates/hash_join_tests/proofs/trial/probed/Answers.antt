use Rattle.std.proofs.Common.{◌∙◌, ◌++◌, List, All, ap, ap₂, sym, subst}
use Rattle.sub_types.specs.declared.kind.Ty.{Ty}
use Rattle.sub_types.specs.Value.{Fits}
use Rattle.well_typed.specs.WellTyped.{IsConditionOver}
use Rattle.batch.specs.BatchRows.{rows_of}
use Rattle.join_columns.specs.Sides.{kinds_of}
use Rattle.hash_join_tests.proofs.trial.probed.Goals as goal

pub probe-requires-clause-left : goal.probe-requires-clause-left
probe-requires-clause-left c = ap kinds_of (c.in_ok-batch.ensures.types ∙ sym c.requires.table.join.left)

pub probe-requires-clause-typed : goal.probe-requires-clause-typed
probe-requires-clause-typed c =
    subst (λ (types : List Ty). All (IsConditionOver types) c.args.table.now.spec.rest.items)
    (ap₂ (λ (xs ys : List Ty). xs ++ ys) (sym c.in_ok-batch.ensures.types) (sym c.requires.table.join.right)) c.requires.table.join.rest

pub probe-requires-clause-fit : goal.probe-requires-clause-fit
probe-requires-clause-fit c = subst (λ (types : List Ty). All (Fits types) (rows_of c.in_ok-batch.batch)) (sym c.in_ok-batch.ensures.types) c.in_ok-batch.ensures.fit

pub probe-requires-clause-rights_fit : goal.probe-requires-clause-rights_fit
probe-requires-clause-rights_fit c = subst (λ (types : List Ty). All (Fits types) c.args.table.now.rows) (sym c.requires.table.join.right) c.requires.table.fit
