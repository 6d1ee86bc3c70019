use Rattle.std.proofs.Common.{◌∙◌, ◌++◌, ◌∷◌, ap, map, refl, replicate, arith}
use Rattle.sub_types.specs.declared.value.Value.TheVariants.{Null}
use Rattle.plan_typed.specs.declared.rel.SetMeasure.{SetMeasure}
use Rattle.batch.specs.Column.{column_values}
use Rattle.group_laws.specs.Columns.{zipped}
use Rattle.group_columns.specs.declared.taken.Taken.{Taken}
use Rattle.set_inputs.specs.Inputs.{values_once}
use Rattle.set_inputs.proofs.KeyLaws.{inputs_are}
use Rattle.set_inputs.proofs.inputs.inputs_over_sets.Goals as goal

pub returns-clause-inputs : goal.returns-clause-inputs
returns-clause-inputs c =
    let keys = c.args.inputs.keys in
    let pairs = zipped (λ (m : SetMeasure) (t : Taken). values_once keys.rows m.distinct t) c.args.measures.now in
    λ width later at few are.
    inputs_are width c.args.measures.now c.args.inputs _ later c.requires.all c.requires.whole refl refl (omega (arith, c.len-nulls.ensures, keys.columns.ok.0))
    (c.in_ok-columns.ensures.values ∙ ap (λ l. map column_values keys.columns.items ++ replicate keys.rows Null ∷ pairs l) c.as_slice.ensures.value) at few are
