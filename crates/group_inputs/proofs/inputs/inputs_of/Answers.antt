use Rattle.std.proofs.Common.{◌∙◌, refl, arith}
use Rattle.group_inputs.proofs.InputLaws.{stops, key_sizes, columns_sized, keyed_few, inputs_are}
use Rattle.group_inputs.proofs.inputs.inputs_of.Goals as goal

pub takings-requires-clause-few : goal.takings-requires-clause-few
takings-requires-clause-few c = keyed_few c.args.groups.now c.args.batch.now _ c.in_ok-columns.keyed c.in_ok-columns.columns.items c.in_ok-columns.ensures (omega arith)

pub returns-in-Some : goal.returns-in-Some
returns-in-Some c =
    stops c.args.groups.now c.args.measures.now c.args.batch.now _ c.in_ok-columns.keyed c.in_ok-taken.after c.in_ok-columns.columns.items c.in_ok-taken.taken.items refl refl c.in_ok-columns.ensures c.in_ok-taken.ensures ∙ c.in-Some.is

pub invariant_of-keys : goal.invariant_of-keys
invariant_of-keys c = record {
  sized = columns_sized c.args.batch.now.rows c.args.groups.now c.in_ok-columns.columns.items
      (key_sizes c.args.groups.now c.args.measures.now c.args.batch.now _ c.in_ok-columns.keyed c.in_ok-taken.after c.in_ok-columns.columns.items c.in_ok-taken.taken.items refl refl c.in_ok-columns.ensures c.in_ok-taken.ensures c.in-None.is);
}

pub returns-in_ok-columns_at-in-None : goal.returns-in_ok-columns_at-in-None
returns-in_ok-columns_at-in-None c =
    inputs_are c.args.groups.now c.args.measures.now c.args.batch.now _ c.in_ok-columns.keyed c.in_ok-taken.after c.in_ok-columns.columns.items c.in_ok-taken.taken.items refl refl c.in_ok-columns.ensures c.in_ok-taken.ensures c.in-None.is _ refl refl
    c.in_ok-columns_at-in-None.ensures refl
