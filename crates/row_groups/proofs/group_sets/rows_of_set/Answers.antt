use Rattle.std.proofs.Common.{◌≡◌, subst, map, rules}
use Rattle.std.specs.Prelude.{IfOk}
use Rattle.plan_denote.specs.Aggregate.{keys_in}
use Rattle.plan_denote.specs.Denote.{any_measure}
use Rattle.plan_denote.specs.GroupSets.{entry_in}
use Rattle.row_steps.specs.Seen.{seen}
use Rattle.row_groups.proofs.GroupSetLaws.{by_keys}
use Rattle.row_groups.proofs.group_sets.rows_of_set.Goals as goal

pub returns : goal.returns
returns c =
    let own : c.as_slice-2.result.now ≡ map (entry_in c.args.set.now) c.args.entries.now = search rules in
    let keys : c.in_ok-keys.keys ≡ keys_in c.args.set.now c.in_ok-nulls.field-0 c.as_slice-2.result.now = search rules in
    subst (λ all. IfOk c.group_rows.result (λ s. seen s ≡ all))
    (by_keys c.args.number c.args.width (map any_measure c.args.measures.now) c.args.entries.now c.as_slice-2.result.now c.args.set.now c.in_ok-nulls.field-0 c.args.last c.in_ok-keys.keys own c.in_ok-nulls.ensures keys)
    c.group_rows.ensures
