use Rattle.std.proofs.Common.{◌∙◌, [], length, subst, refl}
use Rattle.group_states.specs.States.{Knows}
use Rattle.set_states.proofs.SetLaws.{none_kept}
use Rattle.set_states.proofs.set.SetGroups.new.Goals as goal

pub returns : goal.returns
returns c =
    let e = c.in_ok-groups.ensures in
    let kinds = c.as_slice.ensures.value ∙ c.in_ok-keepings.ensures in
    λ set. record {
      sound = e.sound;
      kept = e.keeping ∙ kinds;
      keys = e.keys;
      knows = subst (λ kinds. Knows kinds [] c.in_ok-groups.groups) kinds e.knows;
      firsts = none_kept c.args.measures.now c.in_ok-groups.groups.keys.rows (length c.args.measures.now) c.in_ok-firsts.firsts.items refl c.in_ok-firsts.ensures;
    }
