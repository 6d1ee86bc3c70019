use Rattle.std.proofs.Common.{◌≡◌, ◌∙◌, ◌≤◌, [], length, All, sym, ap, subst, refl}
use Rattle.group_tallies.specs.Kept.{tallies_in}
use Rattle.group_columns.specs.Columns.{count_in}
use Rattle.group_states.specs.States.{keys_before, columns_kept}
use Rattle.group_states.proofs.StateLaws.{kinds, kinds_in, kinds_before, columns_first, each_kept, sized_first, counted_first}
use Rattle.group_states.proofs.groups.Groups.new.Goals as goal

pub returns-clause-sound : goal.returns-clause-sound
returns-clause-sound c =
    let columns = c.in_ok-columns.columns.items in
    record {
      kept = c.in_ok-keys.ensures.kept;
      sized = subst (λ n. All (λ tallies. length (tallies_in tallies) ≡ n) columns) (sym (ap length c.in_ok-keys.ensures.rows))
          (each_kept (λ kept. length kept.tallies ≡ length (keys_before c.args.is_grouped)) c.args.is_grouped (sized_first c.args.is_grouped) columns c.args.keepings.now c.in_ok-columns.ensures);
      counted = each_kept (λ kept. count_in kept.tallies ≤ 0) c.args.is_grouped (counted_first c.args.is_grouped) columns c.args.keepings.now c.in_ok-columns.ensures;
    }

pub returns-clause-knows : goal.returns-clause-knows
returns-clause-knows c =
    record {
      rows = refl;
      covers = λ key e. refl;
      columns = c.in_ok-columns.ensures ∙ columns_first c.args.is_grouped 0 c.args.keepings.now ∙ ap (columns_kept 0 c.args.keepings.now []) (sym c.in_ok-keys.ensures.rows);
    }

pub returns-clause-keeping : goal.returns-clause-keeping
returns-clause-keeping c = kinds_in c.in_ok-columns.columns.items ∙ ap kinds c.in_ok-columns.ensures ∙ kinds_before c.args.is_grouped c.args.keepings.now
