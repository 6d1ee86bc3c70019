use Rattle.std.proofs.Common.{◌≡◌, ◌∙◌, true, false, ap, subst, map, length, rules}
use Rattle.std.specs.Prelude.{IfOk, is_some}
use Rattle.plan_denote.specs.GroupSets.{grouping_sets, rows_of_sets}
use Rattle.plan_denote.specs.Denote.{any_measure}
use Rattle.plan_denote.specs.Eval.{eval}
use Rattle.row_steps.specs.Seen.{seen}
use Rattle.row_groups.proofs.WholeLaws.{of_fault, of_all}
use Rattle.row_groups.proofs.GroupSetLaws.{width_of, measures_of}
use Rattle.row_groups.proofs.group_sets.grouping_sets.Goals as goal

pub returns-then-is_some : goal.returns-then-is_some
unfolding grouping_sets
returns-then-is_some c =
    let given = rows_of_sets c.args.number (length (map eval c.args.groups.now)) c.args.sets.now (map any_measure c.args.measures.now) in
    let some : is_some c.in_ok-entries.entries.end ≡ true = search rules in
    c.ended.ensures ∙ of_fault given c.in_ok-entries.entries.rows c.in_ok-entries.entries.end _ (c.in_ok-entries.ensures ∙ measures_of c.args.number (map eval c.args.groups.now) c.args.measures.now (seen c.args.input)) some

pub returns : goal.returns
unfolding grouping_sets
returns c =
    let given = rows_of_sets c.args.number (length (map eval c.args.groups.now)) c.args.sets.now (map any_measure c.args.measures.now) in
    let none : is_some c.in_ok-entries.entries.end ≡ false = search rules in
    subst (λ all. IfOk c.rows_of_sets.result (λ s. seen s ≡ all))
    (ap (λ width. rows_of_sets c.args.number width c.args.sets.now (map any_measure c.args.measures.now) c.as_slice.result.now) (width_of eval c.args.groups.now)
    ∙ ap given c.as_slice.ensures
    ∙ of_all given c.in_ok-entries.entries.rows c.in_ok-entries.entries.end _ (c.in_ok-entries.ensures ∙ measures_of c.args.number (map eval c.args.groups.now) c.args.measures.now (seen c.args.input)) none)
    c.rows_of_sets.ensures
