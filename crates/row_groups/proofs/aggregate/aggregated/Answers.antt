use Rattle.std.proofs.Common.{◌≡◌, ◌∙◌, true, false, List, ap, subst, map, rules}
use Rattle.std.specs.Prelude.{IfOk, is_some}
use Rattle.plan_denote.specs.Aggregate.{Entry, aggregated, rows_of_summary, summary}
use Rattle.plan_denote.specs.Denote.{measure_of}
use Rattle.plan_denote.specs.Eval.{eval}
use Rattle.row_steps.specs.Seen.{seen}
use Rattle.row_groups.proofs.WholeLaws.{of_fault, of_all}
use Rattle.row_groups.proofs.aggregate.aggregated.Goals as goal

pub returns-then-is_some : goal.returns-then-is_some
unfolding aggregated
returns-then-is_some c =
    let given = λ (entries : List Entry). rows_of_summary c.args.number (map measure_of c.args.measures.now) (summary (map eval c.args.groups.now) (map measure_of c.args.measures.now) entries) in
    let some : is_some c.in_ok-entries.entries.end ≡ true = search rules in
    c.ended.ensures ∙ of_fault given c.in_ok-entries.entries.rows c.in_ok-entries.entries.end _ c.in_ok-entries.ensures some

pub returns : goal.returns
unfolding aggregated
returns c =
    let given = λ (entries : List Entry). rows_of_summary c.args.number (map measure_of c.args.measures.now) (summary (map eval c.args.groups.now) (map measure_of c.args.measures.now) entries) in
    let none : is_some c.in_ok-entries.entries.end ≡ false = search rules in
    subst (λ all. IfOk c.rows_of_entries.result (λ s. seen s ≡ all))
    (ap given c.as_slice.ensures ∙ of_all given c.in_ok-entries.entries.rows c.in_ok-entries.entries.end _ c.in_ok-entries.ensures none)
    c.rows_of_entries.ensures
