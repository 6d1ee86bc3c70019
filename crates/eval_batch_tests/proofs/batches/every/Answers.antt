-- What is selected is among all rows.
use Rattle.std.proofs.Common.{rules, ◌≡◌, ◌<◌, All, length, sym, subst}
use Rattle.std.specs.List.{range_with_len}
use Rattle.std.proofs.lemmas.List.Elements.{All-filter}
use Rattle.eval_batch_tests.proofs.FitLaws.{all_below}
use Rattle.eval_batch_tests.proofs.batches.every.Goals as goal

pub returns : goal.returns
returns c =
    let taken = c.finish-taken.result in
    let count : length taken ≡ c.args.rows = search rules in
    subst (All (λ row. row < c.args.rows)) (sym c.in_ok-on.ensures)
    (All-filter _ (λ row. row < c.args.rows) (range_with_len 0 (length taken)) (subst (λ n. All (λ row. row < c.args.rows) (range_with_len 0 n)) (sym count) (all_below c.args.rows)))
