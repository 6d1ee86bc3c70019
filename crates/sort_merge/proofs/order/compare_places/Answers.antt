use Rattle.std.proofs.Common.{rules, tests, ◌≡◌, ◌&&◌, true, false}
use Rattle.batch_places.specs.BatchRow.{has_row}
use Rattle.sort_merge.proofs.RowLaws.{by_keys, by_presence, not_first, not_second}
use Rattle.sort_merge.proofs.order.compare_places.Goals as goal
use Rattle.sort_merge.proofs.order.compare_places.Goals.{else-first-via-then-first+else-second, else-first-via-else-first}

pub returns-then-second : goal.returns-then-second
returns-then-second c =
    let batch = c.args.batch.now in
    let here : has_row batch c.args.a ≡ true = search (rules, tests) in
    let there : has_row batch c.args.b ≡ true = search (rules, tests) in
    by_keys c.args.keys.now batch c.args.a c.args.b c.compare_keys.result here there c.compare_keys.ensures

pub returns : goal.returns
returns c =
    let batch = c.args.batch.now in
    let not_both : has_row batch c.args.a && has_row batch c.args.b ≡ false =
    elim c.else-first.branch [
      | else-first-via-then-first+else-second w ↦ let none : has_row batch c.args.b ≡ false = search (rules, tests) in not_second (has_row batch c.args.a) (has_row batch c.args.b) none
      | else-first-via-else-first w ↦ let none : has_row batch c.args.a ≡ false = search (rules, tests) in not_first (has_row batch c.args.a) (has_row batch c.args.b) none
    ] in
    by_presence c.args.keys.now batch c.args.a c.args.b c.cmp.result not_both c.cmp.ensures
