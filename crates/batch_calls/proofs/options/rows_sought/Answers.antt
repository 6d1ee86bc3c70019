-- Each row is sought on, or its value is found.
use Rattle.std.proofs.Common.{rules, ◌≡◌, ◌+◌, ◌<◌, ◌++◌, ◌∷◌, [], length, true, false, get_or, sym, subst}
use Rattle.batch.specs.ColumnValues.{values_of}
use Rattle.batch_nodes.specs.Found.{found_values}
use Rattle.batch_nodes.specs.Options.{is_found, paired}
use Rattle.batch_nodes.proofs.OpenLaws.{IsOpenSoFar}
use Rattle.plan_denote.specs.Logic.{is_truth}
use Rattle.batch_calls.proofs.SoughtLaws.{sought-more, sought-settled, sought-end}
use Rattle.batch_calls.proofs.options.rows_sought.Goals as goal
use Rattle.batch_calls.proofs.options.rows_sought.Goals.{then-not-is_answer+in_ok-push, else-not-is_answer}

pub loop-i-preserved : goal.loop-i-preserved
loop-i-preserved c =
    let found = found_values c.args.values.now in
    let answers = values_of c.args.answers.now.values in
    let rows = c.args.rows.now in
    let i = c.loop-i.i in
    let there : i < length answers = search rules in
    elim c.if-not-is_answer.branch [
      | then-not-is_answer+in_ok-push w ↦
          let not_found : is_truth true c.in_ok-answer.answer ≡ false = search rules in
          let left : c.if-not-is_answer.left.items ≡ c.loop-i.left.items ++ get_or rows i 0 ∷ [] = search rules in
          subst (IsOpenSoFar is_found rows (paired found answers) (i + 1)) (sym left) (sought-more rows found answers c.requires.same c.requires.long i c.in_ok-answer.answer c.loop-i.left.items c.loop-i.invariant there c.in_ok-answer.ensures not_found)
      | else-not-is_answer w ↦
          let settled : is_truth true c.in_ok-answer.answer ≡ true = search rules in
          let left : c.if-not-is_answer.left.items ≡ c.loop-i.left.items = search rules in
          subst (IsOpenSoFar is_found rows (paired found answers) (i + 1)) (sym left) (sought-settled rows found answers c.requires.same c.requires.long i c.in_ok-answer.answer c.loop-i.left.items c.loop-i.invariant there c.in_ok-answer.ensures settled)
    ]

pub returns : goal.returns
returns c = sought-end c.args.rows.now (found_values c.args.values.now) (values_of c.args.answers.now.values) c.requires.same c.requires.long c.loop-i.i c.loop-i.left.items c.loop-i.invariant (search rules)
