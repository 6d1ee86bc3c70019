-- Each row is left open, or its choice is another.
use Rattle.std.proofs.Common.{rules, ◌≡◌, ◌<◌, ◌+◌, ◌++◌, ◌∷◌, [], length, is_some, true, false, get_or, refl, sym, subst}
use Rattle.batch_nodes.specs.Chosen.{other_than}
use Rattle.batch_nodes.proofs.ChosenLaws.{is_open, is_settled}
use Rattle.batch_nodes.proofs.OpenLaws.{IsOpenSoFar, IsOpenSoFar-settled, IsOpenSoFar-more, IsOpenSoFar-end}
use Rattle.batch_nodes.proofs.choices.rows_choosing.Goals as goal
use Rattle.batch_nodes.proofs.choices.rows_choosing.Goals.{then-choices-i+in_ok-push, else-choices-i}

pub loop-i-preserved : goal.loop-i-preserved
loop-i-preserved c =
    let choice = c.args.choice in
    let choices = c.args.choices.now in
    let i = c.loop-i.i in
    let x = get_or choices i 0 in
    let there : i < length choices = search rules in
    let row_there : i < length c.args.rows.now = search rules in
    elim c.if-choices-i.branch [
      | then-choices-i+in_ok-push w ↦
          let is : is_some (other_than choice x) ≡ false = is_open choice x w.if-choices-i.true in
          let left : c.if-choices-i.left.items ≡ c.loop-i.left.items ++ get_or c.args.rows.now i 0 ∷ [] = search rules in
          subst (IsOpenSoFar (other_than choice) c.args.rows.now choices (i + 1)) (sym left) (IsOpenSoFar-more (other_than choice) c.args.rows.now choices i 0 0 x c.loop-i.left.items c.loop-i.invariant row_there there refl is)
      | else-choices-i w ↦
          let is : is_some (other_than choice x) ≡ true = is_settled choice x w.if-choices-i.false in
          let left : c.if-choices-i.left.items ≡ c.loop-i.left.items = search rules in
          subst (IsOpenSoFar (other_than choice) c.args.rows.now choices (i + 1)) (sym left) (IsOpenSoFar-settled (other_than choice) c.args.rows.now choices i 0 x c.loop-i.left.items c.loop-i.invariant row_there there refl is)
    ]

pub returns : goal.returns
returns c = IsOpenSoFar-end (other_than c.args.choice) c.args.rows.now c.args.choices.now c.loop-i.i c.loop-i.left.items c.loop-i.invariant (search rules)
