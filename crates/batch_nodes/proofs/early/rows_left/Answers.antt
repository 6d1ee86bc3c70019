-- Each row is left open, or its value settles the call.
use Rattle.std.proofs.Common.{rules, ◌≡◌, ◌<◌, ◌+◌, ◌++◌, ◌∷◌, [], length, is_some, true, false, get_or, sym, subst}
use Rattle.sub_types.specs.declared.value.Value.TheVariants.{Null}
use Rattle.batch.specs.ColumnValues.{values_of}
use Rattle.batch_nodes.specs.Early.{settles}
use Rattle.batch_nodes.proofs.OpenLaws.{IsOpenSoFar, IsOpenSoFar-settled, IsOpenSoFar-more, IsOpenSoFar-end}
use Rattle.batch_nodes.proofs.early.rows_left.Goals as goal
use Rattle.batch_nodes.proofs.early.rows_left.Goals.{then-not-settles+in_ok-push, else-not-settles}

pub loop-i-preserved : goal.loop-i-preserved
loop-i-preserved c =
    let values = values_of c.args.values.now.values in
    let i = c.loop-i.i in
    let there : i < length values = search rules in
    let row_there : i < length c.args.rows.now = search rules in
    elim c.if-not-settles.branch [
      | then-not-settles+in_ok-push w ↦
          let is : is_some (settles c.args.early c.in_ok-value.value) ≡ false = search rules in
          let left : c.if-not-settles.left.items ≡ c.loop-i.left.items ++ get_or c.args.rows.now i 0 ∷ [] = search rules in
          subst (IsOpenSoFar (settles c.args.early) c.args.rows.now values (i + 1)) (sym left) (IsOpenSoFar-more (settles c.args.early) c.args.rows.now values i 0 Null c.in_ok-value.value c.loop-i.left.items c.loop-i.invariant row_there there c.in_ok-value.ensures is)
      | else-not-settles w ↦
          let is : is_some (settles c.args.early c.in_ok-value.value) ≡ true = search rules in
          let left : c.if-not-settles.left.items ≡ c.loop-i.left.items = search rules in
          subst (IsOpenSoFar (settles c.args.early) c.args.rows.now values (i + 1)) (sym left) (IsOpenSoFar-settled (settles c.args.early) c.args.rows.now values i Null c.in_ok-value.value c.loop-i.left.items c.loop-i.invariant row_there there c.in_ok-value.ensures is)
    ]

pub returns : goal.returns
returns c = IsOpenSoFar-end (settles c.args.early) c.args.rows.now (values_of c.args.values.now.values) c.loop-i.i c.loop-i.left.items c.loop-i.invariant (search rules)
