use Rattle.std.proofs.Common.{◌≡◌, ◌+◌, ◌<◌, ◌≤◌, ◌∷◌, ◌++◌, ◌∙◌, [], length, get_or, take, sym, ap, subst, arith}
use Rattle.std.proofs.lemmas.List.{take_more, take_all}
use Rattle.arrow_write.proofs.BodyLaws.{HasColumns, HasColumns-more, HasRows-of-columns}
use Rattle.arrow_write.proofs.encoding.batch_body.Goals as goal

pub loop-column-preserved : goal.loop-column-preserved
loop-column-preserved c =
    let columns = c.args.batch.now.columns.items in
    let i = c.loop-column.column-index in
    let column = c.column-item.result in
    let lent = c.deref-column-items.ensures.value in
    let below : i < length columns = omega (arith, ap length lent) in
    let here : column ≡ get_or columns i column = c.column-item.is ∙ ap (λ xs. get_or xs i column) lent in
    let next : take i columns ++ column ∷ [] ≡ take (i + 1) columns = ap (λ x. take i columns ++ x ∷ []) here ∙ sym (take_more columns i column below) in
    subst (λ xs. HasColumns xs c.put_column.new.body) next (HasColumns-more (take i columns) column c.loop-column.body c.put_column.new.body c.loop-column.invariant c.in_ok-put_column.ensures.put c.in_ok-put_column.ensures.node)

pub returns : goal.returns
returns c =
    let columns = c.args.batch.now.columns.items in
    let i = c.loop-column.column-index in
    let done : length columns ≤ i = omega (arith, ap length c.deref-column-items.ensures.value) in
    HasRows-of-columns c.args.batch.now c.loop-column.body (subst (λ xs. HasColumns xs c.loop-column.body) (take_all i columns done) c.loop-column.invariant)
