use Rattle.std.proofs.Common.{◌∙◌, ◌++◌, ◌∷◌, [], map, sym, ap, arith}
use Rattle.std.specs.List.{range_with_len}
use Rattle.std.proofs.lemmas.List.FromFn.{map-range_with_len_more}
use Rattle.set_inputs.specs.Inputs.{column_over}
use Rattle.set_inputs.proofs.places.columns_over.Goals as goal

pub loop-place-preserved : goal.loop-place-preserved
loop-place-preserved c =
    let l = c.loop-place in
    let f = column_over c.args.nulls c.args.set.now in
    let done = map f (range_with_len 0 l.place) in
    c.in_ok-push.ensures.items
    ∙ ap (λ x. l.columns.items ++ x ∷ []) (c.in_ok-column.ensures ∙ c.column_over.ensures)
    ∙ ap (λ xs. xs ++ f l.place ∷ []) l.invariant
    ∙ sym (map-range_with_len_more f 0 l.place l.place (omega arith))
