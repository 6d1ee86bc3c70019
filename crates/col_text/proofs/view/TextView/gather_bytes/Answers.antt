use Rattle.std.proofs.Common.{◌∙◌, ◌++◌, ◌<◌, [], List, ℕ, take, get_or, length, ap, sym, arith}
use Rattle.std.specs.List.{concat}
use Rattle.sub_types.specs.Slots.{slots}
use Rattle.col_text.specs.Text.{texts_at}
use Rattle.col_text.proofs.GatherLaws.{texts_at-more, concat-push}
use Rattle.col_text.proofs.view.TextView.gather_bytes.Goals as goal

pub loop-i-preserved : goal.loop-i-preserved
loop-i-preserved c =
    let column = c.args.self.now in
    let at = c.args.at.now in
    let k = c.loop-i.i-index in
    let text = get_or (slots [] column) (get_or at k 0) [] in
    let below : k < length at = omega arith in
    c.in_ok-extend_from_slice.ensures.items ∙ ap (λ (bytes : List ℕ). bytes ++ c.text_at.result.now) c.loop-i.invariant ∙ ap (λ (t : List ℕ). concat (texts_at column (take k at)) ++ t) c.text_at.ensures
    ∙ sym (ap concat (texts_at-more column at k below) ∙ concat-push (texts_at column (take k at)) text)
