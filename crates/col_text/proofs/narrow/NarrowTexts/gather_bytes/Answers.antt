use Rattle.std.proofs.Common.{◌∙◌, ◌++◌, ◌<◌, [], List, ℕ, take, get_or, length, ap, sym, arith}
use Rattle.std.specs.List.{concat}
use Rattle.col_text.specs.Text.{picked}
use Rattle.col_text.proofs.GatherLaws.{picked-more, concat-push}
use Rattle.col_text.proofs.narrow.NarrowTexts.gather_bytes.Goals as goal

pub loop-i-preserved : goal.loop-i-preserved
loop-i-preserved c =
    let texts = c.args.self.now in
    let at = c.args.at.now in
    let k = c.loop-i.i-index in
    let before = picked texts (take k at) in
    let text = get_or texts (get_or at k 0) [] in
    let below : k < length at = omega arith in
    c.in_ok-push_first.ensures.ok ∙ ap (λ (bytes : List ℕ). bytes ++ take c.text_at-size.result.1 c.text_at-size.result.0.now) c.loop-i.invariant ∙ ap (λ (t : List ℕ). concat before ++ t) c.text_at-size.ensures.text
    ∙ sym (ap concat (picked-more texts at k below) ∙ concat-push before text)
