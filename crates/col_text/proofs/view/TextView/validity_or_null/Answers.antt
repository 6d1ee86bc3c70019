use Rattle.std.proofs.Common.{◌∙◌, ◌++◌, ◌∷◌, ◌<◌, [], Bool, List, is_some, take, map, length, ap, sym, arith}
use Rattle.col_text.specs.Text.{values_at}
use Rattle.col_text.proofs.GatherLaws.{validity-more}
use Rattle.col_text.proofs.view.TextView.validity_or_null.Goals as goal

pub loop-i-preserved : goal.loop-i-preserved
loop-i-preserved c =
    let part = c.args.self.now in
    let at = c.args.at.now in
    let k = c.loop-i.i-index in
    let below : k < length at = omega arith in
    c.in_ok-push.ensures.ok ∙ ap (λ (bits : List Bool). bits ++ c.is_there.result ∷ []) c.loop-i.invariant ∙ ap (λ b. map is_some (values_at part (take k at)) ++ b ∷ []) c.is_there.ensures ∙ sym (validity-more part at k below)
