use Rattle.std.proofs.Common.{◌∙◌}
use Rattle.std.proofs.lemmas.Result.{IfOk-weaker}
use Rattle.col_text.proofs.GatherLaws.{bits_at_front, all_bits_at_front, bits_at_part}
use Rattle.col_text.proofs.view.TextView.gather_validity.Goals as goal

pub returns-then-from-gt0 : goal.returns-then-from-gt0
returns-then-from-gt0 c =
    let v = c.validity-from in
    let law = bits_at_part c.args.self.now v.result.0.now c.in_ok-part.field-0 c.args.at.now v.result.1 v.result.2 c.in_ok-part.ensures v.ensures.bits c.requires in
    IfOk-weaker c.gather-then-from-gt0.result _ _ (λ bits made. made ∙ law) c.gather-then-from-gt0.ensures

pub returns-then-is_all : goal.returns-then-is_all
returns-then-is_all c =
    let v = c.validity-from in
    let law = all_bits_at_front c.args.self.now v.result.0.now c.args.at.now v.result.1 v.result.2 c.if-from-gt0.false v.ensures.within v.ensures.bits c.requires (c.is_all.ensures.0 c.if-is_all.true) in
    IfOk-weaker c.ones.result _ _ (λ bits made. made ∙ law) c.ones.ensures

pub returns : goal.returns
returns c =
    let v = c.validity-from in
    let law = bits_at_front c.args.self.now v.result.0.now c.args.at.now v.result.1 v.result.2 c.if-from-gt0.false v.ensures.within v.ensures.bits c.requires in
    IfOk-weaker c.gather-2.result _ _ (λ bits made. made ∙ law) c.gather-2.ensures
