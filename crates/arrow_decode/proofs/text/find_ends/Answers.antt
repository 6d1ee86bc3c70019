use Rattle.std.proofs.Common.{◌∙◌, ap, true, false}
use Rattle.std.proofs.lemmas.Result.{IfOk-weaker}
use Rattle.arrow_decode.specs.Offsets.{risen}
use Rattle.arrow_decode.proofs.ChunkLaws.{ends_read_as}
use Rattle.arrow_decode.proofs.text.find_ends.Goals as goal

pub returns-then-wide : goal.returns-then-wide
returns-then-wide c =
    let law = ends_read_as true c.args.wide c.args.count c.args.begin c.offset_size-size.result c.args.buffer.now c.split_at.result.1.now c.split_at-2.result.0.now c.if-wide.true c.offset_size-size.ensures.size c.split_at.ensures.back c.split_at-2.ensures.front c.split_at-2.ensures.front_len in
    IfOk-weaker c.find_wide_ends.result _ _ (λ ends read. read ∙ ap (risen c.args.most) law) c.find_wide_ends.ensures

pub returns-else-wide : goal.returns-else-wide
returns-else-wide c =
    let law = ends_read_as false c.args.wide c.args.count c.args.begin c.offset_size-size.result c.args.buffer.now c.split_at.result.1.now c.split_at-2.result.0.now c.if-wide.false c.offset_size-size.ensures.size c.split_at.ensures.back c.split_at-2.ensures.front c.split_at-2.ensures.front_len in
    IfOk-weaker c.find_short_ends.result _ _ (λ ends read. read ∙ ap (risen c.args.most) law) c.find_short_ends.ensures
