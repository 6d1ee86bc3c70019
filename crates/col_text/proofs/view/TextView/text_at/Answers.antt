use Rattle.std.proofs.Common.{◌∙◌, ◌<◌, length, arith}
use Rattle.col_text.proofs.GatherLaws.{text_of_part}
use Rattle.col_text.proofs.view.TextView.text_at.Goals as goal

pub returns : goal.returns
returns c =
    let part = c.self.inside in
    let below : c.args.i < length c.args.self.now = omega arith in
    c.bytes_between.ensures ∙ text_of_part part.column.now c.args.self.now part.from part.len c.args.i c.self.invariant.within c.self.view_is below
