use Rattle.std.proofs.Common.{◌∙◌, ◌+◌, ap, arith, length}
use Rattle.std.specs.List.{slice_range}
use Rattle.sub_types.specs.PartLaws.{part-part, length-part}
use Rattle.col_text.proofs.view.TextView.part.Goals as goal

pub returns : goal.returns
returns c =
    let part = c.self.inside in
    let long = length-part part.column.now part.from (part.from + part.len) c.self.invariant.within in
    part-part part.column.now part.from part.len c.args.from c.args.to c.requires.rising (omega (arith, long, ap length c.self.view_is)) c.self.invariant.within
    ∙ ap (λ xs. slice_range xs c.args.from c.args.to) c.self.view_is
