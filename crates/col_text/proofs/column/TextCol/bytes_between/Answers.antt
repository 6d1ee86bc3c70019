use Rattle.std.proofs.Common.{[], arith}
use Rattle.sub_types.specs.Slots.{slots, length-slots}
use Rattle.col_text.proofs.TextLaws.{slice-offset_of}
use Rattle.col_text.proofs.column.TextCol.bytes_between.Goals as goal

pub returns : goal.returns
returns c =
    let texts = slots [] c.args.self.now in
    rw (c.bytes.ensures, c.extent-begin.ensures.begin, c.extent-begin.ensures.end) (slice-offset_of texts c.args.from c.args.to c.requires.rising (omega (arith, length-slots [] c.args.self.now)))
