use Rattle.std.proofs.Common.{[], arith}
use Rattle.sub_types.specs.Slots.{slots, length-slots}
use Rattle.col_text.proofs.TextLaws.{offset_of-part, offset_of-le}
use Rattle.col_text.proofs.column.TextCol.extent.Goals as goal

pub returns-clause-rising : goal.returns-clause-rising
returns-clause-rising c =
    let texts = slots [] c.args.self.now in
    omega (arith, c.offset.ensures, c.offset-2.ensures, offset_of-part texts c.args.from c.args.to c.requires.rising (omega (arith, length-slots [] c.args.self.now)))

pub returns-clause-within : goal.returns-clause-within
returns-clause-within c = omega (arith, c.offset-2.ensures, offset_of-le (slots [] c.args.self.now) c.args.to)
