use Rattle.std.proofs.Common.{arith}
use Rattle.col_text.proofs.TextLaws.{HoldsTexts-seen, HoldsTexts-length}
use Rattle.col_text.proofs.column.TextCol.len.Goals as goal

pub returns : goal.returns
returns c =
    let own = c.self.inside in
    let holds = HoldsTexts-seen c.args.self.now own.ends own.bytes.items own.valid c.self.view_is c.self.invariant in
    omega (arith, HoldsTexts-length c.args.self.now own.ends own.bytes.items own.valid holds)
