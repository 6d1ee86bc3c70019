use Rattle.std.proofs.Common.{◌∙◌, arith}
use Rattle.col_text.proofs.TextLaws.{HoldsTexts-seen, HoldsTexts-length, HoldsTexts-offset}
use Rattle.col_text.proofs.column.TextCol.offset.Goals as goal

pub get-requires : goal.get-requires
get-requires c =
    let own = c.self.inside in
    let holds = HoldsTexts-seen c.args.self.now own.ends own.bytes.items own.valid c.self.view_is c.self.invariant in
    omega (arith, HoldsTexts-length c.args.self.now own.ends own.bytes.items own.valid holds)

pub returns : goal.returns
returns c =
    let own = c.self.inside in
    let holds = HoldsTexts-seen c.args.self.now own.ends own.bytes.items own.valid c.self.view_is c.self.invariant in
    c.get.ensures ∙ HoldsTexts-offset c.args.self.now own.ends own.bytes.items own.valid c.args.i 0 holds (omega arith) c.requires
