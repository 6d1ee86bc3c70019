use Rattle.std.proofs.Common.{◌++◌, arith}
use Rattle.col_text.specs.Text.{HoldsTexts}
use Rattle.col_text.proofs.TextLaws.{HoldsTexts-seen, HoldsTexts-shown, HoldsTexts-append, seen}
use Rattle.col_text.proofs.column.TextCol.append.Goals as goal

-- the buffers hold the one column and then the other
appended : (c : goal.In_default-append) → HoldsTexts (c.args.self.now ++ c.args.more.now) c.add_ends.new.ends c.extend_from_slice.new.self.items c.append.new.self
appended c =
    let own = c.self.inside in
    let holds = HoldsTexts-seen c.args.self.now own.ends own.bytes.items own.valid c.self.view_is c.self.invariant in
    rw (c.in_default.ensures.ok, c.in_default-append.ensures.ok, c.in_ok-extend_from_slice.ensures.items, c.bytes.ensures, c.validity-from.ensures.bits) (HoldsTexts-append c.args.self.now c.args.more.now own.ends own.bytes.items own.valid c.len-before.result (omega (arith, c.len-before.ensures, own.bytes.ok)) holds)

pub invariant_of-self-in_default-append : goal.invariant_of-self-in_default-append
invariant_of-self-in_default-append c = HoldsTexts-shown (c.args.self.now ++ c.args.more.now) _ _ _ (appended c)

pub returns-clause-ok : goal.returns-clause-ok
returns-clause-ok c = seen (c.args.self.now ++ c.args.more.now) _ _ _ (appended c)
