use Rattle.std.proofs.Common.{◌≡◌, ◌∙◌, ◌∷◌, ap, true}
use Rattle.std.specs.Str.{is_utf8}
use Rattle.std.proofs.lemmas.Str.{IsUtf8-from_is_utf8}
use Rattle.plan_scan.specs.Pieces.{pieces_of}
use Rattle.plan_scan.proofs.PieceLaws.{IsReadable, readable_message, text_well}
use Rattle.plan_scan.proofs.message.Message.text.Goals as goal

pub unreachable-requires : goal.unreachable-requires
unreachable-requires c =
    let message : IsReadable c.args.self.now = readable_message c.self.inside.shape c.self.inside.below (c.self.inside.first.now ∷ pieces_of c.self.inside.later.now) c.args.self.now c.self.view_is c.self.invariant.0 in
    let text : is_utf8 c.bytes.result.now ≡ true = ap is_utf8 c.bytes.ensures ∙ text_well c.args.self.now c.args.number message c.requires in
    c.in-Err.ensures.cases.0 (IsUtf8-from_is_utf8 c.bytes.result.now text)
