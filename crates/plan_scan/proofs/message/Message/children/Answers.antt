use Rattle.std.proofs.Common.{◌∙◌, ◌∷◌, ap}
use Rattle.std.specs.List.{list_all}
use Rattle.plan_scan.specs.Scanned.{Scanned, is_readable}
use Rattle.plan_scan.specs.Pieces.{pieces_of}
use Rattle.plan_scan.proofs.PieceLaws.{IsReadable, readable_message, readable_children}
use Rattle.plan_scan.proofs.message.Message.children.Goals as goal

pub new-requires : goal.new-requires
new-requires c =
    let message : IsReadable c.args.self.now = readable_message c.self.inside.shape c.self.inside.below (c.self.inside.first.now ∷ pieces_of c.self.inside.later.now) c.args.self.now c.self.view_is c.self.invariant.0 in
    ap (λ n. list_all (is_readable n c.args.shape) c.blocks-2.result) (ap (λ (m : Scanned). m.below) c.self.view_is)
    ∙ readable_children c.args.self.now c.args.number c.args.shape c.blocks-2.result message c.requires c.blocks-2.ensures
