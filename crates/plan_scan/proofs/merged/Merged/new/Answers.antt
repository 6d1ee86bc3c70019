use Rattle.std.proofs.Common.{◌∙◌, ◌∷◌, ap}
use Rattle.std.specs.List.{list_all}
use Rattle.pb_wire.specs.Payloads.{is_whole}
use Rattle.plan_scan.specs.Pieces.{pieces_of, later_of}
use Rattle.plan_scan.proofs.PieceLaws.{wholes}
use Rattle.plan_scan.proofs.merged.Merged.new.Goals as goal

pub index_for-requires : goal.index_for-requires
index_for-requires c =
    ap (λ later. list_all is_whole (c.args.first.now ∷ pieces_of later)) (c.later.ensures ∙ ap (λ own. later_of own c.args.known.now) c.deref.ensures.value)
    ∙ wholes c.args.below c.args.shape (c.args.first.now ∷ pieces_of (later_of c.args.own.items c.args.known.now)) c.requires
