use Rattle.std.proofs.Common.{◌≡◌, ◌∙◌, ◌∷◌, List, ℕ, ap, sym, subst, true}
use Rattle.std.specs.List.{concat}
use Rattle.pb_wire.specs.Payloads.{fields_of, is_other, behind_last}
use Rattle.plan_scan.specs.Scanned.{Scanned, is_readable, field_well}
use Rattle.plan_scan.specs.Member.{is_member}
use Rattle.plan_scan.specs.Pieces.{pieces_of}
use Rattle.plan_scan.proofs.PieceLaws.{IsReadable, readable_message, all_well, all_behind, well_pieces}
use Rattle.plan_scan.proofs.MemberLaws.{winner_records}
use Rattle.plan_scan.proofs.message.Message.oneof.Goals as goal

pub of_pieces-won-requires : goal.of_pieces-won-requires
of_pieces-won-requires c =
    let message : IsReadable c.args.self.now = readable_message c.self.inside.shape c.self.inside.below (c.self.inside.first.now ∷ pieces_of c.self.inside.later.now) c.args.self.now c.self.view_is c.self.invariant.0 in
    let pieces : List (List ℕ) = c.pieces.result.0.now ∷ pieces_of c.pieces.result.1.now in
    let test = is_other (is_member c.args.oneof) c.in_ok-number.number in
    let since : fields_of (concat pieces) ≡ behind_last test (fields_of c.args.self.now.bytes) = ap fields_of c.pieces.ensures.bytes ∙ winner_records (is_member c.args.oneof) (fields_of c.args.self.now.bytes) (record { number = c.in_ok-number.number; records = fields_of c.in_ok-number.since }) (sym c.in_ok-number.ensures.member) in
    let well : all_well c.args.self.now.below c.args.self.now.shape (fields_of (concat pieces)) ≡ true =
    ap (all_well c.args.self.now.below c.args.self.now.shape) since
    ∙ all_behind (field_well (is_readable c.args.self.now.below) c.args.self.now.shape) test (fields_of c.args.self.now.bytes) message.fields in
    let P : Scanned → Type 0 = λ m. all_well m.below m.shape (fields_of (concat pieces)) ≡ true in
    well_pieces c.self.inside.below c.self.inside.shape pieces c.pieces.ensures.whole (subst P (sym c.self.view_is) well)
