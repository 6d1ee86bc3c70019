use Rattle.std.proofs.Common.{ap, ◌∙◌, sym, arith}
use Rattle.scan_claims.specs.Claims.{ClaimTable, SeatView}
use Rattle.scan_claims.proofs.Draws.{splits}
use Rattle.scan_claims.proofs.claims.Claims.split.Goals as goal

pub split_seat-right-requires : goal.split_seat-right-requires
split_seat-right-requires c =
    let tied = ap (λ (v : SeatView). v.of) c.seat.view_is ∙ (c.requires.of ∙ sym c.self.view_is) in
    let k = c.self.inside.table.shared.key in
    let v = c.seat.inside.seat.me.0 in
    let ended = ap (λ (u : SeatView). u.ended) c.seat.view_is ∙ c.requires.open.0 in
    let share = ap (λ (u : SeatView). u.share) c.seat.view_is in
    (ap (λ (t : ClaimTable). t.table) tied, omega (arith, c.self.invariant.0), λ s h at. (h.0, splits k.count k.seats _ s.views _ v h.1 at (omega (arith, c.requires.open.1, share)) (c.seat.invariant.open_ended ended)))
