use Rattle.std.proofs.Common.{ap, ◌∙◌, sym, arith}
use Rattle.scan_claims.specs.Claims.{ClaimTable, SeatView}
use Rattle.scan_claims.proofs.Draws.{draw_allows}
use Rattle.scan_claims.proofs.claims.Claims.claim.Goals as goal

pub fetch_add-number-requires : goal.fetch_add-number-requires
fetch_add-number-requires c =
    let tied = ap (λ (v : SeatView). v.of) c.seat.view_is ∙ (c.requires ∙ sym c.self.view_is) in
    let k = c.self.inside.table.shared.key in
    (ap (λ (t : ClaimTable). t.table) tied, omega (arith, c.self.invariant.0), draw_allows k _ _ _ c.seat.invariant.some_share (c.seat.invariant.open_ended c.if-seat.false))
