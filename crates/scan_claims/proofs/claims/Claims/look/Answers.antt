use Rattle.std.proofs.Common.{ap, ◌∙◌, sym, arith}
use Rattle.scan_claims.specs.Claims.{ClaimTable, SeatView}
use Rattle.scan_claims.proofs.Draws.{look_allows}
use Rattle.scan_claims.proofs.claims.Claims.look.Goals as goal

pub load-requires : goal.load-requires
load-requires c =
    let tied = ap (λ (v : SeatView). v.of) c.seat.view_is ∙ (c.requires ∙ sym c.self.view_is) in
    let k = c.self.inside.table.shared.key in
    (ap (λ (t : ClaimTable). t.table) tied, omega (arith, c.self.invariant.0), look_allows k _ _ _ c.seat.invariant.some_share)
