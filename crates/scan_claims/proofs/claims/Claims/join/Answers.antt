use Rattle.std.proofs.Common.{ap, ◌∙◌, sym, arith}
use Rattle.scan_claims.specs.Claims.{ClaimTable, SeatView}
use Rattle.scan_claims.proofs.Draws.{joins}
use Rattle.scan_claims.proofs.claims.Claims.join.Goals as goal

pub join_seat-requires : goal.join_seat-requires
join_seat-requires c =
    let tied = ap (λ (v : SeatView). v.of) c.seat.view_is ∙ (c.requires.0 ∙ sym c.self.view_is) in
    let tied' = ap (λ (v : SeatView). v.of) c.other.view_is ∙ (c.requires.1 ∙ sym c.self.view_is) in
    let k = c.self.inside.table.shared.key in
    let v = c.seat.inside.seat.me.0 in
    let w = c.other.inside.seat.me.0 in (
      ap (λ (t : ClaimTable). t.table) tied,
      ap (λ (t : ClaimTable). t.table) tied',
      c.other.invariant.empty,
      omega (arith, c.self.invariant.0),
      λ s h at two at'. (h.0, joins k.count k.seats _ s.views _ v _ w h.1 at two at' c.seat.invariant.some_share),
    )
