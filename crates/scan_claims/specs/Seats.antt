-- A seat in memory as callers see it.
use Rattle.std.specs.Prelude.{◌≡◌, ◌<◌, ◌≤◌, Bool, true, false, []}
use Rattle.atomic_table.specs.declared.shared.Seat.{Seat}
use Rattle.scan_claims.specs.Claims.{SeatView}
use Rattle.scan_claims.specs.declared.rule.Draws.{Draws}

-- the seat as callers see it
abbrev pub view_of : Seat (Unit {0}) Draws → Bool → SeatView
view_of s ended = record { of = record { table = s.table_id; count = s.me.0.count; seats = s.me.0.seats }; numbers = s.me.0.numbers; ended = ended; share = s.me.0.share }

-- it holds no slot, has a share, and has ended just where it met an end
pub record IsSeat (s : Seat (Unit {0}) Draws) (ended : Bool) : Type 0 where
  pub empty : s.me.1 ≡ []
  pub some_share : 1 ≤ s.me.0.share
  pub met : ended ≡ true → 0 < s.me.0.ends
  pub open_ended : ended ≡ false → s.me.0.ends ≡ 0
