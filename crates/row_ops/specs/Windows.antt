-- The places of the rows that a fetch takes.
use Rattle.std.specs.Prelude.{ℕ, ◌+◌, ◌-◌, Option, Some, None, nat_le, if◌then◌else◌}

-- the place of the first of them, or that behind the last row
abbrev pub window_start : ℕ → ℕ → ℕ
window_start offset rows = if nat_le offset rows then offset else rows

-- the place behind the last of them, out of those from a place on
abbrev pub window_end : ℕ → Option ℕ → ℕ → ℕ
window_end from None rows = rows
window_end from (Some count) rows = if nat_le count (rows - from) then from + count else rows
