-- Fetches (Substrait `FetchRel`).
use Rattle.std.specs.Prelude.{ℕ, ◌+◌, List, Option, Some, None, drop, take, length, nat_le, if◌then◌else◌}
use Rattle.sub_types.specs.declared.fault.Fault.{Fault}
use Rattle.sub_types.specs.Stream.{Stream}
use Rattle.plan_denote.specs.Rows.{Row}

-- the rows from a place on: so many at most, or all
abbrev pub window : ℕ → Option ℕ → List Row → List Row
window offset None rows = drop offset rows
window offset (Some count) rows = take count (drop offset rows)

-- no fault where so many rows are asked for and the input has them, and else the input's end
abbrev pub end_of_window : ℕ → Option ℕ → ℕ → Option Fault → Option Fault
end_of_window offset None available end = end
end_of_window offset (Some count) available end = if nat_le (offset + count) available then None else end

unfoldable pub fetched : ℕ → Option ℕ → Stream Row → Stream Row
fetched offset count s = record { rows = window offset count s.rows; end = end_of_window offset count (length s.rows) s.end }
