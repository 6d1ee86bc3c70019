-- What exact numbers in memory stand for.
use Rattle.std.specs.Prelude.{ℕ, ◌+◌, ◌*◌, ◌^◌, ℤ, pos, ◌+ℤ◌, ◌*ℤ◌, neg_ℤ, Bool, true, false}
use Rattle.group_tallies.specs.declared.exact.Exact.{Exact}

-- a number in two parts, each with its sign
abbrev pub number_of_parts : ℤ → ℤ → ℤ
number_of_parts high low = (high *ℤ pos (2 ^ 64)) +ℤ low

abbrev pub magnitude_of : Exact → ℕ
magnitude_of exact = exact.high * 2 ^ 64 + exact.low

abbrev pub signed : Bool → ℕ → ℤ
signed true size = neg_ℤ (pos size)
signed false size = pos size

abbrev pub number_of : Exact → ℤ
number_of exact = signed exact.negative (magnitude_of exact)
