-- What is known of the rows of the first input.
use Rattle.std.specs.Prelude.{ℕ, Bool, true, false, if◌then◌else◌}
use Rattle.std.specs.List.{list_any, range_with_len}
use Rattle.set_places.specs.declared.marks.Mark.{Mark}
use Rattle.set_places.specs.declared.marks.Mark.TheVariants.{Open, Passed, Taken}

abbrev pub mark_of : Bool → Mark
mark_of true = Taken
mark_of false = Passed

abbrev pub is_open : Mark → Bool
is_open Open = true
is_open _ = false

abbrev pub is_taken : Mark → Bool
is_taken Taken = true
is_taken _ = false

-- a row is marked where a row like it is among the first so many
abbrev pub marked : (ℕ → ℕ → Bool) → (ℕ → Bool) → ℕ → ℕ → Mark
marked same takes so_far row = if list_any (λ k. same k row) (range_with_len 0 so_far) then mark_of (takes row) else Open
