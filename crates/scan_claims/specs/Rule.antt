-- What holds of the claim word and of all seats between any two steps, and what a step tells its seat.
use Rattle.std.specs.Prelude.{◌≡◌, ℕ, ◌+◌, ◌-◌, ◌^◌, ◌<◌, ◌≤◌, min, List, [], ◌∷◌, ◌++◌, MatchBool, nat_lt, slice_index, sum_by}
use mathlib.Core.Option.{some}
use lib.ListN.{get_elem?}
use Rattle.atomic_table.specs.Table.{State}
use Rattle.run_core.specs.Counts.{times, once_below}
use Rattle.scan_claims.specs.Claims.{IsEachOnce, AreApart}
use Rattle.scan_claims.specs.declared.rule.Draws.{Draws}
use Rattle.scan_claims.specs.declared.rule.Limits.{Limits}

-- a seat with this share that has drawn nothing
abbrev pub fresh : ℕ → ℕ → ℕ → Draws
fresh count seats share = record { numbers = []; ends = 0; share = share; count = count; seats = seats }

-- a seat that was joined to another
abbrev pub spent : Draws
spent = fresh 0 0 0

-- of one seat: it met no more ends than its share, and none before the word passed the count; with no share it has no numbers
pub record FitsSeat (count seats word : ℕ) (v : Draws) : Type 0 where
  pub ends_within : v.ends ≤ v.share
  pub ends_past : 0 < v.ends → count ≤ word
  pub limits : 0 < v.share → (v.count ≡ count) × (v.seats ≡ seats)
  pub idle : v.share ≡ 0 → v.numbers ≡ []

-- the seats drew each number below the word and the count once, the word passed the count at most once for each end, and the shares add up
pub record Kept (count seats word : ℕ) (views : List Draws) : Type 0 where
  pub small : count + seats < 2 ^ 63
  pub numbers : (x : ℕ) → sum_by (λ v. times x v.numbers) views ≡ once_below x (min word count)
  pub near : word ≤ count + sum_by (λ v. v.ends) views
  pub shares : sum_by (λ v. v.share) views ≡ seats
  pub each : (id : ℕ) (v : Draws) → get_elem? views id ≡ some v → FitsSeat count seats word v

-- there is one word
abbrev pub Holds : Limits → State (Unit {0}) Draws → Type 0
Holds k s = (s.words ≡ slice_index s.words 0 ∷ []) × Kept k.count k.seats (slice_index s.words 0) s.views

-- a draw below the count gives a number that is new; one at or past it meets an end, and with all shares each number was drawn
abbrev pub DrawsOne : Draws → ℕ → Draws → Type 0
DrawsOne v found w =
    MatchBool (nat_lt found v.count)
    ((w ≡ record v { numbers = v.numbers ++ found ∷ [] }) × (times found v.numbers ≡ 0))
    ((w ≡ record v { ends = v.ends + 1 }) × (v.share ≡ v.seats → IsEachOnce v.count v.numbers))

-- with all shares the numbers are apart, and with an end they are all there
abbrev pub LooksOn : Draws → Draws → Type 0
LooksOn v w = (w ≡ v) × (v.share ≡ v.seats → AreApart v.count v.numbers × (0 < v.ends → IsEachOnce v.count v.numbers))

-- one share goes to a new seat
abbrev pub keeping : Draws → Draws
keeping v = record v { share = v.share - 1 }

-- what the new seat has
abbrev pub parted : Draws → Draws
parted v = fresh v.count v.seats 1

-- what two seats have together
abbrev pub joined : Draws → Draws → Draws
joined v w = record { numbers = v.numbers ++ w.numbers; ends = v.ends + w.ends; share = v.share + w.share; count = v.count; seats = v.seats }
