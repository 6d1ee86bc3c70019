-- Truth values made by whole bytes: what one byte is, and what a loop over bytes has reached.
use Rattle.std.specs.Prelude.{◌≡◌, ℕ, ◌+◌, ◌-◌, ◌*◌, ◌<◌, ◌≤◌, ◌==◌, ◌&&◌, ◌||◌, List, [], ◌∷◌, Bool}
use Rattle.std.specs.Int.{bit_at}
use Rattle.sub_types.specs.Bits.{bit_of}

-- whether this bit of a byte is set
abbrev pub is_set : ℕ → ℕ → Bool
is_set byte k = bit_at byte k == 1

-- each value and the one at the same place, as long as both have one
abbrev pub both : List Bool → List Bool → List Bool
both [] ys = []
both (x ∷ xs) [] = []
both (x ∷ xs) (y ∷ ys) = (x && y) ∷ both xs ys

-- each value or the one at the same place, as long as both have one
abbrev pub either : List Bool → List Bool → List Bool
either [] ys = []
either (x ∷ xs) [] = []
either (x ∷ xs) (y ∷ ys) = (x || y) ∷ either xs ys

-- of n bits that a function gives, those of the first i bytes stand
pub record IsMade (f : ℕ → Bool) (n : ℕ) (bytes : List ℕ) (i : ℕ) : Type 0 where
  pub made : (k : ℕ) → k < 8 * i → k < n → bit_of bytes k ≡ f k

-- the first len bits are the old ones, and then up to the end come those of more from a place on
pub record Continues (old new more : List ℕ) (len from end : ℕ) : Type 0 where
  pub kept : (k : ℕ) → k < len → bit_of new k ≡ bit_of old k
  pub joined : (j : ℕ) → len + j < end → bit_of new (len + j) ≡ bit_of more (from + j)

-- the first bits are those of one byte, and the others the first of the next
pub record IsJoined (own next used byte : ℕ) : Type 0 where
  pub low : (k : ℕ) → k < used → is_set byte k ≡ is_set own k
  pub high : (k : ℕ) → used ≤ k → k < 8 → is_set byte k ≡ is_set next (k - used)

-- eight bits from a place on
pub record HoldsFrom (bytes : List ℕ) (at byte : ℕ) : Type 0 where
  pub holds : (k : ℕ) → k < 8 → is_set byte k ≡ bit_of bytes (at + k)

-- one bit came in below, and the others moved up
pub record IsPushed (old : ℕ) (bit : Bool) (new : ℕ) : Type 0 where
  pub lowest : is_set new 0 ≡ bit
  pub moved : (k : ℕ) → k < 7 → is_set new (k + 1) ≡ is_set old k

-- the bits of the first i bytes are what an operation makes of two lists' bits, and the others as they were
pub record IsZipped (op : Bool → Bool → Bool) (old which new : List ℕ) (i : ℕ) : Type 0 where
  pub zipped : (k : ℕ) → k < 8 * i → bit_of new k ≡ op (bit_of old k) (bit_of which k)
  pub rest : (k : ℕ) → 8 * i ≤ k → bit_of new k ≡ bit_of old k
