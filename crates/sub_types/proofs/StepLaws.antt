-- What follows when truth values are made by whole bytes.
use Rattle.std.proofs.Common.{◌≡◌, ◌≢◌, ◌∙◌, sym, ap, refl, ℕ, zero, suc, ◌+◌, ◌-◌, ◌*◌, ◌/◌, ◌%◌, ◌^◌, ◌<◌, ◌≤◌, List, [], ◌∷◌, ◌++◌, Bool, true, false, ◌&&◌, ◌||◌, length, map, get_or, set, replicate, All, bit_or, bit_and, count_ones, count_by, cond, ◌↔◌, IsTrue, nat_eq, min, max, subst, inl, inr, arith}
use Rattle.std.proofs.lemmas.Bool.{cases_eq, cases_lt, eqb-true, eq-eqb}
use Rattle.std.proofs.lemmas.List.{get_or-set_same, get_or-set_other, get_or-replicate, get_or_append_left, get_or-append_right, get_or-map, length-append, length-map, length-replicate, get_or_past}
use Rattle.std.proofs.lemmas.List.Elements.{All-get_or}
use Rattle.std.proofs.lemmas.List.FromFn.{fill_by_all, length-range_with_len, length-map-range_with_len, get_or-map-range_with_len}
use Rattle.std.proofs.lemmas.List.Sums.{sum_by-cons, sum_by-append, count_by-le-length}
use Rattle.std.proofs.lemmas.Simd.{bit_mask_l, ones-mask_l, zip2-map}
use Rattle.std.specs.Simd.Lanes.{mask_l, zip2}
use Rattle.std.proofs.lemmas.Nat.{shr-shr, pow_pos}
use Rattle.std.proofs.lemmas.Nat.Bits.{bit_at-zero, bit_at-lt, bit_at_lowest, bit_at_above, bit_at_or, bit_at_and, bit_at_ones, bit_at_ones_above, same_from_bits, bit_at_cat_low, bit_at_cat_high}
use Rattle.std.specs.Int.{bit_at, from_bool}
use Rattle.std.specs.List.{slice_range, range_with_len}
use Rattle.sub_types.specs.Bits.{bit_of, bits_of, IsPacked}
use Rattle.sub_types.specs.BitSteps.{is_set, both, either, IsMade, Continues, IsJoined, HoldsFrom, IsPushed, IsZipped}
use Rattle.sub_types.specs.PartLaws.{length-part, get_or-part}
use Rattle.sub_types.proofs.BitLaws.{length-bits_of, get_or-bits_of}

-- ---- bits of one byte

pub bit_at-right : (x s k : ℕ) → bit_at (x / 2 ^ s) k ≡ bit_at x (s + k)
bit_at-right x s k = ap (λ y. y % 2) (shr-shr x s k)

-- what a cut leaves of the bits below it
pub bit_at-cut : (x k : ℕ) → k < 8 → bit_at (x % 256) k ≡ bit_at x k
bit_at-cut x k lt =
    let e : x ≡ x / 256 * 256 + x % 256 = omega arith in
    sym (ap (λ y. bit_at y k) e ∙ bit_at_cat_low (x / 256) 8 (x % 256) k lt)

bit_at-cut_above : (x k : ℕ) → 8 ≤ k → bit_at (x % 256) k ≡ 0
bit_at-cut_above x k le = bit_at_above (x % 256) 8 k (omega arith) le

shifted : (x s : ℕ) → x * 2 ^ s ≡ x * 2 ^ s + 0
shifted x s = omega arith

pub bit_at-left_below : (x s k : ℕ) → k < 8 → k < s → bit_at (x * 2 ^ s % 256) k ≡ 0
bit_at-left_below x s k lt below = bit_at-cut (x * 2 ^ s) k lt ∙ ap (λ y. bit_at y k) (shifted x s) ∙ bit_at_cat_low x s 0 k below ∙ bit_at-zero k

pub bit_at-left : (x s k : ℕ) → k < 8 → s ≤ k → bit_at (x * 2 ^ s % 256) k ≡ bit_at x (k - s)
bit_at-left x s k lt from = bit_at-cut (x * 2 ^ s) k lt ∙ ap (λ y. bit_at y k) (shifted x s) ∙ bit_at_cat_high x s 0 k (pow_pos s) from

-- the two bytes of a join: the low bits of one, the next above them
pub join-low : (own next used free k : ℕ) → used + free ≡ 8 → k < used → bit_at (bit_or (own * 2 ^ free % 256 / 2 ^ free) (next * 2 ^ used % 256)) k ≡ bit_at own k
join-low own next used free k sum lt =
    let a : bit_at (own * 2 ^ free % 256 / 2 ^ free) k ≡ bit_at own (free + k - free) = bit_at-right (own * 2 ^ free % 256) free k ∙ bit_at-left own free (free + k) (omega arith) (omega arith) in
    let b : bit_at (next * 2 ^ used % 256) k ≡ 0 = bit_at-left_below next used k (omega arith) lt in
    let e : bit_at own (free + k - free) ≡ bit_at own k = ap (bit_at own) (omega arith) in
    omega (arith, bit_at_or (own * 2 ^ free % 256 / 2 ^ free) (next * 2 ^ used % 256) k, a, b, e)

pub join-high : (own next used free k : ℕ) → used + free ≡ 8 → used ≤ k → k < 8 → bit_at (bit_or (own * 2 ^ free % 256 / 2 ^ free) (next * 2 ^ used % 256)) k ≡ bit_at next (k - used)
join-high own next used free k sum le lt =
    let a : bit_at (own * 2 ^ free % 256 / 2 ^ free) k ≡ 0 = bit_at-right (own * 2 ^ free % 256) free k ∙ bit_at-cut_above (own * 2 ^ free) (free + k) (omega arith) in
    let b : bit_at (next * 2 ^ used % 256) k ≡ bit_at next (k - used) = bit_at-left next used k lt le in
    omega (arith, bit_at_or (own * 2 ^ free % 256 / 2 ^ free) (next * 2 ^ used % 256) k, a, b)

pub IsJoined-bytes : (own next used free : ℕ) → used + free ≡ 8 → IsJoined own next used (bit_or (own * 2 ^ free % 256 / 2 ^ free) (next * 2 ^ used % 256))
IsJoined-bytes own next used free sum =
    record {
      low = λ k lt. ap (λ bit. nat_eq bit 1) (join-low own next used free k sum lt);
      high = λ k le lt. ap (λ bit. nat_eq bit 1) (join-high own next used free k sum le lt);
    }

-- eight bits from a whole byte on
pub HoldsFrom-whole : (bytes : List ℕ) (at byte : ℕ) → at % 8 ≡ 0 → byte ≡ get_or bytes (at / 8) 0 → HoldsFrom bytes at byte
HoldsFrom-whole bytes at byte whole e =
    record {
      holds = λ k lt.
          let place : (at + k) / 8 ≡ at / 8 = omega arith in
          let bit : (at + k) % 8 ≡ k = omega arith in
          rw (place, bit, e) refl;
    }

-- eight bits out of two bytes
pub HoldsFrom-two : (bytes : List ℕ) (at low high shift free : ℕ) → shift ≡ at % 8 → shift + free ≡ 8 → 0 < shift → low < 256 → low ≡ get_or bytes (at / 8) 0 → high ≡ get_or bytes (at / 8 + 1) 0 → HoldsFrom bytes at (bit_or (low / 2 ^ shift) (high * 2 ^ free % 256))
HoldsFrom-two bytes at low high shift free is sum some small l h = record { holds = λ k lt. ap (λ bit. nat_eq bit 1) (each k lt) }
  where
    each : (k : ℕ) → k < 8 → bit_at (bit_or (low / 2 ^ shift) (high * 2 ^ free % 256)) k ≡ bit_at (get_or bytes ((at + k) / 8) 0) ((at + k) % 8)
    each k lt = elim (cases_lt (shift + k) 8) [
      | inl below ↦
          let place : (at + k) / 8 ≡ at / 8 = omega arith in
          let bit : (at + k) % 8 ≡ shift + k = omega arith in
          let b : bit_at (high * 2 ^ free % 256) k ≡ 0 = bit_at-left_below high free k lt (omega arith) in
          let e : bit_at (get_or bytes ((at + k) / 8) 0) ((at + k) % 8) ≡ bit_at low (shift + k) = rw (place, bit, l) refl in
          omega (arith, bit_at_or (low / 2 ^ shift) (high * 2 ^ free % 256) k, bit_at-right low shift k, b, e)
      | inr above ↦
          let place : (at + k) / 8 ≡ at / 8 + 1 = omega arith in
          let bit : (at + k) % 8 ≡ k - free = omega arith in
          let a : bit_at low (shift + k) ≡ 0 = bit_at_above low 8 (shift + k) small above in
          let e : bit_at (get_or bytes ((at + k) / 8) 0) ((at + k) % 8) ≡ bit_at high (k - free) = rw (place, bit, h) refl in
          omega (arith, bit_at_or (low / 2 ^ shift) (high * 2 ^ free % 256) k, bit_at-right low shift k, a, bit_at-left high free k lt (omega arith), e)
    ]

-- ---- a byte of a list written over

pub bit_of-set_same : (bytes : List ℕ) (i byte k : ℕ) → i < length bytes → k / 8 ≡ i → bit_of (set bytes i byte) k ≡ is_set byte (k % 8)
bit_of-set_same bytes i byte k within e = ap (λ b. nat_eq (bit_at b (k % 8)) 1) (ap (λ j. get_or (set bytes i byte) j 0) e ∙ get_or-set_same bytes i byte 0 within)

pub bit_of-set_other : (bytes : List ℕ) (i byte k : ℕ) → k / 8 ≢ i → bit_of (set bytes i byte) k ≡ bit_of bytes k
bit_of-set_other bytes i byte k away = ap (λ b. nat_eq (bit_at b (k % 8)) 1) (get_or-set_other bytes i (k / 8) byte 0 away)

-- ---- bits that go on with those of another list

-- nothing to add
pub Continues-none : (bytes more : List ℕ) (len from end : ℕ) → end ≤ len → Continues bytes bytes more len from end
Continues-none bytes more len from end le = record { kept = λ k lt. refl; joined = λ j lt. absurd (omega arith) }

-- the byte that the old bits end in
pub Continues-first : (bytes more : List ℕ) (len from next byte : ℕ) → len / 8 < length bytes → HoldsFrom more from next → IsJoined (get_or bytes (len / 8) 0) next (len % 8) byte → Continues bytes (set bytes (len / 8) byte) more len from (8 * (len / 8 + 1))
Continues-first bytes more len from next byte within h j = record { kept = kept; joined = joined }
  where
    kept : (k : ℕ) → k < len → bit_of (set bytes (len / 8) byte) k ≡ bit_of bytes k
    kept k lt = elim (cases_eq (k / 8) (len / 8)) [
      | inl e ↦ bit_of-set_same bytes (len / 8) byte k within e ∙ j.low (k % 8) (omega arith) ∙ ap (λ i. nat_eq (bit_at (get_or bytes i 0) (k % 8)) 1) (sym e)
      | inr away ↦ bit_of-set_other bytes (len / 8) byte k away
    ]

    joined : (i : ℕ) → len + i < 8 * (len / 8 + 1) → bit_of (set bytes (len / 8) byte) (len + i) ≡ bit_of more (from + i)
    joined i lt =
        let here : (len + i) / 8 ≡ len / 8 = omega arith in
        let place : from + ((len + i) % 8 - len % 8) ≡ from + i = omega arith in
        bit_of-set_same bytes (len / 8) byte (len + i) within here
        ∙ j.high ((len + i) % 8) (omega arith) (omega arith)
        ∙ h.holds ((len + i) % 8 - len % 8) (omega arith)
        ∙ ap (bit_of more) place

-- a whole byte more
pub Continues-more : (old new more : List ℕ) (len from i byte : ℕ) → Continues old new more len from (8 * i) → len ≤ 8 * i → i < length new → HoldsFrom more (from + (8 * i - len)) byte → Continues old (set new i byte) more len from (8 * (i + 1))
Continues-more old new more len from i byte c after within h = record { kept = kept; joined = joined }
  where
    kept : (k : ℕ) → k < len → bit_of (set new i byte) k ≡ bit_of old k
    kept k lt =
        let away : k / 8 ≢ i = λ e. absurd (omega arith) in
        bit_of-set_other new i byte k away ∙ c.kept k lt

    joined : (j : ℕ) → len + j < 8 * (i + 1) → bit_of (set new i byte) (len + j) ≡ bit_of more (from + j)
    joined j lt = elim (cases_lt (len + j) (8 * i)) [
      | inl below ↦
          let away : (len + j) / 8 ≢ i = λ e. absurd (omega arith) in
          bit_of-set_other new i byte (len + j) away ∙ c.joined j below
      | inr above ↦
          let here : (len + j) / 8 ≡ i = omega arith in
          let place : from + (8 * i - len) + (len + j) % 8 ≡ from + j = omega arith in
          bit_of-set_same new i byte (len + j) within here ∙ h.holds ((len + j) % 8) (omega arith) ∙ ap (bit_of more) place
    ]

-- up to a place before
pub Continues-less : (old new more : List ℕ) (len from a b : ℕ) → b ≤ a → Continues old new more len from a → Continues old new more len from b
Continues-less old new more len from a b le c = record { kept = c.kept; joined = λ j lt. c.joined j (omega arith) }

-- zeros behind the old bytes change none of their bits
pub Continues-over : (old middle new more : List ℕ) (len from end : ℕ) → ((k : ℕ) → k < len → bit_of middle k ≡ bit_of old k) → Continues middle new more len from end → Continues old new more len from end
Continues-over old middle new more len from end same c = record { kept = λ k lt. c.kept k lt ∙ same k lt; joined = c.joined }

pub bit_of-front : (old back : List ℕ) (k : ℕ) → k < 8 * length old → bit_of (old ++ back) k ≡ bit_of old k
bit_of-front old back k lt = ap (λ b. nat_eq (bit_at b (k % 8)) 1) (get_or_append_left old back 0 (k / 8) (omega arith))

-- whole bytes that were copied
pub Continues-copied : (old more copied : List ℕ) (len from end : ℕ) → len ≡ 8 * length old → from % 8 ≡ 0 → ((k : ℕ) → k < length copied → get_or copied k 0 ≡ get_or more (from / 8 + k) 0) → end ≤ len + 8 * length copied → Continues old (old ++ copied) more len from end
Continues-copied old more copied len from end whole aligned same le = record { kept = λ k lt. bit_of-front old copied k (omega arith); joined = joined }
  where
    joined : (j : ℕ) → len + j < end → bit_of (old ++ copied) (len + j) ≡ bit_of more (from + j)
    joined j lt =
        let bit : (len + j) % 8 ≡ (from + j) % 8 = omega arith in
        let first : length old ≤ (len + j) / 8 = omega arith in
        let place : (len + j) / 8 - length old ≡ j / 8 = omega arith in
        let there : from / 8 + j / 8 ≡ (from + j) / 8 = omega arith in
        let byte : get_or (old ++ copied) ((len + j) / 8) 0 ≡ get_or more ((from + j) / 8) 0 =
        get_or-append_right old copied (length old) ((len + j) / 8) 0 refl first
        ∙ ap (λ i. get_or copied i 0) place ∙ same (j / 8) (omega arith) ∙ ap (λ i. get_or more i 0) there in
        ap (λ b. nat_eq (bit_at b ((len + j) % 8)) 1) byte ∙ ap (λ i. nat_eq (bit_at (get_or more ((from + j) / 8) 0) i) 1) bit

-- and as lists
pub Continues-view : (old new more : List ℕ) (n m from to : ℕ) → from ≤ to → to ≤ m → Continues old new more n from (n + (to - from)) → bits_of (n + (to - from)) new ≡ bits_of n old ++ slice_range (bits_of m more) from to
Continues-view old new more n m from to rising within c = sym (fill_by_all (bit_of new) (bits_of n old ++ part) (n + (to - from)) false long each)
  where
    part : List Bool
    part = slice_range (bits_of m more) from to

    long : length (bits_of n old ++ part) ≡ n + (to - from)
    long =
        let fits : to ≤ length (bits_of m more) = omega (arith, length-bits_of m more) in
        omega (arith, length-append (bits_of n old) part, length-bits_of n old, length-part (bits_of m more) from to fits)

    each : (k : ℕ) → k < n + (to - from) → get_or (bits_of n old ++ part) k false ≡ bit_of new k
    each k lt = elim (cases_lt k n) [
      | inl below ↦
          let in_front : k < length (bits_of n old) = omega (arith, length-bits_of n old) in
          get_or_append_left (bits_of n old) part false k in_front ∙ get_or-bits_of n old k false below ∙ sym (c.kept k below)
      | inr above ↦
          let place : n + (k - n) ≡ k = omega arith in
          get_or-append_right (bits_of n old) part n k false (length-bits_of n old) above
          ∙ get_or-part (bits_of m more) from to (k - n) false (omega arith)
          ∙ get_or-bits_of m more (from + (k - n)) false (omega arith)
          ∙ sym (c.joined (k - n) (omega arith))
          ∙ ap (bit_of new) place
    ]

pub append_view : (old new read more : List ℕ) (n m grown from to : ℕ) (front whole : List Bool) → read ≡ more → grown ≡ n + (to - from) → bits_of n old ≡ front → bits_of m more ≡ whole → from ≤ to → to ≤ length whole → Continues old new read n from grown → bits_of grown new ≡ front ++ slice_range whole from to
append_view old new read more n m grown from to front whole same end old_is more_is rising within c =
    let fits : to ≤ m = omega (arith, ap length more_is, length-bits_of m more) in
    let joined : Continues old new more n from (n + (to - from)) = subst (λ e. Continues old new more n from e) end (subst (λ bytes. Continues old new bytes n from grown) same c) in
    ap (λ k. bits_of k new) end
    ∙ Continues-view old new more n m from to rising fits joined
    ∙ ap (λ bits. bits ++ slice_range (bits_of m more) from to) old_is
    ∙ ap (λ bits. front ++ slice_range bits from to) more_is

-- ---- bits that a function gives

pub IsMade-none : (f : ℕ → Bool) (n : ℕ) (bytes : List ℕ) → IsMade f n bytes 0
IsMade-none f n bytes = record { made = λ k lt small. absurd (omega arith) }

pub IsMade-more : (f : ℕ → Bool) (n : ℕ) (bytes : List ℕ) (i byte : ℕ) → IsMade f n bytes i → i < length bytes → ((k : ℕ) → k < 8 → 8 * i + k < n → is_set byte k ≡ f (8 * i + k)) → IsMade f n (set bytes i byte) (i + 1)
IsMade-more f n bytes i byte m within right = record { made = each }
  where
    each : (k : ℕ) → k < 8 * (i + 1) → k < n → bit_of (set bytes i byte) k ≡ f k
    each k lt small = elim (cases_lt k (8 * i)) [
      | inl below ↦
          let away : k / 8 ≢ i = λ e. absurd (omega arith) in
          bit_of-set_other bytes i byte k away ∙ m.made k below small
      | inr above ↦
          let here : k / 8 ≡ i = omega arith in
          let place : 8 * i + k % 8 ≡ k = omega arith in
          bit_of-set_same bytes i byte k within here ∙ right (k % 8) (omega arith) (omega arith) ∙ ap f place
    ]

pub IsMade-all : (f : ℕ → Bool) (n : ℕ) (bytes : List ℕ) (i : ℕ) → n ≤ 8 * i → IsMade f n bytes i → bits_of n bytes ≡ map f (range_with_len 0 n)
IsMade-all f n bytes i le m = fill_by_all f (bits_of n bytes) n false (length-bits_of n bytes) (λ k lt. get_or-bits_of n bytes k false lt ∙ m.made k (omega arith) lt)

-- the bits at places of another list
pub IsMade-picked : (source : List ℕ) (len : ℕ) (at bytes : List ℕ) (i : ℕ) → length at ≤ 8 * i → All (λ p. p < len) at → IsMade (λ k. bit_of source (get_or at k 0)) (length at) bytes i → bits_of (length at) bytes ≡ map (λ p. get_or (bits_of len source) p false) at
IsMade-picked source len at bytes i le within m = sym (fill_by_all (bit_of bytes) (map (λ p. get_or (bits_of len source) p false) at) (length at) false (length-map at (λ p. get_or (bits_of len source) p false)) each)
  where
    each : (k : ℕ) → k < length at → get_or (map (λ p. get_or (bits_of len source) p false) at) k false ≡ bit_of bytes k
    each k lt =
        get_or-map (λ p. get_or (bits_of len source) p false) at k 0 false lt
        ∙ get_or-bits_of len source (get_or at k 0) false (All-get_or (λ p. p < len) at k 0 lt within)
        ∙ sym (m.made k (omega arith) lt)

pub gather_view : (read source at bytes : List ℕ) (len i : ℕ) (whole : List Bool) → read ≡ source → bits_of len source ≡ whole → All (λ p. p < length whole) at → length at ≤ 8 * i → IsMade (λ k. bit_of read (get_or at k 0)) (length at) bytes i → bits_of (length at) bytes ≡ map (λ p. get_or whole p false) at
gather_view read source at bytes len i whole same whole_is within le m =
    let long : length whole ≡ len = sym (ap length whole_is) ∙ length-bits_of len source in
    IsMade-picked source len at bytes i le (subst (λ n. All (λ p. p < n) at) long within) (subst (λ from. IsMade (λ k. bit_of from (get_or at k 0)) (length at) bytes i) same m)
    ∙ ap (λ bits. map (λ p. get_or bits p false) at) whole_is

-- one bit comes in below
pub IsPushed-byte : (byte bit : ℕ) (b : Bool) → bit < 2 → nat_eq bit 1 ≡ b → IsPushed byte b (bit_or (byte * 2 ^ 1 % 256) bit)
IsPushed-byte byte bit b small e = record { lowest = lowest; moved = λ k lt. ap (λ x. nat_eq x 1) (moved k lt) }
  where
    lowest : is_set (bit_or (byte * 2 ^ 1 % 256) bit) 0 ≡ b
    lowest =
        let own : bit_at bit 0 ≡ bit = bit_at_lowest bit ∙ omega arith in
        let zero_there : bit_at (byte * 2 ^ 1 % 256) 0 ≡ 0 = bit_at-left_below byte 1 0 (omega arith) (omega arith) in
        let at : bit_at (bit_or (byte * 2 ^ 1 % 256) bit) 0 ≡ bit = omega (arith, bit_at_or (byte * 2 ^ 1 % 256) bit 0, own, zero_there) in
        ap (λ x. nat_eq x 1) at ∙ e

    moved : (k : ℕ) → k < 7 → bit_at (bit_or (byte * 2 ^ 1 % 256) bit) (k + 1) ≡ bit_at byte k
    moved k lt =
        let none : bit_at bit (k + 1) ≡ 0 = bit_at_above bit 1 (k + 1) small (omega arith) in
        let up : bit_at (byte * 2 ^ 1 % 256) (k + 1) ≡ bit_at byte k = bit_at-left byte 1 (k + 1) (omega arith) (omega arith) ∙ ap (bit_at byte) (omega arith) in
        omega (arith, bit_at_or (byte * 2 ^ 1 % 256) bit (k + 1), none, up)

pub IsPushed-bit : (byte bit : ℕ) (b : Bool) → bit ≡ from_bool b → IsPushed byte b (bit_or (byte * 2 % 256) bit)
IsPushed-bit byte bit true e = rw e (IsPushed-byte byte 1 true (omega arith) refl)
IsPushed-bit byte bit false e = rw e (IsPushed-byte byte 0 false (omega arith) refl)

pub IsPushed-same : (old : ℕ) (a b : Bool) (new : ℕ) → a ≡ b → IsPushed old a new → IsPushed old b new
IsPushed-same old a b new e p = subst (λ x. IsPushed old x new) e p

-- so far the last j of count bits were pushed
pub pushed_more : (f : ℕ → Bool) (count j byte new : ℕ) → count ≤ 8 → j < count → IsPushed byte (f (count - 1 - j)) new → ((m : ℕ) → m < j → is_set byte m ≡ f (count - j + m)) → (m : ℕ) → m < j + 1 → is_set new m ≡ f (count - (j + 1) + m)
pushed_more f count j byte new few lt p sofar zero below = p.lowest ∙ ap f (omega arith)
pushed_more f count j byte new few lt p sofar (suc m) below =
    let e : suc m ≡ m + 1 = omega arith in
    ap (is_set new) e ∙ p.moved m (omega arith) ∙ sofar m (omega arith) ∙ ap f (omega arith)

-- ---- two lists bit by bit

pub zip2-both : (xs ys : List Bool) → zip2 ◌&&◌ xs ys ≡ both xs ys
zip2-both [] ys = refl
zip2-both (x ∷ xs) [] = refl
zip2-both (x ∷ xs) (y ∷ ys) = ap (λ rest. (x && y) ∷ rest) (zip2-both xs ys)

pub zip2-either : (xs ys : List Bool) → zip2 ◌||◌ xs ys ≡ either xs ys
zip2-either [] ys = refl
zip2-either (x ∷ xs) [] = refl
zip2-either (x ∷ xs) (y ∷ ys) = ap (λ rest. (x || y) ∷ rest) (zip2-either xs ys)

-- an operation on bits is known by what it makes of zeros and ones
on_bits : (f : ℕ → ℕ → ℕ) (op : Bool → Bool → Bool) → nat_eq (f 0 0) 1 ≡ op false false → nat_eq (f 0 1) 1 ≡ op false true → nat_eq (f 1 0) 1 ≡ op true false → nat_eq (f 1 1) 1 ≡ op true true → (a b : ℕ) → a < 2 → b < 2 → nat_eq (f a b) 1 ≡ op (nat_eq a 1) (nat_eq b 1)
on_bits f op none second first all zero zero s t = none
on_bits f op none second first all zero (suc zero) s t = second
on_bits f op none second first all (suc zero) zero s t = first
on_bits f op none second first all (suc zero) (suc zero) s t = all
on_bits f op none second first all (suc (suc a)) b s t = absurd (omega arith)
on_bits f op none second first all zero (suc (suc b)) s t = absurd (omega arith)
on_bits f op none second first all (suc zero) (suc (suc b)) s t = absurd (omega arith)

pub is_set-and : (a b k : ℕ) → is_set (bit_and a b) k ≡ (is_set a k && is_set b k)
is_set-and a b k = ap (λ x. nat_eq x 1) (bit_at_and a b k) ∙ on_bits min ◌&&◌ refl refl refl refl (bit_at a k) (bit_at b k) (bit_at-lt a k) (bit_at-lt b k)

pub is_set-or : (a b k : ℕ) → is_set (bit_or a b) k ≡ (is_set a k || is_set b k)
is_set-or a b k = ap (λ x. nat_eq x 1) (bit_at_or a b k) ∙ on_bits max ◌||◌ refl refl refl refl (bit_at a k) (bit_at b k) (bit_at-lt a k) (bit_at-lt b k)

pub IsZipped-none : (op : Bool → Bool → Bool) (old which : List ℕ) → IsZipped op old which old 0
IsZipped-none op old which = record { zipped = λ k lt. absurd (omega arith); rest = λ k le. refl }

-- a byte more
pub IsZipped-more : (op : Bool → Bool → Bool) (old which new : List ℕ) (i byte : ℕ) → i < length new → ((k : ℕ) → is_set byte k ≡ op (is_set (get_or new i 0) k) (is_set (get_or which i 0) k)) → IsZipped op old which new i → IsZipped op old which (set new i byte) (i + 1)
IsZipped-more op old which new i byte within made z = record { zipped = zipped; rest = rest }
  where
    zipped : (k : ℕ) → k < 8 * (i + 1) → bit_of (set new i byte) k ≡ op (bit_of old k) (bit_of which k)
    zipped k lt = elim (cases_lt k (8 * i)) [
      | inl below ↦
          let away : k / 8 ≢ i = λ e. absurd (omega arith) in
          bit_of-set_other new i byte k away ∙ z.zipped k below
      | inr above ↦
          let here : k / 8 ≡ i = omega arith in
          bit_of-set_same new i byte k within here
          ∙ made (k % 8)
          ∙ ap (λ j. op (is_set (get_or new j 0) (k % 8)) (is_set (get_or which j 0) (k % 8))) (sym here)
          ∙ ap (λ x. op x (bit_of which k)) (z.rest k above)
    ]

    rest : (k : ℕ) → 8 * (i + 1) ≤ k → bit_of (set new i byte) k ≡ bit_of old k
    rest k le =
        let away : k / 8 ≢ i = λ e. absurd (omega arith) in
        bit_of-set_other new i byte k away ∙ z.rest k (omega arith)

pub IsZipped-view : (op : Bool → Bool → Bool) (old which new : List ℕ) (n i : ℕ) → n ≤ 8 * i → IsZipped op old which new i → bits_of n new ≡ zip2 op (bits_of n old) (bits_of n which)
IsZipped-view op old which new n i le z =
    fill_by_all (λ k. op (bit_of old k) (bit_of which k)) (bits_of n new) n false (length-bits_of n new) (λ k lt. get_or-bits_of n new k false lt ∙ z.zipped k (omega arith))
    ∙ sym (zip2-map op (bit_of old) (bit_of which) (range_with_len 0 n))

same_count : (old which : List ℕ) (n k : ℕ) (xs ys : List Bool) → bits_of n old ≡ xs → bits_of k which ≡ ys → length ys ≡ length xs → k ≡ n
same_count old which n k xs ys xs_is ys_is long = sym (length-bits_of k which) ∙ ap length ys_is ∙ long ∙ sym (ap length xs_is) ∙ length-bits_of n old

-- lists of one length stand in as many bytes
pub same_bytes : (old which : List ℕ) (n k : ℕ) (xs ys : List Bool) → bits_of n old ≡ xs → bits_of k which ≡ ys → length ys ≡ length xs → IsPacked n old → IsPacked k which → length which ≡ length old
same_bytes old which n k xs ys xs_is ys_is long own other = omega (arith, same_count old which n k xs ys xs_is ys_is long, own.enough, own.no_more, other.enough, other.no_more)

pub zipped_view : (op : Bool → Bool → Bool) (old which read_old read_which new : List ℕ) (n k : ℕ) (xs ys : List Bool) → read_old ≡ old → read_which ≡ which → bits_of n old ≡ xs → bits_of k which ≡ ys → length ys ≡ length xs → IsPacked n old → IsZipped op read_old read_which new (length read_old) → bits_of n new ≡ zip2 op xs ys
zipped_view op old which read_old read_which new n k xs ys same_old same_which xs_is ys_is long packed z =
    let enough : n ≤ 8 * length read_old = omega (arith, packed.enough, ap length same_old) in
    IsZipped-view op read_old read_which new n (length read_old) enough z
    ∙ ap (λ bytes. zip2 op (bits_of n bytes) (bits_of n read_which)) same_old
    ∙ ap (λ bytes. zip2 op (bits_of n old) (bits_of n bytes)) same_which
    ∙ ap (λ j. zip2 op (bits_of n old) (bits_of j which)) (sym (same_count old which n k xs ys xs_is ys_is long))
    ∙ ap (λ bits. zip2 op bits (bits_of k which)) xs_is
    ∙ ap (zip2 op xs) ys_is

-- ---- all true

is_set-255 : (r : ℕ) → r < 8 → is_set 255 r ≡ true
is_set-255 r lt = ap (λ x. nat_eq x 1) (bit_at_ones 8 r lt)

pub ones-bits_of : (n count : ℕ) → n ≤ 8 * count → bits_of n (replicate count 255) ≡ replicate n true
ones-bits_of n count enough = sym (fill_by_all (bit_of (replicate count 255)) (replicate n true) n false (length-replicate n true) each)
  where
    each : (k : ℕ) → k < n → get_or (replicate n true) k false ≡ bit_of (replicate count 255) k
    each k lt = get_or-replicate n k true false lt ∙ sym (ap (λ b. nat_eq (bit_at b (k % 8)) 1) (get_or-replicate count (k / 8) 255 0 (omega arith)) ∙ is_set-255 (k % 8) (omega arith))

-- ---- how many are true

range-append : (a n m : ℕ) → range_with_len a (n + m) ≡ range_with_len a n ++ range_with_len (a + n) m
range-append a zero m =
    let e : 0 + m ≡ m = omega arith in
    let s : a ≡ a + 0 = omega arith in
    ap (range_with_len a) e ∙ ap (λ k. range_with_len k m) s
range-append a (suc n) m =
    let e : suc n + m ≡ suc (n + m) = omega arith in
    let s : a + 1 + n ≡ a + suc n = omega arith in
    ap (range_with_len a) e ∙ ap (λ l. a ∷ l) (range-append (a + 1) n m ∙ ap (λ k. range_with_len (a + 1) n ++ range_with_len k m) s)

-- two functions that agree on two ranges hold as often
count-same : (p q : ℕ → Bool) (a b m : ℕ) → ((k : ℕ) → k < m → p (a + k) ≡ q (b + k)) → count_by p (range_with_len a m) ≡ count_by q (range_with_len b m)
count-same p q a b zero same = refl
count-same p q a b (suc m) same =
    let here : p a ≡ q b = ap p (omega arith) ∙ same 0 (omega arith) ∙ ap q (omega arith) in
    let more : (k : ℕ) → k < m → p (a + 1 + k) ≡ q (b + 1 + k) = λ k lt. ap p (omega arith) ∙ same (k + 1) (omega arith) ∙ ap q (omega arith) in
    sum_by-cons (λ x. cond (p x) 1 0) a (range_with_len (a + 1) m)
    ∙ ap (λ x. cond x 1 0 + count_by p (range_with_len (a + 1) m)) here
    ∙ ap (λ n. cond (q b) 1 0 + n) (count-same p q (a + 1) (b + 1) m more)
    ∙ sym (sum_by-cons (λ x. cond (q x) 1 0) b (range_with_len (b + 1) m))

-- the bits of one byte more
pub count-more : (bytes : List ℕ) (i m byte : ℕ) → m ≤ 8 → byte ≡ get_or bytes i 0 → count_by (bit_of bytes) (range_with_len 0 (8 * i + m)) ≡ count_by (bit_of bytes) (range_with_len 0 (8 * i)) + count_by (is_set byte) (range_with_len 0 m)
count-more bytes i m byte few e =
    let same : (k : ℕ) → k < m → bit_of bytes (8 * i + k) ≡ is_set byte (0 + k) = λ k lt.
    let place : (8 * i + k) / 8 ≡ i = omega arith in
    let bit : (8 * i + k) % 8 ≡ 0 + k = omega arith in
    rw (place, bit, e) refl
    in
    ap (count_by (bit_of bytes)) (range-append 0 (8 * i) m)
    ∙ sum_by-append (λ k. cond (bit_of bytes k) 1 0) (range_with_len 0 (8 * i)) (range_with_len (0 + 8 * i) m)
    ∙ ap (λ n. count_by (bit_of bytes) (range_with_len 0 (8 * i)) + n) (ap (λ s. count_by (bit_of bytes) (range_with_len s m)) (omega arith) ∙ count-same (bit_of bytes) (is_set byte) (8 * i) 0 m same)

as_number : (x : ℕ) → x < 2 → cond (nat_eq x 1) 1 0 ≡ x
as_number zero small = refl
as_number (suc zero) small = refl
as_number (suc (suc x)) small = absurd (omega arith)

-- the first bits of a byte alone
first_alone : (byte n free : ℕ) → n + free ≡ 8 → bit_and byte (255 / 2 ^ free) ≡ mask_l (map (is_set byte) (range_with_len 0 n))
first_alone byte n free sum = same_from_bits (bit_and byte (255 / 2 ^ free)) (mask_l (map (is_set byte) (range_with_len 0 n))) each
  where
    bits : List Bool
    bits = map (is_set byte) (range_with_len 0 n)

    each : (i : ℕ) → bit_at (bit_and byte (255 / 2 ^ free)) i ≡ bit_at (mask_l bits) i
    each i = elim (cases_lt i n) [
      | inl below ↦
          let one : bit_at (255 / 2 ^ free) i ≡ 1 = bit_at-right 255 free i ∙ bit_at_ones 8 (free + i) (omega arith) in
          let own : bit_at (bit_and byte (255 / 2 ^ free)) i ≡ bit_at byte i = omega (arith, bit_at_and byte (255 / 2 ^ free) i, one, bit_at-lt byte i) in
          own ∙ sym (bit_mask_l bits i ∙ ap (λ b. cond b 1 0) (get_or-map-range_with_len (is_set byte) 0 n i i false below (omega arith)) ∙ as_number (bit_at byte i) (bit_at-lt byte i))
      | inr above ↦
          let none : bit_at (255 / 2 ^ free) i ≡ 0 = bit_at-right 255 free i ∙ bit_at_ones_above 8 (free + i) (omega arith) in
          let own : bit_at (bit_and byte (255 / 2 ^ free)) i ≡ 0 = omega (arith, bit_at_and byte (255 / 2 ^ free) i, none) in
          own ∙ sym (bit_mask_l bits i ∙ ap (λ b. cond b 1 0) (get_or_past bits i false (omega (arith, length-map-range_with_len (is_set byte) 0 n))))
    ]

pub count_ones-first : (byte n free : ℕ) → n + free ≡ 8 → count_ones (bit_and byte (255 / 2 ^ free)) ≡ count_by (is_set byte) (range_with_len 0 n)
count_ones-first byte n free sum = ap count_ones (first_alone byte n free sum) ∙ ones-mask_l (is_set byte) (range_with_len 0 n)

count-map : {X : Type 0} (p : X → Bool) (xs : List X) → count_by (λ b. b) (map p xs) ≡ count_by p xs
count-map p [] = refl
count-map p (x ∷ xs) =
    sum_by-cons (λ b. cond b 1 0) (p x) (map p xs)
    ∙ ap (λ n. cond (p x) 1 0 + n) (count-map p xs)
    ∙ sym (sum_by-cons (λ y. cond (p y) 1 0) x xs)

pub count_view : (bytes : List ℕ) (n : ℕ) (bits : List Bool) → bits_of n bytes ≡ bits → count_by (bit_of bytes) (range_with_len 0 n) ≡ count_by (λ b. b) bits
count_view bytes n bits e = sym (count-map (bit_of bytes) (range_with_len 0 n)) ∙ ap (count_by (λ b. b)) e

pub count-at_most : (p : ℕ → Bool) (n : ℕ) → count_by p (range_with_len 0 n) ≤ n
count-at_most p n = omega (arith, count_by-le-length p (range_with_len 0 n), length-range_with_len 0 n)

count-true : (bits : List Bool) → count_by (λ b. b) (true ∷ bits) ≡ suc (count_by (λ b. b) bits)
count-true bits = sum_by-cons (λ b. cond b 1 0) true bits ∙ omega arith

count-false : (bits : List Bool) → count_by (λ b. b) (false ∷ bits) ≡ count_by (λ b. b) bits
count-false bits = sum_by-cons (λ b. cond b 1 0) false bits ∙ omega arith

all_counted : (bits : List Bool) → count_by (λ b. b) bits ≡ length bits → bits ≡ replicate (length bits) true
all_counted [] e = refl
all_counted (true ∷ bits) e = ap (λ l. true ∷ l) (all_counted bits (omega (arith, count-true bits, e)))
all_counted (false ∷ bits) e = absurd (omega (arith, e, count-false bits, count_by-le-length (λ b. b) bits))

counted_all : (n : ℕ) → count_by (λ b. b) (replicate n true) ≡ n
counted_all zero = refl
counted_all (suc n) = count-true (replicate n true) ∙ ap suc (counted_all n)

pub is_all_view : (bits : List Bool) (count n : ℕ) → count ≡ count_by (λ b. b) bits → length bits ≡ n → IsTrue (nat_eq count n) ↔ (bits ≡ replicate (length bits) true)
is_all_view bits count n e long = (λ same. all_counted bits (sym e ∙ eqb-true count n same ∙ sym long), λ all. eq-eqb count n (e ∙ ap (count_by (λ b. b)) all ∙ counted_all (length bits) ∙ long))
