-- Reading a varint a byte at a time.
use Rattle.std.proofs.Common.{◌≡◌, ◌∙◌, sym, ap, refl, ℕ, zero, suc, ◌+◌, ◌-◌, ◌*◌, ◌^◌, ◌<◌, ◌≤◌, List, [], ◌∷◌, length, drop, get_or, true, false, cond, nat_lt, Option, Some, None, arith, add-one, drop-cons}
use Rattle.std.proofs.lemmas.Bool.{le-ltb, lt-ltb}
use Rattle.std.proofs.lemmas.Nat.{mul-add-lt}
use Rattle.std.proofs.Math.Nat.{pow-le-pow_right, pow-suc}
use Rattle.std.proofs.Math.ListN.{drop_of_length-le}
use Rattle.std.proofs.Common.{lit<}
use Rattle.std.specs.Option.{option_map}
use Rattle.pb_wire.specs.Varint.{varint_within, varint_of, behind_byte}

-- a varint of which the first i bytes were read, with this value and the scale of what comes
abbrev pub completed : ℕ → ℕ → ℕ → Option (ℕ × ℕ) → Option (ℕ × ℕ)
completed value scale i rest = option_map (λ r. (value + scale * r.0, i + r.1)) rest

regroup : (value scale i byte v n : ℕ) → ◌≡◌ {A = ℕ × ℕ} (value + scale * (byte - 128 + 128 * v), i + (n + 1)) (value + (byte - 128) * scale + scale * 128 * v, i + 1 + n)
regroup value scale i byte v n =
    let values : value + scale * (byte - 128 + 128 * v) ≡ value + (byte - 128) * scale + scale * 128 * v = omega arith in
    let places : i + (n + 1) ≡ i + 1 + n = omega arith in
    cc

step_of : (value scale i byte : ℕ) (rest : Option (ℕ × ℕ)) → completed value scale i (option_map (behind_byte byte) rest) ≡ completed (value + (byte - 128) * scale) (scale * 128) (i + 1) rest
step_of value scale i byte None = refl
step_of value scale i byte (Some r) = ap Some (regroup value scale i byte r.0 r.1)

-- the first i bytes were read: their value, and the scale of the next
pub record IsPartRead (bytes : List ℕ) (i value scale : ℕ) : Type 0 where
  pub within : i ≤ 9
  pub scale_is : scale ≡ 128 ^ i
  pub small : value < scale
  pub rest : completed value scale i (varint_within (10 - i) (drop i bytes)) ≡ varint_within 10 bytes

completed_start : (rest : Option (ℕ × ℕ)) → completed 0 1 0 rest ≡ rest
completed_start None = refl
completed_start (Some r) = let value : 0 + 1 * r.0 ≡ r.0 = omega arith in let len : 0 + r.1 ≡ r.1 = omega arith in ap Some (pair value len)
  where
    pair : {a b c d : ℕ} → a ≡ c → b ≡ d → ◌≡◌ {A = ℕ × ℕ} (a, b) (c, d)
    pair p q = cc

pub nothing_read : (bytes : List ℕ) → IsPartRead bytes 0 0 1
nothing_read bytes = record { within = omega arith; scale_is = refl; small = omega arith; rest = completed_start (varint_within 10 bytes) }

-- the bytes from i on begin with the i-th
from_here : (bytes : List ℕ) (i : ℕ) → i < length bytes → drop i bytes ≡ get_or bytes i 0 ∷ drop (i + 1) bytes
from_here bytes i h = rw (add-one, drop-cons bytes i 0) refl

unfinished : (byte : ℕ) (bytes : List ℕ) (left : ℕ) → 128 ≤ byte → varint_within (suc (suc left)) (byte ∷ bytes) ≡ option_map (behind_byte byte) (varint_within (suc left) bytes)
unfinished byte bytes left h = ap (λ b. cond b (Some (byte, 1)) (option_map (behind_byte byte) (varint_within (suc left) bytes))) (le-ltb byte 128 h)

finished : (byte : ℕ) (bytes : List ℕ) (left : ℕ) → byte < 128 → varint_within (suc (suc left)) (byte ∷ bytes) ≡ Some (byte, 1)
finished byte bytes left h = ap (λ b. cond b (Some (byte, 1)) (option_map (behind_byte byte) (varint_within (suc left) bytes))) (lt-ltb byte 128 h)

-- what is left at a place before the tenth, whose byte is there
at_place : (bytes : List ℕ) (i : ℕ) → i < 9 → i < length bytes → varint_within (10 - i) (drop i bytes) ≡ varint_within (suc (suc (8 - i))) (get_or bytes i 0 ∷ drop (i + 1) bytes)
at_place bytes i below here =
    let left : 10 - i ≡ suc (suc (8 - i)) = omega arith in
    rw (left, from_here bytes i here) refl

power_next : (i : ℕ) → 128 ^ (i + 1) ≡ 128 ^ i * 128
power_next i = rw add-one (pow-suc 128 i)

-- the scale of the next byte has at most 63 bits before the tenth
pub next_scale : (i scale : ℕ) → scale ≡ 128 ^ i → i < 9 → scale * 128 ≤ 2 ^ 63
next_scale i scale is below =
    let nine : 128 ^ (i + 1) ≤ 128 ^ 9 = pow-le-pow_right {n = 128} (lit< tt) {i = i + 1} {j = 9} (omega arith) in
    let next : scale * 128 ≡ 128 ^ (i + 1) = ap (λ s. s * 128) is ∙ sym (power_next i) in
    omega arith

-- seven bits more stay below the next scale
pub next_value : (value scale bits : ℕ) → value < scale → bits < 128 → value + bits * scale < scale * 128
next_value value scale bits small few = omega (arith, mul-add-lt bits scale value 128 few small)

pub read_more : (bytes : List ℕ) (i value scale byte : ℕ) → IsPartRead bytes i value scale → i < 9 → i < length bytes → byte ≡ get_or bytes i 0 → 128 ≤ byte → byte < 256 → IsPartRead bytes (i + 1) (value + (byte - 128) * scale) (scale * 128)
read_more bytes i value scale byte p below here is high low = record {
  within = omega arith;
  scale_is = ap (λ s. s * 128) p.scale_is ∙ sym (power_next i);
  small = next_value value scale (byte - 128) p.small (omega arith);
  rest =
      let left : 10 - (i + 1) ≡ suc (8 - i) = omega arith in
      ap (λ n. completed (value + (byte - 128) * scale) (scale * 128) (i + 1) (varint_within n (drop (i + 1) bytes))) left
      ∙ sym (step_of value scale i byte (varint_within (suc (8 - i)) (drop (i + 1) bytes)))
      ∙ ap (completed value scale i) (sym (unfinished byte (drop (i + 1) bytes) (8 - i) high) ∙ ap (λ b. varint_within (suc (suc (8 - i))) (b ∷ drop (i + 1) bytes)) is ∙ sym (at_place bytes i below here))
      ∙ p.rest;
}

-- a last byte before the tenth
pub read_last : (bytes : List ℕ) (i value scale byte : ℕ) → IsPartRead bytes i value scale → i < 9 → i < length bytes → byte ≡ get_or bytes i 0 → byte < 128 → ◌≡◌ {A = Option (ℕ × ℕ)} (Some (value + byte * scale, i + 1)) (varint_of bytes)
unfolding varint_of
read_last bytes i value scale byte p below here is low =
    let turned : value + byte * scale ≡ value + scale * byte = omega arith in
    ap (λ v. Some (v, i + 1)) turned
    ∙ ap (completed value scale i) (sym (finished byte (drop (i + 1) bytes) (8 - i) low) ∙ ap (λ b. varint_within (suc (suc (8 - i))) (b ∷ drop (i + 1) bytes)) is ∙ sym (at_place bytes i below here))
    ∙ p.rest

-- what is left at the tenth byte
at_tenth : (bytes : List ℕ) (i : ℕ) → i ≡ 9 → i < length bytes → varint_within (10 - i) (drop i bytes) ≡ cond (nat_lt (get_or bytes i 0) 2) (Some (get_or bytes i 0, 1)) None
at_tenth bytes i is here =
    let left : 10 - i ≡ suc zero = omega arith in
    rw (left, from_here bytes i here) refl

pub read_tenth : (bytes : List ℕ) (i value scale byte : ℕ) → IsPartRead bytes i value scale → i ≡ 9 → i < length bytes → byte ≡ get_or bytes i 0 → byte < 2 → ◌≡◌ {A = Option (ℕ × ℕ)} (Some (value + byte * scale, 10)) (varint_of bytes)
unfolding varint_of
read_tenth bytes i value scale byte p tenth here is low =
    let turned : value + byte * scale ≡ value + scale * byte = omega arith in
    let len : 10 ≡ i + 1 = omega arith in
    let one : nat_lt byte 2 ≡ true = lt-ltb byte 2 low in
    ap (λ v. Some (v, 10)) turned ∙ ap (λ n. Some (value + scale * byte, n)) len
    ∙ ap (completed value scale i) (ap (λ b. cond b (Some (byte, 1)) None) (sym one) ∙ ap (λ b. cond (nat_lt b 2) (Some (b, 1)) None) is ∙ sym (at_tenth bytes i tenth here))
    ∙ p.rest

-- a tenth byte that isn't at most 1
pub none_tenth : (bytes : List ℕ) (i value scale byte : ℕ) → IsPartRead bytes i value scale → i ≡ 9 → i < length bytes → byte ≡ get_or bytes i 0 → 2 ≤ byte → ◌≡◌ {A = Option (ℕ × ℕ)} None (varint_of bytes)
unfolding varint_of
none_tenth bytes i value scale byte p tenth here is high =
    let over : nat_lt byte 2 ≡ false = le-ltb byte 2 high in
    ap (completed value scale i) (ap (λ b. cond b (Some (byte, 1)) None) (sym over) ∙ ap (λ b. cond (nat_lt b 2) (Some (b, 1)) None) is ∙ sym (at_tenth bytes i tenth here))
    ∙ p.rest

none_within : (left : ℕ) → varint_within left [] ≡ None
none_within zero = refl
none_within (suc left) = refl

-- the bytes end before the varint does
pub none_cut : (bytes : List ℕ) (i value scale : ℕ) → IsPartRead bytes i value scale → length bytes ≤ i → ◌≡◌ {A = Option (ℕ × ℕ)} None (varint_of bytes)
unfolding varint_of
none_cut bytes i value scale p end = ap (completed value scale i) (sym (none_within (10 - i)) ∙ ap (varint_within (10 - i)) (sym (drop_of_length-le bytes end))) ∙ p.rest

-- the tenth byte's bit is the last of 64
pub tenth_value : (i value scale bits : ℕ) → scale ≡ 128 ^ i → i ≡ 9 → value < scale → bits < 2 → bits * scale + value < 2 ^ 64
tenth_value i value scale bits is tenth small few =
    let last : scale ≡ 2 ^ 63 = is ∙ ap (λ n. 128 ^ n) tenth in
    omega (arith, mul-add-lt bits scale value 2 few small)
