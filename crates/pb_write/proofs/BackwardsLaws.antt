-- Varints that are written from their last byte to their first.
use Rattle.std.proofs.Common.{◌≡◌, ◌∙◌, sym, ap, refl, subst, ℕ, zero, suc, ◌+◌, ◌-◌, ◌*◌, ◌/◌, ◌%◌, ◌^◌, ◌<◌, ◌≤◌, List, [], ◌∷◌, ◌++◌, true, false, cond, nat_lt, drop, get_or, length, arith, add-one, drop-cons, append_assoc, length-append}
use Rattle.std.proofs.Math.Nat.{pow-suc}
use Rattle.std.proofs.lemmas.Bool.{le-ltb, lt-ltb}
use Rattle.pb_wire.specs.Records.{Varint, Bytes}
use Rattle.pb_write.specs.Write.{varint_bytes_within, varint_bytes, key_bytes, record_bytes}

-- the last byte that may be left, and one below 128 before it
pub last_byte : (left value : ℕ) (out new : List ℕ) → left ≡ 0 → new ≡ value ∷ out → new ≡ varint_bytes_within (suc left) value ++ out
last_byte left value out new none put = put ∙ ap (λ n. varint_bytes_within (suc n) value ++ out) (sym none)

pub low_byte : (left value : ℕ) (out new : List ℕ) → 1 ≤ left → value < 128 → new ≡ value ∷ out → new ≡ varint_bytes_within (suc left) value ++ out
low_byte zero value out new some low put = absurd (omega (arith, some))
low_byte (suc left) value out new some low put = put ∙ ap (λ b. cond b (value ∷ []) ((value % 128 + 128) ∷ varint_bytes_within (suc left) (value / 128)) ++ out) (sym (lt-ltb value 128 low))

-- a byte in front of the rest
pub more_bytes : (left value : ℕ) (out rest new : List ℕ) → 1 ≤ left → 128 ≤ value → rest ≡ varint_bytes_within (suc (left - 1)) (value / 128) ++ out → new ≡ (value % 128 + 128) ∷ rest → new ≡ varint_bytes_within (suc left) value ++ out
more_bytes zero value out rest new some high inner put = absurd (omega (arith, some))
more_bytes (suc left) value out rest new some high inner put =
    let one : suc left - 1 ≡ left = omega arith in
    put ∙ ap (λ bytes. (value % 128 + 128) ∷ bytes) (inner ∙ ap (λ n. varint_bytes_within (suc n) (value / 128) ++ out) one)
    ∙ ap (λ b. cond b (value ∷ []) ((value % 128 + 128) ∷ varint_bytes_within (suc left) (value / 128)) ++ out) (sym (le-ltb value 128 high))

-- what is left is small enough
pub rest_small : (left value : ℕ) → 1 ≤ left → value < 2 * 128 ^ left → value / 128 < 2 * 128 ^ (left - 1)
rest_small zero value some small = absurd (omega (arith, some))
rest_small (suc left) value some small =
    let scale : 128 ^ suc left ≡ 128 ^ left * 128 = pow-suc 128 left in
    let one : suc left - 1 ≡ left = omega arith in
    subst (λ n. value / 128 < 2 * 128 ^ n) (sym one) (omega (arith, scale, small))

-- the bytes from a place on, and one more in front
pub front : (bytes out new rest : List ℕ) (left : ℕ) → left < length bytes → rest ≡ drop (left + 1) bytes ++ out → new ≡ get_or bytes left 0 ∷ rest → new ≡ drop left bytes ++ out
front bytes out new rest left here done put =
    put ∙ ap (λ r. get_or bytes left 0 ∷ r) done ∙ ap (λ n. (get_or bytes left 0 ∷ drop n bytes) ++ out) (add-one left) ∙ ap (λ b. b ++ out) (sym (drop-cons bytes left 0 here))

-- a record with a varint, and one with a block, in front of the rest
pub varint_put : (number value : ℕ) (out rest new : List ℕ) → rest ≡ varint_bytes value ++ out → new ≡ key_bytes number 0 ++ rest → new ≡ record_bytes (record { number = number; content = Varint value }) ++ out
unfolding record_bytes
varint_put number value out rest new inner put = put ∙ ap (λ b. key_bytes number 0 ++ b) inner ∙ sym (append_assoc (key_bytes number 0) (varint_bytes value) out)

pub block_put : (number size before : ℕ) (bytes out old rest new : List ℕ) → old ≡ bytes ++ out → length out ≡ before → size ≡ length old - before → rest ≡ varint_bytes size ++ old → new ≡ key_bytes number 2 ++ rest →
    new ≡ record_bytes (record { number = number; content = Bytes bytes }) ++ out
unfolding record_bytes
block_put number size before bytes out old rest new is behind long inner put =
    let same : size ≡ length bytes = omega (arith, long, behind, ap length is ∙ length-append bytes out) in
    put ∙ (λ i. key_bytes number 2 ++ (inner ∙ (λ j. varint_bytes (same j) ++ is j)) i)
    ∙ ap (λ b. key_bytes number 2 ++ b) (sym (append_assoc (varint_bytes (length bytes)) bytes out)) ∙ sym (append_assoc (key_bytes number 2) (varint_bytes (length bytes) ++ bytes) out)
