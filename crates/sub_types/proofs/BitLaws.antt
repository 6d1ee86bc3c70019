-- Packed truth values as a list: its length, its places, and what a write, a push and a cut leave.
use Rattle.std.proofs.Common.{◌≡◌, ◌≢◌, ◌∙◌, sym, ap, refl, ℕ, ◌+◌, ◌*◌, ◌/◌, ◌%◌, ◌<◌, ◌≤◌, List, [], ◌∷◌, ◌++◌, Bool, true, false, length, get_or, set, take, arith}
use Rattle.std.proofs.Common.{inl, inr, drop, replicate}
use Rattle.std.proofs.lemmas.Bool.{cases_eq}
use Rattle.std.proofs.lemmas.List.{length-set, get_or-set_same, get_or-set_other, length-replicate, get_or-replicate}
use Rattle.std.proofs.lemmas.List.FromFn.{length-map-range_with_len, get_or-map-range_with_len, take-map-range_with_len, map-range_with_len_more, fill_by_all}
use Rattle.std.proofs.lemmas.List.{get_or-take, take-append-le, take_all}
use Rattle.std.proofs.lemmas.Nat.Bits.{bit_at-zero, bit_at_set_same, bit_at_set_other, bit_at_clear_same, bit_at_clear_other}
use Rattle.std.specs.Int.{bit_at, bit_not, w8}
use Rattle.std.proofs.Common.{suc, zero, nat_eq, ◌^◌, bit_and, bit_or}
use Rattle.sub_types.specs.Bits.{bit_of, bits_of}

pub length-bits_of : (n : ℕ) (bytes : List ℕ) → length (bits_of n bytes) ≡ n
length-bits_of n bytes = length-map-range_with_len (bit_of bytes) 0 n

pub get_or-bits_of : (n : ℕ) (bytes : List ℕ) (i : ℕ) (d : Bool) → i < n → get_or (bits_of n bytes) i d ≡ bit_of bytes i
get_or-bits_of n bytes i d h = get_or-map-range_with_len (bit_of bytes) 0 n i i d h (omega arith)

-- bytes with the same bits are the same list
pub bits_of-same : (n : ℕ) (a b : List ℕ) → ((k : ℕ) → k < n → bit_of a k ≡ bit_of b k) → bits_of n a ≡ bits_of n b
bits_of-same n a b h = fill_by_all (bit_of b) (bits_of n a) n false (length-bits_of n a) (λ k lt. get_or-bits_of n a k false lt ∙ h k lt)

pub take-bits_of : (n k : ℕ) (bytes : List ℕ) → k ≤ n → take k (bits_of n bytes) ≡ bits_of k bytes
take-bits_of n k bytes h = take-map-range_with_len (bit_of bytes) 0 n k h

pub bits_of-more : (n : ℕ) (bytes : List ℕ) → bits_of (n + 1) bytes ≡ bits_of n bytes ++ bit_of bytes n ∷ []
bits_of-more n bytes = map-range_with_len_more (bit_of bytes) 0 n n (omega arith)

-- what a write of one bit leaves: this bit, and every other as it was
pub record WritesBit (old new : List ℕ) (i : ℕ) (b : Bool) : Type 0 where
  pub put : bit_of new i ≡ b
  pub others : (k : ℕ) → k ≢ i → bit_of new k ≡ bit_of old k

pub set-bits_of : (n : ℕ) (old new : List ℕ) (i : ℕ) (b : Bool) → WritesBit old new i b → i < n → bits_of n new ≡ set (bits_of n old) i b
set-bits_of n old new i b w h =
    sym (fill_by_all (bit_of new) (set (bits_of n old) i b) n false (length-set (bits_of n old) i b ∙ length-bits_of n old) at)
  where
    within : i < length (bits_of n old)
    within = rw (length-bits_of n old) h

    at : (k : ℕ) → k < n → get_or (set (bits_of n old) i b) k false ≡ bit_of new k
    at k lt = elim (cases_eq k i) [ inl e ↦ rw e (get_or-set_same (bits_of n old) i b false within ∙ sym w.put) | inr ne ↦ get_or-set_other (bits_of n old) i k b false ne ∙ get_or-bits_of n old k false lt ∙ sym (w.others k ne) ]

-- a push: the bit after the last is this, and those before are as they were
pub push-bits_of : (n : ℕ) (old new : List ℕ) (b : Bool) → bit_of new n ≡ b → ((k : ℕ) → k < n → bit_of new k ≡ bit_of old k) → bits_of (n + 1) new ≡ bits_of n old ++ b ∷ []
push-bits_of n old new b put same = bits_of-more n new ∙ ap (λ front. front ++ bit_of new n ∷ []) (bits_of-same n new old same) ∙ ap (λ last. bits_of n old ++ last ∷ []) put

-- past the end stand zeros anyhow
get_or-zero_more : (bytes : List ℕ) (i : ℕ) → get_or (bytes ++ 0 ∷ []) i 0 ≡ get_or bytes i 0
get_or-zero_more [] zero = refl
get_or-zero_more [] (suc i) = refl
get_or-zero_more (b ∷ bytes) zero = refl
get_or-zero_more (b ∷ bytes) (suc i) = get_or-zero_more bytes i

get_or-zeros : (count i : ℕ) → get_or {A = ℕ} (replicate count 0) i 0 ≡ 0
get_or-zeros zero i = refl
get_or-zeros (suc count) zero = refl
get_or-zeros (suc count) (suc i) = get_or-zeros count i

zero_bit : (count k : ℕ) → bit_of (replicate count 0) k ≡ false
zero_bit count k = ap (λ byte. nat_eq (bit_at byte (k % 8)) 1) (get_or-zeros count (k / 8)) ∙ ap (λ bit. nat_eq bit 1) (bit_at-zero (k % 8))

-- a zero byte at the end holds no bit that wasn't there
pub bit_of-zero_more : (bytes : List ℕ) (k : ℕ) → bit_of (bytes ++ 0 ∷ []) k ≡ bit_of bytes k
bit_of-zero_more bytes k = ap (λ byte. nat_eq (bit_at byte (k % 8)) 1) (get_or-zero_more bytes (k / 8))

-- bytes of zeros are no bits
pub zeros-bits_of : (n count : ℕ) → bits_of n (replicate count 0) ≡ replicate n false
zeros-bits_of n count = sym (fill_by_all (bit_of (replicate count 0)) (replicate n false) n false (length-replicate n false) (λ k lt. get_or-replicate n k false false lt ∙ sym (zero_bit count k)))

-- a byte of the list written over
byte_written : (bytes : List ℕ) (i byte : ℕ) → i / 8 < length bytes → bit_of (set bytes (i / 8) byte) i ≡ nat_eq (bit_at byte (i % 8)) 1
byte_written bytes i byte h = ap (λ b. nat_eq (bit_at b (i % 8)) 1) (get_or-set_same bytes (i / 8) byte 0 h)

-- a byte that agrees with the old one but at one bit leaves every other bit of the list
others_stay : (bytes : List ℕ) (i byte : ℕ) → i / 8 < length bytes → ((k : ℕ) → k < 8 → k ≢ i % 8 → bit_at byte k ≡ bit_at (get_or bytes (i / 8) 0) k) → (k : ℕ) → k ≢ i → bit_of (set bytes (i / 8) byte) k ≡ bit_of bytes k
others_stay bytes i byte h same k ne = elim (cases_eq (k / 8) (i / 8)) [
  | inl e ↦
      let here : get_or (set bytes (i / 8) byte) (k / 8) 0 ≡ byte = rw e (get_or-set_same bytes (i / 8) byte 0 h) in
      let apart : k % 8 ≢ i % 8 = λ m. ne (omega arith) in
      let small : k % 8 < 8 = omega arith in
      ap (λ b. nat_eq (bit_at b (k % 8)) 1) here ∙ ap (λ bit. nat_eq bit 1) (same (k % 8) small apart ∙ ap (λ j. bit_at (get_or bytes j 0) (k % 8)) (sym e))
  | inr away ↦ ap (λ b. nat_eq (bit_at b (k % 8)) 1) (get_or-set_other bytes (i / 8) (k / 8) byte 0 away)
]

pub WritesBit-set : (bytes : List ℕ) (i : ℕ) → i / 8 < length bytes → WritesBit bytes (set bytes (i / 8) (bit_or (get_or bytes (i / 8) 0) (1 * 2 ^ (i % 8) % 2 ^ 8))) i true
WritesBit-set bytes i h =
    let small : i % 8 < 8 = omega arith in
    record {
      put = byte_written bytes i _ h ∙ ap (λ bit. nat_eq bit 1) (bit_at_set_same w8 (get_or bytes (i / 8) 0) (i % 8) small);
      others = others_stay bytes i _ h (λ k lt ne. bit_at_set_other w8 (get_or bytes (i / 8) 0) (i % 8) small k ne);
    }

pub WritesBit-clear : (bytes : List ℕ) (i : ℕ) → i / 8 < length bytes → WritesBit bytes (set bytes (i / 8) (bit_and (get_or bytes (i / 8) 0) (bit_not w8 (1 * 2 ^ (i % 8) % 2 ^ 8)))) i false
WritesBit-clear bytes i h =
    let small : i % 8 < 8 = omega arith in
    record {
      put = byte_written bytes i _ h ∙ ap (λ bit. nat_eq bit 1) (bit_at_clear_same w8 (get_or bytes (i / 8) 0) (i % 8) small);
      others = others_stay bytes i _ h (λ k lt ne. bit_at_clear_other w8 (get_or bytes (i / 8) 0) (i % 8) small k lt ne);
    }

-- a bit written behind the last, over bytes that hold the same bits
pub push_view : (n : ℕ) (old middle new : List ℕ) (b : Bool) → ((k : ℕ) → bit_of middle k ≡ bit_of old k) → bit_of new n ≡ b → ((k : ℕ) → k ≢ n → bit_of new k ≡ bit_of middle k) → bits_of (n + 1) new ≡ bits_of n old ++ b ∷ []
push_view n old middle new b same put others = push-bits_of n old new b put (λ k lt. others k (λ e. absurd (omega arith)) ∙ same k)

-- bytes that hold the first n bits hold them alone
pub bits_of-take : (n count : ℕ) (bytes : List ℕ) → n ≤ 8 * count → bits_of n (take count bytes) ≡ bits_of n bytes
bits_of-take n count bytes h = bits_of-same n (take count bytes) bytes (λ k lt. let below : k / 8 < count = omega arith in ap (λ byte. nat_eq (bit_at byte (k % 8)) 1) (get_or-take count bytes (k / 8) 0 below))

-- a vector whose items were all written anew has just these
pub refilled : (n : ℕ) (items written : List ℕ) → length written ≡ length items → n ≡ length items → take n (written ++ drop (length written) items) ≡ written
refilled n items written e h =
    let within : n ≤ length written = omega arith in
    rw take-append-le (take_all n written (omega arith))
