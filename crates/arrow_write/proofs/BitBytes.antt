-- The bytes of truth values, eight to a byte.
use Rattle.std.proofs.Common.{◌≡◌, ◌+◌, ◌-◌, ◌*◌, ◌/◌, ◌%◌, ◌^◌, ◌<◌, ◌≤◌, ◌∙◌, ℕ, zero, suc, List, [], ◌∷◌, ◌++◌, length, get_or, take, Bool, false, cond, nat_eq, sym, ap, refl, arith, ⊎_elim}
use Rattle.std.specs.List.{range_with_len, sum_by}
use Rattle.std.specs.Int.{bit_at}
use Rattle.std.proofs.lemmas.Bool.{cases_lt}
use Rattle.std.proofs.lemmas.Nat.{mod-pow-add}
use Rattle.std.proofs.lemmas.Nat.Bits.{bit_at-lt}
use Rattle.std.proofs.lemmas.List.{get_or_past, get_or-take, length-append, length-take, get_or_append_left, get_or_push}
use Rattle.std.proofs.lemmas.List.Sums.{sum_by_push}
use Rattle.std.proofs.lemmas.List.FromFn.{length-map-range_with_len, get_or-map-range_with_len, fill_by_all}
use Rattle.sub_types.specs.Bits.{bit_of, bits_of, IsPacked}
use Rattle.arrow_meta.specs.Buffers.{packed, byte_of_bits}

-- the number whose first so many bits are these
abbrev low_bits : (ℕ → Bool) → ℕ → ℕ
low_bits bit m = sum_by (λ j. cond (bit j) (2 ^ j) 0) (range_with_len 0 m)

range_push : (a n : ℕ) → range_with_len a (suc n) ≡ range_with_len a n ++ (a + n) ∷ []
range_push a zero = let e : a ≡ a + 0 = omega arith in ap (λ k. k ∷ []) e
range_push a (suc n) = let e : a + 1 + n ≡ a + suc n = omega arith in ap (λ rest. a ∷ rest) (range_push (a + 1) n ∙ ap (λ k. range_with_len (a + 1) n ++ k ∷ []) e)

low_bits-more : (bit : ℕ → Bool) (m : ℕ) → low_bits bit (suc m) ≡ low_bits bit m + cond (bit m) (2 ^ m) 0
low_bits-more bit m =
    let e : 0 + m ≡ m = omega arith in
    ap (sum_by (λ j. cond (bit j) (2 ^ j) 0)) (range_push 0 m) ∙ sum_by_push (λ j. cond (bit j) (2 ^ j) 0) (range_with_len 0 m) (0 + m)
    ∙ ap (λ k. low_bits bit m + cond (bit k) (2 ^ k) 0) e

-- a bit that is 0 or 1, times a power
bit_times : (b p : ℕ) → b < 2 → cond (nat_eq b 1) p 0 ≡ b * p
bit_times zero p h = omega arith
bit_times (suc zero) p h = omega arith
bit_times (suc (suc b)) p h = absurd (omega arith)

-- the bits of a number give its remainder
low_bits-of-number : (n : ℕ) (bit : ℕ → Bool) (m : ℕ) → ((j : ℕ) → j < m → bit j ≡ nat_eq (bit_at n j) 1) → low_bits bit m ≡ n % 2 ^ m
low_bits-of-number n bit zero same = omega arith
low_bits-of-number n bit (suc m) same =
    let rest = low_bits-of-number n bit m (λ j h. same j (omega arith)) in
    let last : bit m ≡ nat_eq (bit_at n m) 1 = same m (omega arith) in
    low_bits-more bit m ∙ ap (λ low. low + cond (bit m) (2 ^ m) 0) rest ∙ ap (λ b. n % 2 ^ m + cond b (2 ^ m) 0) last
    ∙ ap (λ b. n % 2 ^ m + b) (bit_times (bit_at n m) (2 ^ m) (bit_at-lt n m)) ∙ sym (split n m)
  where
    split : (n m : ℕ) → n % 2 ^ suc m ≡ n % 2 ^ m + bit_at n m * 2 ^ m
    split n m = let e : suc m ≡ 1 + m = omega arith in ap (λ k. n % 2 ^ k) e ∙ mod-pow-add n 1 m ∙ omega arith

-- bits that are 0 add nothing
low_bits-past : (bit : ℕ → Bool) (m more : ℕ) → ((j : ℕ) → m ≤ j → bit j ≡ false) → low_bits bit (m + more) ≡ low_bits bit m
low_bits-past bit m zero none = let e : m + 0 ≡ m = omega arith in ap (low_bits bit) e
low_bits-past bit m (suc more) none =
    let e : m + suc more ≡ suc (m + more) = omega arith in
    ap (low_bits bit) e ∙ low_bits-more bit (m + more) ∙ ap (λ b. low_bits bit (m + more) + cond b (2 ^ (m + more)) 0) (none (m + more) (omega arith))
    ∙ ap (λ n. n + 0) (low_bits-past bit m more none) ∙ omega arith

-- the byte of eight places, of which the first m are bits of a byte and the others lie past the end
byte_is : (bits : List Bool) (bytes : List ℕ) (k m : ℕ) → m ≤ 8 → ((j : ℕ) → j < m → get_or bits (8 * k + j) false ≡ nat_eq (bit_at (get_or bytes k 0) j) 1) → ((j : ℕ) → m ≤ j → get_or bits (8 * k + j) false ≡ false)
    → byte_of_bits bits (8 * k) ≡ get_or bytes k 0 % 2 ^ m
byte_is bits bytes k m few same none =
    let bit : ℕ → Bool = λ j. get_or bits (8 * k + j) false in
    let all : 8 ≡ m + (8 - m) = omega arith in
    ap (low_bits bit) all ∙ low_bits-past bit m (8 - m) none ∙ low_bits-of-number (get_or bytes k 0) bit m same

-- a bit of packed bits is that of its byte
bit_there : (n : ℕ) (bits : List Bool) (bytes : List ℕ) (k j : ℕ) → bits ≡ bits_of n bytes → j < 8 → 8 * k + j < n → get_or bits (8 * k + j) false ≡ nat_eq (bit_at (get_or bytes k 0) j) 1
bit_there n bits bytes k j view small below =
    let i = 8 * k + j in
    let byte : i / 8 ≡ k = omega arith in
    let place : i % 8 ≡ j = omega arith in
    ap (λ xs. get_or xs i false) view ∙ get_or-map-range_with_len (bit_of bytes) 0 n i i false below (omega arith)
    ∙ ap (λ q. nat_eq (bit_at (get_or bytes q 0) (i % 8)) 1) byte ∙ ap (λ r. nat_eq (bit_at (get_or bytes k 0) r) 1) place

bit_past : (n : ℕ) (bits : List Bool) (i : ℕ) → length bits ≡ n → n ≤ i → get_or bits i false ≡ false
bit_past n bits i long past = get_or_past bits i false (omega arith)

below_byte : (b : ℕ) → b < 256 → b % 2 ^ 8 ≡ b
below_byte b h = omega arith

-- a whole byte
pub whole_byte : (n : ℕ) (bits : List Bool) (bytes : List ℕ) (k : ℕ) → bits ≡ bits_of n bytes → length bits ≡ n → k < n / 8 → get_or bytes k 0 < 256 → byte_of_bits bits (8 * k) ≡ get_or bytes k 0
whole_byte n bits bytes k view long below small =
    let inside : 8 * k + 8 ≤ n = omega arith in
    byte_8 ∙ below_byte (get_or bytes k 0) small
  where
    sums : (bit : ℕ → Bool) → ((j : ℕ) → j < 8 → bit j ≡ nat_eq (bit_at (get_or bytes k 0) j) 1) → low_bits bit 8 ≡ get_or bytes k 0 % 2 ^ 8
    sums bit same = low_bits-of-number (get_or bytes k 0) bit 8 same

    byte_8 : byte_of_bits bits (8 * k) ≡ get_or bytes k 0 % 2 ^ 8
    byte_8 = sums (λ j. get_or bits (8 * k + j) false) (λ j h. bit_there n bits bytes k j view h (omega arith))

-- the last byte, of which only some bits are used
pub last_byte : (n : ℕ) (bits : List Bool) (bytes : List ℕ) → bits ≡ bits_of n bytes → length bits ≡ n → byte_of_bits bits (8 * (n / 8)) ≡ get_or bytes (n / 8) 0 % 2 ^ (n % 8)
last_byte n bits bytes view long =
    byte_is bits bytes (n / 8) (n % 8) (omega arith) (λ j h. bit_there n bits bytes (n / 8) j view (omega arith) (omega arith)) (λ j h. bit_past n bits (8 * (n / 8) + j) long (omega arith))

shifted : (r : ℕ) → r < 8 → 1 * 2 ^ r % 256 ≡ 2 ^ r
shifted zero h = refl
shifted (suc zero) h = refl
shifted (suc (suc zero)) h = refl
shifted (suc (suc (suc zero))) h = refl
shifted (suc (suc (suc (suc zero)))) h = refl
shifted (suc (suc (suc (suc (suc zero))))) h = refl
shifted (suc (suc (suc (suc (suc (suc zero)))))) h = refl
shifted (suc (suc (suc (suc (suc (suc (suc zero))))))) h = refl
shifted (suc (suc (suc (suc (suc (suc (suc (suc r)))))))) h = absurd (omega arith)

-- whole bytes alone
pub packed-whole : (n : ℕ) (bytes out : List ℕ) → IsPacked n bytes → ((k : ℕ) → get_or bytes k 0 < 256) → n % 8 ≡ 0 → out ≡ take (n / 8) bytes → out ≡ packed (bits_of n bytes)
unfolding packed
packed-whole n bytes out room small none is =
    let bits = bits_of n bytes in
    let long : length bits ≡ n = length-map-range_with_len (bit_of bytes) 0 n in
    let long_out : length out ≡ (length bits + 7) / 8 = ap length is ∙ length-take (n / 8) bytes ∙ omega (arith, room.enough) in
    fill_by_all (λ k. byte_of_bits bits (8 * k)) out ((length bits + 7) / 8) 0 long_out (λ k h.
    let below : k < n / 8 = omega arith in
    ap (λ xs. get_or xs k 0) is ∙ get_or-take (n / 8) bytes k 0 below ∙ sym (whole_byte n bits bytes k refl long below (small k)))

-- whole bytes and the last one
pub packed-rest : (n : ℕ) (bytes out : List ℕ) → IsPacked n bytes → ((k : ℕ) → get_or bytes k 0 < 256) → 0 < n % 8
    → out ≡ take (n / 8) bytes ++ (get_or bytes (n / 8) 0 % (1 * 2 ^ (n % 8) % 256)) ∷ [] → out ≡ packed (bits_of n bytes)
unfolding packed
packed-rest n bytes out room small some is =
    let bits = bits_of n bytes in
    let long : length bits ≡ n = length-map-range_with_len (bit_of bytes) 0 n in
    let whole = n / 8 in
    let front = take whole bytes in
    let last = get_or bytes whole 0 % (1 * 2 ^ (n % 8) % 256) in
    let last_is : last ≡ byte_of_bits bits (8 * whole) = ap (λ p. get_or bytes whole 0 % p) (shifted (n % 8) (omega arith)) ∙ sym (last_byte n bits bytes refl long) in
    let long_front : length front ≡ whole = length-take whole bytes ∙ omega (arith, room.enough) in
    let long_out : length out ≡ (length bits + 7) / 8 = ap length is ∙ length-append front (last ∷ []) ∙ omega arith in
    fill_by_all (λ k. byte_of_bits bits (8 * k)) out ((length bits + 7) / 8) 0 long_out (λ k h.
    ap (λ xs. get_or xs k 0) is ∙ ⊎_elim
    (λ (early : k < whole). get_or_append_left front (last ∷ []) 0 k (omega arith) ∙ get_or-take whole bytes k 0 early ∙ sym (whole_byte n bits bytes k refl long early (small k)))
    (λ (late : whole ≤ k).
    let here : k ≡ whole = omega arith in
    ap (λ i. get_or (front ++ last ∷ []) i 0) here ∙ get_or_push front last 0 whole long_front ∙ last_is ∙ ap (λ i. byte_of_bits bits (8 * i)) (sym here))
    (cases_lt k whole))
