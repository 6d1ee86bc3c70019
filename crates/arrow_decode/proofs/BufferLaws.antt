-- The bits of a buffer.
use Rattle.std.proofs.Common.{◌≡◌, ◌∙◌, ℕ, zero, suc, ◌+◌, ◌*◌, ◌/◌, ◌%◌, ◌<◌, ◌≤◌, ◌==◌, List, ◌∷◌, map, take, refl, ap, arith}
use Rattle.std.specs.Int.{bit_at}
use Rattle.std.specs.List.{range_with_len}
use Rattle.std.proofs.lemmas.List.{get_or-take}
use Rattle.sub_types.specs.Bits.{bit_of, bits_of}

-- functions that agree on a range give the same list
pub map-range : {X : Type 0} (f g : ℕ → X) (start n : ℕ) → ((k : ℕ) → start ≤ k → k < start + n → f k ≡ g k) → map f (range_with_len start n) ≡ map g (range_with_len start n)
map-range f g start zero same = refl
map-range f g start (suc n) same =
    ap (λ x. x ∷ map f (range_with_len (start + 1) n)) (same start (omega arith) (omega arith))
    ∙ ap (λ xs. g start ∷ xs) (map-range f g (start + 1) n (λ k low high. same k (omega arith) (omega arith)))

-- the bits of as many bytes as they need
pub bits_of-take : (count size : ℕ) (bytes : List ℕ) → count ≤ 8 * size → bits_of count (take size bytes) ≡ bits_of count bytes
bits_of-take count size bytes enough =
    map-range (bit_of (take size bytes)) (bit_of bytes) 0 count (λ k low high.
    let below : k / 8 < size = omega arith in
    ap (λ byte. bit_at byte (k % 8) == 1) (get_or-take size bytes (k / 8) 0 below))
