-- Numbers as bytes.
use Rattle.std.proofs.Common.{◌≡◌, ◌≤◌, ℕ, zero, suc, List, [], ◌∷◌, ◌++◌, length, take, drop, refl, ap, ◌∙◌, arith}
use Rattle.std.proofs.lemmas.List.{append-nil, drop_all, take_all}
use Rattle.std.specs.Int.{bytes_low_first, byte_at, to_le_bytes, w64}
use Rattle.byteorder.specs.Endian.{little_bytes}

-- the first bytes of a number's bytes are its low bytes
take-low_first : (n m i x : ℕ) → n ≤ m → take n (bytes_low_first i m x) ≡ bytes_low_first i n x
take-low_first zero m i x h = refl
take-low_first (suc n) zero i x h = absurd (omega arith)
take-low_first (suc n) (suc m) i x h = ap (λ (r : List ℕ). byte_at i x ∷ r) (take-low_first n m (suc i) x (omega arith))

pub take_little : (n x : ℕ) → n ≤ 8 → take n (to_le_bytes w64 x) ≡ little_bytes n x
take_little n x h = take-low_first n 8 0 x h

-- what a vector holds once a part of it was written over
pub written_over : (n : ℕ) (old new : List ℕ) → n ≡ length old → length new ≡ length old → take n (new ++ drop (length new) old) ≡ new
written_over n old new h e =
    let none : drop (length new) old ≡ [] = drop_all (length new) old (omega arith) in
    ap (λ (r : List ℕ). take n (new ++ r)) none ∙ ap (take n) (append-nil new) ∙ take_all n new (omega arith)
