-- What stands before the first byte that passes a test, and behind the last, by places.
use Rattle.std.proofs.Common.{◌≡◌, ◌∙◌, ap, sym, ℕ, ◌<◌, ◌≤◌, ◌-◌, ◌+◌, Bool, true, false, not, List, length, take, drop, get_or, arith, length-drop}
use Rattle.std.proofs.lemmas.List.{take_all}
use Rattle.std.proofs.lemmas.List.Sums.{position_or_len_is, suffix_len_is}
use Rattle.std.specs.List.{before_first, after_last, suffix_len}

pub before_first-at : (p : ℕ → Bool) (xs : List ℕ) (i : ℕ) → i ≤ length xs → ((k : ℕ) → k < i → p (get_or xs k 0) ≡ false) → (i < length xs → p (get_or xs i 0) ≡ true) → take i xs ≡ before_first p xs
before_first-at p xs i within before here = ap (λ n. take n xs) (sym (position_or_len_is p xs i 0 within before here))

pub after_last-at : (p : ℕ → Bool) (xs : List ℕ) (n : ℕ) → n ≤ length xs → ((k : ℕ) → n ≤ k → k < length xs → p (get_or xs k 0) ≡ false) → (0 < n → p (get_or xs (n - 1) 0) ≡ true) → drop n xs ≡ after_last p xs
after_last-at p xs n within behind here =
    let passed : suffix_len (λ x. not (p x)) xs ≡ length xs - n =
    suffix_len_is (λ x. not (p x)) xs n 0 within (λ k above below. ap not (behind k above below)) (λ some. ap not (here some)) in
    ap (λ at. drop at xs) (omega (arith, passed))

pub after_last-behind : (p : ℕ → Bool) (xs : List ℕ) (i : ℕ) → i < length xs → ((k : ℕ) → i + 1 ≤ k → k < length xs → p (get_or xs k 0) ≡ false) → p (get_or xs i 0) ≡ true → take (length xs - (i + 1)) (drop (i + 1) xs) ≡ after_last p xs
after_last-behind p xs i within behind here =
    let same : i + 1 - 1 ≡ i = omega arith in
    take_all (length xs - (i + 1)) (drop (i + 1) xs) (omega (arith, length-drop (i + 1) xs))
    ∙ after_last-at p xs (i + 1) (omega arith) behind (λ some. ap (λ at. p (get_or xs at 0)) same ∙ here)
