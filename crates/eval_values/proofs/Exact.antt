-- Exact numbers: what is too large stays so, and a sum of decimals splits into tens and ones, and into two scales.
use Rattle.std.specs.Prelude.{◌≡◌, ℕ, ◌-◌, ◌*◌, ◌^◌, ◌<◌, ◌≤◌, ℤ, pos, ◌+ℤ◌, ◌-ℤ◌, ◌*ℤ◌, neg_ℤ, Option, int_div, int_rem, unsigned_abs}
use Rattle.std.specs.Int.{w128}
use Rattle.std.proofs.Common.{zero, suc, sym, ap, subst, ◌∙◌, arith, lit<, of_z}
use Rattle.std.proofs.Math.Nat.{mul-le-mul, pow-le-pow_right, one-le-pow}
use Rattle.std.proofs.lemmas.Int.{ints, unsigned_abs-mul, quot-rem}
use Rattle.std.proofs.lemmas.Nat.{pow-add}
use Rattle.eval_values.specs.Number.{IsNumber}

-- an equal number
pub number_along : (r : Option ℤ) (a b : ℤ) → a ≡ b → IsNumber r a → IsNumber r b
number_along r a b e h = subst (λ (z : ℤ). IsNumber r z) e h

-- a number other than 0 times a large power is too large
abs_one : (n : ℤ) → (n ≡ pos 0 → ⊥) → 1 ≤ unsigned_abs n
abs_one n h = omega (arith, ints)

pub too_many : (n : ℤ) (e : ℕ) → (of_z w128 n ≡ 0 → ⊥) → 38 < e → 10 ^ 38 ≤ unsigned_abs (n *ℤ pos (10 ^ e))
too_many n e h l =
    let m : 38 ≤ e = omega arith in
    let p : 10 ^ 38 ≤ 10 ^ e = pow-le-pow_right (lit< tt) m in
    let q : 1 * 10 ^ 38 ≤ unsigned_abs n * 10 ^ e = mul-le-mul (abs_one n (λ z. h (ap (of_z w128) z))) p in
    rw (unsigned_abs-mul n (pos (10 ^ e))) (omega (arith, q))

pub power_small : (e : ℕ) → e ≤ 38 → 10 ^ e ≤ 10 ^ 38
power_small e l = pow-le-pow_right (lit< tt) l

-- what is too large stays so when it is scaled up
pub scaled_large : (n : ℤ) (e : ℕ) → 10 ^ 38 ≤ unsigned_abs n → 10 ^ 38 ≤ unsigned_abs (n *ℤ pos (10 ^ e))
scaled_large n e h =
    let p : 1 ≤ 10 ^ e = one-le-pow e 10 (lit< tt) in
    let q : 10 ^ 38 * 1 ≤ unsigned_abs n * 10 ^ e = mul-le-mul h p in
    rw (unsigned_abs-mul n (pos (10 ^ e))) (omega (arith, q))

-- a sum and a difference as tens and ones; `high'`, `tens'` and `ones'` are the numbers as the code reads them
split_sum : (high low tens ones : ℤ) (p : ℕ) → (tens *ℤ pos 10) +ℤ ones ≡ low → (((high *ℤ pos p) +ℤ tens) *ℤ pos 10) +ℤ ones ≡ (high *ℤ pos (p * 10)) +ℤ low
split_sum high low tens ones p e = omega (arith, ints)

split_difference : (high low tens ones : ℤ) (p : ℕ) → (tens *ℤ pos 10) +ℤ ones ≡ low → (((high *ℤ pos p) +ℤ neg_ℤ tens) *ℤ pos 10) +ℤ neg_ℤ ones ≡ (high *ℤ pos (p * 10)) -ℤ low
split_difference high low tens ones p e = omega (arith, ints)

power_back : (by : ℕ) → 0 < by → 10 ^ (by - 1) * 10 ≡ 10 ^ by
power_back by h = sym (pow-add 10 (by - 1) 1) ∙ ap (λ n. 10 ^ n) (omega arith)

parts_along : (high tens ones high' tens' ones' : ℤ) (p : ℕ) → high' ≡ high → tens' ≡ tens → ones' ≡ ones → (((high' *ℤ pos p) +ℤ tens') *ℤ pos 10) +ℤ ones' ≡ (((high *ℤ pos p) +ℤ tens) *ℤ pos 10) +ℤ ones
parts_along high tens ones high' tens' ones' p h t o = cc

pub sum_of_parts : (high low high' tens' ones' : ℤ) (by : ℕ) → 0 < by → high' ≡ high → tens' ≡ int_div low (pos 10) → ones' ≡ int_rem low (pos 10) → (((high' *ℤ pos (10 ^ (by - 1))) +ℤ tens') *ℤ pos 10) +ℤ ones' ≡ (high *ℤ pos (10 ^ by)) +ℤ low
sum_of_parts high low high' tens' ones' by l h t o =
    parts_along high (int_div low (pos 10)) (int_rem low (pos 10)) high' tens' ones' (10 ^ (by - 1)) h t o
    ∙ split_sum high low (int_div low (pos 10)) (int_rem low (pos 10)) (10 ^ (by - 1)) (quot-rem low (pos 10))
    ∙ ap (λ p. (high *ℤ pos p) +ℤ low) (power_back by l)

pub difference_of_parts : (high low high' tens' ones' : ℤ) (by : ℕ) → 0 < by → high' ≡ high → tens' ≡ neg_ℤ (int_div low (pos 10)) → ones' ≡ neg_ℤ (int_rem low (pos 10)) → (((high' *ℤ pos (10 ^ (by - 1))) +ℤ tens') *ℤ pos 10) +ℤ ones' ≡ (high *ℤ pos (10 ^ by)) -ℤ low
difference_of_parts high low high' tens' ones' by l h t o =
    parts_along high (neg_ℤ (int_div low (pos 10))) (neg_ℤ (int_rem low (pos 10))) high' tens' ones' (10 ^ (by - 1)) h t o
    ∙ split_difference high low (int_div low (pos 10)) (int_rem low (pos 10)) (10 ^ (by - 1)) (quot-rem low (pos 10))
    ∙ ap (λ p. (high *ℤ pos p) -ℤ low) (power_back by l)

-- the power that both sides share
power_shared : (m n : ℕ) → m ≤ n → 10 ^ (n - m) * 10 ^ m ≡ 10 ^ n
power_shared m n l = sym (pow-add 10 (n - m) m) ∙ ap (λ k. 10 ^ k) (omega arith)

distribute : (a b : ℤ) (q : ℕ) → (a +ℤ b) *ℤ pos q ≡ (a *ℤ pos q) +ℤ (b *ℤ pos q)
distribute a b zero = omega (arith, ints)
distribute a b (suc q) =
    let h : (a +ℤ b) *ℤ pos q ≡ (a *ℤ pos q) +ℤ (b *ℤ pos q) = distribute a b q in
    omega (arith, ints)

distribute_less : (a b : ℤ) (q : ℕ) → (a -ℤ b) *ℤ pos q ≡ (a *ℤ pos q) -ℤ (b *ℤ pos q)
distribute_less a b zero = omega (arith, ints)
distribute_less a b (suc q) =
    let h : (a -ℤ b) *ℤ pos q ≡ (a *ℤ pos q) -ℤ (b *ℤ pos q) = distribute_less a b q in
    omega (arith, ints)

product_by : (a : ℤ) (p q : ℕ) → (a *ℤ pos p) *ℤ pos q ≡ a *ℤ pos (p * q)
product_by a p zero = omega (arith, ints)
product_by a p (suc q) =
    let h : (a *ℤ pos p) *ℤ pos q ≡ a *ℤ pos (p * q) = product_by a p q in
    omega (arith, ints)

scaled_along : (a : ℤ) (m n : ℕ) → n ≤ m → (a *ℤ pos (10 ^ (m - n))) *ℤ pos (10 ^ n) ≡ a *ℤ pos (10 ^ m)
scaled_along a m n l = product_by a (10 ^ (m - n)) (10 ^ n) ∙ ap (λ p. a *ℤ pos p) (power_shared n m l)

swapped : (a b : ℤ) → a +ℤ b ≡ b +ℤ a
swapped a b = omega (arith, ints)

turned : (a b : ℤ) → neg_ℤ (a -ℤ b) ≡ b -ℤ a
turned a b = omega (arith, ints)

-- a sum and a difference at two scales, the longer first or second; `a'` and `b'` are the numbers as the code reads them
pub longer_first : (a b a' b' : ℤ) (m n : ℕ) → a' ≡ a → b' ≡ b → n ≤ m → ((a' *ℤ pos (10 ^ (m - n))) +ℤ b') *ℤ pos (10 ^ n) ≡ (a *ℤ pos (10 ^ m)) +ℤ (b *ℤ pos (10 ^ n))
longer_first a b a' b' m n ea eb l =
    ap (λ z. ((z *ℤ pos (10 ^ (m - n))) +ℤ b') *ℤ pos (10 ^ n)) ea
    ∙ ap (λ z. ((a *ℤ pos (10 ^ (m - n))) +ℤ z) *ℤ pos (10 ^ n)) eb
    ∙ distribute (a *ℤ pos (10 ^ (m - n))) b (10 ^ n)
    ∙ ap (λ z. z +ℤ (b *ℤ pos (10 ^ n))) (scaled_along a m n l)

pub longer_second : (a b a' b' : ℤ) (m n : ℕ) → a' ≡ a → b' ≡ b → m < n → ((b' *ℤ pos (10 ^ (n - m))) +ℤ a') *ℤ pos (10 ^ m) ≡ (a *ℤ pos (10 ^ m)) +ℤ (b *ℤ pos (10 ^ n))
longer_second a b a' b' m n ea eb l =
    longer_first b a b' a' n m eb ea (omega arith) ∙ swapped (b *ℤ pos (10 ^ n)) (a *ℤ pos (10 ^ m))

pub longer_from : (a b a' b' : ℤ) (m n : ℕ) → a' ≡ a → b' ≡ b → n ≤ m → ((a' *ℤ pos (10 ^ (m - n))) -ℤ b') *ℤ pos (10 ^ n) ≡ (a *ℤ pos (10 ^ m)) -ℤ (b *ℤ pos (10 ^ n))
longer_from a b a' b' m n ea eb l =
    ap (λ z. ((z *ℤ pos (10 ^ (m - n))) -ℤ b') *ℤ pos (10 ^ n)) ea
    ∙ ap (λ z. ((a *ℤ pos (10 ^ (m - n))) -ℤ z) *ℤ pos (10 ^ n)) eb
    ∙ distribute_less (a *ℤ pos (10 ^ (m - n))) b (10 ^ n)
    ∙ ap (λ z. z -ℤ (b *ℤ pos (10 ^ n))) (scaled_along a m n l)

pub longer_taken : (a b a' b' : ℤ) (m n : ℕ) → a' ≡ a → b' ≡ b → m < n → neg_ℤ ((b' *ℤ pos (10 ^ (n - m))) -ℤ a') *ℤ pos (10 ^ m) ≡ (a *ℤ pos (10 ^ m)) -ℤ (b *ℤ pos (10 ^ n))
longer_taken a b a' b' m n ea eb l =
    ap (λ z. z *ℤ pos (10 ^ m)) (turned (b' *ℤ pos (10 ^ (n - m))) a')
    ∙ ap (λ z. (z -ℤ (b' *ℤ pos (10 ^ (n - m)))) *ℤ pos (10 ^ m)) ea
    ∙ ap (λ z. (a -ℤ (z *ℤ pos (10 ^ (n - m)))) *ℤ pos (10 ^ m)) eb
    ∙ distribute_less a (b *ℤ pos (10 ^ (n - m))) (10 ^ m)
    ∙ ap (λ z. (a *ℤ pos (10 ^ m)) -ℤ z) (scaled_along b n m (omega arith))
