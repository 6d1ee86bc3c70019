-- Numbers of a fixed width that stand one after the other.
use Rattle.std.proofs.Common.{◌≡◌, ◌∙◌, ℕ, zero, suc, ◌+◌, ◌*◌, ◌^◌, ◌<◌, List, [], ◌∷◌, ◌++◌, true, Some, length, get_or, drop, refl, sym, ap, arith, length-append, nat_le}
use Rattle.std.specs.List.{flat_map}
use Rattle.std.proofs.lemmas.Bool.{le-leb}
use Rattle.std.proofs.lemmas.List.{drop_at, drop-drop}
use Rattle.std.proofs.lemmas.List.FromFn.{fill_by_all}
use Rattle.std.proofs.Math.Nat.{mul-suc, mul-zero}
use Rattle.byteorder.specs.Endian.{little_number, little_bytes}
use Rattle.byteorder.specs.Numbers.{little_number-reads_back, length-bytes_low_first}
use Rattle.arrow_meta.specs.Values.{unsigned_in}

-- how long they are together
pub length-numbers : (size : ℕ) (numbers : List ℕ) → length (flat_map (little_bytes size) numbers) ≡ size * length numbers
length-numbers size [] = sym (mul-zero size)
length-numbers size (n ∷ numbers) =
    let rest = length-numbers size numbers in
    let own = length-bytes_low_first 0 size n in
    length-append (little_bytes size n) (flat_map (little_bytes size) numbers) ∙ omega (arith, rest, own, mul-suc size (length numbers))

-- the number at a place
number_at : (size : ℕ) (numbers : List ℕ) (k d : ℕ) → k < length numbers → get_or numbers k d < 256 ^ size
    → little_number size (drop (size * k) (flat_map (little_bytes size) numbers)) ≡ get_or numbers k d
number_at size [] k d below low = absurd (omega arith)
number_at size (n ∷ numbers) zero d below low = rw (mul-zero size) (little_number-reads_back size n (flat_map (little_bytes size) numbers) low)
number_at size (n ∷ numbers) (suc k) d below low =
    let rest = flat_map (little_bytes size) numbers in
    let place : size * suc k ≡ size + size * k = omega (arith, mul-suc size k) in
    ap (λ at. little_number size (drop at (little_bytes size n ++ rest))) place
    ∙ ap (little_number size) (sym (drop-drop (size * k) size (little_bytes size n ++ rest)))
    ∙ ap (λ behind. little_number size (drop (size * k) behind)) (drop_at (little_bytes size n) rest size (length-bytes_low_first 0 size n))
    ∙ number_at size numbers k d (omega arith) low

-- numbers that fit their width are read back
pub unsigned_back : (size : ℕ) (numbers : List ℕ) → ((k : ℕ) → k < length numbers → get_or numbers k 0 < 256 ^ size)
    → unsigned_in size (length numbers) (flat_map (little_bytes size) numbers) ≡ Some numbers
unfolding unsigned_in
unsigned_back size numbers low =
    let bytes = flat_map (little_bytes size) numbers in
    let enough : nat_le (size * length numbers) (length bytes) ≡ true = le-leb (size * length numbers) (length bytes) (omega (arith, length-numbers size numbers)) in
    let all = fill_by_all (λ i. little_number size (drop (size * i) bytes)) numbers (length numbers) 0 refl (λ k below. sym (number_at size numbers k 0 below (low k below))) in
    rw enough (ap (λ xs. Some xs) (sym all))
