-- The number that a word writes.
use Rattle.std.proofs.Common.{◌≡◌, ◌∙◌, sym, ap, refl, ℕ, ◌<◌, ◌^◌, List, Bool, true, false, cond, ◌&&◌, nat_le, Option, Some, None, Result, Ok, decimal, arith, rules}
use Rattle.std.proofs.lemmas.Bool.{le-leb, leb-true}
use Rattle.std.specs.Str.{bytes_eq}
use Rattle.std.specs.Str.Parse.{digits_value, ParsesUnsigned}
use Rattle.std.proofs.lemmas.Fmt.{decimal_is_IsNumeral, parse-decimal}
use Rattle.std.proofs.lemmas.Slice.Eq.{bytes_eq-Decides}
use Rattle.run_words.specs.Words.{number_within, IsNumber}

-- what the number has to be, as a test
abbrev test : ℕ → List ℕ → ℕ → Bool
test most word n = bytes_eq (decimal n) word && nat_le 1 n && nat_le n most

test_true : (most n : ℕ) (word : List ℕ) → IsNumber word n most → test most word n ≡ true
test_true most n word (is, some, within) =
    let same : bytes_eq (decimal n) word ≡ true = let e = sym is in search (rules, bytes_eq-Decides) in
    let low : nat_le 1 n ≡ true = le-leb 1 n some in
    let high : nat_le n most ≡ true = le-leb n most within in
    rw (same, low, high) refl

both : (a b : Bool) → a && b ≡ true → (a ≡ true) × (b ≡ true)
both true b e = (refl, e)
both false b e = absurd (cc)

facts : (most n : ℕ) (word : List ℕ) → test most word n ≡ true → IsNumber word n most
facts most n word e =
    let first = both (bytes_eq (decimal n) word && nat_le 1 n) (nat_le n most) e in
    let second = both (bytes_eq (decimal n) word) (nat_le 1 n) first.0 in
    let same : decimal n ≡ word = let t = second.0 in search (rules, bytes_eq-Decides) in
    (sym same, leb-true 1 n second.1, leb-true n most first.1)

-- the candidate, taken where it passes
abbrev taken : ℕ → List ℕ → ℕ → Option ℕ
taken most word n = cond (test most word n) (Some n) None

pub number_is : (most n : ℕ) (word : List ℕ) → n < 2 ^ 64 → IsNumber word n most → number_within most word ≡ Some n
unfolding number_within
number_is most n word small is =
    let value : digits_value 10 word ≡ n = ap (digits_value 10) is.0 ∙ (decimal_is_IsNumeral n small).1 in
    ap (taken most word) value ∙ ap (λ b. cond b (Some n) None) (test_true most n word is)

refused : (most n : ℕ) (word : List ℕ) (b : Bool) → test most word n ≡ b → (IsNumber word n most → ⊥) → cond b (Some n) None ≡ None
refused most n word true e none = absurd (none (facts most n word e))
refused most n word false e none = refl

pub number_none : (most : ℕ) (word : List ℕ) → ((n : ℕ) → IsNumber word n most → ⊥) → number_within most word ≡ None
unfolding number_within
number_none most word none = let n = digits_value 10 word in refused most n word (test most word n) refl (none n)

-- a number that is written is the one that is read
pub read_number : {E : Type 0} (word : List ℕ) (n most : ℕ) (read : Result ℕ E) → ParsesUnsigned 32 10 word read → n < 2 ^ 32 → IsNumber word n most → read ≡ Ok n
read_number word n most read parses small (is, some, within) = parse-decimal 32 n word read small (omega arith) is parses
