-- The number that digits write, and when 64 bits don't hold it.
use Rattle.std.specs.Prelude.{◌≡◌, ℕ, ◌+◌, ◌-◌, ◌*◌, ◌^◌, ◌<◌, ◌≤◌, List, [], ◌∷◌, Bool, true, false, ◌&&◌, Some, length, take}
use Rattle.std.specs.List.{list_all}
use Rattle.std.specs.Str.Parse.{digits_value}
use Rattle.std.proofs.Common.{ap, ◌∙◌, arith, lit≤, get_or}
use Rattle.std.proofs.lemmas.Bool.Decides.{nat_tests}
use Rattle.std.proofs.lemmas.Int.Digits.{digits_value_more}
use Rattle.std.proofs.lemmas.List.Folds.{list_all_more}
use Rattle.std.proofs.lemmas.Str.{digit_value_digit}
use Rattle.std.proofs.lemmas.Str.Parse.{digits_value-take-le}
use Rattle.sub_types.specs.OptionSteps.{when}
use Rattle.plan_denote.specs.Casts.{is_digit, unsigned_of}

value_of : (b : Bool) (m n : ℕ) → when b (Some m) ≡ Some n → m ≡ n
value_of true m n e = cc
value_of false m n e = absurd (cc)

-- more digits write no smaller number
pub too_long : (ds : List ℕ) (i : ℕ) → 2 ^ 64 ≤ digits_value 10 (take i ds) → (n : ℕ) → unsigned_of ds ≡ Some n → 2 ^ 64 ≤ n
too_long [] i h n e = absurd (cc)
too_long (d ∷ ds) i h n e =
    let same : digits_value 10 (d ∷ ds) ≡ n = value_of (list_all is_digit (d ∷ ds)) (digits_value 10 (d ∷ ds)) n e in
    omega (arith, digits_value-take-le 10 (d ∷ ds) i (lit≤ tt))

-- one more digit
pub more_digits : (ds : List ℕ) (i n : ℕ) → i < length ds → n ≡ digits_value 10 (take i ds) → 48 ≤ get_or ds i 0 → get_or ds i 0 ≤ 57 → n * 10 + (get_or ds i 0 - 48) ≡ digits_value 10 (take (i + 1) ds)
more_digits ds i n h e low high =
    omega (arith, digits_value_more 10 ds i h, digit_value_digit (get_or ds i 0) (low, high))

one_digit : (byte : ℕ) → 48 ≤ byte → byte ≤ 57 → is_digit byte ≡ true
one_digit byte low high = grind (arith, nat_tests)

pub more_all_digits : (ds : List ℕ) (i : ℕ) → i < length ds → list_all is_digit (take i ds) ≡ true → 48 ≤ get_or ds i 0 → get_or ds i 0 ≤ 57 → list_all is_digit (take (i + 1) ds) ≡ true
more_all_digits ds i h e low high =
    list_all_more is_digit ds i 0 h ∙ ap (λ t. t && is_digit (get_or ds i 0)) e ∙ one_digit (get_or ds i 0) low high
