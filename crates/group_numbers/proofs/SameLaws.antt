-- Keys that are the same are equal.
use Rattle.std.proofs.Common.{◌≡◌, ◌∙◌, List, [], ◌∷◌, Bool, true, false, ◌&&◌, refl, ap}
use Rattle.std.specs.declared.cmp.Ordering.{Ordering}
use Rattle.std.specs.declared.cmp.Ordering.TheVariants.{Less, Equal, Greater}
use Rattle.std.specs.Ordering.{is_eq, nat_cmp, int_cmp, ordering_then}
use Rattle.std.specs.Cmp.Lexicographic.{slice_cmp}
use Rattle.std.specs.FinMap.{int_cmp-IsAntisymmetric, nat_cmp-IsAntisymmetric, slice_cmp-IsAntisymmetric}
use Rattle.sub_types.specs.declared.value.Value.{Value}
use Rattle.sub_types.specs.declared.value.Value.TheVariants as values
use Rattle.plan_denote.specs.Order.{is_same}
use Rattle.plan_denote.specs.Distinct.{is_same_row}

equal_is : (o : Ordering) → is_eq o ≡ true → o ≡ Equal
equal_is Less e = absurd (cc)
equal_is Equal e = refl
equal_is Greater e = absurd (cc)

first_equal : (o : Ordering) → is_eq (ordering_then o Equal) ≡ true → o ≡ Equal
first_equal Less e = absurd (cc)
first_equal Equal e = refl
first_equal Greater e = absurd (cc)

same_value : (a b : Value) → is_same a b ≡ true → a ≡ b
same_value values.Null values.Null e = refl
same_value values.Null (values.Bool false) e = absurd (cc)
same_value values.Null (values.Bool true) e = absurd (cc)
same_value values.Null (values.Int y) e = absurd (cc)
same_value values.Null (values.Dec y) e = absurd (cc)
same_value values.Null (values.Bytes y) e = absurd (cc)
same_value (values.Bool false) values.Null e = absurd (cc)
same_value (values.Bool false) (values.Bool false) e = refl
same_value (values.Bool false) (values.Bool true) e = absurd (cc)
same_value (values.Bool false) (values.Int y) e = absurd (cc)
same_value (values.Bool false) (values.Dec y) e = absurd (cc)
same_value (values.Bool false) (values.Bytes y) e = absurd (cc)
same_value (values.Bool true) values.Null e = absurd (cc)
same_value (values.Bool true) (values.Bool false) e = absurd (cc)
same_value (values.Bool true) (values.Bool true) e = refl
same_value (values.Bool true) (values.Int y) e = absurd (cc)
same_value (values.Bool true) (values.Dec y) e = absurd (cc)
same_value (values.Bool true) (values.Bytes y) e = absurd (cc)
same_value (values.Int x) values.Null e = absurd (cc)
same_value (values.Int x) (values.Bool false) e = absurd (cc)
same_value (values.Int x) (values.Bool true) e = absurd (cc)
same_value (values.Int x) (values.Int y) e = ap (λ v. values.Int v) (int_cmp-IsAntisymmetric x y (first_equal (int_cmp x y) e))
same_value (values.Int x) (values.Dec y) e = absurd (cc)
same_value (values.Int x) (values.Bytes y) e = absurd (cc)
same_value (values.Dec x) values.Null e = absurd (cc)
same_value (values.Dec x) (values.Bool false) e = absurd (cc)
same_value (values.Dec x) (values.Bool true) e = absurd (cc)
same_value (values.Dec x) (values.Int y) e = absurd (cc)
same_value (values.Dec x) (values.Dec y) e = ap (λ v. values.Dec v) (int_cmp-IsAntisymmetric x y (first_equal (int_cmp x y) e))
same_value (values.Dec x) (values.Bytes y) e = absurd (cc)
same_value (values.Bytes x) values.Null e = absurd (cc)
same_value (values.Bytes x) (values.Bool false) e = absurd (cc)
same_value (values.Bytes x) (values.Bool true) e = absurd (cc)
same_value (values.Bytes x) (values.Int y) e = absurd (cc)
same_value (values.Bytes x) (values.Dec y) e = absurd (cc)
same_value (values.Bytes x) (values.Bytes y) e = ap (λ v. values.Bytes v) (slice_cmp-IsAntisymmetric nat_cmp-IsAntisymmetric x y (equal_is (slice_cmp nat_cmp x y) e))

both_true : (a b : Bool) → a && b ≡ true → (a ≡ true) × (b ≡ true)
both_true true b e = (refl, e)
both_true false b e = absurd (cc)

pub same_key : (x y : List Value) → is_same_row x y ≡ true → x ≡ y
same_key [] [] e = refl
same_key [] (b ∷ y) e = absurd (cc)
same_key (a ∷ x) [] e = absurd (cc)
same_key (a ∷ x) (b ∷ y) e =
    let both = both_true (is_same a b) (is_same_row x y) e in
    ap (λ v. v ∷ x) (same_value a b both.0) ∙ ap (λ vs. b ∷ vs) (same_key x y both.1)
