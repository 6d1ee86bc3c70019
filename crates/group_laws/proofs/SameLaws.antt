-- Values and rows that are the same.
use Rattle.std.proofs.Common.{◌≡◌, ◌∙◌, [], ◌∷◌, Bool, true, false, ◌&&◌, refl, ap}
use Rattle.std.specs.declared.cmp.Ordering.{Ordering}
use Rattle.std.specs.declared.cmp.Ordering.TheVariants.{Less, Equal, Greater}
use Rattle.std.specs.Ordering.{is_eq, ordering_reverse}
use Rattle.plan_denote.specs.Computed.{Row}
use Rattle.plan_denote.specs.Order.{value_cmp, is_same}
use Rattle.plan_denote.specs.Distinct.{is_same_row}
use Rattle.plan_denote.proofs.OrderLaws.{value_cmp_total}

-- a test that doesn't tell apart two items of which it says that they are the same
pub record IsSameness {A : Type 0} (same : A → A → Bool) : Type 0 where
  pub itself : (x : A) → same x x ≡ true
  pub symm : (x y : A) → same x y ≡ same y x
  pub congr : (x y z : A) → same x y ≡ true → same x z ≡ same y z

back_is_eq : (o : Ordering) → is_eq (ordering_reverse o) ≡ is_eq o
back_is_eq Less = refl
back_is_eq Equal = refl
back_is_eq Greater = refl

equal_is : (o : Ordering) → is_eq o ≡ true → o ≡ Equal
equal_is Less e = absurd (cc)
equal_is Equal e = refl
equal_is Greater e = absurd (cc)

turned : (o : Ordering) → o ≡ ordering_reverse o → is_eq o ≡ true
turned Less e = absurd (cc)
turned Equal e = refl
turned Greater e = absurd (cc)

pub same_values : IsSameness is_same
same_values = record {
  itself = λ x. turned (value_cmp x x) (value_cmp_total.antisymm x x);
  symm = λ x y. ap is_eq (value_cmp_total.antisymm x y) ∙ back_is_eq (value_cmp y x);
  congr = λ x y z e. ap is_eq (value_cmp_total.congr x y z (equal_is (value_cmp x y) e));
}

both_true : (a b : Bool) → a && b ≡ true → (a ≡ true) × (b ≡ true)
both_true true b e = (refl, e)
both_true false b e = absurd (cc)

row_itself : (x : Row) → is_same_row x x ≡ true
row_itself [] = refl
row_itself (a ∷ x) = ap (λ t. t && is_same_row x x) (same_values.itself a) ∙ row_itself x

symm_rows : (x y : Row) → is_same_row x y ≡ is_same_row y x
symm_rows [] [] = refl
symm_rows [] (b ∷ y) = refl
symm_rows (a ∷ x) [] = refl
symm_rows (a ∷ x) (b ∷ y) = ap (λ t. t && is_same_row x y) (same_values.symm a b) ∙ ap (λ t. is_same b a && t) (symm_rows x y)

congr_rows : (x y z : Row) → is_same_row x y ≡ true → is_same_row x z ≡ is_same_row y z
congr_rows [] [] z e = refl
congr_rows [] (b ∷ y) z e = absurd (cc)
congr_rows (a ∷ x) [] z e = absurd (cc)
congr_rows (a ∷ x) (b ∷ y) [] e = refl
congr_rows (a ∷ x) (b ∷ y) (c ∷ z) e =
    let both = both_true (is_same a b) (is_same_row x y) e in
    ap (λ t. t && is_same_row x z) (same_values.congr a b c both.0) ∙ ap (λ t. is_same b c && t) (congr_rows x y z both.1)

pub same_rows : IsSameness is_same_row
same_rows = record { itself = row_itself; symm = symm_rows; congr = congr_rows }
