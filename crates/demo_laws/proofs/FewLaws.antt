-- Items of which no two are the same are no more than those among which they are.
use Rattle.std.proofs.Common.{◌≡◌, ◌∙◌, suc, ◌≤◌, List, [], ◌∷◌, Bool, true, false, cond, not, ◌⊎◌, inl, inr, length, refl, sym, ap, arith}
use Rattle.std.specs.List.{AllByRecursion, filter}
use Rattle.plan_denote.specs.Distinct.{distinct}
use Rattle.denote_typed.proofs.RowsLaws.{every, passed, filtered_all, distinct_all}

-- an item is among these
abbrev pub IsAmong : {A : Type 0} → List A → A → Type 0
IsAmong [] x = ⊥
IsAmong (y ∷ ys) x = (x ≡ y) ⊎ IsAmong ys x

-- all but one item: another one of them is among the rest
record Rest {A : Type 0} (known : List A) (x : A) : Type 0 where
  pub others : List A
  pub one_less : length known ≡ suc (length others)
  pub kept : (y : A) → IsAmong known y → (y ≡ x) ⊎ IsAmong others y

rest_of : {A : Type 0} (known : List A) (x : A) → IsAmong known x → Rest known x
rest_of [] x there = absurd there
rest_of (y ∷ ys) x (inl is) = record {
  others = ys;
  one_less = refl;
  kept = λ z there. elim there [ inl same ↦ inl (same ∙ sym is) | inr later ↦ inr later ];
}
rest_of {A = A} (y ∷ ys) x (inr later) =
    let rest = rest_of ys x later in
    record {
      others = y ∷ rest.others;
      one_less = ap suc rest.one_less;
      kept = λ z there. elim there [ inl same ↦ inr (inl same) | inr behind ↦ further z rest.others (rest.kept z behind) ];
    }
  where
    further : (z : A) (others : List A) → (z ≡ x) ⊎ IsAmong others z → (z ≡ x) ⊎ IsAmong (y ∷ others) z
    further z others (inl same) = inl same
    further z others (inr there) = inr (inr there)

module _ {A : Type 0} (same : A → A → Bool) (itself : (x : A) → same x x ≡ true) where
  -- no item is the same as a later one
  abbrev pub Differ : List A → Type 0
  Differ [] = Unit {0}
  Differ (x ∷ xs) = AllByRecursion (λ y. same x y ≡ false) xs × Differ xs

  not_that : (x : A) (others : List A) (y : A) → same x y ≡ false → (y ≡ x) ⊎ IsAmong others y → IsAmong others y
  not_that x others y differs (inl is) = let wrong : true ≡ false = sym (itself x) ∙ ap (same x) (sym is) ∙ differs in absurd (cc)
  not_that x others y differs (inr there) = there

  all_left : (known : List A) (x : A) (rest : Rest known x) (xs : List A) → AllByRecursion (λ y. same x y ≡ false) xs → AllByRecursion (IsAmong known) xs → AllByRecursion (IsAmong rest.others) xs
  all_left known x rest [] differ among = tt
  all_left known x rest (y ∷ xs) differ among = (not_that x rest.others y differ.0 (rest.kept y among.0), all_left known x rest xs differ.1 among.1)

  no_more : (known xs : List A) → Differ xs → AllByRecursion (IsAmong known) xs → length xs ≤ length known
  no_more known [] differ among = omega arith
  no_more known (x ∷ xs) differ among =
      let rest = rest_of known x among.0 in
      omega (arith, no_more rest.others xs differ.1 (all_left known x rest xs differ.0 among.1), rest.one_less)

  -- what is left out leaves such items
  cond_differ : (test : Bool) (x : A) (xs : List A) → AllByRecursion (λ y. same x y ≡ false) xs → Differ xs → Differ (cond test (x ∷ xs) xs)
  cond_differ true x xs apart differ = (apart, differ)
  cond_differ false x xs apart differ = differ

  passed_differ : (test : A → Bool) (xs : List A) → Differ xs → Differ (filter test xs)
  passed_differ test [] differ = tt
  passed_differ test (x ∷ xs) differ =
      cond_differ (test x) x (filter test xs) (filtered_all (λ y. same x y ≡ false) test xs differ.0) (passed_differ test xs differ.1)

  is_false : (test : Bool) → not test ≡ true → test ≡ false
  is_false true is = absurd (cc)
  is_false false is = refl

  distinct_differ : (xs : List A) → Differ (distinct same xs)
  distinct_differ [] = tt
  distinct_differ (x ∷ xs) = (
    passed (λ y. Unit {0}) (λ y. same x y ≡ false) (λ y. not (same x y)) (distinct same xs) (every (λ y. Unit {0}) (distinct same xs) (λ y. tt)) (λ y _ is. is_false (same x y) is),
    passed_differ (λ y. not (same x y)) (distinct same xs) (distinct_differ xs),
  )

  -- items that are each among known ones, each of them once
  pub few_distinct : (known xs : List A) → AllByRecursion (IsAmong known) xs → length (distinct same xs) ≤ length known
  few_distinct known xs among = no_more known (distinct same xs) (distinct_differ xs) (distinct_all (IsAmong known) same xs among)
