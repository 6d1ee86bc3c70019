-- The tally of values and of the values behind them.
use Rattle.std.proofs.Common.{◌≡◌, ◌∙◌, ℕ, ◌+◌, ℤ, pos, ◌+ℤ◌, List, [], ◌∷◌, ◌++◌, Bool, true, false, not, cond, length, refl, sym, ap, arith, length-append}
use Rattle.std.specs.declared.cmp.Ordering.{Ordering}
use Rattle.std.specs.declared.cmp.Ordering.TheVariants.{Less, Equal, Greater}
use Rattle.std.specs.Ordering.{is_lt, is_gt, ordering_reverse}
use Rattle.std.proofs.lemmas.List.Elements.{filter-append}
use Rattle.std.proofs.lemmas.Int.{ints}
use Rattle.sub_types.specs.declared.value.Value.{Value}
use Rattle.sub_types.specs.declared.value.Value.TheVariants as values
use Rattle.plan_denote.specs.Computed.{is_null}
use Rattle.plan_denote.specs.Order.{value_cmp, number_in}
use Rattle.plan_denote.specs.Tally.{Tally, not_null, total_of, better_of, best_of, tally_of}
use Rattle.plan_denote.proofs.OrderLaws.{value_cmp_total}
use Rattle.group_laws.specs.Merged.{best_between, tallies_merged}

-- a better value is better than what the other is better than, and a value that no other is better than stays so
record IsBetter (is_better : Ordering → Bool) : Type 0 where
  chain : (x p q : Value) → is_better (value_cmp p x) ≡ true → is_better (value_cmp q p) ≡ true → is_better (value_cmp q x) ≡ true
  gap : (x p q : Value) → is_better (value_cmp p x) ≡ false → is_better (value_cmp q p) ≡ false → is_better (value_cmp q x) ≡ false

is_less : (o : Ordering) → is_lt o ≡ true → o ≡ Less
is_less Less e = refl
is_less Equal e = absurd (cc)
is_less Greater e = absurd (cc)

less_chain : (x p q : Value) → is_lt (value_cmp p x) ≡ true → is_lt (value_cmp q p) ≡ true → is_lt (value_cmp q x) ≡ true
less_chain x p q a b = ap is_lt (value_cmp_total.trans q p x (is_less (value_cmp q p) b) (is_less (value_cmp p x) a))

no_less : (x p q : Value) (o : Ordering) (t : Bool) → value_cmp p x ≡ o → is_lt o ≡ false → is_lt (value_cmp q p) ≡ false → is_lt (value_cmp q x) ≡ t → t ≡ false
no_less x p q o false c a b e = refl
no_less x p q Less true c a b e = absurd (cc)
no_less x p q Equal true c a b e = sym e ∙ ap is_lt (value_cmp_total.antisymm q x) ∙ ap (λ r. is_lt (ordering_reverse r)) (sym (value_cmp_total.congr p x q c)) ∙ sym (ap is_lt (value_cmp_total.antisymm q p)) ∙ b
no_less x p q Greater true c a b e = sym (ap is_lt (value_cmp_total.trans q x p (is_less (value_cmp q x) e) (value_cmp_total.antisymm x p ∙ ap ordering_reverse c))) ∙ b

less_gap : (x p q : Value) → is_lt (value_cmp p x) ≡ false → is_lt (value_cmp q p) ≡ false → is_lt (value_cmp q x) ≡ false
less_gap x p q a b = no_less x p q (value_cmp p x) (is_lt (value_cmp q x)) refl a b refl

is_less_than : IsBetter is_lt
is_less_than = record { chain = less_chain; gap = less_gap }

back_is : (o : Ordering) → is_gt (ordering_reverse o) ≡ is_lt o
back_is Less = refl
back_is Equal = refl
back_is Greater = refl

greater_is : (a b : Value) → is_gt (value_cmp a b) ≡ is_lt (value_cmp b a)
greater_is a b = ap is_gt (value_cmp_total.antisymm a b) ∙ back_is (value_cmp b a)

is_greater_than : IsBetter is_gt
is_greater_than = record {
  chain = λ x p q a b. greater_is q x ∙ less_chain q p x (sym (greater_is q p) ∙ b) (sym (greater_is p x) ∙ a);
  gap = λ x p q a b. greater_is q x ∙ less_gap q p x (sym (greater_is q p) ∙ b) (sym (greater_is p x) ∙ a);
}

pub null_is : (v : Value) → is_null v ≡ true → v ≡ values.Null
null_is values.Null e = refl
null_is (values.Bool x) e = absurd (cc)
null_is (values.Int x) e = absurd (cc)
null_is (values.Dec x) e = absurd (cc)
null_is (values.Bytes x) e = absurd (cc)

pub better_there : (is_better : Ordering → Bool) (v o : Value) → is_null o ≡ false → better_of is_better v o ≡ cond (is_better (value_cmp o v)) o v
better_there is_better v values.Null e = absurd (cc)
better_there is_better v (values.Bool x) e = refl
better_there is_better v (values.Int x) e = refl
better_there is_better v (values.Dec x) e = refl
better_there is_better v (values.Bytes x) e = refl

pub between_there : (is_better : Ordering → Bool) (v o : Value) → is_null v ≡ false → best_between is_better v o ≡ better_of is_better v o
between_there is_better values.Null o e = absurd (cc)
between_there is_better (values.Bool x) o e = refl
between_there is_better (values.Int x) o e = refl
between_there is_better (values.Dec x) o e = refl
between_there is_better (values.Bytes x) o e = refl

cond_not_null : (b : Bool) (o v : Value) → is_null o ≡ false → is_null v ≡ false → is_null (cond b o v) ≡ false
cond_not_null true o v p q = p
cond_not_null false o v p q = q

better_not_null : (is_better : Ordering → Bool) (v o : Value) (b : Bool) → is_null v ≡ false → is_null o ≡ b → is_null (better_of is_better v o) ≡ false
better_not_null is_better v o true n e = ap (λ x. is_null (better_of is_better v x)) (null_is o e) ∙ n
better_not_null is_better v o false n e = ap is_null (better_there is_better v o e) ∙ cond_not_null (is_better (value_cmp o v)) o v e n

-- of three values that are there
picked : (x p q : Value) (a b c : Bool) → (a ≡ true → b ≡ true → c ≡ true) → (a ≡ false → b ≡ false → c ≡ false)
    → cond b (cond c q x) (cond a p x) ≡ cond a (cond b q p) (cond c q x)
picked x p q true true c chain gap = ap (λ t. cond t q x) (chain refl refl)
picked x p q true false c chain gap = refl
picked x p q false true c chain gap = refl
picked x p q false false c chain gap = sym (ap (λ t. cond t q x) (gap refl refl))

cond_of : {X Y : Type 0} (f : X → Y) (b : Bool) (x y : X) → f (cond b x y) ≡ cond b (f x) (f y)
cond_of f true x y = refl
cond_of f false x y = refl

three_there : (is_better : Ordering → Bool) → IsBetter is_better → (x p q : Value) → is_null p ≡ false → is_null q ≡ false → better_of is_better x (better_of is_better p q) ≡ better_of is_better (better_of is_better x p) q
three_there is_better order x p q np nq =
    let a = is_better (value_cmp p x) in
    let b = is_better (value_cmp q p) in
    let c = is_better (value_cmp q x) in
    ap (better_of is_better x) (better_there is_better p q nq)
    ∙ cond_of (better_of is_better x) (is_better (value_cmp q p)) q p
    ∙ ap (λ v. cond (is_better (value_cmp q p)) v (better_of is_better x p)) (better_there is_better x q nq)
    ∙ ap (λ v. cond (is_better (value_cmp q p)) (cond (is_better (value_cmp q x)) q x) v) (better_there is_better x p np)
    ∙ picked x p q (is_better (value_cmp p x)) (is_better (value_cmp q p)) (is_better (value_cmp q x)) (order.chain x p q) (order.gap x p q)
    ∙ sym (ap (λ v. cond (is_better (value_cmp p x)) v (cond (is_better (value_cmp q x)) q x)) (better_there is_better p q nq))
    ∙ sym (ap (λ v. cond (is_better (value_cmp p x)) (better_of is_better p q) v) (better_there is_better x q nq))
    ∙ sym (cond_of (λ v. better_of is_better v q) (is_better (value_cmp p x)) p x)
    ∙ sym (ap (λ v. better_of is_better v q) (better_there is_better x p np))

-- a value before the best of others
one_more : (is_better : Ordering → Bool) → IsBetter is_better → (x p q : Value) (b c : Bool) → is_null x ≡ false → is_null p ≡ b → is_null q ≡ c
    → better_of is_better x (best_between is_better p q) ≡ best_between is_better (better_of is_better x p) q
one_more is_better order x p q true c nx np nq =
    ap (λ v. better_of is_better x (best_between is_better v q)) (null_is p np)
    ∙ sym (between_there is_better x q nx)
    ∙ sym (ap (λ v. best_between is_better (better_of is_better x v) q) (null_is p np))
one_more is_better order x p q false true nx np nq =
    ap (better_of is_better x) (between_there is_better p q np)
    ∙ ap (λ v. better_of is_better x (better_of is_better p v)) (null_is q nq)
    ∙ sym (ap (better_of is_better (better_of is_better x p)) (null_is q nq))
    ∙ sym (between_there is_better (better_of is_better x p) q (better_not_null is_better x p false nx np))
one_more is_better order x p q false false nx np nq =
    ap (better_of is_better x) (between_there is_better p q np)
    ∙ three_there is_better order x p q np nq
    ∙ sym (between_there is_better (better_of is_better x p) q (better_not_null is_better x p false nx np))

-- the best of values, without nulls, and of those behind them
best_step : (is_better : Ordering → Bool) → IsBetter is_better → (x : Value) (members later : List Value) (b : Bool) → is_null x ≡ b → best_of is_better (members ++ later) ≡ best_between is_better (best_of is_better members) (best_of is_better later)
    → best_of is_better (cond (not b) (x ∷ members) members ++ later) ≡ best_between is_better (best_of is_better (cond (not b) (x ∷ members) members)) (best_of is_better later)
best_step is_better order x members later true n h = h
best_step is_better order x members later false n h =
    ap (better_of is_better x) h ∙ one_more is_better order x (best_of is_better members) (best_of is_better later) (is_null (best_of is_better members)) (is_null (best_of is_better later)) n refl refl

best-append : (is_better : Ordering → Bool) → IsBetter is_better → (members later : List Value) → best_of is_better (not_null members ++ later) ≡ best_between is_better (best_of is_better (not_null members)) (best_of is_better later)
best-append is_better order [] later = refl
best-append is_better order (x ∷ members) later = best_step is_better order x (not_null members) later (is_null x) refl (best-append is_better order members later)

total-append : (members later : List Value) → total_of (members ++ later) ≡ total_of members +ℤ total_of later
total-append [] later = plus_none (total_of later)
  where
    plus_none : (n : ℤ) → n ≡ pos 0 +ℤ n
    plus_none n = omega (arith, ints)
total-append (x ∷ members) later = ap (λ n. number_in x +ℤ n) (total-append members later) ∙ regroup (number_in x) (total_of members) (total_of later)
  where
    regroup : (a b c : ℤ) → a +ℤ (b +ℤ c) ≡ (a +ℤ b) +ℤ c
    regroup a b c = omega (arith, ints)

pub tally-append : (members later : List Value) → tally_of (not_null (members ++ later)) ≡ tallies_merged (tally_of (not_null members)) (tally_of (not_null later))
tally-append members later =
    let a = not_null members in
    let b = not_null later in
    let l : length (not_null members ++ not_null later) ≡ length (not_null members) + length (not_null later) = length-append (not_null members) (not_null later) in
    ap tally_of (filter-append (λ value. not (is_null value)) members later)
    ∙ ap (λ n. record { count = n; total = total_of (not_null members ++ not_null later); least = best_of is_lt (not_null members ++ not_null later); greatest = best_of is_gt (not_null members ++ not_null later) }) l
    ∙ ap (λ n. record { count = length (not_null members) + length (not_null later); total = n; least = best_of is_lt (not_null members ++ not_null later); greatest = best_of is_gt (not_null members ++ not_null later) }) (total-append (not_null members) (not_null later))
    ∙ ap (λ n. record { count = length (not_null members) + length (not_null later); total = total_of (not_null members) +ℤ total_of (not_null later); least = n; greatest = best_of is_gt (not_null members ++ not_null later) }) (best-append is_lt is_less_than members (not_null later))
    ∙ ap (λ n. record { count = length (not_null members) + length (not_null later); total = total_of (not_null members) +ℤ total_of (not_null later); least = best_between is_lt (best_of is_lt (not_null members)) (best_of is_lt (not_null later)); greatest = n }) (best-append is_gt is_greater_than members (not_null later))

-- whatever is put together first
between_assoc : (is_better : Ordering → Bool) → IsBetter is_better → (x p q : Value) (b : Bool) → is_null x ≡ b → best_between is_better (best_between is_better x p) q ≡ best_between is_better x (best_between is_better p q)
between_assoc is_better order x p q true n =
    ap (λ v. best_between is_better (best_between is_better v p) q) (null_is x n) ∙ sym (ap (λ v. best_between is_better v (best_between is_better p q)) (null_is x n))
between_assoc is_better order x p q false n =
    ap (λ v. best_between is_better v q) (between_there is_better x p n)
    ∙ sym (one_more is_better order x p q (is_null p) (is_null q) n refl refl)
    ∙ sym (between_there is_better x (best_between is_better p q) n)

three_numbers : (a b c : ℕ) → (a + b) + c ≡ a + (b + c)
three_numbers a b c = omega arith

three_totals : (a b c : ℤ) → (a +ℤ b) +ℤ c ≡ a +ℤ (b +ℤ c)
three_totals a b c = omega (arith, ints)

pub merged_assoc : (a b c : Tally) → tallies_merged (tallies_merged a b) c ≡ tallies_merged a (tallies_merged b c)
merged_assoc a b c =
    ap (λ n. record { count = n; total = (a.total +ℤ b.total) +ℤ c.total; least = best_between is_lt (best_between is_lt a.least b.least) c.least; greatest = best_between is_gt (best_between is_gt a.greatest b.greatest) c.greatest }) (three_numbers a.count b.count c.count)
    ∙ ap (λ n. record { count = a.count + (b.count + c.count); total = n; least = best_between is_lt (best_between is_lt a.least b.least) c.least; greatest = best_between is_gt (best_between is_gt a.greatest b.greatest) c.greatest }) (three_totals a.total b.total c.total)
    ∙ ap (λ v. record { count = a.count + (b.count + c.count); total = a.total +ℤ (b.total +ℤ c.total); least = v; greatest = best_between is_gt (best_between is_gt a.greatest b.greatest) c.greatest }) (between_assoc is_lt is_less_than a.least b.least c.least (is_null a.least) refl)
    ∙ ap (λ v. record { count = a.count + (b.count + c.count); total = a.total +ℤ (b.total +ℤ c.total); least = best_between is_lt a.least (best_between is_lt b.least c.least); greatest = v }) (between_assoc is_gt is_greater_than a.greatest b.greatest c.greatest (is_null a.greatest) refl)
