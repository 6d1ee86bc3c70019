-- What is kept, and one value or tally more.
use Rattle.std.proofs.Common.{◌≡◌, ◌∙◌, ℕ, ◌+◌, ◌<◌, ℤ, pos, ◌+ℤ◌, List, [], ◌∷◌, Bool, true, false, not, ◌||◌, cond, length, map, set, get_or, refl, sym, ap, arith, add-zero}
use Rattle.std.proofs.lemmas.Int.{ints}
use Rattle.std.proofs.lemmas.List.{map-set, get_or-map, set-get_or}
use Rattle.std.specs.declared.cmp.Ordering.{Ordering}
use Rattle.std.specs.Ordering.{is_lt, is_gt}
use Rattle.sub_types.specs.declared.kind.Kind.{Kind}
use Rattle.sub_types.specs.declared.value.Value.{Value}
use Rattle.sub_types.specs.declared.value.Value.TheVariants as values
use Rattle.plan_typed.specs.declared.expr.Func.{Func}
use Rattle.plan_typed.specs.declared.expr.Func.TheVariants as funcs
use Rattle.plan_denote.specs.Computed.{is_null}
use Rattle.plan_denote.specs.Order.{value_cmp, number_in}
use Rattle.plan_denote.specs.Tally.{Tally, not_null, tally_of, better_of, final}
use Rattle.group_laws.specs.Merged.{best_between, tallies_merged}
use Rattle.group_laws.proofs.TallyLaws.{null_is, better_there, between_there}
use Rattle.group_tallies.specs.declared.tallies.Keeping.{Keeping}
use Rattle.group_tallies.specs.declared.tallies.Keeping.TheVariants as keepings
use Rattle.group_tallies.specs.Kept.{counted, summed, least_kept, greatest_kept, kept, keeping_of, none, tally_at, with_tally, kept_of}

-- what is kept of both is what is kept of each, merged
pub kept_merged : (keeping : Keeping) (a b : Tally) → kept keeping (tallies_merged a b) ≡ tallies_merged (kept keeping a) (kept keeping b)
kept_merged keepings.Count a b = refl
kept_merged keepings.Total a b = refl
kept_merged keepings.Least a b = refl
kept_merged keepings.Greatest a b = refl

-- a measure's value needs only what is kept
pub final_kept : (func : Func) (kind : Kind) (tally : Tally) → final func kind (kept (keeping_of func) tally) ≡ final func kind tally
final_kept funcs.Count kind tally = refl
final_kept funcs.Sum kind tally = refl
final_kept funcs.Avg kind tally = refl
final_kept funcs.Min kind tally = refl
final_kept funcs.Max kind tally = refl
final_kept _ kind tally = refl

-- a tally more in the group
pub set_tally : {X : Type 0} (f : X → Tally) (xs : List X) (group : ℕ) (x y : X) (later : Tally) → group < length xs → x ≡ get_or xs group x → f y ≡ tallies_merged (f x) later → map f (set xs group y) ≡ with_tally (map f xs) group later
set_tally f xs group x y later within is e =
    map-set f xs group y
    ∙ ap (set (map f xs) group) (e ∙ ap (λ t. tallies_merged t later) (ap f is ∙ sym (get_or-map f xs group x none within)))

pub stays_tally : {X : Type 0} (f : X → Tally) (xs : List X) (group : ℕ) (x : X) (later : Tally) → group < length xs → x ≡ get_or xs group x → f x ≡ tallies_merged (f x) later → map f xs ≡ with_tally (map f xs) group later
stays_tally f xs group x later within is e =
    ap (map f) (sym (set-get_or xs group x)) ∙ ap (λ y. map f (set xs group y)) (sym is) ∙ set_tally f xs group x x later within is e

-- a tally that leaves each as it is
pub same_tally : {X : Type 0} (f : X → Tally) (xs : List X) (group : ℕ) (later : Tally) → group < length xs → ((x : X) → tallies_merged (f x) later ≡ f x) → map f xs ≡ with_tally (map f xs) group later
same_tally f [] group later within e = absurd (omega (arith, within))
same_tally f (x ∷ xs) group later within e =
    sym (set-get_or (map f (x ∷ xs)) group none)
    ∙ ap (set (map f (x ∷ xs)) group) (get_or-map f (x ∷ xs) group x none within ∙ sym (e (get_or (x ∷ xs) group x)) ∙ sym (ap (λ t. tallies_merged t later) (get_or-map f (x ∷ xs) group x none within)))

-- of a value that is there
pub one_there : (value : Value) → is_null value ≡ false → tally_of (not_null (value ∷ [])) ≡ record { count = 1; total = number_in value +ℤ pos 0; least = value; greatest = value }
one_there value n = ap (λ b. tally_of (cond (not b) (value ∷ []) [])) n

-- of null nothing is kept
pub none_there : (keeping : Keeping) (value : Value) → is_null value ≡ true → kept_of keeping value ≡ none
none_there keepings.Count value n = ap (λ b. kept keepings.Count (tally_of (cond (not b) (value ∷ []) []))) n
none_there keepings.Total value n = ap (λ b. kept keepings.Total (tally_of (cond (not b) (value ∷ []) []))) n
none_there keepings.Least value n = ap (λ b. kept keepings.Least (tally_of (cond (not b) (value ∷ []) []))) n
none_there keepings.Greatest value n = ap (λ b. kept keepings.Greatest (tally_of (cond (not b) (value ∷ []) []))) n

no_number : (n : ℤ) → n +ℤ pos 0 ≡ n
no_number n = omega (arith, ints)

none_between : (is_better : Ordering → Bool) (value : Value) → best_between is_better value values.Null ≡ value
none_between is_better values.Null = refl
none_between is_better (values.Bool x) = refl
none_between is_better (values.Int x) = refl
none_between is_better (values.Dec x) = refl
none_between is_better (values.Bytes x) = refl

pub none_more : (tally : Tally) → tallies_merged tally none ≡ tally
none_more tally =
    ap (λ n. record { count = n; total = tally.total +ℤ pos 0; least = best_between is_lt tally.least values.Null; greatest = best_between is_gt tally.greatest values.Null }) (add-zero tally.count)
    ∙ ap (λ n. record { count = tally.count; total = n; least = best_between is_lt tally.least values.Null; greatest = best_between is_gt tally.greatest values.Null }) (no_number tally.total)
    ∙ ap (λ v. record { count = tally.count; total = tally.total; least = v; greatest = best_between is_gt tally.greatest values.Null }) (none_between is_lt tally.least)
    ∙ ap (λ v. record { count = tally.count; total = tally.total; least = tally.least; greatest = v }) (none_between is_gt tally.greatest)

-- a null leaves all tallies
pub null_stays : {X : Type 0} (f : X → Tally) (keeping : Keeping) (xs : List X) (group : ℕ) (value : Value) → group < length xs → is_null value ≡ true → map f xs ≡ with_tally (map f xs) group (kept_of keeping value)
null_stays f keeping xs group value within n = same_tally f xs group (kept_of keeping value) within (λ x. ap (tallies_merged (f x)) (none_there keeping value n) ∙ none_more (f x))

-- a count, a total and a better value
pub count_more : (count : ℕ) (value : Value) → is_null value ≡ false → counted (count + 1) ≡ tallies_merged (counted count) (kept_of keepings.Count value)
count_more count value n = sym (ap (λ t. tallies_merged (counted count) (kept keepings.Count t)) (one_there value n))

pub total_more : (count : ℕ) (total : ℤ) (value : Value) → is_null value ≡ false → summed (count + 1) (total +ℤ number_in value) ≡ tallies_merged (summed count total) (kept_of keepings.Total value)
total_more count total value n =
    ap (λ z. summed (count + 1) (total +ℤ z)) (sym (no_number (number_in value)))
    ∙ sym (ap (λ t. tallies_merged (summed count total) (kept keepings.Total t)) (one_there value n))

-- the better of a value and the best one
picked : (is_better : Ordering → Bool) (best value : Value) (b : Bool) → is_null value ≡ false → is_null best ≡ b → best_between is_better best value ≡ cond (b || is_better (value_cmp value best)) value best
picked is_better best value true v n = ap (λ x. best_between is_better x value) (null_is best n)
picked is_better best value false v n = between_there is_better best value n ∙ better_there is_better best value v

pub better_picked : (is_better : Ordering → Bool) (best value : Value) (t : Bool) → is_null value ≡ false → t ≡ (is_null best || is_better (value_cmp value best)) → best_between is_better best value ≡ cond t value best
better_picked is_better best value t v e = picked is_better best value (is_null best) v refl ∙ sym (ap (λ b. cond b value best) e)

pub least_more : (best value : Value) → is_null value ≡ false → least_kept (best_between is_lt best value) ≡ tallies_merged (least_kept best) (kept_of keepings.Least value)
least_more best value n = sym (ap (λ t. tallies_merged (least_kept best) (kept keepings.Least t)) (one_there value n))

pub greatest_more : (best value : Value) → is_null value ≡ false → greatest_kept (best_between is_gt best value) ≡ tallies_merged (greatest_kept best) (kept_of keepings.Greatest value)
greatest_more best value n = sym (ap (λ t. tallies_merged (greatest_kept best) (kept keepings.Greatest t)) (one_there value n))

-- the tally of an item
pub tally_of_item : {X : Type 0} (f : X → Tally) (xs : List X) (group : ℕ) (x : X) → group < length xs → x ≡ get_or xs group x → tally_at (map f xs) group ≡ f x
tally_of_item f xs group x within is = get_or-map f xs group x none within ∙ sym (ap f is)

-- of one value the best is that value
pub least_is : (value : Value) → kept_of keepings.Least value ≡ least_kept value
least_is values.Null = refl
least_is (values.Bool x) = refl
least_is (values.Int x) = refl
least_is (values.Dec x) = refl
least_is (values.Bytes x) = refl

pub greatest_is : (value : Value) → kept_of keepings.Greatest value ≡ greatest_kept value
greatest_is values.Null = refl
greatest_is (values.Bool x) = refl
greatest_is (values.Int x) = refl
greatest_is (values.Dec x) = refl
greatest_is (values.Bytes x) = refl
