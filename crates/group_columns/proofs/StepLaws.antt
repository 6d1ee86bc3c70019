-- A row or a group more, and how many values all groups have.
use Rattle.std.proofs.Common.{◌≡◌, ◌∙◌, ℕ, zero, suc, ◌+◌, ◌<◌, ◌≤◌, List, [], ◌∷◌, ◌++◌, Bool, true, false, not, cond, None, length, get_or, refl, sym, ap, drop, drop-cons, arith}
use Rattle.std.proofs.lemmas.List.{length-set}
use Rattle.std.proofs.lemmas.List.Sums.{sum_by-set, sum_by-cons, sum_by-append}
use Rattle.sub_types.specs.declared.value.Value.{Value}
use Rattle.sub_types.specs.declared.value.Value.TheVariants.{Null}
use Rattle.plan_denote.specs.Computed.{is_true, is_null}
use Rattle.plan_denote.specs.Tally.{Tally}
use Rattle.group_laws.specs.Columns.{spread, next_value}
use Rattle.group_laws.specs.Merged.{tallies_merged}
use Rattle.group_tallies.specs.declared.tallies.Keeping.{Keeping}
use Rattle.group_tallies.specs.declared.tallies.Keeping.TheVariants as keepings
use Rattle.group_tallies.specs.Kept.{none, tally_at, with_tally, kept_of}
use Rattle.group_columns.specs.Columns.{with_members, count_in, trues_in}

drop_more : {A : Type 0} (xs : List A) (i : ℕ) (d : A) → i < length xs → drop i xs ≡ get_or xs i d ∷ drop (i + 1) xs
drop_more xs i d h =
    let next : suc i ≡ i + 1 = omega arith in
    drop-cons xs i d h ∙ ap (λ n. get_or xs i d ∷ drop n xs) next

-- how many values all groups have
pub count_at : (tallies : List Tally) (n : ℕ) → n < length tallies → (tally_at tallies n).count ≤ count_in tallies
count_at [] n h = absurd (omega (arith, h))
count_at (tally ∷ tallies) zero h =
    let e : count_in (tally ∷ tallies) ≡ tally.count + count_in tallies = sum_by-cons (λ t. t.count) tally tallies in
    omega (arith, e)
count_at (tally ∷ tallies) (suc n) h =
    let rest = count_at tallies n (omega (arith, h)) in
    let e : count_in (tally ∷ tallies) ≡ tally.count + count_in tallies = sum_by-cons (λ t. t.count) tally tallies in
    omega (arith, rest, e)

pub count_with : (tallies : List Tally) (n : ℕ) (later : Tally) → n < length tallies → count_in (with_tally tallies n later) ≡ count_in tallies + later.count
count_with tallies n later h =
    let e : count_in (with_tally tallies n later) + (tally_at tallies n).count ≡ count_in tallies + ((tally_at tallies n).count + later.count)
    = sum_by-set (λ t. t.count) tallies n (tallies_merged (tally_at tallies n) later) none h in
    omega (arith, e)

pub count_end : (tallies more : List Tally) → more ≡ tallies ++ none ∷ [] → count_in more ≡ count_in tallies
count_end tallies more is =
    let e : count_in (tallies ++ none ∷ []) ≡ count_in tallies + count_in (none ∷ []) = sum_by-append (λ t. t.count) tallies (none ∷ []) in
    let f : count_in (none ∷ []) ≡ 0 + 0 = sum_by-cons (λ t. t.count) none [] in
    ap count_in is ∙ omega (arith, e, f)

short : (b : Bool) (value : Value) → length (cond b (value ∷ []) []) ≤ 1
short true value = omega arith
short false value = omega arith

few_kept : (keeping : Keeping) (value : Value) → (kept_of keeping value).count ≤ 1
few_kept keepings.Count value = short (not (is_null value)) value
few_kept keepings.Total value = short (not (is_null value)) value
few_kept keepings.Least value = omega arith
few_kept keepings.Greatest value = omega arith

-- a row
pub row_done : (keeping : Keeping) (old new : List Tally) (numbers : List ℕ) (tests values : List Value) (row place next : ℕ) (b : Bool)
    → row < length numbers → row < length tests → (b ≡ true → place < length values) → is_true (get_or tests row Null) ≡ b
    → new ≡ cond b (with_tally old (get_or numbers row 0) (kept_of keeping (get_or values place Null))) old → next ≡ cond b (place + 1) place
    → with_members keeping new (drop (row + 1) numbers) (spread (drop (row + 1) tests) (drop next values)) ≡ with_members keeping old (drop row numbers) (spread (drop row tests) (drop place values))
row_done keeping old new numbers tests values row place next true h g there e n m =
    let number = get_or numbers row 0 in
    let test = get_or tests row Null in
    let value = get_or values place Null in
    ap (λ t. with_members keeping t (drop (row + 1) numbers) (spread (drop (row + 1) tests) (drop next values))) n
    ∙ ap (λ i. with_members keeping (with_tally old number (kept_of keeping value)) (drop (row + 1) numbers) (spread (drop (row + 1) tests) (drop i values))) m
    ∙ sym (
    ap (λ l. with_members keeping old l (spread (drop row tests) (drop place values))) (drop_more numbers row 0 h)
    ∙ ap (λ l. with_members keeping old (number ∷ drop (row + 1) numbers) (spread l (drop place values))) (drop_more tests row Null g)
    ∙ ap (λ l. with_members keeping old (number ∷ drop (row + 1) numbers) (spread (test ∷ drop (row + 1) tests) l)) (drop_more values place Null (there refl))
    ∙ ap (λ t. with_members keeping old (number ∷ drop (row + 1) numbers) (cond t (next_value (value ∷ drop (place + 1) values) (spread (drop (row + 1) tests))) (None ∷ spread (drop (row + 1) tests) (value ∷ drop (place + 1) values)))) e
    )
row_done keeping old new numbers tests values row place next false h g there e n m =
    let number = get_or numbers row 0 in
    let test = get_or tests row Null in
    ap (λ t. with_members keeping t (drop (row + 1) numbers) (spread (drop (row + 1) tests) (drop next values))) n
    ∙ ap (λ i. with_members keeping old (drop (row + 1) numbers) (spread (drop (row + 1) tests) (drop i values))) m
    ∙ sym (
    ap (λ l. with_members keeping old l (spread (drop row tests) (drop place values))) (drop_more numbers row 0 h)
    ∙ ap (λ l. with_members keeping old (number ∷ drop (row + 1) numbers) (spread l (drop place values))) (drop_more tests row Null g)
    ∙ ap (λ t. with_members keeping old (number ∷ drop (row + 1) numbers) (cond t (next_value (drop place values) (spread (drop (row + 1) tests))) (None ∷ spread (drop (row + 1) tests) (drop place values)))) e
    )

trues_more : (tests : List Value) (row : ℕ) (b : Bool) → row < length tests → is_true (get_or tests row Null) ≡ b → trues_in (drop row tests) ≡ cond b (suc (trues_in (drop (row + 1) tests))) (trues_in (drop (row + 1) tests))
trues_more tests row b h e = ap trues_in (drop_more tests row Null h) ∙ ap (λ t. cond t (suc (trues_in (drop (row + 1) tests))) (trues_in (drop (row + 1) tests))) e

pub trues_done : (tests : List Value) (row place next most : ℕ) (b : Bool) → row < length tests → is_true (get_or tests row Null) ≡ b → next ≡ cond b (place + 1) place → trues_in (drop row tests) + place ≤ most → trues_in (drop (row + 1) tests) + next ≤ most
trues_done tests row place next most true h e n le = let d = trues_more tests row true h e in omega (arith, d, n, le)
trues_done tests row place next most false h e n le = let d = trues_more tests row false h e in omega (arith, d, n, le)

pub value_there : (tests : List Value) (row place most : ℕ) → row < length tests → trues_in (drop row tests) + place ≤ most → is_true (get_or tests row Null) ≡ true → place < most
value_there tests row place most h le e = let d = trues_more tests row true h e in omega (arith, d, le)

pub count_done : (keeping : Keeping) (old new : List Tally) (number : ℕ) (value : Value) (row most : ℕ) (b : Bool) → number < length old → new ≡ cond b (with_tally old number (kept_of keeping value)) old → count_in old ≤ most + row → count_in new ≤ most + (row + 1)
count_done keeping old new number value row most true h n le =
    let e = ap count_in n in
    let f = count_with old number (kept_of keeping value) h in
    let g = few_kept keeping value in
    omega (arith, e, f, g, le)
count_done keeping old new number value row most false h n le = let e = ap count_in n in omega (arith, e, le)

pub length_done : (old new : List Tally) (number : ℕ) (later : Tally) (b : Bool) → new ≡ cond b (with_tally old number later) old → length new ≡ length old
length_done old new number later true n = ap length n ∙ length-set old number (tallies_merged (tally_at old number) later)
length_done old new number later false n = ap length n

pub place_done : (row place next : ℕ) (b : Bool) → next ≡ cond b (place + 1) place → place ≤ row → next ≤ row + 1
place_done row place next true e h = omega (arith, e, h)
place_done row place next false e h = omega (arith, e, h)
