-- How many of the rows that are alike are in each input.
use Rattle.std.proofs.Common.{◌≡◌, ◌∙◌, ℕ, ◌+◌, ◌-◌, ◌<◌, ◌≤◌, List, [], ◌∷◌, Bool, length, min, get_or, drop, refl, sym, ap, subst, arith, inl, inr, ◌⊎◌}
use Rattle.std.specs.List.{sum}
use Rattle.std.proofs.lemmas.Bool.{cases_lt}
use Rattle.std.proofs.lemmas.List.{drop_more, drop_all}
use Rattle.std.proofs.lemmas.List.Sums.{sum_by-cons}
use Rattle.hash_chains.specs.First.{rows_where}
use Rattle.set_places.specs.Taken.{times, times_each, AreEnds, least}
use Rattle.set_places.proofs.TimesLaws.{upto, times-zero, times-split, below_end, from_end}

-- all rows before a place are below the end, and that at the place isn't, if there is one
pub leading_is : (test : ℕ → Bool) (count end from at : ℕ) (alike : List ℕ) → alike ≡ rows_where test count → end ≤ count → from ≤ times test 0 end → at ≤ length alike
    → ((k d : ℕ) → from ≤ k → k < at → get_or alike k d < end) → (length alike ≤ at) ⊎ (end ≤ get_or alike at 0) → at ≡ times test 0 end
leading_is test count end from at alike is within low inside below stops =
    let zero : times test 0 end ≡ upto test end = times-zero test end in
    let long : length alike ≡ upto test count = ap length is in
    let total : upto test count ≡ upto test end + times test end count = times-split test end count within in
    let not_above : at ≤ upto test end =
    elim (cases_lt (upto test end) at) [
      | inl h ↦ absurd (
          let high : end ≤ get_or alike (upto test end) 0 = subst (λ rows. end ≤ get_or rows (upto test end) 0) (sym is) (from_end test end count (upto test end) 0 within (omega arith) (omega arith)) in
          let less : get_or alike (upto test end) 0 < end = below (upto test end) 0 (omega arith) h in
          omega arith)
      | inr h ↦ h
    ] in
    let not_below : upto test end ≤ at =
    elim stops [
      | inl done ↦ omega arith
      | inr stop ↦ elim (cases_lt at (upto test end)) [
        | inl h ↦ absurd (
            let less : get_or alike at 0 < end = subst (λ rows. get_or rows at 0 < end) (sym is) (below_end test end count at 0 within h) in
            omega arith)
        | inr h ↦ h
      ]
    ] in
    omega arith

-- the rows of the inputs behind a row are all the others
pub total_each : (test : ℕ → Bool) (from : ℕ) (ends : List ℕ) (count : ℕ) → AreEnds from ends count → upto test from + sum (times_each test from ends) ≡ upto test count
total_each test from [] count done =
    let same : upto test from ≡ upto test count = ap (upto test) done in
    omega arith
total_each test from (end ∷ ends) count are =
    let here : upto test end ≡ upto test from + times test from end = times-split test from end are.0 in
    let rest : upto test end + sum (times_each test end ends) ≡ upto test count = total_each test end ends count are.1 in
    let more : sum (times_each test from (end ∷ ends)) ≡ times test from end + sum (times_each test end ends) = sum_by-cons (λ n. n) (times test from end) (times_each test end ends) in
    omega arith

pub elsewhere_is : (test : ℕ → Bool) (first many : ℕ) (others : List ℕ) (count : ℕ) (alike : List ℕ) → alike ≡ rows_where test count → AreEnds first others count → many ≡ times test 0 first → length alike - many ≡ sum (times_each test first others)
elsewhere_is test first many others count alike is are front =
    let total = total_each test first others count are in
    let zero = times-zero test first in
    let long : length alike ≡ upto test count = ap length is in
    omega arith

-- the ends are within the rows
pub ends_within : (from : ℕ) (ends : List ℕ) (count : ℕ) → AreEnds from ends count → from ≤ count
ends_within from [] count done = omega arith
ends_within from (end ∷ ends) count are =
    let rest = ends_within end ends count are.1 in
    let low = are.0 in
    omega arith

pub fewer : (test : ℕ → Bool) (from end : ℕ) → from ≤ end → times test 0 from ≤ times test 0 end
fewer test from end h =
    let a = times-zero test from in
    let b = times-zero test end in
    let more = times-split test from end h in
    omega arith

-- the least so far, with what is left of the inputs
pub record IsLeast (test : ℕ → Bool) (count at now : ℕ) (ends : List ℕ) (all : ℕ) : Type 0 where
  pub start : ℕ
  pub from : at ≡ times test 0 start
  pub are : AreEnds start ends count
  pub rest : least now (times_each test start ends) ≡ all

pub least_more : (test : ℕ → Bool) (count at next now more end : ℕ) (ends : List ℕ) (i all : ℕ) → i < length ends → end ≡ get_or ends i 0 → (end ≤ count → at ≤ times test 0 end → next ≡ times test 0 end) → more ≡ min now (next - at)
    → IsLeast test count at now (drop i ends) all → IsLeast test count next more (drop (i + 1) ends) all
least_more test count at next now more end ends i all below here leads min_is so_far =
    let rest = drop (i + 1) ends in
    let parts : drop i ends ≡ end ∷ rest = drop_more ends i 0 below ∙ ap (λ e. e ∷ rest) (sym here) in
    let are : AreEnds so_far.start (end ∷ rest) count = subst (λ l. AreEnds so_far.start l count) parts so_far.are in
    let front : at ≡ times test 0 so_far.start = so_far.from in
    let low : at ≤ times test 0 end = subst (λ n. n ≤ times test 0 end) (sym front) (fewer test so_far.start end are.0) in
    let next_is : next ≡ times test 0 end = leads (ends_within end rest count are.1) low in
    let one : next - at ≡ times test so_far.start end =
    (let a = times-zero test so_far.start in let b = times-zero test end in let more = times-split test so_far.start end are.0 in omega arith) in
    record {
      start = end;
      from = next_is;
      are = are.1;
      rest = ap (λ n. least n (times_each test end rest)) (min_is ∙ ap (min now) one) ∙ sym (ap (λ l. least now (times_each test so_far.start l)) parts) ∙ so_far.rest;
    }

pub least_all : (test : ℕ → Bool) (count at now : ℕ) (ends : List ℕ) (i all : ℕ) → length ends ≤ i → IsLeast test count at now (drop i ends) all → now ≡ all
least_all test count at now ends i all done so_far = sym (ap (λ l. least now (times_each test so_far.start l)) (drop_all i ends done)) ∙ so_far.rest

pub least_begins : (test : ℕ → Bool) (count start at now : ℕ) (ends : List ℕ) → at ≡ times test 0 start → AreEnds start ends count → IsLeast test count at now ends (least now (times_each test start ends))
least_begins test count start at now ends from are = record { start = start; from = from; are = are; rest = refl }
