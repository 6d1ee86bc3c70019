-- Each kind of step keeps the rule of the claims.
use Rattle.std.proofs.Common.{◌≡◌, ◌≢◌, ℕ, ◌+◌, ◌%◌, ◌^◌, ◌<◌, ◌≤◌, min, List, [], ◌∷◌, ◌++◌, cond, eqb, set, get_or, sum_by, arith, sym, ap, ◌∙◌, subst, refl, inl, inr}
use mathlib.Core.Option.{some, some-ne-none}
use lib.ListN.{get_elem?}
use Rattle.std.proofs.lemmas.Bool.{cases_lt, lt-ltb, le-ltb}
use Rattle.std.proofs.lemmas.Bool.Decides.{nat_tests}
use Rattle.std.proofs.lemmas.List.Sums.{sum_by-append}
use Rattle.run_core.specs.Counts.{times, once_below}
use Rattle.run_core.proofs.Counting.{times_push, once_more, once_none}
use Rattle.atomic_table.specs.Table.{Me, Allows, keeps}
use Rattle.atomic_table.proofs.Lists.{set_again}
use Rattle.scan_claims.specs.Claims.{IsEachOnce}
use Rattle.scan_claims.specs.Rule.{fresh, spent, FitsSeat, Kept, Holds, DrawsOne, LooksOn, keeping, parted, joined}
use Rattle.scan_claims.specs.declared.rule.Draws.{Draws}
use Rattle.scan_claims.specs.declared.rule.Limits.{Limits}
use Rattle.scan_claims.proofs.Views.{total_set, total_snoc, total_most, total_whole, each_set, each_snoc, other_at, total_le}

min_below : (word count : ℕ) → word < count → min word count ≡ word
min_below word count lt = omega arith

min_below_suc : (word count : ℕ) → word < count → min (word + 1) count ≡ word + 1
min_below_suc word count lt = omega arith

min_past : (word count : ℕ) → count ≤ word → min word count ≡ count
min_past word count le = omega arith

-- the word only grows
grows : (count seats word more : ℕ) (v : Draws) → word ≤ more → FitsSeat count seats word v → FitsSeat count seats more v
grows count seats word more v le f = record { ends_within = f.ends_within; ends_past = λ some_end. omega (arith, f.ends_past some_end); limits = f.limits; idle = f.idle }

not_below : (word count : ℕ) → once_below word (min word count) ≡ 0
not_below word count = grind (arith, nat_tests)

-- a number at or past the word was not drawn
not_drawn : (count seats word : ℕ) (views : List Draws) (id : ℕ) (v : Draws) → Kept count seats word views → get_elem? views id ≡ some v → times word v.numbers ≡ 0
not_drawn count seats word views id v k at =
    omega (arith, total_most (λ u. times word u.numbers) views id v at, k.numbers word, not_below word count)

once_within : (x word count : ℕ) → once_below x (min word count) ≤ once_below x count
once_within x word count = grind (arith, nat_tests)

min_below_zero : (count : ℕ) → min 0 count ≡ 0
min_below_zero count = omega arith

-- an end of either seat
past_either : {count word : ℕ} (a b : ℕ) → (0 < a → count ≤ word) → (0 < b → count ≤ word) → 0 < a + b → count ≤ word
past_either a b mine theirs some_end = elim (cases_lt 0 a) [ inl lt ↦ mine lt | inr le ↦ theirs (omega arith) ]

times_both : (x : ℕ) (xs ys : List ℕ) → times x (xs ++ ys) ≡ times x xs + times x ys
times_both x xs ys = sum_by-append (λ z. cond (eqb z x) 1 0) xs ys

-- all ends together are at most the shares
ends_most : (count seats word : ℕ) (views : List Draws) → Kept count seats word views → sum_by (λ v. v.ends) views ≤ seats
ends_most count seats word views k = omega (arith, total_le (λ v. v.ends) (λ v. v.share) views (λ id v at. (k.each id v at).ends_within), k.shares)

-- a draw below the count
pub draws_below : (count seats word : ℕ) (views : List Draws) (id : ℕ) (v : Draws) → Kept count seats word views → get_elem? views id ≡ some v → 0 < v.share → word < count
    → Kept count seats (word + 1) (set views id (record v { numbers = v.numbers ++ word ∷ [] }))
draws_below count seats word views id v k at some_share below =
    let w : Draws = record v { numbers = v.numbers ++ word ∷ [] } in
    let mine = k.each id v at in
    record {
      small = k.small;
      numbers = λ x. omega (arith, k.numbers x, total_set (λ u. times x u.numbers) views id v w at, times_push x v.numbers word, once_more x word, ap (once_below x) (min_below word count below), ap (once_below x) (min_below_suc word count below));
      near = omega (arith, k.near, total_set (λ u. u.ends) views id v w at);
      shares = omega (arith, k.shares, total_set (λ u. u.share) views id v w at);
      each = each_set (FitsSeat count seats (word + 1)) views id w
          record { ends_within = mine.ends_within; ends_past = λ some_end. omega (arith, mine.ends_past some_end); limits = mine.limits; idle = λ none. absurd (omega arith) }
          (λ j u e. grows count seats word (word + 1) u (omega arith) (k.each j u e));
    }

-- a draw at or past the count
pub draws_past : (count seats word : ℕ) (views : List Draws) (id : ℕ) (v : Draws) → Kept count seats word views → get_elem? views id ≡ some v → v.ends < v.share → count ≤ word
    → Kept count seats (word + 1) (set views id (record v { ends = v.ends + 1 }))
draws_past count seats word views id v k at room past =
    let w : Draws = record v { ends = v.ends + 1 } in
    let mine = k.each id v at in
    record {
      small = k.small;
      numbers = λ x. omega (arith, k.numbers x, total_set (λ u. times x u.numbers) views id v w at, ap (once_below x) (min_past word count past), ap (once_below x) (min_past (word + 1) count (omega arith)));
      near = omega (arith, k.near, total_set (λ u. u.ends) views id v w at);
      shares = omega (arith, k.shares, total_set (λ u. u.share) views id v w at);
      each = each_set (FitsSeat count seats (word + 1)) views id w
          record { ends_within = omega arith; ends_past = λ some_end. omega arith; limits = mine.limits; idle = mine.idle }
          (λ j u e. grows count seats word (word + 1) u (omega arith) (k.each j u e));
    }

-- a seat with all shares has all numbers
pub all_numbers : (count seats word : ℕ) (views : List Draws) (id : ℕ) (v : Draws) → Kept count seats word views → get_elem? views id ≡ some v → v.share ≡ seats
    → (x : ℕ) → times x v.numbers ≡ once_below x (min word count)
all_numbers count seats word views id v k at all x =
    sym (total_whole (λ u. u.share) (λ u. times x u.numbers) views id v (λ j u e none. ap (times x) ((k.each j u e).idle none)) at (k.shares ∙ sym all)) ∙ k.numbers x

pub splits : (count seats word : ℕ) (views : List Draws) (id : ℕ) (v : Draws) → Kept count seats word views → get_elem? views id ≡ some v → 2 ≤ v.share → v.ends ≡ 0
    → Kept count seats word (set views id (keeping v) ++ parted v ∷ [])
splits count seats word views id v k at some_shares none_met =
    let vs : List Draws = set views id (keeping v) in
    let mine = k.each id v at in
    let limits = mine.limits (omega arith) in
    record {
      small = k.small;
      numbers = λ x. omega (arith, k.numbers x, total_set (λ u. times x u.numbers) views id v (keeping v) at, total_snoc (λ u. times x u.numbers) vs (parted v));
      near = omega (arith, k.near, total_set (λ u. u.ends) views id v (keeping v) at, total_snoc (λ u. u.ends) vs (parted v));
      shares = omega (arith, k.shares, total_set (λ u. u.share) views id v (keeping v) at, total_snoc (λ u. u.share) vs (parted v));
      each = each_snoc (FitsSeat count seats word) vs (parted v)
          record { ends_within = omega arith; ends_past = λ some_end. absurd (omega arith); limits = λ _. limits; idle = λ _. refl }
          (each_set (FitsSeat count seats word) views id (keeping v)
          record { ends_within = omega arith; ends_past = mine.ends_past; limits = λ _. limits; idle = λ none. absurd (omega arith) } k.each);
    }

pub joins : (count seats word : ℕ) (views : List Draws) (id : ℕ) (v : Draws) (other : ℕ) (w : Draws) → Kept count seats word views → get_elem? views id ≡ some v → other ≢ id
    → get_elem? (set views id (joined v w)) other ≡ some w → 0 < v.share → Kept count seats word (set (set views id (joined v w)) other spent)
joins count seats word views id v other w k at two at' some_share =
    let both : Draws = joined v w in
    let vs : List Draws = set views id both in
    let mine = k.each id v at in
    let theirs = k.each other w (other_at views id other both w two at') in
    let limits = mine.limits some_share in
    record {
      small = k.small;
      numbers = λ x. omega (arith, k.numbers x, total_set (λ u. times x u.numbers) views id v both at, total_set (λ u. times x u.numbers) vs other w spent at', times_both x v.numbers w.numbers);
      near = omega (arith, k.near, total_set (λ u. u.ends) views id v both at, total_set (λ u. u.ends) vs other w spent at');
      shares = omega (arith, k.shares, total_set (λ u. u.share) views id v both at, total_set (λ u. u.share) vs other w spent at');
      each = each_set (FitsSeat count seats word) vs other spent
          record { ends_within = omega arith; ends_past = λ some_end. absurd (omega arith); limits = λ some. absurd (omega arith); idle = λ _. refl }
          (each_set (FitsSeat count seats word) views id both
          record {
            ends_within = omega (arith, mine.ends_within, theirs.ends_within);
            ends_past = past_either v.ends w.ends mine.ends_past theirs.ends_past;
            limits = λ _. limits;
            idle = λ none. absurd (omega arith);
          } k.each);
    }

pub opens : (count seats : ℕ) → count + seats < 2 ^ 63 → Kept count seats 0 (fresh count seats seats ∷ [])
opens count seats small =
    let v : Draws = fresh count seats seats in
    let fits : FitsSeat count seats 0 v = record { ends_within = omega arith; ends_past = λ some_end. absurd (omega arith); limits = λ _. (refl, refl); idle = λ _. refl } in
    record {
      small = small;
      numbers = λ x. sym (ap (once_below x) (min_below_zero count) ∙ once_none x);
      near = omega arith;
      shares = omega arith;
      each = each_snoc (FitsSeat count seats 0) [] v fits (λ id u e. absurd (some-ne-none u (sym e)));
    }

-- the word of a table becomes this
holds_after : (k : Limits) (words : List ℕ) (word new : ℕ) (views : List Draws) → words ≡ word ∷ [] → Kept k.count k.seats new views
    → (set words 0 new ≡ get_or (set words 0 new) 0 0 ∷ []) × Kept k.count k.seats (get_or (set words 0 new) 0 0) views
holds_after k words word new views is kept =
    let P : List ℕ → Type 0 = λ ws. (set ws 0 new ≡ get_or (set ws 0 new) 0 0 ∷ []) × Kept k.count k.seats (get_or (set ws 0 new) 0 0) views in
    subst P (sym is) (refl, kept)

one_below : (v : Draws) (found : ℕ) → found < v.count → times found v.numbers ≡ 0 → DrawsOne v found (record v { numbers = v.numbers ++ found ∷ [] })
one_below v found below new = rw (lt-ltb found v.count below) (refl, new)

one_past : (v : Draws) (found : ℕ) → v.count ≤ found → (v.share ≡ v.seats → IsEachOnce v.count v.numbers) → DrawsOne v found (record v { ends = v.ends + 1 })
one_past v found past all = rw (le-ltb found v.count past) (refl, all)

-- the word stays far below its end
unwrapped : (count seats word : ℕ) (views : List Draws) → Kept count seats word views → (word + 1) % 2 ^ 64 ≡ word + 1
unwrapped count seats word views k = omega (arith, k.near, k.small, ends_most count seats word views k)

-- a draw by a seat that has met no end
pub draw_allows : (k : Limits) (slots id : ℕ) (me : Me (Unit {0}) Draws) → 1 ≤ me.0.share → me.0.ends ≡ 0
    → Allows (Holds k) slots id me 0 (λ n. (n + 1) % 2 ^ 64) (λ found new. DrawsOne me.0 found new.0 × (new.1 ≡ me.1))
draw_allows k slots id me some_share none_met s h len at fits =
    let v : Draws = me.0 in
    let word : ℕ = get_or s.words 0 0 in
    let kept : Kept k.count k.seats word s.views = h.1 in
    let limits = (kept.each id v at).limits some_share in
    let next : (word + 1) % 2 ^ 64 ≡ word + 1 = unwrapped k.count k.seats word s.views kept in
    elim (cases_lt word k.count) [
      | inl below ↦
          let w : Draws = record v { numbers = v.numbers ++ word ∷ [] } in
          let new : Kept k.count k.seats ((word + 1) % 2 ^ 64) (set s.views id w) = rw next (draws_below k.count k.seats word s.views id v kept at some_share below) in (
            w,
            keeps,
            tt,
            holds_after k s.words word ((word + 1) % 2 ^ 64) (set s.views id w) h.0 new,
            (one_below v word (omega arith) (not_drawn k.count k.seats word s.views id v kept at), refl),
          )
      | inr past ↦
          let w : Draws = record v { ends = v.ends + 1 } in
          let new : Kept k.count k.seats ((word + 1) % 2 ^ 64) (set s.views id w) = rw next (draws_past k.count k.seats word s.views id v kept at (omega arith) past) in (
            w,
            keeps,
            tt,
            holds_after k s.words word ((word + 1) % 2 ^ 64) (set s.views id w) h.0 new,
            (one_past v word (omega arith) (λ all x. all_numbers k.count k.seats word s.views id v kept at (omega arith) x ∙ ap (once_below x) (min_past word k.count past ∙ sym limits.0)), refl),
          )
    ]

-- a look by any seat
pub look_allows : (k : Limits) (slots id : ℕ) (me : Me (Unit {0}) Draws) → 1 ≤ me.0.share
    → Allows (Holds k) slots id me 0 (λ n. n) (λ _ new. LooksOn me.0 new.0 × (new.1 ≡ me.1))
look_allows k slots id me some_share s h len at fits =
    let v : Draws = me.0 in
    let word : ℕ = get_or s.words 0 0 in
    let kept : Kept k.count k.seats word s.views = h.1 in
    let limits = (kept.each id v at).limits some_share in
    let same : set s.views id v ≡ s.views = set_again s.views id v at in (
      v,
      keeps,
      tt,
      holds_after k s.words word word (set s.views id v) h.0 (subst (Kept k.count k.seats word) (sym same) kept),
      (
        (
          refl,
          λ all. (
            (λ x. omega (arith, all_numbers k.count k.seats word s.views id v kept at (omega arith) x, once_within x word v.count, ap (λ (n : ℕ). once_below x (min word n)) limits.0)),
            λ some_end x. all_numbers k.count k.seats word s.views id v kept at (omega arith) x ∙ ap (once_below x) (min_past word k.count ((kept.each id v at).ends_past some_end) ∙ sym limits.0),
          ),
        ),
        refl,
      ),
    )
