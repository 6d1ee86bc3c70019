-- What one worker did alone is balanced.
use Rattle.std.proofs.Common.{zero-add, ◌≡◌, ◌∙◌, sym, ap, refl, subst, ℕ, zero, suc, ◌+◌, ◌-◌, ◌*◌, ◌<◌, ◌≤◌, List, [], ◌∷◌, ◌++◌, replicate, arith, All}
use Rattle.std.specs.List.{range_with_len}
use Rattle.std.proofs.lemmas.List.{length-replicate, get_or-replicate, replicate_more, map-id}
use Rattle.std.proofs.lemmas.List.FromFn.{map-range_with_len_more}
use Rattle.std.proofs.lemmas.List.Sums.{sum_by-cons}
use Rattle.std.proofs.lemmas.List.Folds.{sum_by-replicate}
use Rattle.run_core.specs.Counts.{times, once_below}
use Rattle.run_core.proofs.Counting.{once_more, once_none, times_push}
use Rattle.run_core.specs.Receipts.{Lists, no_lists, total, IsBalanced, OffersOwn, FinishesOwn}
use Rattle.run_words.specs.Alone.{alone, workers_alone}

-- one number more
pub range_more : (n : ℕ) → range_with_len 0 (n + 1) ≡ range_with_len 0 n ++ n ∷ []
range_more n =
    sym (map-id (range_with_len 0 (n + 1))) ∙ map-range_with_len_more (λ k. k) 0 n n (zero-add n)
    ∙ ap (λ front. front ++ n ∷ []) (map-id (range_with_len 0 n))

once : (x n : ℕ) → times x (range_with_len 0 n) ≡ once_below x n
once x zero = sym (once_none x)
once x (suc n) =
    let next : suc n ≡ n + 1 = omega arith in
    ap (λ k. times x (range_with_len 0 k)) next ∙ ap (times x) (range_more n) ∙ times_push x (range_with_len 0 n) n
    ∙ ap (λ m. m + times x (n ∷ [])) (once x n) ∙ sym (once_more x n) ∙ ap (once_below x) (sym next)

-- of a list that is empty where nothing was done, the first worker has the total
first_total : (list : Lists → List ℕ) (x n others : ℕ) → times x (list no_lists) ≡ 0 → total list x (alone n ∷ replicate others no_lists) ≡ times x (list (alone n))
first_total list x n others none =
    omega (arith, sum_by-cons (λ r. times x (list r)) (alone n) (replicate others no_lists), sum_by-replicate (λ r. times x (list r)) others no_lists, ap (λ (k : ℕ). others * k) none)

-- what holds of the first worker and of those that did nothing holds of each
each : (P : Lists → Type 0) (n others : ℕ) → P (alone n) → P no_lists → All P (alone n ∷ replicate others no_lists)
each P n others first rest zero d h = first
each P n others first rest (suc k) d h =
    let within : k < others = omega (arith, length-replicate others no_lists) in
    subst P (sym (get_or-replicate others k no_lists d within)) rest

pub balanced_alone : (n workers : ℕ) → IsBalanced n (workers_alone n workers) []
balanced_alone n workers = record {
  claimed_once = λ x. first_total (λ r. r.claimed) x n (workers - 1) refl ∙ once x n;
  passed_on = λ x. omega (arith, first_total (λ r. r.offered) x n (workers - 1) refl, first_total (λ r. r.taken) x n (workers - 1) refl);
  offers_own = each OffersOwn n (workers - 1) (λ x. omega arith) (λ x. omega arith);
  finishes_own = each FinishesOwn n (workers - 1) (λ x. omega arith) (λ x. omega arith);
  finished_once = λ x. omega (arith, first_total (λ r. r.finished) x n (workers - 1) refl, once x n);
}

-- one more worker that did nothing
pub workers_more : (n i : ℕ) → 1 ≤ i → workers_alone n (i + 1) ≡ workers_alone n i ++ no_lists ∷ []
workers_more n i h =
    let more : i + 1 - 1 ≡ (i - 1) + 1 = omega arith in
    ap (λ k. alone n ∷ replicate k no_lists) more ∙ ap (λ others. alone n ∷ others) (sym (replicate_more (i - 1) no_lists))
