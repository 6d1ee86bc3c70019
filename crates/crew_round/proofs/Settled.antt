-- What a round comes to, once its rest was worked and its outcomes were put in order.
use Rattle.std.proofs.Common.{◌≡◌, ℕ, ◌+◌, ◌-◌, ◌<◌, cond, eqb, List, [], ◌∷◌, length, map, sum_by, All, Contains, arith, refl, sym, ap, subst, ◌∙◌, ◌⊎◌, ⊎_elim}
use Rattle.std.specs.Coded.{Coded}
use Rattle.std.specs.List.{flat_map, range_with_len}
use Rattle.std.specs.List.Sorted.{IsPermutation, IsNonDecreasingBy}
use Rattle.std.proofs.lemmas.List.{get_or-map, length-map}
use Rattle.std.proofs.lemmas.List.Sums.{sum_by-cons, sum_by-append}
use Rattle.std.proofs.lemmas.List.Elements.{All-head, All-tail, All-append, All-weaker, All-contains}
use Rattle.std.proofs.lemmas.List.Sorted.{All-permutation, sum_by-IsPermutation}
use Rattle.run_core.specs.Counts.{times, once_below}
use Rattle.run_core.specs.Receipts.{Lists, total, OffersOwn, FinishesOwn, IsBalanced}
use Rattle.scan_claims.specs.Claims.{ClaimTable, SeatView, IsEachOnce}
use Rattle.hand_off.specs.Hand.{Hand, PassView, RestView}
use Rattle.hand_off.specs.Work.{IsSound}
use Rattle.hand_off.proofs.Bags.{bag-flat_map}
use Rattle.crew.specs.Labours.{LabourView}
use Rattle.crew_round.specs.Ended.{failures_of, results_of, HaveEnded}
use Rattle.crew_round.specs.Rest.{IsWorkedByLast}
use Rattle.crew_round.specs.Fair.{IsFair}
use Rattle.crew_round.proofs.Counted.{times_map, sum_map}
use Rattle.crew_round.proofs.Found.{contains_over}
use Rattle.crew_round.proofs.Order.{range_is}

-- all workers finished what they took and claimed, but what they offered
all_finish : (x : ℕ) (receipts : List Lists) → All OffersOwn receipts → All FinishesOwn receipts
    → total (λ r. r.finished) x receipts + total (λ r. r.offered) x receipts ≡ total (λ r. r.taken) x receipts + total (λ r. r.claimed) x receipts
all_finish x [] own finish = refl
all_finish x (r ∷ rs) own finish =
    let mine = All-head OffersOwn r rs own x in
    let mine' = All-head FinishesOwn r rs finish x in
    omega (
      arith,
      mine,
      mine',
      all_finish x rs (All-tail OffersOwn r rs own) (All-tail FinishesOwn r rs finish),
      sum_by-cons (λ (l : Lists). times x l.finished) r rs,
      sum_by-cons (λ (l : Lists). times x l.offered) r rs,
      sum_by-cons (λ (l : Lists). times x l.taken) r rs,
      sum_by-cons (λ (l : Lists). times x l.claimed) r rs,
    )

rises_map : {X : Type 0} (f : X → ℕ) (xs : List X) → IsNonDecreasingBy f xs → IsNonDecreasingBy (λ x. x) (map f xs)
rises_map f [] rises i j d le below = absurd (omega (arith, below))
rises_map f (x ∷ xs) rises i j d le below =
    let low : j < length (x ∷ xs) = omega (arith, below, length-map (x ∷ xs) f) in
    omega (arith, rises i j x le low, get_or-map f (x ∷ xs) i x d (omega (arith, le, low)), get_or-map f (x ∷ xs) j x d low)

-- lists whose elements are the same to a function have the same sum of what it gives
pub same_sum : {X Y : Type 0} (f : Y → ℕ) (g : X → Y) (xs ys : List X) → map g xs ≡ map g ys → sum_by (λ x. f (g x)) xs ≡ sum_by (λ x. f (g x)) ys
same_sum f g xs ys same = sym (sum_map g f xs) ∙ ap (sum_by f) same ∙ sum_map g f ys

module _ {T Out About L : Type 0} (item_number : T → ℕ) (out_number : Out → ℕ) (right failed : About → T → Type 0) (fits : About → T → Out → Type 0) (see : L → LabourView Out About) where
  -- what is known of a round whose rest was worked
  pub record Closed (n : ℕ) (claims : ClaimTable) (hand : Hand) (seats : List SeatView) (passes : List (PassView T)) (receipts : List Lists) (drawn : List ℕ) (rest : RestView T) (old new : List L) (left : List ℕ) : Type 0 where
    pub ended : HaveEnded item_number out_number right failed fits see claims hand seats passes receipts old
    pub drew : (x : ℕ) → times x drawn ≡ sum_by (λ s. times x s.numbers) seats
    pub whole : IsEachOnce n drawn
    pub offers : (f : T → ℕ) → sum_by f rest.offered ≡ sum_by (λ p. sum_by f p.offered) passes
    pub takes : (f : T → ℕ) → sum_by f rest.taken ≡ sum_by (λ p. sum_by f p.taken) passes
    pub worked : IsWorkedByLast item_number out_number fits see rest old new left

  module _ (n : ℕ) (claims : ClaimTable) (hand : Hand) (seats : List SeatView) (passes : List (PassView T)) (receipts : List Lists) (drawn : List ℕ) (rest : RestView T) (old new : List L) (left : List ℕ)
      (k : Closed n claims hand seats passes receipts drawn rest old new left) where
    abbrev offered : List T
    offered = flat_map (λ (p : PassView T). p.offered) passes

    abbrev taken : List T
    taken = flat_map (λ (p : PassView T). p.taken) passes

    -- what was offered is what was taken and what was left
    settled : (f : T → ℕ) → sum_by f offered ≡ sum_by f taken + sum_by f k.worked.items
    settled f =
        omega (
          arith,
          bag-flat_map f (λ (p : PassView T). p.offered) passes,
          bag-flat_map f (λ (p : PassView T). p.taken) passes,
          k.offers f,
          k.takes f,
          k.worked.all f,
          sum_by-append f rest.taken k.worked.items,
        )

    claimed : (x : ℕ) → total (λ r. r.claimed) x receipts ≡ once_below x n
    claimed x = k.ended.claimed x ∙ sym (k.drew x) ∙ k.whole x

    passed : (x : ℕ) → total (λ r. r.offered) x receipts ≡ total (λ r. r.taken) x receipts + times x left
    passed x =
        let f : T → ℕ = λ item. cond (eqb (item_number item) x) 1 0 in
        omega (
          arith,
          k.ended.offered x,
          k.ended.taken x,
          times_map item_number x offered,
          times_map item_number x taken,
          times_map item_number x k.worked.items,
          ap (times x) k.worked.noted,
          settled f,
        )

    finished : (x : ℕ) → total (λ r. r.finished) x receipts + times x left ≡ once_below x n
    finished x = omega (arith, all_finish x receipts k.ended.offers_own k.ended.finishes_own, claimed x, passed x)

    pub balanced : IsBalanced n receipts left
    balanced = record { claimed_once = claimed; passed_on = passed; offers_own = k.ended.offers_own; finishes_own = k.ended.finishes_own; finished_once = finished }

    pub loaded_once : (x : ℕ) → sum_by (λ l. times x (see l).loaded) new ≡ once_below x n
    loaded_once x = same_sum (times x) (λ (l : L). (see l).loaded) new old k.worked.loaded ∙ k.ended.loaded x ∙ sym (k.drew x) ∙ k.whole x

    module _ (outs : List Out) (same : IsPermutation (results_of see new) outs) where
      each_once : (x : ℕ) → times x (map out_number outs) ≡ once_below x n
      each_once x =
          let f : Out → ℕ = λ out. cond (eqb (out_number out) x) 1 0 in
          omega (
            arith,
            times_map out_number x outs,
            sum_by-IsPermutation f (results_of see new) outs same,
            ap (sum_by f) k.worked.results,
            sum_by-append f (results_of see old) k.worked.outs,
            times_map out_number x (results_of see old),
            times_map out_number x k.worked.outs,
            ap (times x) k.worked.numbers,
            ap (times x) k.worked.noted,
            k.ended.finished x,
            finished x,
          )

      pub in_order : IsNonDecreasingBy out_number outs → map out_number outs ≡ range_with_len 0 n
      in_order rises = range_is n (map out_number outs) (rises_map out_number outs rises) each_once

      -- each outcome fits an item that was offered or kept, and so is right
      pub all_fair : Coded T → (a : About) → All (λ l. (see l).about ≡ a) old → All (IsFair right failed fits a (failures_of see new)) outs
      all_fair coded a all =
          let Sound : T → Type 0 = IsSound right failed a 0 (failures_of see old) in
          let Fair : Out → Type 0 = IsFair right failed fits a (failures_of see new) in
          let from_sound : (item : T) (out : Out) → Sound item → fits a item out → Fair out = λ item out s fit. (item, s.0, (λ f. let rose = s.1 f in omega (arith, rose, k.worked.failures)), fit) in
          let from_offered : (item : T) (out : Out) → Contains offered item → fits a item out → Fair out = λ item out c fit.
          from_sound item out (All-contains Sound offered item (k.ended.sound a all) c) fit in
          let by_workers : All Fair (results_of see old) =
          All-weaker (λ out. (item : T) × (Contains taken item ⊎ Sound item) × fits a item out) Fair
          (λ out p.
          ⊎_elim
          (λ (c : Contains taken p.0). from_offered p.0 out (contains_over coded taken offered (λ f. let s = settled f in omega (arith, s)) p.0 c) p.2)
          (λ (s : Sound p.0). from_sound p.0 out s p.2)
          p.1)
          (results_of see old) (k.ended.worked a all) in
          let by_caller : All Fair k.worked.outs =
          All-weaker (λ out. (item : T) × Contains k.worked.items item × fits a item out) Fair
          (λ out p. from_offered p.0 out (contains_over coded k.worked.items offered (λ f. let s = settled f in omega (arith, s)) p.0 p.1) p.2)
          k.worked.outs (k.worked.fit a all) in
          All-permutation Fair (results_of see new) outs same (subst (All Fair) (sym k.worked.results) (All-append Fair (results_of see old) k.worked.outs by_workers by_caller))
