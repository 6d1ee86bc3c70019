-- Each kind of step keeps the rule of the hand-off.
use Rattle.std.proofs.Common.{◌≡◌, ◌≢◌, ℕ, ◌+◌, ◌<◌, ◌≤◌, List, ◌∷◌, length, set, sum_by, arith, sym, ap, ◌∙◌, subst, refl, ⊎_elim}
use mathlib.Core.Option.{some}
use lib.ListN.{get_elem?}
use Rattle.std.specs.List.{flat_map}
use Rattle.std.proofs.lemmas.List.Sums.{sum_by_push, sum_by-cons, sum_by-append}
use Rattle.atomic_table.proofs.Lists.{at_set, set_else}
use Rattle.scan_claims.proofs.Views.{Each, total_set, total_snoc, total_most, total_none, total_whole, each_set, each_snoc}
use Rattle.crossbeam_queue.specs.Fifo.{Pushes, Pops, Forks, Merges, Learns}
use Rattle.hand_off.specs.Rule.{fresh, FitsPass, Kept, Offers, Takes, Sees, offering, taking, growing, keeping, parted, joined}
use Rattle.hand_off.specs.declared.rule.Passed.{Passed}
use Rattle.hand_off.proofs.Bags.{bag-flat_map, flat_map-none}

module _ {T : Type 0} where
  -- how many items of each kind a view offered, and took
  abbrev offered_by : (T → ℕ) → Passed T → ℕ
  offered_by f v = sum_by f v.offered

  abbrev taken_by : (T → ℕ) → Passed T → ℕ
  taken_by f v = sum_by f v.taken

  abbrev share_of : Passed T → ℕ
  share_of v = v.share

  abbrev none : Passed T
  none = fresh 0 0

  none_fits : (passes : ℕ) → FitsPass passes none
  none_fits passes = record { idle = λ _. (refl, refl); knows = λ some. absurd (omega arith) }

  idle_offered : (f : T → ℕ) (items : List T) (views : List (Passed T)) → Kept items views → Each (λ u. share_of u ≡ 0 → offered_by f u ≡ 0) views
  idle_offered f items views k id v at no_share = ap (sum_by f) ((k.each id v at).idle no_share).0

  idle_taken : (f : T → ℕ) (items : List T) (views : List (Passed T)) → Kept items views → Each (λ u. share_of u ≡ 0 → taken_by f u ≡ 0) views
  idle_taken f items views k id v at no_share = ap (sum_by f) ((k.each id v at).idle no_share).1

  -- a pass that has all shares has all items
  whole : (items : List T) (views : List (Passed T)) (id : ℕ) (v : Passed T) → Kept items views → get_elem? views id ≡ some v → 0 < v.share → v.share ≡ v.passes
      → (f : T → ℕ) → sum_by f v.offered ≡ sum_by f v.taken + sum_by f items
  whole items views id v k at some_share all f =
      let total : sum_by share_of views ≡ share_of v = k.shares ∙ sym ((k.each id v at).knows some_share) ∙ sym all in
      let offered = total_whole share_of (offered_by f) views id v (idle_offered f items views k) at total in
      let taken = total_whole share_of (taken_by f) views id v (idle_taken f items views k) at total in
      omega (arith, k.balance f)

  pub offers : (n id : ℕ) (v : Passed T) (x : T) → 0 < v.share → Pushes Kept n id v x (Offers v x)
  offers n id v x some_share items views room k at =
      let w : Passed T = offering v x in
      let mine = k.each id v at in (
        w,
        record {
          passes = k.passes;
          balance = λ f. omega (arith, k.balance f, total_set (offered_by f) views id v w at, total_set (taken_by f) views id v w at, sum_by_push f v.offered x, sum_by_push f items x);
          shares = omega (arith, k.shares, total_set share_of views id v w at);
          each = each_set (FitsPass k.passes) views id w record { idle = λ no_share. absurd (omega arith); knows = mine.knows } k.each;
        },
        refl,
      )

  pub takes : (id : ℕ) (v : Passed T) → 0 < v.share → Pops Kept id v (Takes v)
  takes id v some_share x items views k at =
      let w : Passed T = taking v x in
      let mine = k.each id v at in (
        w,
        record {
          passes = k.passes;
          balance = λ f. omega (arith, k.balance f, total_set (offered_by f) views id v w at, total_set (taken_by f) views id v w at, sum_by_push f v.taken x, sum_by-cons f x items);
          shares = omega (arith, k.shares, total_set share_of views id v w at);
          each = each_set (FitsPass k.passes) views id w record { idle = λ no_share. absurd (omega arith); knows = mine.knows } k.each;
        },
        (refl, λ all f. omega (arith, whole (x ∷ items) views id v k at some_share all f, sum_by_push f v.taken x, sum_by-cons f x items)),
      )

  pub sees : (id : ℕ) (v : Passed T) → 0 < v.share → Learns Kept id v (Sees v)
  sees id v some_share items views k at =
      let others : List (Passed T) = set views id none in
      let mine = k.each id v at in
      let left : Kept items views = k in
      record {
        others_offered = flat_map (λ u. u.offered) others;
        others_taken = flat_map (λ u. u.taken) others;
        balance = λ f. omega (arith, k.balance f, total_set (offered_by f) views id v none at, total_set (taken_by f) views id v none at, bag-flat_map f (λ (u : Passed T). u.offered) others, bag-flat_map f (λ (u : Passed T). u.taken) others);
        alone = λ all.
            let no_shares : sum_by share_of others ≡ 0 = omega (arith, k.shares, total_set share_of views id v none at, mine.knows some_share) in
            let fits : Each (FitsPass k.passes) others = each_set (FitsPass k.passes) views id none (none_fits k.passes) k.each in (
              flat_map-none (λ (u : Passed T). u.offered) others (total_none share_of (λ u. length u.offered) others (λ j u e no_share. ap length ((fits j u e).idle no_share).0) no_shares),
              flat_map-none (λ (u : Passed T). u.taken) others (total_none share_of (λ u. length u.taken) others (λ j u e no_share. ap length ((fits j u e).idle no_share).1) no_shares),
            );
      }

  -- where one pass has all shares, another has none
  others_idle : (views : List (Passed T)) (id : ℕ) (v : Passed T) → get_elem? views id ≡ some v → sum_by share_of views ≡ share_of v
      → (j : ℕ) (u : Passed T) → j ≢ id → get_elem? views j ≡ some u → share_of u ≡ 0
  others_idle views id v at total j u apart e =
      let there : get_elem? (set views id none) j ≡ some u = set_else views id j none apart ∙ e in
      omega (arith, total_set share_of views id v none at, total_most share_of (set views id none) j u there)

  pub grows : (id : ℕ) (v : Passed T) → 0 < v.share → v.share ≡ v.passes → Forks Kept id v (growing v) none
  grows id v some_share all items views k at =
      let w : Passed T = growing v in
      let vs : List (Passed T) = set views id w in
      let mine = k.each id v at in
      let known = mine.knows some_share in
      let total : sum_by share_of views ≡ share_of v = k.shares ∙ sym known ∙ sym all in
      let others : Each (FitsPass (k.passes + 1)) vs = λ j u e. ⊎_elim
      (λ (x : (j ≡ id) × (w ≡ u)). subst (FitsPass (k.passes + 1)) x.1 record { idle = λ no_share. absurd (omega arith); knows = λ _. omega arith })
      (λ (x : (j ≢ id) × (get_elem? views j ≡ some u)). let idle = others_idle views id v at total j u x.0 x.1 in record { idle = (k.each j u x.1).idle; knows = λ some. absurd (omega arith) })
      (at_set views id j w u e) in
      record {
        passes = k.passes + 1;
        balance = λ f. omega (arith, k.balance f, total_set (offered_by f) views id v w at, total_set (taken_by f) views id v w at, total_snoc (offered_by f) vs none, total_snoc (taken_by f) vs none);
        shares = omega (arith, k.shares, total_set share_of views id v w at, total_snoc share_of vs none);
        each = each_snoc (FitsPass (k.passes + 1)) vs none (none_fits (k.passes + 1)) others;
      }

  pub splits : (id : ℕ) (v : Passed T) → 2 ≤ v.share → Forks Kept id v (keeping v) (parted v)
  splits id v some_shares items views k at =
      let w : Passed T = keeping v in
      let vs : List (Passed T) = set views id w in
      let mine = k.each id v at in
      let known = mine.knows (omega arith) in
      record {
        passes = k.passes;
        balance = λ f. omega (arith, k.balance f, total_set (offered_by f) views id v w at, total_set (taken_by f) views id v w at, total_snoc (offered_by f) vs (parted v), total_snoc (taken_by f) vs (parted v));
        shares = omega (arith, k.shares, total_set share_of views id v w at, total_snoc share_of vs (parted v));
        each = each_snoc (FitsPass k.passes) vs (parted v) record { idle = λ _. (refl, refl); knows = λ _. known }
            (each_set (FitsPass k.passes) views id w record { idle = λ no_share. absurd (omega arith); knows = λ _. known } k.each);
      }

  pub joins : (id : ℕ) (v : Passed T) (other : ℕ) (w : Passed T) → 0 < v.share → Merges Kept id v other w (joined v w) none
  joins id v other w some_share items views k at two at' =
      let both : Passed T = joined v w in
      let vs : List (Passed T) = set views id both in
      let mine = k.each id v at in
      let known = mine.knows some_share in
      record {
        passes = k.passes;
        balance = λ f. omega (arith, k.balance f, total_set (offered_by f) views id v both at, total_set (taken_by f) views id v both at, total_set (offered_by f) vs other w none at', total_set (taken_by f) vs other w none at', sum_by-append f v.offered w.offered, sum_by-append f v.taken w.taken);
        shares = omega (arith, k.shares, total_set share_of views id v both at, total_set share_of vs other w none at');
        each = each_set (FitsPass k.passes) vs other none (none_fits k.passes)
            (each_set (FitsPass k.passes) views id both record { idle = λ no_share. absurd (omega arith); knows = λ _. known } k.each);
      }
