-- Readers that were just made.
use Rattle.std.proofs.Common.{◌≡◌, ℕ, zero, suc, ◌<◌, List, [], ◌∷◌, map, length, get_or, sum_by, All, Option, Some, None, arith, refl, sym, ap, subst, ◌∙◌}
use Rattle.std.proofs.lemmas.List.{length-map, get_or-map}
use Rattle.std.proofs.lemmas.List.Elements.{All-head, All-tail}
use Rattle.std.proofs.lemmas.List.Sums.{sum_by-cons}
use Rattle.world.specs.Reads.{Reads, IsFresh, IsUnread}
use Rattle.block_source.specs.Told.{told_of, AreReadBy}

told_in : {R : Type 0} (reads : R → Option Reads) (rs : List R) (k : ℕ) (told : Reads) → told_of (map reads rs) k ≡ Some told → (r : R) × (k < length rs) × (get_or rs k r ≡ r) × (reads r ≡ Some told)
told_in reads [] k told e = absurd cc
told_in reads (r ∷ rs) zero told e = (r, omega arith, refl, e)
told_in reads (r ∷ rs) (suc k) told e = let t = told_in reads rs k told e in (t.0, omega (arith, t.1), t.2, t.3)

none_read : (reads : Option Reads) (told : Reads) → IsUnread reads → reads ≡ Some told → told ≡ []
unfolding IsUnread
none_read None told none e = absurd cc
none_read (Some t) told none e = let same : t ≡ told = cc in sym same ∙ none

-- nothing was read by them
pub fresh_reads : {R : Type 0} (faults : R → ℕ) (reads : R → Option Reads) (reading : ℕ → ℕ → Reads) (rs : List R) → All (λ r. IsFresh (faults r) (reads r)) rs → AreReadBy reading (map reads rs) []
fresh_reads faults reads reading rs fresh file told e =
    let t = told_in reads rs file told e in
    let f = subst (λ r. IsFresh (faults r) (reads r)) t.2 (fresh file t.0 t.1) in
    none_read (reads t.0) told f.no_reads t.3

-- and none of their reads failed
pub fresh_faults : {R : Type 0} (faults : R → ℕ) (reads : R → Option Reads) (rs : List R) → All (λ r. IsFresh (faults r) (reads r)) rs → sum_by faults rs ≡ 0
fresh_faults faults reads [] fresh = refl
fresh_faults faults reads (r ∷ rs) fresh =
    let first = All-head (λ s. IsFresh (faults s) (reads s)) r rs fresh in
    omega (arith, sum_by-cons faults r rs, first.no_faults, fresh_faults faults reads rs (All-tail (λ s. IsFresh (faults s) (reads s)) r rs fresh))

-- lists that are the same to a function are as long
pub same_length : {X Y Z : Type 0} (f : X → Z) (g : Y → Z) (xs : List X) (ys : List Y) → map f xs ≡ map g ys → length xs ≡ length ys
same_length f g xs ys e = omega (arith, ap length e, length-map xs f, length-map ys g)

-- what a function gives for the elements of one list it gives for those of another that is the same to it
pub same_at : {X Y : Type 0} (f : X → Y) (xs ys : List X) → map f ys ≡ map f xs → (k : ℕ) (d : X) → k < length ys → (k < length xs) × (f (get_or ys k d) ≡ f (get_or xs k d))
same_at f xs ys e k d below =
    let low : k < length xs = omega (arith, below, same_length f f ys xs e) in
    (low, sym (get_or-map f ys k d (f d) below) ∙ ap (λ t. get_or t k (f d)) e ∙ get_or-map f xs k d (f d) low)
