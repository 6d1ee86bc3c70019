-- What readers tell of their reads, as blocks are read and readers absorbed.
use Rattle.std.proofs.Common.{◌≡◌, ◌≢◌, ℕ, ◌+◌, ◌<◌, true, false, eqb, cond, List, [], ◌∷◌, ◌++◌, sum_by, length, set, Option, Some, None, append-nil, arith, refl, sym, ap, subst, ◌∙◌, ⊎_elim}
use Rattle.std.specs.Option.{option_map}
use Rattle.std.specs.List.{flat_map, range_with_len}
use Rattle.std.proofs.lemmas.Bool.Decides.{eqb_tells}
use Rattle.std.proofs.lemmas.List.Sums.{sum_by-append, sum_by-cons, sum_by_push}
use Rattle.std.proofs.lemmas.List.{get_or-set_same, get_or-set_other}
use Rattle.std.proofs.lemmas.List.Concat.{flat_map-append}
use Rattle.world.specs.Reads.{Reads, joined_reads}
use Rattle.run_core.specs.Counts.{times, once_below}
use Rattle.block_source.proofs.Counts.{sums_once}
use Rattle.block_source.specs.Told.{told_of, AreReadBy, weigh_all, AreGained}

-- an element of a list that grew is what stood there, grown
some_grew : (more : Reads) (before : Option Reads) (told : Reads) → option_map (λ t. t ++ more) before ≡ Some told → (t : Reads) × (before ≡ Some t) × (told ≡ t ++ more)
some_grew more None told e = absurd cc
some_grew more (Some t) told e = (t, refl, cc)

-- both are told where they are joined
both_told : (first second : Option Reads) (told : Reads) → joined_reads first second ≡ Some told → (a : Reads) × (b : Reads) × (first ≡ Some a) × (second ≡ Some b) × (told ≡ a ++ b)
unfolding joined_reads
both_told None second told e = absurd cc
both_told (Some a) None told e = absurd cc
both_told (Some a) (Some b) told e = (a, b, refl, refl, cc)

bag-flat_map : {T V : Type 0} (f : T → ℕ) (g : V → List T) (vs : List V) → sum_by f (flat_map g vs) ≡ sum_by (λ v. sum_by f (g v)) vs
bag-flat_map f g [] = refl
bag-flat_map f g (v ∷ vs) = omega (arith, sum_by-append f (g v) (flat_map g vs), bag-flat_map f g vs, sum_by-cons (λ u. sum_by f (g u)) v vs)

module _ (reading : ℕ → ℕ → Reads) where
  one_more : (file number : ℕ) (numbers : List ℕ) → flat_map (reading file) (numbers ++ number ∷ []) ≡ flat_map (reading file) numbers ++ reading file number
  one_more file number numbers =
      flat_map-append (reading file) numbers (number ∷ []) ∙ ap (λ t. flat_map (reading file) numbers ++ t) (append-nil (reading file number))

  -- a number for which nothing is read
  pub read_nothing : (reads : List (Option Reads)) (numbers : List ℕ) (number : ℕ) → ((file : ℕ) → reading file number ≡ []) → AreReadBy reading reads numbers → AreReadBy reading reads (numbers ++ number ∷ [])
  read_nothing reads numbers number none are file told e =
      are file told e ∙ sym (one_more file number numbers ∙ ap (λ t. flat_map (reading file) numbers ++ t) (none file) ∙ append-nil (flat_map (reading file) numbers))

  -- a number for which one file is read
  pub read_more : (before after : List (Option Reads)) (place number : ℕ) (new : Option Reads) (numbers : List ℕ) → after ≡ set before place new → place < length before
      → new ≡ option_map (λ t. t ++ reading place number) (told_of before place) → ((file : ℕ) → file ≢ place → reading file number ≡ [])
      → AreReadBy reading before numbers → AreReadBy reading after (numbers ++ number ∷ [])
  read_more before after place number new numbers is below grew none are file told e =
      let at : told_of (set before place new) file ≡ Some told = ap (λ (rs : List (Option Reads)). told_of rs file) (sym is) ∙ e in
      ⊎_elim
      (λ (t : (eqb file place ≡ true) × (file ≡ place)).
      let here : told_of (set before place new) place ≡ Some told = ap (told_of (set before place new)) (sym t.1) ∙ at in
      let s = some_grew (reading place number) (told_of before place) told (sym grew ∙ sym (get_or-set_same before place new None below) ∙ here) in
      subst (λ k. told ≡ flat_map (reading k) (numbers ++ number ∷ [])) (sym t.1)
      (s.2 ∙ ap (λ r. r ++ reading place number) (are place s.0 s.1) ∙ sym (one_more place number numbers)))
      (λ (t : (eqb file place ≡ false) × (file ≢ place)).
      are file told (sym (get_or-set_other before place file new None t.1) ∙ at)
      ∙ sym (one_more file number numbers ∙ ap (λ r. flat_map (reading file) numbers ++ r) (none file t.1) ∙ append-nil (flat_map (reading file) numbers)))
      (eqb_tells file place)

  pub gained_none : (start : List (Option Reads)) (all : List (List ℕ)) → AreGained reading start start all all
  gained_none start all file told e = (told, e, λ f. refl)

  weigh_reads : (f : (ℕ × ℕ) → ℕ) (file : ℕ) (numbers : List ℕ) → sum_by f (flat_map (reading file) numbers) ≡ sum_by (λ n. sum_by f (reading file n)) numbers
  weigh_reads f file [] = refl
  weigh_reads f file (n ∷ ns) = omega (arith, sum_by-append f (reading file n) (flat_map (reading file) ns), weigh_reads f file ns, sum_by-cons (λ m. sum_by f (reading file m)) n ns)

  -- readers that read for the last list of numbers are absorbed
  pub gained_more : (start before after seconds : List (Option Reads)) (left more all : List (List ℕ)) (numbers : List ℕ)
      → more ≡ left ++ numbers ∷ [] → ((file : ℕ) → told_of after file ≡ joined_reads (told_of before file) (told_of seconds file)) → AreReadBy reading seconds numbers
      → AreGained reading start before more all → AreGained reading start after left all
  gained_more start before after seconds left more all numbers is joined are gained file told e =
      let b = both_told (told_of before file) (told_of seconds file) told (sym (joined file) ∙ e) in
      let old = gained file b.0 b.2 in (
        old.0,
        old.1,
        λ f.
            let s : ℕ → ℕ = λ n. sum_by f (reading file n) in
            let one : weigh_all reading f file more ≡ weigh_all reading f file left + sum_by s numbers =
            ap (weigh_all reading f file) is ∙ sum_by_push (λ (ns : List ℕ). sum_by s ns) left numbers in
            let two = ap (sum_by f) b.4 ∙ sum_by-append f b.0 b.1 in
            let three = ap (sum_by f) (are file b.1 b.3) ∙ weigh_reads f file numbers in
            omega (arith, old.2 f, one, two, three),
      )

  -- the lists have each number below n once
  pub weigh_once : (f : (ℕ × ℕ) → ℕ) (file n : ℕ) (all : List (List ℕ)) → ((x : ℕ) → sum_by (λ ns. times x ns) all ≡ once_below x n)
      → weigh_all reading f file all ≡ sum_by (λ m. sum_by f (reading file m)) (range_with_len 0 n)
  weigh_once f file n all once =
      let s : ℕ → ℕ = λ m. sum_by f (reading file m) in
      sym (bag-flat_map s (λ (ns : List ℕ). ns) all) ∙ sums_once s n (flat_map (λ (ns : List ℕ). ns) all) (λ x. bag-flat_map (λ y. cond (eqb y x) 1 0) (λ (ns : List ℕ). ns) all ∙ once x)
