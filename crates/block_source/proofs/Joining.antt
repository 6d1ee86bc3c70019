-- Readers of files that absorb others, one by one.
use Rattle.std.proofs.Common.{◌≡◌, ◌≢◌, ℕ, Bool, true, Result, Ok, Err, is_ok, if◌then◌else◌, take, ◌+◌, ◌<◌, ◌≤◌, List, [], ◌∷◌, ◌++◌, map, length, set, get_or, Option, None, arith, refl, sym, ap, subst, ◌∙◌, ⊎_elim, append_assoc}
use Rattle.std.proofs.Math.Seq.{get_or-append_seam}
use Rattle.std.proofs.lemmas.Bool.{cases_lt}
use Rattle.std.proofs.lemmas.List.{map-append, take_more, get_or-set_same, get_or-set_other, get_or_past, length-map}
use Rattle.world.specs.Counts.{Rose}
use Rattle.world.specs.Reads.{Reads, joined_reads}
use Rattle.block_source.specs.Absorbed.{AreJoined, IsRaised}
use Rattle.block_source.specs.Told.{told_of}

nothing_joined : (a b : Option Reads) → a ≡ None → None ≡ joined_reads a b
unfolding joined_reads
nothing_joined a b e = ap (λ (x : Option Reads). joined_reads x b) (sym e)

-- at first none has absorbed anything
pub joined_none : (firsts seconds : List (Option Reads)) (n : ℕ) → length firsts ≤ n → AreJoined firsts seconds firsts n
joined_none firsts seconds n past = record {
  done = λ file from.
      let none = get_or_past firsts file None (omega (arith, past, from)) in
      none ∙ nothing_joined (told_of firsts file) (told_of seconds file) none;
  left = λ file below. refl;
}

-- one more file's reader absorbed the second
pub joined_more : (firsts seconds now after : List (Option Reads)) (n m : ℕ) (second : Option Reads) → after ≡ set now n (joined_reads (told_of now n) second) → n < length now
    → second ≡ told_of seconds n → m ≡ n + 1 → AreJoined firsts seconds now m → AreJoined firsts seconds after n
joined_more firsts seconds now after n m second is below at next j =
    let new = joined_reads (told_of now n) second in
    let other : (file : ℕ) → file ≢ n → told_of after file ≡ told_of now file = λ file differs.
    ap (λ (rs : List (Option Reads)). told_of rs file) is ∙ get_or-set_other now n file new None differs in
    let here : told_of after n ≡ joined_reads (told_of firsts n) (told_of seconds n) =
    ap (λ (rs : List (Option Reads)). told_of rs n) is ∙ get_or-set_same now n new None below
    ∙ ap (λ (a : Option Reads). joined_reads a second) (j.left n (omega (arith, next))) ∙ ap (joined_reads (told_of firsts n)) at in
    record {
      done = λ file from.
          ⊎_elim
          (λ (b : n < file). other file (λ e. absurd (omega (arith, e, b))) ∙ j.done file (omega (arith, b, next)))
          (λ (b : file ≤ n). let e : n ≡ file = omega (arith, b, from) in subst (λ k. told_of after k ≡ joined_reads (told_of firsts k) (told_of seconds k)) e here)
          (cases_lt n file);
      left = λ file low. other file (λ e. absurd (omega (arith, e, low))) ∙ j.left file (omega (arith, low, next));
    }

-- what was popped stands at its place among all
pub popped_at : {X : Type 0} (all xs ys rest : List X) (x d : X) → all ≡ xs ++ rest → xs ≡ ys ++ x ∷ [] → (get_or all (length ys) d ≡ x) × (all ≡ ys ++ x ∷ rest)
popped_at all xs ys rest x d is popped =
    let e : all ≡ ys ++ x ∷ rest = is ∙ ap (λ (t : List _). t ++ rest) popped ∙ append_assoc ys (x ∷ []) rest in
    (ap (λ (t : List _). get_or t (length ys) d) e ∙ get_or-append_seam ys x rest d, e)

-- so that it is told at that place
pub popped_told : {R : Type 0} (reads : R → Option Reads) (all xs ys rest : List R) (x : R) (n : ℕ) → all ≡ xs ++ rest → xs ≡ ys ++ x ∷ [] → n ≡ length ys → reads x ≡ told_of (map reads all) n
popped_told reads all xs ys rest x n is popped count =
    let e = (popped_at all xs ys rest x x is popped).1 in
    let place : n ≡ length (map reads ys) = omega (arith, count, length-map ys reads) in
    sym
    (ap (λ (t : List _). told_of (map reads t) n) e ∙ ap (λ (t : List (Option Reads)). told_of t n) (map-append reads ys (x ∷ rest))
    ∙ ap (told_of (map reads ys ++ reads x ∷ map reads rest)) place ∙ get_or-append_seam (map reads ys) (reads x) (map reads rest) None)

pub raised_none : (count all : ℕ) → IsRaised count count all all
raised_none count all = record { never_falls = omega arith; rose = λ less. absurd (omega (arith, less)) }

pub raised_later : (a b c : ℕ) → a ≤ b → Rose b c → Rose a c
raised_later a b c le rose = omega (arith, le, rose)

raised_before : (a b c : ℕ) → b ≤ c → Rose a b → Rose a c
raised_before a b c le rose = omega (arith, le, rose)

-- some faults more were absorbed
pub raised_more : (before now after less left all some : ℕ) → left ≡ less + some → now ≤ after → (0 < some → Rose now after) → IsRaised before now left all → IsRaised before after less all
raised_more before now after less left all some is le rises r = record {
  never_falls = omega (arith, r.never_falls, le);
  rose = λ below.
      ⊎_elim
      (λ (b : 0 < some). raised_later before now after r.never_falls (rises b))
      (λ (b : some ≤ 0). raised_before before now after le (r.rose (omega (arith, below, is, b))))
      (cases_lt 0 some);
}

-- what a call leaves where it succeeds
pub joined_where : {A E : Type 0} (r : Result A E) (done : Bool) (now joined same : Option Reads) → now ≡ (if is_ok r then joined else same) → done ≡ is_ok r → done ≡ true → now ≡ joined
joined_where (Ok x) done now joined same e is true_is = e
joined_where (Err x) done now joined same e is true_is = let f = sym is ∙ true_is in absurd cc

-- one element more of a list that is mapped
pub same_push : {X Y : Type 0} (f : X → Y) (xs ys : List X) (x : X) (all now : List Y) (i : ℕ) (d : Y) → ys ≡ xs ++ x ∷ [] → map f xs ≡ take i all → now ≡ all → i < length now → f x ≡ get_or now i d
    → map f ys ≡ take (i + 1) all
same_push f xs ys x all now i d is same e below at =
    ap (map f) is ∙ map-append f xs (x ∷ [])
    ∙ (λ j. same j ++ (at ∙ ap (λ (t : List _). get_or t i d) e) j ∷ [])
    ∙ sym (take_more all i d (subst (λ t. i < length t) e below))
