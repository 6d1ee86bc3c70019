-- What holds after a check: of the value that it gives, and of the subqueries done and the numbers given until then.
use Rattle.std.proofs.Common.{◌≡◌, ◌==◌, ℕ, ◌+◌, ◌≤◌, List, [], ◌∷◌, ◌++◌, Bool, true, false, cond, Option, Some, None, Result, Ok, Err, refl, subst, arith}
use Rattle.std.specs.Option.{ok_or}
use Rattle.sub_types.specs.ResultSteps as steps
use Rattle.sub_types.specs.ResultSteps.{collect}
use Rattle.std.specs.Prelude.{length, count_by, nat_le, nat_lt, ◌&&◌, map}
use Rattle.std.specs.List.{AllByRecursion}
use Rattle.std.proofs.lemmas.List.Sums.{sum_by-append}
use Rattle.std.proofs.lemmas.Bool.Decides.{nat_tests}
use Rattle.well_typed.specs.WellTyped.{IsTypedSub, numbers_of_subs, MayBe}
use Rattle.plan_verdict.specs.declared.progress.Progress.{Progress}
use Rattle.plan_verdict.specs.declared.rule.Rule.{Rule}
use Rattle.plan_verdict.specs.Checking.{Checking, Refusal, go_on, ◌>>=◌, ◌>>◌, accept, refuse, part, must, present, in_order, next_node}

pub length_mapped : {X Y : Type 0} (f : X → Y) (xs : List X) → length (map f xs) ≡ length xs
length_mapped f [] = refl
length_mapped f (x ∷ xs) = omega (arith, length_mapped f xs)

-- how often a number stands in a list
pub times : ℕ → List ℕ → ℕ
times n numbers = count_by (λ one. one == n) numbers

pub times_is : (n : ℕ) (numbers : List ℕ) → times n numbers ≡ count_by (λ one. one == n) numbers
unfolding times
times_is n numbers = refl

pub times-append : (n : ℕ) (a b : List ℕ) → times n (a ++ b) ≡ times n a + times n b
unfolding times
times-append n a b = sum_by-append (λ x. cond (x == n) 1 0) a b

pub times-cons : (n x : ℕ) (a : List ℕ) → times n (x ∷ a) ≡ times n (x ∷ []) + times n a
times-cons n x a = times-append n (x ∷ []) a

pub times-one : (n x : ℕ) → times n (x ∷ []) ≡ cond (x == n) 1 0
unfolding times
times-one n x = omega arith

-- 1 for a number from the first up to below the second, else 0
pub between : ℕ → ℕ → ℕ → ℕ
between a b n = cond (nat_le a n && nat_lt n b) 1 0

pub between-more : (a b c n : ℕ) → a ≤ b → b ≤ c → between a b n + between b c n ≤ between a c n
unfolding between
between-more a b c n low high = grind (arith, nat_tests)

pub between-next : (a n : ℕ) → times n (a ∷ []) ≤ between a (a + 1) n
unfolding between times
between-next a n = grind (arith, nat_tests)

pub between-le : (a b n : ℕ) → between a b n ≤ 1
unfolding between
between-le a b n = grind (arith, nat_tests)

-- after a check of a value: what is known of it, of the subqueries, and of the numbers that are held and given
pub record After {A : Type 0} (P : A → Type 0) (held : A → List ℕ) (extra : List ℕ) (before : Progress) (value : A) (after : Progress) : Type 0 where
  pub known : P value
  pub subs : AllByRecursion IsTypedSub after.subs
  pub more : before.relations ≤ after.relations
  pub apart : (n : ℕ) → times n (held value) + times n (numbers_of_subs after.subs) ≤ times n extra + times n (numbers_of_subs before.subs) + between before.relations after.relations n

abbrev pub Found : {A : Type 0} (P : A → Type 0) (held : A → List ℕ) (extra : List ℕ) (before : Progress) → Result (A × Progress) Refusal → Type 0
Found P held extra before (Ok (value, after)) = After P held extra before value after
Found P held extra before (Err refusal) = Unit {0}

-- a check that holds what is known, where these numbers are held before it, and those of the value after it
pub record Sound {A : Type 0} (P : A → Type 0) (held : A → List ℕ) (extra : List ℕ) (check : Checking A) : Type 0 where
  pub at : (before : Progress) → AllByRecursion IsTypedSub before.subs → Found P held extra before (check before)

extended : {A B : Type 0} {P : A → Type 0} {held : A → List ℕ} {extra : List ℕ} (Q : B → Type 0) (held' : B → List ℕ) {before after : Progress} {value : A} (r : Result (B × Progress) Refusal)
    → After P held extra before value after → Found Q held' (held value) after r → Found Q held' extra before r
extended Q held' {before = before} {after = after} (Ok (value, last)) f g = record {
  known = g.known;
  subs = g.subs;
  more = omega (arith, f.more, g.more);
  apart = λ n. omega (arith, f.apart n, g.apart n, between-more before.relations after.relations last.relations n f.more g.more);
}
extended Q held' (Err refusal) f g = tt

then_at : {A B : Type 0} (P : A → Type 0) (held : A → List ℕ) (extra : List ℕ) (Q : B → Type 0) (held' : B → List ℕ) (before : Progress) (next : A → Checking B) (r : Result (A × Progress) Refusal)
    → Found P held extra before r → ((value : A) → P value → Sound Q held' (held value) (next value)) → Found Q held' extra before (go_on r next)
then_at P held extra Q held' before next (Ok (value, after)) f k = extended Q held' (next value after) f ((k value f.known).at after f.subs)
then_at P held extra Q held' before next (Err refusal) f k = tt

-- one check after the other
pub then : {A B : Type 0} {P : A → Type 0} {held : A → List ℕ} {extra : List ℕ} {Q : B → Type 0} {held' : B → List ℕ} {first : Checking A} {next : A → Checking B}
    → Sound P held extra first → ((value : A) → P value → Sound Q held' (held value) (next value)) → Sound Q held' extra (first >>= next)
then {P = P} {held = held} {extra = extra} {Q = Q} {held' = held'} {first = first} {next = next} s k = record { at = λ before ok. then_at P held extra Q held' before next (first before) (s.at before ok) k }

pub and_then : {A B : Type 0} {P : A → Type 0} {held : A → List ℕ} {extra : List ℕ} {Q : B → Type 0} {held' : B → List ℕ} {first : Checking A} {next : Checking B}
    → Sound P held extra first → ((value : A) → P value → Sound Q held' (held value) next) → Sound Q held' extra (first >> next)
and_then {P = P} {held = held} {extra = extra} {Q = Q} {held' = held'} {first = first} {next = next} s k = record { at = λ before ok. then_at P held extra Q held' before (λ _. next) (first before) (s.at before ok) k }

-- no more numbers are held than before
pub Holds : List ℕ → List ℕ → Type 0
Holds held extra = (n : ℕ) → times n held ≤ times n extra

pub same_held : (a : List ℕ) → Holds a a
unfolding Holds
same_held a n = omega arith

after_none : {A : Type 0} (P : A → Type 0) (held : A → List ℕ) (extra : List ℕ) (before : Progress) (value : A) → P value → Holds (held value) extra → AllByRecursion IsTypedSub before.subs → After P held extra before value before
unfolding Holds
after_none P held extra before value p e ok = record { known = p; subs = ok; more = omega arith; apart = λ n. omega (arith, e n) }

pub accepted : {A : Type 0} (P : A → Type 0) (held : A → List ℕ) (extra : List ℕ) (value : A) → P value → Holds (held value) extra → Sound P held extra (accept value)
accepted P held extra value p e = record { at = λ before ok. after_none P held extra before value p e ok }

pub refused : {A : Type 0} (P : A → Type 0) (held : A → List ℕ) (extra : List ℕ) (relation : ℕ) (rule : Rule) → Sound P held extra (refuse relation rule)
refused P held extra relation rule = record { at = λ before ok. tt }

-- what is known of a part
abbrev pub Given : {A : Type 0} → (A → Type 0) → Result A Rule → Type 0
Given P (Ok value) = P value
Given P (Err rule) = Unit {0}

pub parted : {A : Type 0} (P : A → Type 0) (extra : List ℕ) (relation : ℕ) (found : Result A Rule) → Given P found → Sound P (λ _. extra) extra (part relation found)
parted P extra relation (Ok value) p = accepted P (λ _. extra) extra value p (same_held extra)
parted P extra relation (Err rule) p = refused P (λ _. extra) extra relation rule

pub tested : (extra : List ℕ) (relation : ℕ) (test : Bool) (rule : Rule) → Sound (λ _. test ≡ true) (λ _. extra) extra (must relation test rule)
tested extra relation true rule = accepted (λ _. true ≡ true) (λ _. extra) extra tt refl (same_held extra)
tested extra relation false rule = refused (λ _. false ≡ true) (λ _. extra) extra relation rule

pub found : {A : Type 0} (P : A → Type 0) (extra : List ℕ) (relation : ℕ) (written : Option A) → MayBe P written → Sound P (λ _. extra) extra (present relation written)
found P extra relation (Some value) p = accepted P (λ _. extra) extra value p (same_held extra)
found P extra relation None p = refused P (λ _. extra) extra relation _

-- a check that holds no more numbers
abbrev pub Quiet : {A : Type 0} → (A → Type 0) → Checking A → Type 0
Quiet P check = (extra : List ℕ) → Sound P (λ _. extra) extra check

-- each of them holds, and there are so many
abbrev pub AllOf : {A : Type 0} → (A → Type 0) → ℕ → List A → Type 0
AllOf P count values = AllByRecursion P values × (length values ≡ count)

pub ordered : {A : Type 0} (P : A → Type 0) (extra : List ℕ) (checks : List (Checking A)) → AllByRecursion (Quiet P) checks → Sound (AllOf P (length checks)) (λ _. extra) extra (in_order checks)
ordered P extra [] all = accepted (AllOf P 0) (λ _. extra) extra [] (tt, refl) (same_held extra)
ordered P extra (first ∷ rest) all =
    then (all.0 extra) (λ value p. then (ordered P extra rest all.1) (λ values ps. accepted (AllOf P (length (first ∷ rest))) (λ _. extra) extra (value ∷ values) ((p, ps.0), omega (arith, ps.1)) (same_held extra)))

pub mapped : {X A : Type 0} (P : A → Type 0) (C : X → Type 0) (f : X → Checking A) (xs : List X) → AllByRecursion C xs → ((x : X) → C x → Quiet P (f x)) → AllByRecursion (Quiet P) (map f xs)
mapped P C f [] all k = tt
mapped P C f (x ∷ xs) all k = (k x all.0, mapped P C f xs all.1 k)

-- each in order, of a list of things that are checked
pub each_sound : {X A : Type 0} (P : A → Type 0) (C : X → Type 0) (f : X → Checking A) (xs : List X) → AllByRecursion C xs → ((x : X) → C x → Quiet P (f x)) → (extra : List ℕ) → Sound (AllOf P (length xs)) (λ _. extra) extra (in_order (map f xs))
each_sound P C f xs all k extra = subst (λ n. Sound (AllOf P n) (λ _. extra) extra (in_order (map f xs))) (length_mapped f xs) (ordered P extra (map f xs) (mapped P C f xs all k))

pub weaken : {A : Type 0} (P Q : A → Type 0) (xs : List A) → ((x : A) → P x → Q x) → AllByRecursion P xs → AllByRecursion Q xs
weaken P Q [] k all = tt
weaken P Q (x ∷ xs) k all = (k x all.0, weaken P Q xs k all.1)

-- a part after another
pub given_then : {A B : Type 0} (P : A → Type 0) (Q : B → Type 0) (r : Result A Rule) (next : A → Result B Rule) → Given P r → ((value : A) → P value → Given Q (next value)) → Given Q (steps.◌>>=◌ r next)
given_then P Q (Ok value) next p k = k value p
given_then P Q (Err rule) next p k = tt

pub given_ok_or : {A : Type 0} (P : A → Type 0) (o : Option A) (rule : Rule) → MayBe P o → Given P (ok_or o rule)
given_ok_or P (Some value) rule p = p
given_ok_or P None rule p = tt

pub given_if : {A : Type 0} (P : A → Type 0) (test : Bool) (value : A) (rule : Rule) → (test ≡ true → P value) → Given P (cond test (Ok value) (Err rule))
given_if P true value rule k = k refl
given_if P false value rule k = tt

pub given_both : {A : Type 0} (P Q : A → Type 0) (r : Result A Rule) → Given P r → Given Q r → Given (λ value. P value × Q value) r
given_both P Q (Ok value) p q = (p, q)
given_both P Q (Err rule) p q = tt

pub given_collect : {X A : Type 0} (P : A → Type 0) (f : X → Result A Rule) (xs : List X) → ((x : X) → Given P (f x)) → Given (AllOf P (length xs)) (collect (map f xs))
given_collect P f [] k = (tt, refl)
given_collect P f (x ∷ xs) k =
    given_then P (AllOf P (length (x ∷ xs))) (f x) _ (k x) (λ value p.
    given_then (AllOf P (length xs)) (AllOf P (length (x ∷ xs))) (collect (map f xs)) _ (given_collect P f xs k) (λ values ps. ((p, ps.0), omega (arith, ps.1))))

known_at : {A : Type 0} (P Q : A → Type 0) (held : A → List ℕ) (extra : List ℕ) (before : Progress) (r : Result (A × Progress) Refusal) → ((value : A) → P value → Q value) → Found P held extra before r → Found Q held extra before r
known_at P Q held extra before (Ok (value, after)) k f = record { known = k value f.known; subs = f.subs; more = f.more; apart = f.apart }
known_at P Q held extra before (Err refusal) k f = tt

-- what is known implies more
pub known_only : {A : Type 0} (P Q : A → Type 0) (held : A → List ℕ) (extra : List ℕ) (check : Checking A) → ((value : A) → P value → Q value) → Sound P held extra check → Sound Q held extra check
known_only P Q held extra check k s = record { at = λ before ok. known_at P Q held extra before (check before) k (s.at before ok) }

renumbered_at : {A : Type 0} (P : A → Type 0) (held : A → List ℕ) (extra : List ℕ) (before : Progress) (nodes : ℕ) (r : Result (A × Progress) Refusal) → Found P held extra (record before { nodes = nodes }) r → Found P held extra before r
renumbered_at P held extra before nodes (Ok (value, after)) f = record { known = f.known; subs = f.subs; more = f.more; apart = f.apart }
renumbered_at P held extra before nodes (Err refusal) f = tt

-- a check after the next expression has been numbered
pub next_sound : {A : Type 0} (P : A → Type 0) (held : A → List ℕ) (extra : List ℕ) (check : ℕ → Checking A) → ((node : ℕ) → Sound P held extra (check node)) → Sound P held extra (next_node >>= check)
next_sound P held extra check s = record { at = λ before ok. renumbered_at P held extra before (before.nodes + 1) (check before.nodes (record before { nodes = before.nodes + 1 })) ((s before.nodes).at (record before { nodes = before.nodes + 1 }) ok) }

reheld_at : {A : Type 0} (P Q : A → Type 0) (held : A → List ℕ) (extra : List ℕ) (before : Progress) (r : Result (A × Progress) Refusal) → ((value : A) → P value → Q value × Holds (held value) extra) → Found P (λ _. extra) extra before r → Found Q held extra before r
unfolding Holds
reheld_at P Q held extra before (Ok (value, after)) k f = record { known = (k value f.known).0; subs = f.subs; more = f.more; apart = λ n. omega (arith, f.apart n, (k value f.known).1 n) }
reheld_at P Q held extra before (Err refusal) k f = tt

-- the numbers of the value are among those that are held
pub reheld : {A : Type 0} (P Q : A → Type 0) (held : A → List ℕ) (extra : List ℕ) (check : Checking A) → ((value : A) → P value → Q value × Holds (held value) extra) → Sound P (λ _. extra) extra check → Sound Q held extra check
reheld P Q held extra check k s = record { at = λ before ok. reheld_at P Q held extra before (check before) k (s.at before ok) }

pub holds_is : (held extra : List ℕ) → ((n : ℕ) → times n held ≤ times n extra) → Holds held extra
unfolding Holds
holds_is held extra k = k
