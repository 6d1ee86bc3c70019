-- What `begins`, `ends`, `contains` and `some_end` say of how a text splits.
use Rattle.std.proofs.Common.{◌≡◌, ℕ, ◌+◌, Bool, true, false, ◌&&◌, ◌||◌, ◌==◌, List, [], ◌∷◌, ◌++◌, Option, Some, None, is_some, length, drop, take, get_or, refl, sym, ap, ◌∙◌, ⊎_elim, arith, append-nil, eqb-true, eq-eqb, length-append, take-append-drop, get_or-append-add, nat_eq}
use Rattle.std.specs.List.{starts_with, ends_with}
use Rattle.std.proofs.lemmas.Bool.{and_parts, and_from, or_cases, or_left, or_right, false≢true}
use Rattle.std.proofs.lemmas.Bool.Decides.{Decides-eqb}
use Rattle.std.proofs.lemmas.List.{nil_from_length, get_or_append_left}
use Rattle.std.proofs.lemmas.Slice.Eq.{starts_is, ends_is}
use Rattle.memchr.specs.Find.{OccursAt, FindsNeedle}
use Rattle.memchr.proofs.lemmas.MatchLemmas.{OccursAt-split}
use Rattle.plan_denote.specs.Texts.{begins, some_end, ends, contains}

-- two tests that pass together are one
pub same_tests : (a b : Bool) → (a ≡ true → b ≡ true) → (b ≡ true → a ≡ true) → a ≡ b
same_tests true b forth back = sym (forth refl)
same_tests false true forth back = back refl
same_tests false false forth back = refl

-- an end of the text that passes
pub record EndThatPasses (test : List ℕ → Bool) (text : List ℕ) : Type 0 where
  pub front : List ℕ
  pub rest : List ℕ
  pub split : text ≡ front ++ rest
  pub passes : test rest ≡ true

pub some_end-true : (test : List ℕ → Bool) (text : List ℕ) → some_end test text ≡ true → EndThatPasses test text
some_end-true test [] e = record { front = []; rest = []; split = refl; passes = e }
some_end-true test (c ∷ text) e = ⊎_elim
    (λ here. record { front = []; rest = c ∷ text; split = refl; passes = here })
    (λ later.
    let found = some_end-true test text later in
    record { front = c ∷ found.front; rest = found.rest; split = ap (λ t. c ∷ t) found.split; passes = found.passes })
    (or_cases (test (c ∷ text)) (some_end test text) e)

pub some_end-from : (test : List ℕ → Bool) (front rest : List ℕ) → test rest ≡ true → some_end test (front ++ rest) ≡ true
some_end-from test [] [] e = e
some_end-from test [] (c ∷ rest) e = or_left (test (c ∷ rest)) (some_end test rest) e
some_end-from test (c ∷ front) rest e = or_right (test (c ∷ (front ++ rest))) (some_end test (front ++ rest)) (some_end-from test front rest e)

-- what an end of the text has, the text has
pub some_end-longer : (test : List ℕ → Bool) (front rest : List ℕ) → some_end test rest ≡ true → some_end test (front ++ rest) ≡ true
some_end-longer test [] rest e = e
some_end-longer test (c ∷ front) rest e = or_right (test (c ∷ (front ++ rest))) (some_end test (front ++ rest)) (some_end-longer test front rest e)

pub some_end-same : (f g : List ℕ → Bool) → ((t : List ℕ) → f t ≡ g t) → (text : List ℕ) → some_end f text ≡ some_end g text
some_end-same f g same [] = same []
some_end-same f g same (c ∷ text) = λ i. same (c ∷ text) i || some_end-same f g same text i

pub begins-true : (text pattern : List ℕ) → begins text pattern ≡ true → (rest : List ℕ) × (text ≡ pattern ++ rest)
begins-true text [] e = (text, refl)
begins-true [] (p ∷ pattern) e = absurd (false≢true e)
begins-true (c ∷ text) (p ∷ pattern) e =
    let parts = and_parts (c == p) (begins text pattern) e in
    let later = begins-true text pattern parts.1 in
    (later.0, λ i. eqb-true c p parts.0 i ∷ later.1 i)

pub begins-append : (pattern rest : List ℕ) → begins (pattern ++ rest) pattern ≡ true
begins-append [] rest = refl
begins-append (p ∷ pattern) rest = and_from (p == p) (begins (pattern ++ rest) pattern) (eq-eqb p p refl) (begins-append pattern rest)

begins-self : (pattern : List ℕ) → begins pattern pattern ≡ true
begins-self pattern = ap (λ t. begins t pattern) (sym (append-nil pattern)) ∙ begins-append pattern []

-- a text that begins with a pattern of its length is the pattern
begins-whole : (text pattern rest : List ℕ) → text ≡ pattern ++ rest → length text ≡ length pattern → text ≡ pattern
begins-whole text pattern rest split same =
    split ∙ ap (λ t. pattern ++ t) (nil_from_length rest (omega (arith, ap length split, length-append pattern rest))) ∙ append-nil pattern

-- `starts_with` of slices
pub begins-starts_with : (text pattern : List ℕ) (r : Bool) → r ≡ starts_with nat_eq text pattern → r ≡ begins text pattern
begins-starts_with text pattern r e =
    let parts = starts_is Decides-eqb text pattern r e in
    same_tests r (begins text pattern)
    (λ yes. ap (λ t. begins t pattern) (parts.0 yes) ∙ begins-append pattern (drop (length pattern) text))
    (λ yes. let found = begins-true text pattern yes in parts.1 found.0 found.1)

-- `ends_with` of slices
pub ends-ends_with : (text pattern : List ℕ) (r : Bool) → r ≡ ends_with nat_eq text pattern → r ≡ ends text pattern
ends-ends_with text pattern r e =
    let test : List ℕ → Bool = λ end. begins end pattern && length end == length pattern in
    let parts = ends_is Decides-eqb text pattern r e in
    same_tests r (ends text pattern)
    (λ yes.
    let here : test pattern ≡ true = and_from (begins pattern pattern) (length pattern == length pattern) (begins-self pattern) (eq-eqb (length pattern) (length pattern) refl) in
    ap (λ t. ends t pattern) (parts.0 yes) ∙ some_end-from test _ pattern here)
    (λ yes.
    let found = some_end-true test text yes in
    let both = and_parts (begins found.rest pattern) (length found.rest == length pattern) found.passes in
    let begun = begins-true found.rest pattern both.0 in
    let whole = begins-whole found.rest pattern begun.0 begun.1 (eqb-true (length found.rest) (length pattern) both.1) in
    parts.1 found.front (found.split ∙ ap (λ t. found.front ++ t) whole))

-- a needle that stands after a front
pub OccursAt-append : (text front needle rest : List ℕ) → text ≡ front ++ (needle ++ rest) → OccursAt text needle (length front)
OccursAt-append text front needle rest e = record {
  fits = omega (arith, ap length e, length-append front (needle ++ rest), length-append needle rest);
  reads = λ j l. ap (λ t. get_or t (length front + j) 0) e ∙ get_or-append-add front (needle ++ rest) j 0 ∙ get_or_append_left needle rest 0 j l;
}

-- `find` of memmem
pub contains-find : (text pattern : List ℕ) (r : Option ℕ) → FindsNeedle text pattern 0 r → is_some r ≡ contains text pattern
contains-find text pattern None nowhere = same_tests false (contains text pattern) (λ no. absurd (false≢true no)) (λ yes.
    let found = some_end-true (λ end. begins end pattern) text yes in
    let begun = begins-true found.rest pattern found.passes in
    let occurs = OccursAt-append text found.front pattern begun.0 (found.split ∙ ap (λ t. found.front ++ t) begun.1) in
    absurd (nowhere (length found.front) (omega arith) (omega (arith, occurs.fits)) occurs))
contains-find text pattern (Some k) found =
    let here : begins (drop k text) pattern ≡ true = ap (λ t. begins t pattern) (OccursAt-split text pattern k found.1) ∙ begins-append pattern _ in
    sym (ap (λ t. contains t pattern) (sym (take-append-drop k text)) ∙ some_end-from (λ end. begins end pattern) (take k text) (drop k text) here)
