-- A pattern's segment against a text: that `is_like` goes segment by segment, and that the leftmost place of each is enough.
use Rattle.std.proofs.Common.{◌≡◌, ℕ, suc, ◌<◌, ◌≤◌, Bool, true, false, ◌&&◌, ◌||◌, ◌==◌, List, [], ◌∷◌, ◌++◌, Option, Some, None, if◌then◌else◌, length, drop, refl, sym, ap, ◌∙◌, ⊎_elim, arith, append_assoc, append-nil, eqb-true, eq-eqb, length-append, drop_at}
use Rattle.std.proofs.lemmas.Bool.{or_cases, or_right, false≢true, cond-false, false_from_ne_true}
use Rattle.std.proofs.lemmas.List.{drop-append-le, nil_from_length}
use Rattle.plan_denote.specs.Texts.{PERCENT, UNDERSCORE, some_end, one_of, is_like}
use Rattle.text_match.specs.Segments.{Lacks, after_segment, rest_passes, is_segment, ends_with_segment, first_of, after_leftmost}
use Rattle.text_match.proofs.TextLaws.{some_end-true, some_end-longer, some_end-same}

chosen : (b x : Bool) (test : List ℕ → Bool) (o : Option (List ℕ)) → x ≡ rest_passes test o → (b && x) ≡ rest_passes test (if b then o else None)
chosen true x test o e = e
chosen false x test o e = refl

-- a segment at the head of a pattern
pub is_like-append : (segment pattern text : List ℕ) → Lacks PERCENT segment → is_like (segment ++ pattern) text ≡ rest_passes (is_like pattern) (after_segment segment text)
is_like-append [] pattern text lacks = refl
is_like-append (s ∷ segment) pattern [] lacks =
    cond-false (s == PERCENT) (some_end (is_like (segment ++ pattern)) []) (one_of s (is_like (segment ++ pattern)) []) lacks.0
is_like-append (s ∷ segment) pattern (c ∷ text) lacks =
    cond-false (s == PERCENT) (some_end (is_like (segment ++ pattern)) (c ∷ text)) (one_of s (is_like (segment ++ pattern)) (c ∷ text)) lacks.0
    ∙ chosen (s == UNDERSCORE || s == c) (is_like (segment ++ pattern) text) (is_like pattern) (after_segment segment text) (is_like-append segment pattern text lacks.1)

-- a pattern that is one segment
pub is_like-segment : (segment text : List ℕ) → Lacks PERCENT segment → is_like segment text ≡ is_segment segment text
is_like-segment segment text lacks = ap (λ p. is_like p text) (sym (append-nil segment)) ∙ is_like-append segment [] text lacks

taken : (b : Bool) (o : Option (List ℕ)) (rest : List ℕ) → (if b then o else None) ≡ Some rest → (b ≡ true) × (o ≡ Some rest)
taken true o rest e = (refl, e)
taken false o rest e = cc

-- a segment stands for as many characters as it has
pub after_segment-front : (segment text rest : List ℕ) → after_segment segment text ≡ Some rest → (front : List ℕ) × (text ≡ front ++ rest) × (length front ≡ length segment)
after_segment-front [] text rest e = ([], cc, refl)
after_segment-front (s ∷ segment) [] rest e = cc
after_segment-front (s ∷ segment) (c ∷ text) rest e =
    let took = taken (s == UNDERSCORE || s == c) (after_segment segment text) rest e in
    let later = after_segment-front segment text rest took.1 in
    (c ∷ later.0, ap (λ t. c ∷ t) later.1, ap suc later.2)

-- what is left after a later place is an end of what is left after an earlier one
after_segment-later : (segment text front end rest later : List ℕ) → text ≡ front ++ end → after_segment segment text ≡ Some rest → after_segment segment end ≡ Some later
    → (between : List ℕ) × (rest ≡ between ++ later)
after_segment-later segment text front end rest later split here there =
    let outer = after_segment-front segment text rest here in
    let inner = after_segment-front segment end later there in
    let n = length outer.0 in
    let whole : (front ++ inner.0) ++ later ≡ text = append_assoc front inner.0 later ∙ ap (λ t. front ++ t) (sym inner.1) ∙ sym split in
    let within : n ≤ length (front ++ inner.0) = omega (arith, outer.2, inner.2, length-append front inner.0) in
    (drop n (front ++ inner.0), sym (drop_at outer.0 rest n refl) ∙ ap (drop n) (sym outer.1 ∙ sym whole) ∙ drop-append-le n (front ++ inner.0) later within)

pub rest_passes-true : (test : List ℕ → Bool) (o : Option (List ℕ)) → rest_passes test o ≡ true → (rest : List ℕ) × (o ≡ Some rest) × (test rest ≡ true)
rest_passes-true test None e = absurd (false≢true e)
rest_passes-true test (Some rest) e = (rest, refl, e)

absorbed : (x y : Bool) → (y ≡ true → x ≡ true) → (x || y) ≡ x
absorbed true y f = refl
absorbed false y f = false_from_ne_true y (λ yes. false≢true (f yes))

-- the segment stands for what the end begins with, and some end of the rest passes
abbrev stands : (List ℕ → Bool) → List ℕ → List ℕ → Bool
stands test segment end = rest_passes (some_end test) (after_segment segment end)

earlier : (test : List ℕ → Bool) (segment : List ℕ) (c : ℕ) (text : List ℕ) (o : Option (List ℕ)) → after_segment segment (c ∷ text) ≡ o
    → some_end (stands test segment) text ≡ rest_passes (some_end test) (after_leftmost segment text)
    → (rest_passes (some_end test) o || some_end (stands test segment) text) ≡ rest_passes (some_end test) (first_of o (after_leftmost segment text))
earlier test segment c text None e later = later
earlier test segment c text (Some rest) e later = absorbed (some_end test rest) (some_end (stands test segment) text) (λ yes.
    let found = some_end-true (stands test segment) text yes in
    let inner = rest_passes-true (some_end test) (after_segment segment found.rest) found.passes in
    let between = after_segment-later segment (c ∷ text) (c ∷ found.front) found.rest rest inner.0 (ap (λ t. c ∷ t) found.split) e inner.1 in
    ap (some_end test) between.1 ∙ some_end-longer test between.0 inner.0 inner.2)

-- of the places of a segment the leftmost is enough, where what comes after it may begin anywhere
some_end-stands : (test : List ℕ → Bool) (segment text : List ℕ) → some_end (stands test segment) text ≡ rest_passes (some_end test) (after_leftmost segment text)
some_end-stands test segment [] = refl
some_end-stands test segment (c ∷ text) = earlier test segment c text (after_segment segment (c ∷ text)) refl (some_end-stands test segment text)

-- a pattern's first segment, where the pattern follows a `%`
pub some_end-is_like : (segment pattern text : List ℕ) → Lacks PERCENT segment
    → some_end (is_like (segment ++ PERCENT ∷ pattern)) text ≡ rest_passes (some_end (is_like pattern)) (after_leftmost segment text)
some_end-is_like segment pattern text lacks =
    some_end-same (is_like (segment ++ PERCENT ∷ pattern)) (stands (is_like pattern) segment) (λ t. is_like-append segment (PERCENT ∷ pattern) t lacks) text
    ∙ some_end-stands (is_like pattern) segment text

-- its last segment
pub some_end-segment : (segment text : List ℕ) → Lacks PERCENT segment → some_end (is_like segment) text ≡ ends_with_segment segment text
some_end-segment segment text lacks = some_end-same (is_like segment) (is_segment segment) (λ t. is_like-segment segment t lacks) text

-- the leftmost place, by the fronts before it
pub after_leftmost-found : (segment front end rest : List ℕ) → after_segment segment end ≡ Some rest
    → ((xs ys : List ℕ) → front ++ end ≡ xs ++ ys → length xs < length front → after_segment segment ys ≡ None)
    → after_leftmost segment (front ++ end) ≡ Some rest
after_leftmost-found segment [] [] rest here before = here
after_leftmost-found segment [] (c ∷ end) rest here before = ap (λ o. first_of o (after_leftmost segment end)) here
after_leftmost-found segment (f ∷ front) end rest here before =
    ap (λ o. first_of o (after_leftmost segment (front ++ end))) (before [] (f ∷ (front ++ end)) refl (omega arith))
    ∙ after_leftmost-found segment front end rest here (λ xs ys split short. before (f ∷ xs) ys (ap (λ t. f ∷ t) split) (omega arith))

pub after_leftmost-none : (segment text : List ℕ) → ((xs ys : List ℕ) → text ≡ xs ++ ys → after_segment segment ys ≡ None) → after_leftmost segment text ≡ None
after_leftmost-none segment [] nowhere = nowhere [] [] refl
after_leftmost-none segment (c ∷ text) nowhere =
    ap (λ o. first_of o (after_leftmost segment text)) (nowhere [] (c ∷ text) refl)
    ∙ after_leftmost-none segment text (λ xs ys split. nowhere (c ∷ xs) ys (ap (λ t. c ∷ t) split))

-- a segment without `_` stands for itself alone
pub after_segment-literal : (segment text rest : List ℕ) → Lacks UNDERSCORE segment → after_segment segment text ≡ Some rest → text ≡ segment ++ rest
after_segment-literal [] text rest lacks e = cc
after_segment-literal (s ∷ segment) [] rest lacks e = cc
after_segment-literal (s ∷ segment) (c ∷ text) rest lacks e =
    let took = taken (s == UNDERSCORE || s == c) (after_segment segment text) rest e in
    let same : s ≡ c = ⊎_elim (λ sign. absurd (false≢true (sym lacks.0 ∙ sign))) (λ is. eqb-true s c is) (or_cases (s == UNDERSCORE) (s == c) took.0) in
    λ i. sym same i ∷ after_segment-literal segment text rest lacks.1 took.1 i

-- and each segment for itself
pub after_segment-append : (segment rest : List ℕ) → after_segment segment (segment ++ rest) ≡ Some rest
after_segment-append [] rest = refl
after_segment-append (s ∷ segment) rest =
    ap (λ b. if b then after_segment segment (segment ++ rest) else None) (or_right (s == UNDERSCORE) (s == s) (eq-eqb s s refl))
    ∙ after_segment-append segment rest

pub is_segment-self : (segment : List ℕ) → is_segment segment segment ≡ true
is_segment-self segment = ap (λ t. is_segment segment t) (sym (append-nil segment)) ∙ ap (rest_passes (λ rest. length rest == 0)) (after_segment-append segment [])

pub is_segment-literal : (segment text : List ℕ) → Lacks UNDERSCORE segment → is_segment segment text ≡ true → text ≡ segment
is_segment-literal segment text lacks e =
    let inner = rest_passes-true (λ rest. length rest == 0) (after_segment segment text) e in
    let none = nil_from_length inner.0 (eqb-true (length inner.0) 0 inner.2) in
    after_segment-literal segment text inner.0 lacks inner.1 ∙ ap (λ t. segment ++ t) none ∙ append-nil segment
