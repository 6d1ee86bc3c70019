-- Segments and texts by their bytes: what `after_signs`, a search of the bytes and `ends_with` say of the characters.
use Rattle.std.proofs.Common.{◌≡◌, ◌≢◌, ℕ, ◌+◌, ◌-◌, ◌<◌, ◌≤◌, Bool, true, false, ◌||◌, ◌==◌, nat_le, nat_eq, List, [], ◌∷◌, ◌++◌, Option, Some, None, IfSome, if◌then◌else◌, is_some, option_map, option_and_then, option_copied, Bor, length, drop, take, get_or, refl, sym, ap, ◌∙◌, subst, ⊎_elim, arith, append_assoc, eqb-true, eq-eqb, ne_eqb, le-leb, length-append, take-append-drop, drop_at, take_at, get_or-append-add, get_or-take, length-drop, IsUtf8, IsCharBoundary, chars}
use Rattle.std.specs.List.{ends_with}
use Rattle.std.specs.Str.{continuation_len, encode_utf8_all, all_scalars}
use Rattle.std.proofs.Math.Utf8.{encode, scalar, scalar_cases}
use Rattle.std.proofs.str.Laws.{Shape, of1, of2, of3, of4, shape}
use Rattle.std.proofs.lemmas.Bool.{and_parts, false≢true, or_from, or_right, cond-true, cond-false, cases_eq}
use Rattle.std.proofs.lemmas.Bool.Decides.{Decides-eqb}
use Rattle.std.proofs.lemmas.List.{drop_more, take-append-le, length-take-le}
use Rattle.std.proofs.lemmas.Slice.Eq.{ends_is}
use Rattle.std.proofs.lemmas.Str.{encode_ascii, encode_same, encodes-append, length-encode, len_utf8_bounds, length-le-encodes, byte_from_char, cons_from_encodes, chars-encodes, encodes-chars, scalars-chars, chars-append, chars_past_char, IsUtf8-take, IsUtf8-drop, IsCharBoundary-start, IsCharBoundary-before_ascii, IsCharBoundary-after_ascii, IsCharBoundary-at_seam}
use Rattle.memchr.specs.Find.{Nowhere, NoneBefore, Passes, IsFirstByte, is_byte, OccursAt, FindsNeedle}
use Rattle.memchr.proofs.lemmas.MatchLemmas.{OccursAt-split}
use Rattle.plan_denote.specs.Texts.{PERCENT, UNDERSCORE}
use Rattle.text_match.specs.Segments.{Lacks, SplitsAtPercent, after_segment, is_segment, ends_with_segment, first_of, after_leftmost, after_character, after_byte, after_sign, after_signs}
use Rattle.text_match.proofs.TextLaws.{same_tests, some_end-true, some_end-from, OccursAt-append}
use Rattle.text_match.proofs.SegmentLaws.{after_leftmost-found, after_leftmost-none, after_segment-literal, after_segment-append, is_segment-self, is_segment-literal}

-- ---- one character
skips : (first n : ℕ) (bytes rest : List ℕ) → continuation_len first ≡ n → length bytes ≡ n → after_character (first ∷ (bytes ++ rest)) ≡ Some rest
skips first n bytes rest count long =
    let fits : nat_le (continuation_len first) (length (bytes ++ rest)) ≡ true = le-leb (continuation_len first) (length (bytes ++ rest)) (omega (arith, count, long, length-append bytes rest)) in
    cond-true (nat_le (continuation_len first) (length (bytes ++ rest))) (Some (drop (continuation_len first) (bytes ++ rest))) None fits
    ∙ ap Some (drop_at bytes rest (continuation_len first) (long ∙ sym count))

after_character-shape : (c : ℕ) (rest : List ℕ) → Shape c → after_character (encode c ++ rest) ≡ Some rest
after_character-shape c rest (of1 h e) = ap (λ p. after_character (p ++ rest)) e ∙ skips c 0 [] rest (grind arith) refl
after_character-shape c rest (of2 a b l h f s e) = ap (λ p. after_character (p ++ rest)) e ∙ skips a 1 (b ∷ []) rest (grind arith) refl
after_character-shape c rest (of3 a b d l h f g s e) = ap (λ p. after_character (p ++ rest)) e ∙ skips a 2 (b ∷ d ∷ []) rest (grind arith) refl
after_character-shape c rest (of4 a b d x l h f g k s e) = ap (λ p. after_character (p ++ rest)) e ∙ skips a 3 (b ∷ d ∷ x ∷ []) rest (grind arith) refl

after_character-encode : (c : ℕ) (rest : List ℕ) → scalar c ≡ true → after_character (encode c ++ rest) ≡ Some rest
after_character-encode c rest e = after_character-shape c rest (shape c (scalar_cases c e))

-- no byte of a character is another's, where that one is ASCII
apart : (a s : ℕ) → s < a → (a == s) ≡ false
apart a s h = ne_eqb a s (λ same. absurd (omega arith))

Lacks-shape : (c s : ℕ) → s < 128 → c ≢ s → Shape c → Lacks s (encode c)
Lacks-shape c s low ne (of1 h e) = subst (Lacks s) (sym e) (ne_eqb c s ne, tt)
Lacks-shape c s low ne (of2 a b l h f w e) =
    let p = f.0 in
    subst (Lacks s) (sym e) (apart a s (omega arith), (apart b s (omega arith), tt))
Lacks-shape c s low ne (of3 a b d l h f g w e) =
    let p = f.0 in
    let q = g.0 in
    subst (Lacks s) (sym e) (apart a s (omega arith), (apart b s (omega arith), (apart d s (omega arith), tt)))
Lacks-shape c s low ne (of4 a b d x l h f g k w e) =
    let p = f.0 in
    let q = g.0 in
    let r = k.0 in
    subst (Lacks s) (sym e) (apart a s (omega arith), (apart b s (omega arith), (apart d s (omega arith), (apart x s (omega arith), tt))))

Lacks-encode : (c s : ℕ) → scalar c ≡ true → s < 128 → c ≢ s → Lacks s (encode c)
Lacks-encode c s e low ne = Lacks-shape c s low ne (shape c (scalar_cases c e))

some_bytes : (c : ℕ) (rest : List ℕ) → 0 < length (encode c ++ rest)
some_bytes c rest = let least = (len_utf8_bounds c).0 in omega (arith, length-append (encode c) rest, length-encode c)

-- ---- `after_signs` by bytes
-- bytes that aren't `_` stand for themselves
after_signs-same : (xs signs text : List ℕ) → Lacks UNDERSCORE xs → after_signs (xs ++ signs) (xs ++ text) ≡ after_signs signs text
after_signs-same [] signs text lacks = refl
after_signs-same (x ∷ xs) signs text lacks =
    ap (option_and_then (after_signs (xs ++ signs)))
    (cond-false (x == UNDERSCORE) (after_character (x ∷ (xs ++ text))) (after_byte x (x ∷ (xs ++ text))) lacks.0 ∙ cond-true (x == x) (Some (xs ++ text)) None (eq-eqb x x refl))
    ∙ after_signs-same xs signs text lacks.1

-- and for nothing else
after_signs-none : (xs signs text : List ℕ) → Lacks UNDERSCORE xs → ((rest : List ℕ) → text ≢ xs ++ rest) → after_signs (xs ++ signs) text ≡ None
after_signs-none [] signs text lacks differs = absurd (differs text refl)
after_signs-none (x ∷ xs) signs [] lacks differs =
    ap (option_and_then (after_signs (xs ++ signs))) (cond-false (x == UNDERSCORE) (after_character []) (after_byte x []) lacks.0)
after_signs-none (x ∷ xs) signs (c ∷ text) lacks differs = ⊎_elim
    (λ same. ap (option_and_then (after_signs (xs ++ signs))) (byte ∙ cond-true (c == x) (Some text) None (eq-eqb c x same))
    ∙ after_signs-none xs signs text lacks.1 (λ rest e. differs rest (λ i. same i ∷ e i)))
    (λ other. ap (option_and_then (after_signs (xs ++ signs))) (byte ∙ cond-false (c == x) (Some text) None (ne_eqb c x other)))
    (cases_eq c x)
  where
    byte : after_sign x (c ∷ text) ≡ after_byte x (c ∷ text)
    byte = cond-false (x == UNDERSCORE) (after_character (c ∷ text)) (after_byte x (c ∷ text)) lacks.0

-- what the law below says of a segment
abbrev Agrees : List ℕ → List ℕ → Type 0
Agrees segment text = after_signs (encode_utf8_all segment) (encode_utf8_all text) ≡ option_map encode_utf8_all (after_segment segment text)

Agrees-underscore : (segment text : List ℕ) → all_scalars text ≡ true → ((t : List ℕ) → all_scalars t ≡ true → Agrees segment t) → Agrees (UNDERSCORE ∷ segment) text
Agrees-underscore segment [] scalars later = ap (λ p. after_signs (p ++ encode_utf8_all segment) []) (encode_ascii UNDERSCORE (omega arith))
Agrees-underscore segment (c ∷ text) scalars later =
    let parts = and_parts (scalar c) (all_scalars text) scalars in
    ap (λ p. after_signs (p ++ encode_utf8_all segment) (encode c ++ encode_utf8_all text)) (encode_ascii UNDERSCORE (omega arith))
    ∙ ap (option_and_then (after_signs (encode_utf8_all segment))) (after_character-encode c (encode_utf8_all text) parts.0)
    ∙ later text parts.1

Agrees-other : (s : ℕ) (segment text : List ℕ) → s ≢ UNDERSCORE → Lacks UNDERSCORE (encode s) → all_scalars text ≡ true → ((t : List ℕ) → all_scalars t ≡ true → Agrees segment t) → Agrees (s ∷ segment) text
Agrees-other s segment [] ne lacks scalars later =
    after_signs-none (encode s) (encode_utf8_all segment) [] lacks (λ rest e. absurd (omega (arith, ap length e, some_bytes s rest)))
Agrees-other s segment (c ∷ text) ne lacks scalars later =
    let signs = encode_utf8_all segment in
    let bytes = encode_utf8_all text in
    ⊎_elim
    (λ same.
    let here : (s == UNDERSCORE || s == c) ≡ true = or_right (s == UNDERSCORE) (s == c) (eq-eqb s c same) in
    ap (λ x. after_signs (encode s ++ signs) (encode x ++ bytes)) (sym same)
    ∙ after_signs-same (encode s) signs bytes lacks
    ∙ later text (and_parts (scalar c) (all_scalars text) scalars).1
    ∙ sym (ap (option_map encode_utf8_all) (cond-true (s == UNDERSCORE || s == c) (after_segment segment text) None here)))
    (λ other.
    let here : (s == UNDERSCORE || s == c) ≡ false = or_from (s == UNDERSCORE) (s == c) (ne_eqb s UNDERSCORE ne) (ne_eqb s c other) in
    after_signs-none (encode s) signs (encode c ++ bytes) lacks (λ rest e. other (sym (encode_same c s bytes rest e).0))
    ∙ sym (ap (option_map encode_utf8_all) (cond-false (s == UNDERSCORE || s == c) (after_segment segment text) None here)))
    (cases_eq s c)

-- the bytes of a segment against a text's bytes are its characters against the text's
after_signs-encodes : (segment text : List ℕ) → all_scalars segment ≡ true → all_scalars text ≡ true → Agrees segment text
after_signs-encodes [] text signs scalars = refl
after_signs-encodes (s ∷ segment) text signs scalars =
    let parts = and_parts (scalar s) (all_scalars segment) signs in
    let later : (t : List ℕ) → all_scalars t ≡ true → Agrees segment t = λ t h. after_signs-encodes segment t parts.1 h in
    ⊎_elim
    (λ is. subst (λ x. Agrees (x ∷ segment) text) (sym is) (Agrees-underscore segment text scalars later))
    (λ ne. Agrees-other s segment text ne (Lacks-encode s UNDERSCORE parts.0 (omega arith) ne) scalars later)
    (cases_eq s UNDERSCORE)

pub after_signs-chars : (segment text : List ℕ) → IsUtf8 segment → IsUtf8 text → after_signs segment text ≡ option_map encode_utf8_all (after_segment (chars segment) (chars text))
after_signs-chars segment text su tu =
    ap (λ s. after_signs s text) (sym (encodes-chars segment su))
    ∙ ap (λ t. after_signs (encode_utf8_all (chars segment)) t) (sym (encodes-chars text tu))
    ∙ after_signs-encodes (chars segment) (chars text) (scalars-chars segment su) (scalars-chars text tu)

-- ---- what is left is characters
abbrev pub AreScalars : Option (List ℕ) → Type 0
AreScalars o = IfSome o (λ rest. all_scalars rest ≡ true)

AreScalars-choice : (b : Bool) (o : Option (List ℕ)) → AreScalars o → AreScalars (if b then o else None)
AreScalars-choice true o h = h
AreScalars-choice false o h = tt

after_segment-scalars : (segment text : List ℕ) → all_scalars text ≡ true → AreScalars (after_segment segment text)
after_segment-scalars [] text scalars = scalars
after_segment-scalars (s ∷ segment) [] scalars = tt
after_segment-scalars (s ∷ segment) (c ∷ text) scalars =
    AreScalars-choice (s == UNDERSCORE || s == c) (after_segment segment text) (after_segment-scalars segment text (and_parts (scalar c) (all_scalars text) scalars).1)

AreScalars-first : (o other : Option (List ℕ)) → AreScalars o → AreScalars other → AreScalars (first_of o other)
AreScalars-first None other h k = k
AreScalars-first (Some rest) other h k = h

after_leftmost-scalars : (segment text : List ℕ) → all_scalars text ≡ true → AreScalars (after_leftmost segment text)
after_leftmost-scalars segment [] scalars = after_segment-scalars segment [] scalars
after_leftmost-scalars segment (c ∷ text) scalars =
    AreScalars-first (after_segment segment (c ∷ text)) (after_leftmost segment text) (after_segment-scalars segment (c ∷ text) scalars)
    (after_leftmost-scalars segment text (and_parts (scalar c) (all_scalars text) scalars).1)

-- optional bytes spell these optional characters
pub record Spells (o r : Option (List ℕ)) : Type 0 where
  pub value : option_map chars r ≡ o
  pub utf8 : IfSome r IsUtf8

Spells-from : (o r : Option (List ℕ)) → AreScalars o → r ≡ option_map encode_utf8_all o → Spells o r
Spells-from None None h e = record { value = refl; utf8 = tt }
Spells-from None (Some r) h e = cc
Spells-from (Some o) None h e = cc
Spells-from (Some o) (Some r) h e =
    let same : r ≡ encode_utf8_all o = cc in
    record { value = ap Some (ap chars same ∙ chars-encodes o h); utf8 = (o, (h, sym same)) }

-- the same of the bytes that an optional reference points to
pub utf8_behind : (r : Option (Bor (List ℕ))) → IfSome (option_copied r) IsUtf8 → IfSome r (λ rest. IsUtf8 rest.now)
utf8_behind None h = tt
utf8_behind (Some rest) h = h

pub Spells-after_signs : (segment text : List ℕ) (r : Option (List ℕ)) → IsUtf8 segment → IsUtf8 text → r ≡ after_signs segment text → Spells (after_segment (chars segment) (chars text)) r
Spells-after_signs segment text r su tu e =
    Spells-from (after_segment (chars segment) (chars text)) r (after_segment-scalars (chars segment) (chars text) (scalars-chars text tu)) (e ∙ after_signs-chars segment text su tu)

-- ---- the next character
pub record StepsOver (text rest : List ℕ) : Type 0 where
  pub first : ℕ
  pub all : chars text ≡ first ∷ chars rest
  pub utf8 : IsUtf8 rest
  pub shorter : length rest < length text

StepsOver-encodes : (text bytes rest : List ℕ) → encode_utf8_all text ≡ bytes → all_scalars text ≡ true → after_character bytes ≡ Some rest → StepsOver bytes rest
StepsOver-encodes [] bytes rest same scalars e = let none : after_character [] ≡ Some rest = ap after_character same ∙ e in cc
StepsOver-encodes (c ∷ text) bytes rest same scalars e =
    let parts = and_parts (scalar c) (all_scalars text) scalars in
    let tail = encode_utf8_all text in
    let step : Some tail ≡ Some rest = sym (after_character-encode c tail parts.0) ∙ ap after_character same ∙ e in
    let left : tail ≡ rest = cc in
    let split : bytes ≡ encode c ++ rest = sym same ∙ ap (λ t. encode c ++ t) left in
    let least = (len_utf8_bounds c).0 in
    record {
      first = c;
      all = chars_past_char bytes rest c (c ∷ text, (scalars, same)) split;
      utf8 = (text, (parts.1, left));
      shorter = omega (arith, ap length split, length-append (encode c) rest, length-encode c);
    }

pub after_character-some : (text rest : List ℕ) → IsUtf8 text → after_character text ≡ Some rest → StepsOver text rest
after_character-some text rest u e = StepsOver-encodes u.0 text rest u.1.1 u.1.0 e

none-encodes : (text bytes : List ℕ) → encode_utf8_all text ≡ bytes → all_scalars text ≡ true → after_character bytes ≡ None → bytes ≡ []
none-encodes [] bytes same scalars e = sym same
none-encodes (c ∷ text) bytes same scalars e =
    let parts = and_parts (scalar c) (all_scalars text) scalars in
    let step : Some (encode_utf8_all text) ≡ None = sym (after_character-encode c (encode_utf8_all text) parts.0) ∙ ap after_character same ∙ e in
    cc

pub after_character-none : (text : List ℕ) → IsUtf8 text → after_character text ≡ None → text ≡ []
after_character-none text u e = none-encodes u.0 text u.1.1 u.1.0 e

-- ---- signs that no byte is
Lacks-encodes : (s : ℕ) (cs : List ℕ) → s < 128 → Nowhere (Passes (is_byte s) (encode_utf8_all cs)) 0 (length (encode_utf8_all cs)) → Lacks s cs
Lacks-encodes s [] low nowhere = tt
Lacks-encodes s (c ∷ cs) low nowhere =
    let rest = encode_utf8_all cs in
    let bytes = encode c ++ rest in
    let ne : c ≢ s = λ same. nowhere 0 (omega arith) (some_bytes c rest) (eq-eqb (get_or bytes 0 0) s (byte_from_char bytes rest c refl (omega arith) ∙ same)) in (
      ne_eqb c s ne,
      Lacks-encodes s cs low (λ k from below passes.
          let at : get_or bytes (length (encode c) + k) 0 ≡ get_or rest k 0 = get_or-append-add (encode c) rest k 0 in
          nowhere (length (encode c) + k) (omega arith) (omega (arith, length-append (encode c) rest)) (ap (λ b. b == s) at ∙ passes)),
    )

pub Lacks-chars : (s : ℕ) (bytes : List ℕ) → s < 128 → IsUtf8 bytes → Nowhere (Passes (is_byte s) bytes) 0 (length bytes) → Lacks s (chars bytes)
Lacks-chars s bytes low u nowhere =
    Lacks-encodes s (chars bytes) low (subst (λ b. Nowhere (Passes (is_byte s) b) 0 (length b)) (sym (encodes-chars bytes u)) nowhere)

-- a pattern at its first `%`
pub SplitsAtPercent-first : (pattern segment rest : List ℕ) (k : ℕ) → IsUtf8 pattern → IsFirstByte (is_byte PERCENT) pattern (Some k) → segment ≡ take k pattern → rest ≡ drop (k + 1) pattern
    → SplitsAtPercent pattern segment rest
SplitsAtPercent-first pattern segment rest k u found front end =
    let first = found.0 in
    let within = first.high in
    let byte : get_or pattern k 0 ≡ PERCENT = eqb-true (get_or pattern k 0) PERCENT found.1 in
    let low : get_or pattern k 0 < 128 = omega (arith, byte) in
    let seam = IsCharBoundary-before_ascii pattern k within low in
    let segment_utf8 : IsUtf8 segment = subst IsUtf8 (sym front) (IsUtf8-take pattern k u seam) in
    let tail = drop k pattern in
    let head : tail ≡ encode PERCENT ++ rest =
    drop_more pattern k 0 within ∙ ap (λ b. b ∷ drop (k + 1) pattern) byte ∙ ap (λ t. PERCENT ∷ t) (sym end) ∙ sym (ap (λ p. p ++ rest) (encode_ascii PERCENT (omega arith))) in
    record {
      signs =
          ap chars (sym (take-append-drop k pattern) ∙ ap (λ t. t ++ tail) (sym front))
          ∙ chars-append segment tail segment_utf8
          ∙ ap (λ t. chars segment ++ t) (chars_past_char tail rest PERCENT (IsUtf8-drop pattern k u seam) head);
      lacks = Lacks-chars PERCENT segment (omega arith) segment_utf8 (λ j from below passes.
          let inside : j < k = omega (arith, ap length front, length-take-le k pattern (omega arith)) in
          let same : get_or segment j 0 ≡ get_or pattern j 0 = ap (λ t. get_or t j 0) front ∙ get_or-take k pattern j 0 inside in
          first.before j (omega arith) inside (ap (λ b. b == PERCENT) (sym same) ∙ passes));
      segment_utf8 = segment_utf8;
      rest_utf8 = subst IsUtf8 (sym end) (IsUtf8-drop pattern (k + 1) u (IsCharBoundary-after_ascii pattern k u within low));
      shorter = omega (arith, ap length end, length-drop (k + 1) pattern);
    }

-- no such byte was found
pub IsFirstByte-none : (test : ℕ → Bool) (bytes : List ℕ) (o : Option ℕ) → is_some o ≡ false → IsFirstByte test bytes o → IsFirstByte test bytes None
IsFirstByte-none test bytes None e h = h
IsFirstByte-none test bytes (Some k) e h = absurd (false≢true (sym e))

-- ---- segments without `_`, by a search of the bytes
none_of : (o : Option (List ℕ)) → ((rest : List ℕ) → o ≡ Some rest → ⊥) → o ≡ None
none_of None never = refl
none_of (Some rest) never = absurd (never rest refl)

-- where the characters stand, there the bytes occur
OccursAt-chars : (text literal xs ys rest : List ℕ) → IsUtf8 text → IsUtf8 literal → Lacks UNDERSCORE (chars literal) → chars text ≡ xs ++ ys
    → after_segment (chars literal) ys ≡ Some rest → OccursAt text literal (length (encode_utf8_all xs))
OccursAt-chars text literal xs ys rest tu lu lacks split here =
    let stands = after_segment-literal (chars literal) ys rest lacks here in
    OccursAt-append text (encode_utf8_all xs) literal (encode_utf8_all rest)
    (sym (encodes-chars text tu)
    ∙ ap encode_utf8_all (split ∙ ap (λ t. xs ++ t) stands)
    ∙ encodes-append xs (chars literal ++ rest)
    ∙ ap (λ t. encode_utf8_all xs ++ t) (encodes-append (chars literal) rest ∙ ap (λ t. t ++ encode_utf8_all rest) (encodes-chars literal lu)))

-- the bytes of whole characters occur at the first byte of a character, or the search would have ended at the start
IsCharBoundary-found : (text literal : List ℕ) (at : ℕ) → IsUtf8 text → IsUtf8 literal → NoneBefore (OccursAt text literal) 0 (length text + 1) at → OccursAt text literal at → IsCharBoundary text at
IsCharBoundary-found text literal at tu lu first occurs = ⊎_elim
    (λ empty.
    let start : OccursAt text literal 0 = record { fits = omega arith; reads = λ j l. absurd (omega arith) } in
    let zero : at ≡ 0 = ⊎_elim (λ same. same) (λ other. absurd (first.before 0 (omega arith) (omega arith) start)) (cases_eq at 0) in
    subst (IsCharBoundary text) (sym zero) (IsCharBoundary-start text tu))
    (λ some.
    let fits = occurs.fits in
    let within : 0 < length literal = omega arith in
    let byte : get_or text at 0 ≡ get_or literal 0 0 = ap (λ k. get_or text k 0) (omega arith) ∙ occurs.reads 0 within in
    let lead = (IsCharBoundary-start literal lu).1 within in
    (omega arith, λ inside high. subst (λ b. 192 ≤ b) (sym byte) (lead (subst (λ b. 128 ≤ b) byte high))))
    (cases_eq (length literal) 0)

-- characters whose bytes begin with those of others begin with those
prefix_from_encodes : (cs es rest : List ℕ) → encode_utf8_all es ≡ encode_utf8_all cs ++ rest → (later : List ℕ) × (es ≡ cs ++ later) × (encode_utf8_all later ≡ rest)
prefix_from_encodes [] es rest e = (es, refl, e)
prefix_from_encodes (c ∷ cs) es rest e =
    let head = cons_from_encodes es (encode_utf8_all cs ++ rest) c (e ∙ append_assoc (encode c) (encode_utf8_all cs) rest) in
    let tail = prefix_from_encodes cs head.0 rest head.2 in
    (tail.0, head.1 ∙ ap (λ t. c ∷ t) tail.1, tail.2)

-- fewer characters of a text are fewer bytes
shorter_front : (front end xs ys : List ℕ) → front ++ end ≡ xs ++ ys → length xs < length front → length (encode_utf8_all xs) < length (encode_utf8_all front)
shorter_front front end xs ys split short =
    let n = length xs in
    let head : xs ≡ take n front = sym (take_at xs ys n refl) ∙ ap (take n) (sym split) ∙ take-append-le n front end (omega arith) in
    let whole : front ≡ xs ++ drop n front = sym (take-append-drop n front) ∙ ap (λ t. t ++ drop n front) (sym head) in
    let bytes = ap encode_utf8_all whole ∙ encodes-append xs (drop n front) in
    omega (arith, ap length bytes, length-append (encode_utf8_all xs) (encode_utf8_all (drop n front)), length-le-encodes (drop n front), ap length whole, length-append xs (drop n front))

pub after_leftmost-find : (text literal : List ℕ) (o : Option ℕ) → IsUtf8 text → IsUtf8 literal → IsFirstByte (is_byte UNDERSCORE) literal None → FindsNeedle text literal 0 o
    → option_map (λ at. drop (at + length literal) text) o ≡ option_map encode_utf8_all (after_leftmost (chars literal) (chars text))
after_leftmost-find text literal None tu lu no_wildcard nowhere =
    let lacks = Lacks-chars UNDERSCORE literal (omega arith) lu no_wildcard in
    sym (ap (option_map encode_utf8_all) (after_leftmost-none (chars literal) (chars text) (λ xs ys split. none_of (after_segment (chars literal) ys) (λ rest here.
    let occurs = OccursAt-chars text literal xs ys rest tu lu lacks split here in
    nowhere (length (encode_utf8_all xs)) (omega arith) (omega (arith, occurs.fits)) occurs))))
after_leftmost-find text literal (Some at) tu lu no_wildcard found =
    let lacks = Lacks-chars UNDERSCORE literal (omega arith) lu no_wildcard in
    let fits = found.1.fits in
    let seam = IsCharBoundary-found text literal at tu lu found.0 found.1 in
    let front_utf8 = IsUtf8-take text at tu seam in
    let end_utf8 = IsUtf8-drop text at tu seam in
    let front = chars (take at text) in
    let end = chars (drop at text) in
    let rest = drop (at + length literal) text in
    let whole : chars text ≡ front ++ end = ap chars (sym (take-append-drop at text)) ∙ chars-append (take at text) (drop at text) front_utf8 in
    let parts = prefix_from_encodes (chars literal) end rest
    (encodes-chars (drop at text) end_utf8 ∙ OccursAt-split text literal at found.1 ∙ ap (λ t. t ++ rest) (sym (encodes-chars literal lu))) in
    let stands : after_segment (chars literal) end ≡ Some parts.0 = ap (after_segment (chars literal)) parts.1 ∙ after_segment-append (chars literal) parts.0 in
    let front_bytes : length (encode_utf8_all front) ≡ at = ap length (encodes-chars (take at text) front_utf8) ∙ length-take-le at text (omega arith) in
    let before : (xs ys : List ℕ) → front ++ end ≡ xs ++ ys → length xs < length front → after_segment (chars literal) ys ≡ None =
    λ xs ys split short. none_of (after_segment (chars literal) ys) (λ later here.
    let occurs = OccursAt-chars text literal xs ys later tu lu lacks (whole ∙ split) here in
    found.0.before (length (encode_utf8_all xs)) (omega arith) (omega (arith, front_bytes, shorter_front front end xs ys split short)) occurs) in
    sym (ap (λ t. option_map encode_utf8_all (after_leftmost (chars literal) t)) whole
    ∙ ap (option_map encode_utf8_all) (after_leftmost-found (chars literal) front end parts.0 stands before)
    ∙ ap Some parts.2)

pub Spells-find : (text literal : List ℕ) (o : Option ℕ) → IsUtf8 text → IsUtf8 literal → IsFirstByte (is_byte UNDERSCORE) literal None → FindsNeedle text literal 0 o
    → Spells (after_leftmost (chars literal) (chars text)) (option_map (λ at. drop (at + length literal) text) o)
Spells-find text literal o tu lu no_wildcard found =
    Spells-from (after_leftmost (chars literal) (chars text)) (option_map (λ at. drop (at + length literal) text) o)
    (after_leftmost-scalars (chars literal) (chars text) (scalars-chars text tu))
    (after_leftmost-find text literal o tu lu no_wildcard found)

-- and by the bytes of the text's end
pub ends_with_segment-literal : (text segment : List ℕ) (r : Bool) → IsUtf8 text → IsUtf8 segment → IsFirstByte (is_byte UNDERSCORE) segment None → r ≡ ends_with nat_eq text segment
    → r ≡ ends_with_segment (chars segment) (chars text)
ends_with_segment-literal text segment r tu su no_wildcard e =
    let lacks = Lacks-chars UNDERSCORE segment (omega arith) su no_wildcard in
    let parts = ends_is Decides-eqb text segment r e in
    same_tests r (ends_with_segment (chars segment) (chars text))
    (λ yes.
    let front = take (length text - length segment) text in
    let split : text ≡ front ++ segment = parts.0 yes in
    let seam = IsCharBoundary-at_seam text front segment split su in
    let same : take (length front) text ≡ front = ap (take (length front)) split ∙ take_at front segment (length front) refl in
    let front_utf8 : IsUtf8 front = subst IsUtf8 same (IsUtf8-take text (length front) tu seam) in
    ap (ends_with_segment (chars segment)) (ap chars split ∙ chars-append front segment front_utf8)
    ∙ some_end-from (is_segment (chars segment)) (chars front) (chars segment) (is_segment-self (chars segment)))
    (λ yes.
    let found = some_end-true (is_segment (chars segment)) (chars text) yes in
    let whole = is_segment-literal (chars segment) found.rest lacks found.passes in
    parts.1 (encode_utf8_all found.front)
    (sym (encodes-chars text tu)
    ∙ ap encode_utf8_all (found.split ∙ ap (λ t. found.front ++ t) whole)
    ∙ encodes-append found.front (chars segment)
    ∙ ap (λ t. encode_utf8_all found.front ++ t) (encodes-chars segment su)))
