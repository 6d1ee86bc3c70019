-- The end of a text, by its last characters: where each begins, and that a segment can only stand for as many as it has.
use Rattle.std.proofs.Common.{◌≡◌, ℕ, zero, suc, ◌+◌, ◌-◌, ◌<◌, ◌≤◌, Bool, true, false, ◌==◌, nat_lt, nat_le, List, [], ◌∷◌, ◌++◌, Some, None, length, drop, take, get_or, refl, sym, ap, ◌∙◌, subst, ⊎_elim, arith, append-nil, eqb-true, lt-ltb, le-ltb, le-leb, length-append, drop_at, take_at, take-append-drop, get_or-append-add, IsUtf8, chars, encode_utf8_all}
use Rattle.std.specs.Str.{all_scalars, NonePass}
use Rattle.std.proofs.Math.Utf8.{encode, scalar, scalar_cases}
use Rattle.std.proofs.str.Laws.{Shape, of1, of2, of3, of4, shape}
use Rattle.std.proofs.lemmas.Bool.{and_parts, and_from, false≢true, or_from, or_left, or_right, lt-leb, cases_lt}
use Rattle.std.proofs.lemmas.List.{get_or_append_left, length-take-le, length_push, take-take}
use Rattle.std.proofs.lemmas.Str.{chars-nil, chars-encodes, chars-append, encodes-append, IsUtf8-drop, IsCharBoundary-from_take}
use Rattle.memchr.specs.Find.{Nowhere, Passes, IsLastByte}
use Rattle.text_match.specs.Segments.{after_segment, is_segment, ends_with_segment, IsEndAsLong, BeginsLast, begins_character}
use Rattle.text_match.proofs.TextLaws.{same_tests, some_end-true, some_end-from}
use Rattle.text_match.proofs.SegmentLaws.{rest_passes-true, after_segment-front}
use Rattle.text_match.proofs.SignLaws.{StepsOver}

-- ---- the bytes of one character
-- its first byte, and then none that a character begins with
record IsLed (bytes : List ℕ) : Type 0 where
  first : ℕ
  rest : List ℕ
  all : bytes ≡ first ∷ rest
  begins : begins_character first ≡ true
  none : NonePass begins_character rest

ascii : (b : ℕ) → b < 128 → begins_character b ≡ true
ascii b h = or_left (nat_lt b 128) (nat_le 192 b) (lt-ltb b 128 h)

lead : (b : ℕ) → 192 ≤ b → begins_character b ≡ true
lead b h = or_right (nat_lt b 128) (nat_le 192 b) (le-leb 192 b h)

follows : (b : ℕ) → 128 ≤ b → b < 192 → begins_character b ≡ false
follows b low high = or_from (nat_lt b 128) (nat_le 192 b) (le-ltb b 128 low) (lt-leb 192 b high)

IsLed-shape : (c : ℕ) → Shape c → IsLed (encode c)
IsLed-shape c (of1 h e) = record { first = c; rest = []; all = e; begins = ascii c h; none = tt }
IsLed-shape c (of2 a b l h f s e) = record { first = a; rest = b ∷ []; all = e; begins = lead a l; none = (follows b f.0 f.1, tt) }
IsLed-shape c (of3 a b d l h f g s e) =
    record { first = a; rest = b ∷ d ∷ []; all = e; begins = lead a (omega arith); none = (follows b f.0 f.1, (follows d g.0 g.1, tt)) }
IsLed-shape c (of4 a b d x l h f g k s e) =
    record { first = a; rest = b ∷ d ∷ x ∷ []; all = e; begins = lead a (omega arith); none = (follows b f.0 f.1, (follows d g.0 g.1, (follows x k.0 k.1, tt))) }

IsLed-encode : (c : ℕ) → scalar c ≡ true → IsLed (encode c)
IsLed-encode c e = IsLed-shape c (shape c (scalar_cases c e))

NonePass-at : (p : ℕ → Bool) (xs : List ℕ) (k : ℕ) → NonePass p xs → k < length xs → p (get_or xs k 0) ≡ false
NonePass-at p [] k h l = absurd (omega arith)
NonePass-at p (x ∷ xs) zero h l = h.0
NonePass-at p (x ∷ xs) (suc k) h l = NonePass-at p xs k h.1 (omega arith)

-- a character begins with its byte at 0 and with no other
begins-first : (bytes : List ℕ) → IsLed bytes → begins_character (get_or bytes 0 0) ≡ true
begins-first bytes led = ap (λ t. begins_character (get_or t 0 0)) led.all ∙ led.begins

begins-later : (bytes : List ℕ) (k : ℕ) → IsLed bytes → suc k < length bytes → begins_character (get_or bytes (suc k) 0) ≡ false
begins-later bytes k led l = ap (λ t. begins_character (get_or t (suc k) 0)) led.all ∙ NonePass-at begins_character led.rest k led.none (omega (arith, ap length led.all))

some_byte : (bytes : List ℕ) → IsLed bytes → 0 < length bytes
some_byte bytes led = omega (arith, ap length led.all)

-- ---- the last character
record IsSnoc (cs : List ℕ) : Type 0 where
  front : List ℕ
  last : ℕ
  all : cs ≡ front ++ last ∷ []

snoc : (c : ℕ) (cs : List ℕ) → IsSnoc (c ∷ cs)
snoc c [] = record { front = []; last = c; all = refl }
snoc c (d ∷ cs) = let later = snoc d cs in record { front = c ∷ later.front; last = later.last; all = ap (λ t. c ∷ t) later.all }

scalars-snoc : (cs : List ℕ) (c : ℕ) → all_scalars (cs ++ c ∷ []) ≡ true → (all_scalars cs ≡ true) × (scalar c ≡ true)
scalars-snoc [] c e = (refl, (and_parts (scalar c) true e).0)
scalars-snoc (d ∷ cs) c e =
    let parts = and_parts (scalar d) (all_scalars (cs ++ c ∷ [])) e in
    let later = scalars-snoc cs c parts.1 in
    (and_from (scalar d) (all_scalars cs) parts.0 later.0, later.1)

-- the last byte that begins a character is where the last character begins
last_start : (front bytes text : List ℕ) (k : ℕ) → text ≡ front ++ bytes → IsLed bytes → IsLastByte begins_character text (Some k) → k ≡ length front
last_start front bytes text k split led found =
    let p = length front in
    let ends = found.0 in
    let high = ends.high in
    let long = ap length split in
    let here : get_or text p 0 ≡ get_or bytes 0 0 = ap (λ t. get_or t p 0) split ∙ ap (λ j. get_or (front ++ bytes) j 0) (omega arith) ∙ get_or-append-add front bytes 0 0 in
    ⊎_elim
    (λ before. absurd (ends.after p (omega arith) (omega (arith, long, length-append front bytes, some_byte bytes led)) (ap begins_character here ∙ begins-first bytes led)))
    (λ after. ⊎_elim
    (λ past.
    let j = k - p - 1 in
    let at : k ≡ p + suc j = omega arith in
    let byte : get_or text k 0 ≡ get_or bytes (suc j) 0 = ap (λ t. get_or t k 0) split ∙ ap (λ i. get_or (front ++ bytes) i 0) at ∙ get_or-append-add front bytes (suc j) 0 in
    absurd (false≢true (sym (begins-later bytes j led (omega (arith, long, length-append front bytes))) ∙ ap begins_character (sym byte) ∙ found.1)))
    (λ same. omega arith)
    (cases_lt p k))
    (cases_lt k p)

BeginsLast-snoc : (front : List ℕ) (c : ℕ) (text : List ℕ) (k : ℕ) → encode_utf8_all (front ++ c ∷ []) ≡ text → all_scalars (front ++ c ∷ []) ≡ true → IsLastByte begins_character text (Some k) → BeginsLast text k
BeginsLast-snoc front c text k same scalars found =
    let parts = scalars-snoc front c scalars in
    let ends = found.0 in
    let bytes = encode_utf8_all front in
    let split : text ≡ bytes ++ encode c = sym same ∙ encodes-append front (c ∷ []) ∙ ap (λ t. bytes ++ t) (append-nil (encode c)) in
    let start = last_start bytes (encode c) text k split (IsLed-encode c parts.1) found in
    let head : take k text ≡ bytes = ap (take k) split ∙ take_at bytes (encode c) k (sym start) in
    record {
      last = c;
      all = ap chars (sym same) ∙ chars-encodes (front ++ c ∷ []) scalars ∙ ap (λ t. t ++ c ∷ []) (sym (ap chars head ∙ chars-encodes front parts.0));
      utf8 = (front, (parts.0, sym head));
      within = ends.high;
    }

BeginsLast-encodes : (cs text : List ℕ) (k : ℕ) → encode_utf8_all cs ≡ text → all_scalars cs ≡ true → IsLastByte begins_character text (Some k) → BeginsLast text k
BeginsLast-encodes [] text k same scalars found = let ends = found.0 in absurd (omega (arith, ends.high, ap length same))
BeginsLast-encodes (d ∷ cs) text k same scalars found =
    let parts = snoc d cs in
    BeginsLast-snoc parts.front parts.last text k (ap encode_utf8_all (sym parts.all) ∙ same) (ap all_scalars (sym parts.all) ∙ scalars) found

pub BeginsLast-found : (text : List ℕ) (k : ℕ) → IsUtf8 text → IsLastByte begins_character text (Some k) → BeginsLast text k
BeginsLast-found text k u found = BeginsLast-encodes u.0 text k u.1.1 u.1.0 found

none-encodes : (cs text : List ℕ) → encode_utf8_all cs ≡ text → all_scalars cs ≡ true → IsLastByte begins_character text None → text ≡ []
none-encodes [] text same scalars nowhere = sym same
none-encodes (c ∷ cs) text same scalars nowhere =
    let led = IsLed-encode c (and_parts (scalar c) (all_scalars cs) scalars).0 in
    let rest = encode_utf8_all cs in
    let some = some_byte (encode c) led in
    let byte : get_or text 0 0 ≡ get_or (encode c) 0 0 = ap (λ t. get_or t 0 0) (sym same) ∙ get_or_append_left (encode c) rest 0 0 some in
    absurd (nowhere 0 (omega arith) (omega (arith, ap length same, length-append (encode c) rest)) (ap begins_character byte ∙ begins-first (encode c) led))

pub no_characters-found : (text : List ℕ) → IsUtf8 text → IsLastByte begins_character text None → chars text ≡ []
no_characters-found text u nowhere = ap chars (none-encodes u.0 text u.1.1 u.1.0 nowhere) ∙ chars-nil

-- the byte before those that fail
pub IsLastByte-before : (test : ℕ → Bool) (text : List ℕ) (start : ℕ) → 0 < start → start ≤ length text → Nowhere (Passes test text) start (length text) → test (get_or text (start - 1) 0) ≡ true
    → IsLastByte test text (Some (start - 1))
IsLastByte-before test text start some within nowhere passes = (record { low = omega arith; high = omega arith; after = λ k from below. nowhere k (omega arith) below }, passes)

-- ---- the end of a text that is as long as a segment
pub IsEndAsLong-from : (text segment end : List ℕ) (start : ℕ) → IsUtf8 text → IsUtf8 (take start text) → start ≤ length text → end ≡ drop start text
    → length (chars (take start text)) + length (chars segment) ≡ length (chars text) → IsEndAsLong text segment end
IsEndAsLong-from text segment end start u front within same count =
    let tail = IsUtf8-drop text start u (IsCharBoundary-from_take text start u within front) in
    let split : chars text ≡ chars (take start text) ++ chars end =
    ap chars (sym (take-append-drop start text)) ∙ chars-append (take start text) (drop start text) front ∙ ap (λ t. chars (take start text) ++ chars t) (sym same) in
    record {
      front = chars (take start text);
      split = split;
      long = omega (arith, ap length split, length-append (chars (take start text)) (chars end));
      utf8 = subst IsUtf8 (sym same) tail;
    }

-- one character less of the text, and one of the segment
pub one_less : (text segment signs later : List ℕ) (start before : ℕ) → start ≤ length text → BeginsLast (take start text) before → StepsOver signs later
    → length (chars (take start text)) + length (chars segment) ≡ length (chars text) + length (chars signs)
    → (before ≤ length text) × IsUtf8 (take before text) × IsUtf8 later × (length (chars (take before text)) + length (chars segment) ≡ length (chars text) + length (chars later))
one_less text segment signs later start before within begins step count =
    let inside = begins.within in
    let long = length-take-le start text within in
    let same : take before (take start text) ≡ take before text = take-take before start text (omega arith) in
    let shorter = ap length begins.all in
    let fewer : length (chars (take start text)) ≡ length (chars (take before text)) + 1 =
    shorter ∙ length_push (chars (take before (take start text))) begins.last ∙ ap (λ t. length (chars t) + 1) same in
    (omega arith, subst IsUtf8 same begins.utf8, step.utf8, omega (arith, fewer, ap length step.all, count))

pub too_short : (text segment signs later : List ℕ) (start : ℕ) → chars (take start text) ≡ [] → StepsOver signs later
    → length (chars (take start text)) + length (chars segment) ≡ length (chars text) + length (chars signs) → length (chars text) < length (chars segment)
too_short text segment signs later start empty step count = omega (arith, ap length empty, ap length step.all, count)

-- a segment stands for as many characters as it has
is_segment-length : (segment text : List ℕ) → is_segment segment text ≡ true → length text ≡ length segment
is_segment-length segment text e =
    let inner = rest_passes-true (λ rest. length rest == 0) (after_segment segment text) e in
    let front = after_segment-front segment text inner.0 inner.1 in
    omega (arith, ap length front.1, length-append front.0 inner.0, front.2, eqb-true (length inner.0) 0 inner.2)

-- ends of one length are one
same_end : (xs ys front end : List ℕ) → xs ++ ys ≡ front ++ end → length ys ≡ length end → ys ≡ end
same_end xs ys front end e long =
    let count : length front ≡ length xs = omega (arith, ap length e, length-append xs ys, length-append front end) in
    sym (drop_at xs ys (length xs) refl) ∙ ap (drop (length xs)) e ∙ drop_at front end (length xs) count

pub ends_with_segment-as_long : (text segment end : List ℕ) → IsEndAsLong text segment end → is_segment (chars segment) (chars end) ≡ ends_with_segment (chars segment) (chars text)
ends_with_segment-as_long text segment end is =
    let test = is_segment (chars segment) in
    same_tests (test (chars end)) (ends_with_segment (chars segment) (chars text))
    (λ yes. ap (ends_with_segment (chars segment)) is.split ∙ some_end-from test is.front (chars end) yes)
    (λ yes.
    let found = some_end-true test (chars text) yes in
    let same = same_end found.front found.rest is.front (chars end) (sym found.split ∙ is.split) (is_segment-length (chars segment) found.rest found.passes ∙ sym is.long) in
    ap test (sym same) ∙ found.passes)

pub ends_with_segment-short : (text segment : List ℕ) → length text < length segment → false ≡ ends_with_segment segment text
ends_with_segment-short text segment short = same_tests false (ends_with_segment segment text) (λ no. absurd (false≢true no)) (λ yes.
    let found = some_end-true (is_segment segment) text yes in
    absurd (omega (arith, ap length found.split, length-append found.front found.rest, is_segment-length segment found.rest found.passes)))
