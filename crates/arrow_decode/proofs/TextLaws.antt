-- Offsets and the texts between them.
use Rattle.std.proofs.Common.{rules, tests, ◌≡◌, ◌∙◌, ℕ, zero, suc, ◌+◌, ◌-◌, ◌*◌, ◌%◌, ◌^◌, ◌<◌, ◌≤◌, ◌⊎◌, min, List, [], ◌∷◌, length, map, drop, get_or, Bool, true, false, ◌&&◌, ◌==◌, nat_le, Option, Some, None, slice_index, inl, inr, refl, sym, ap, subst, arith, add-zero}
use Rattle.std.specs.Int.{w32, w64, cast_signed}
use Rattle.std.specs.List.{range_with_len, slice_range, list_all, AllByRecursion}
use Rattle.std.proofs.lemmas.Int.{to_z_pos}
use Rattle.std.proofs.Math.Facts.{to_z-neg}
use Rattle.std.proofs.lemmas.List.{get_or-drop, length-map, drop_more}
use Rattle.std.proofs.lemmas.List.FromFn.{length-map-range_with_len}
use Rattle.byteorder.specs.Numbers.{little_from-lt}
use Rattle.sub_types.specs.Optional.{optional}
use Rattle.sub_types.specs.OptionalLaws.{length-optional}
use Rattle.sub_types.specs.PartLaws.{part-part, length-part}
use Rattle.col_text.specs.Text.{pieces, Rise}
use Rattle.arrow_meta.specs.Natural.{natural}
use Rattle.sub_types.specs.OptionSteps.{◌>>=◌, when, all_of}
use Rattle.arrow_meta.specs.Values.{offsets_in, are_offsets, pieces_of, pieces_in, binaries_in}
use Rattle.arrow_decode.specs.Offsets.{offsets_of, offset_width, greatest_offset, front_offset, raw_offsets, behind, rises, risen}
use Rattle.arrow_decode.proofs.InKindLaws.{AreBytes}
use Rattle.arrow_decode.proofs.ListLaws.{and_left, and_right}
use Rattle.arrow_decode.proofs.NumberLaws.{map-map, signed_in-short, signed_in-long}

-- a number is below another or not
pub either : (a b : ℕ) → (a < b) ⊎ (b ≤ a)
either a b = grind arith

-- ---- numbers that rise

-- they stay within the last
pub rises-above : (start : ℕ) (ends : List ℕ) (most : ℕ) → most < start → rises start ends most ≡ false
rises-above start [] most above = search (rules, tests)
rises-above start (end ∷ ends) most above =
    elim (either end start) as (λ _. (nat_le start end && rises end ends most) ≡ false) [
      | inl below ↦ let falls : nat_le start end ≡ false = search (rules, tests) in rw falls refl
      | inr over ↦ let rest = rises-above end ends most (omega arith) in rw rest (elim (nat_le start end) as (λ b. (b && false) ≡ false) [ true ↦ refl | false ↦ refl ])
    ]

pub rises-le : (start : ℕ) (ends : List ℕ) (most : ℕ) → rises start ends most ≡ true → start ≤ most
rises-le start ends most rising =
    elim (either most start) as (λ _. start ≤ most) [ inl below ↦ absurd (let no = rises-above start ends most below in cc) | inr within ↦ within ]

-- both sides of a test of two parts
pub and_false : (b : Bool) → (b && false) ≡ false
and_false true = refl
and_false false = refl

and_assoc : (a b c : Bool) → ((a && b) && c) ≡ (a && (b && c))
and_assoc true b c = refl
and_assoc false b c = refl

-- what a test means
le_true : (a b : ℕ) → nat_le a b ≡ true → a ≤ b
le_true a b is = search (rules, tests)

-- behind a first number that is below them
same_below : (begin s u e limit : ℕ) → u ≡ begin + e → nat_le (begin + s) u ≡ nat_le s e
same_below begin s u e limit is = rw is (grind arith)

pub rises-behind : (rest : List ℕ) (begin s limit : ℕ) → begin ≤ limit → limit < 2 ^ 64 → AllByRecursion (λ u. u < 2 ^ 64) rest → rises (begin + s) rest limit ≡ rises s (behind begin rest) (limit - begin)
rises-behind [] begin s limit within fits all = same_below begin s limit (limit - begin) limit (omega arith)
rises-behind (u ∷ rest) begin s limit within fits all =
    let e = (u + (2 ^ 64 - begin)) % 2 ^ 64 in
    let small : u < 2 ^ 64 = all.0 in
    elim (either u begin) as (λ _. (nat_le (begin + s) u && rises u rest limit) ≡ (nat_le s e && rises e (behind begin rest) (limit - begin))) [
      | inl below ↦
          let falls : nat_le (begin + s) u ≡ false = search (rules, tests) in
          let far : limit - begin < e = omega arith in
          let none = rises-above e (behind begin rest) (limit - begin) far in
          rw (falls, none) (sym (and_false (nat_le s e)))
      | inr over ↦
          let is : u ≡ begin + e = omega arith in
          let next = rises-behind rest begin e limit within fits all.1 in
          ap (λ b. b && rises u rest limit) (same_below begin s u e limit is) ∙ ap (λ n. nat_le s e && rises n rest limit) is ∙ ap (λ b. nat_le s e && b) next
    ]

-- and they can be told from there
pub behind-back : (rest : List ℕ) (begin s limit : ℕ) → begin ≤ limit → limit < 2 ^ 64 → AllByRecursion (λ u. u < 2 ^ 64) rest → rises s (behind begin rest) (limit - begin) ≡ true
    → map (λ e. begin + e) (behind begin rest) ≡ rest
behind-back [] begin s limit within fits all rising = refl
behind-back (u ∷ rest) begin s limit within fits all rising =
    let e = (u + (2 ^ 64 - begin)) % 2 ^ 64 in
    let small : u < 2 ^ 64 = all.0 in
    let next = and_right (nat_le s e) (rises e (behind begin rest) (limit - begin)) rising in
    let low = rises-le e (behind begin rest) (limit - begin) next in
    let is : begin + e ≡ u = omega (arith, low) in
    ap (λ n. n ∷ map (λ k. begin + k) (behind begin rest)) is ∙ ap (λ ends. u ∷ ends) (behind-back rest begin e limit within fits all.1 next)

-- numbers that rise are ends up to the last
pub Rise-rises : (ends : List ℕ) (start most d : ℕ) → 0 < length ends → rises start ends most ≡ true → Rise start ends (get_or ends (length ends - 1) d)
Rise-rises [] start most d some rising = absurd (omega arith)
Rise-rises (end ∷ []) start most d some rising = (le_true start end (and_left (nat_le start end) (nat_le end most) rising), refl)
Rise-rises (end ∷ next ∷ ends) start most d some rising =
    let first = le_true start end (and_left (nat_le start end) (rises end (next ∷ ends) most) rising) in
    let rest = Rise-rises (next ∷ ends) end most d (omega arith) (and_right (nat_le start end) (rises end (next ∷ ends) most) rising) in
    let last : length (end ∷ next ∷ ends) - 1 ≡ suc (length (next ∷ ends) - 1) = omega arith in
    let P : ℕ → Type 0 = λ n. Rise end (next ∷ ends) (get_or (end ∷ next ∷ ends) n d) in
    (first, subst P (sym last) rest)

pub last-rises : (ends : List ℕ) (start most d : ℕ) → 0 < length ends → rises start ends most ≡ true → get_or ends (length ends - 1) d ≤ most
last-rises [] start most d some rising = absurd (omega arith)
last-rises (end ∷ []) start most d some rising = le_true end most (and_right (nat_le start end) (nat_le end most) rising)
last-rises (end ∷ next ∷ ends) start most d some rising =
    let rest = last-rises (next ∷ ends) end most d (omega arith) (and_right (nat_le start end) (rises end (next ∷ ends) most) rising) in
    let last : length (end ∷ next ∷ ends) - 1 ≡ suc (length (next ∷ ends) - 1) = omega arith in
    omega (arith, rest, ap (λ n. get_or (end ∷ next ∷ ends) n d) last)

Rise-within : (start : ℕ) (ends : List ℕ) (size : ℕ) → Rise start ends size → start ≤ size
Rise-within start [] size rising = omega arith
Rise-within start (end ∷ ends) size rising = let rest = Rise-within end ends size rising.1 in omega (arith, rising.0, rest)

-- the texts between them are the texts in a part of the bytes
pub pieces-part : (ends : List ℕ) (begin s size : ℕ) (bytes : List ℕ) → Rise s ends size → begin + size ≤ length bytes
    → pieces (begin + s) (map (λ e. begin + e) ends) bytes ≡ pieces s ends (slice_range bytes begin (begin + size))
pieces-part [] begin s size bytes rising within = refl
pieces-part (e ∷ ends) begin s size bytes rising within =
    let inside = Rise-within e ends size rising.1 in
    let to : begin + s + (e - s) ≡ begin + e = omega (arith, rising.0) in
    let text = ap (λ n. slice_range bytes (begin + s) n) (sym to) ∙ part-part bytes begin size s e rising.0 inside within in
    ap (λ t. t ∷ pieces (begin + e) (map (λ k. begin + k) ends) bytes) text ∙ ap (λ rest. slice_range (slice_range bytes begin (begin + size)) s e ∷ rest) (pieces-part ends begin e size bytes rising.1 within)

-- ---- offsets by their places in a buffer

-- a range that begins one later
map-range_later : {X : Type 0} (p q : ℕ → X) → ((i : ℕ) → p (i + 1) ≡ q i) → (a n : ℕ) → map p (range_with_len (a + 1) n) ≡ map q (range_with_len a n)
map-range_later p q same a zero = refl
map-range_later p q same a (suc n) = ap (λ x. x ∷ map p (range_with_len (a + 1 + 1) n)) (same a) ∙ ap (λ xs. q a ∷ xs) (map-range_later p q same (a + 1) n)

all-range_later : (p q : ℕ → Bool) → ((i : ℕ) → p (i + 1) ≡ q i) → (a n : ℕ) → list_all p (range_with_len (a + 1) n) ≡ list_all q (range_with_len a n)
all-range_later p q same a zero = refl
all-range_later p q same a (suc n) = ap (λ b. b && list_all p (range_with_len (a + 1 + 1) n)) (same a) ∙ ap (λ b. q a && b) (all-range_later p q same (a + 1) n)

-- behind the first
later : (b : ℕ) (xs : List ℕ) (i : ℕ) → slice_index (b ∷ xs) (i + 1) ≡ slice_index xs i
later b xs i = let next : i + 1 ≡ suc i = omega arith in ap (slice_index (b ∷ xs)) next

-- the test of offsets
pub are_offsets-rises : (rest : List ℕ) (count begin : ℕ) (bytes : List ℕ) → length rest ≡ count → are_offsets count (begin ∷ rest) bytes ≡ rises begin rest (length bytes)
are_offsets-rises [] zero begin bytes long = refl
are_offsets-rises [] (suc count) begin bytes long = absurd (omega arith)
are_offsets-rises (u ∷ rest) zero begin bytes long = absurd (omega arith)
are_offsets-rises (u ∷ rest) (suc count) begin bytes long =
    let first = λ (i : ℕ). nat_le (slice_index (begin ∷ u ∷ rest) i) (slice_index (begin ∷ u ∷ rest) (i + 1)) in
    let next = λ (i : ℕ). nat_le (slice_index (u ∷ rest) i) (slice_index (u ∷ rest) (i + 1)) in
    let moved = all-range_later first next (λ i. ap (λ n. nat_le n (slice_index (begin ∷ u ∷ rest) (i + 1 + 1))) (later begin (u ∷ rest) i) ∙ ap (nat_le (slice_index (u ∷ rest) i)) (later begin (u ∷ rest) (i + 1))) 0 count in
    let last = nat_le (slice_index (u ∷ rest) count) (length bytes) in
    ap (λ b. (nat_le begin u && b) && last) moved ∙ and_assoc (nat_le begin u) (list_all next (range_with_len 0 count)) last ∙ ap (λ b. nat_le begin u && b) (are_offsets-rises rest count u bytes (omega arith))

-- the texts between offsets
pub pieces_of-pieces : (rest : List ℕ) (count begin : ℕ) (bytes : List ℕ) → length rest ≡ count → pieces_of count (begin ∷ rest) bytes ≡ pieces begin rest bytes
pieces_of-pieces [] zero begin bytes long = refl
pieces_of-pieces [] (suc count) begin bytes long = absurd (omega arith)
pieces_of-pieces (u ∷ rest) zero begin bytes long = absurd (omega arith)
pieces_of-pieces (u ∷ rest) (suc count) begin bytes long =
    let first = λ (i : ℕ). slice_range bytes (slice_index (begin ∷ u ∷ rest) i) (slice_index (begin ∷ u ∷ rest) (i + 1)) in
    let next = λ (i : ℕ). slice_range bytes (slice_index (u ∷ rest) i) (slice_index (u ∷ rest) (i + 1)) in
    let moved = map-range_later first next (λ i. ap (λ n. slice_range bytes n (slice_index (begin ∷ u ∷ rest) (i + 1 + 1))) (later begin (u ∷ rest) i) ∙ ap (slice_range bytes (slice_index (u ∷ rest) i)) (later begin (u ∷ rest) (i + 1))) 0 count in
    ap (λ texts. slice_range bytes begin u ∷ texts) (moved ∙ pieces_of-pieces rest count u bytes (omega arith))

-- ---- offsets with a sign

-- the place that a number read without its sign names
abbrev pub place_of : Bool → ℕ → Option ℕ
place_of true n = natural (cast_signed w64 n)
place_of false n = natural (cast_signed w32 n)

-- one more than the greatest number of an offset's bytes
abbrev pub offset_bound : Bool → ℕ
offset_bound true = 2 ^ 64
offset_bound false = 2 ^ 32

place_of-small : (wide : Bool) (n : ℕ) → n ≤ greatest_offset wide → place_of wide n ≡ Some n
place_of-small true n small = let low : n < 2 ^ 63 = omega arith in ap natural (to_z_pos w64 n low)
place_of-small false n small = let low : n < 2 ^ 31 = omega arith in ap natural (to_z_pos w32 n low)

place_of-large : (wide : Bool) (n : ℕ) → greatest_offset wide < n → n < offset_bound wide → place_of wide n ≡ None
place_of-large true n large fits =
    let k = 2 ^ 64 - 1 - n in
    let low : k < 2 ^ 63 = omega arith in
    let is : n ≡ 2 ^ 64 - suc k = omega arith in
    ap (λ m. natural (cast_signed w64 m)) is ∙ ap natural (to_z-neg w64 k low)
place_of-large false n large fits =
    let k = 2 ^ 32 - 1 - n in
    let low : k < 2 ^ 31 = omega arith in
    let is : n ≡ 2 ^ 32 - suc k = omega arith in
    ap (λ m. natural (cast_signed w32 m)) is ∙ ap natural (to_z-neg w32 k low)

-- none is below 0
abbrev pub all_small : Bool → List ℕ → Bool
all_small wide us = list_all (λ u. nat_le u (greatest_offset wide)) us

places-small : (wide : Bool) (us : List ℕ) → all_small wide us ≡ true → all_of (map (place_of wide) us) ≡ Some us
places-small wide [] small = refl
places-small wide (u ∷ us) small =
    let here = place_of-small wide u (le_true u (greatest_offset wide) (and_left (nat_le u (greatest_offset wide)) (all_small wide us) small)) in
    let rest = places-small wide us (and_right (nat_le u (greatest_offset wide)) (all_small wide us) small) in
    rw (here, rest) refl

places-large : (wide : Bool) (us : List ℕ) → AllByRecursion (λ u. u < offset_bound wide) us → all_small wide us ≡ false → all_of (map (place_of wide) us) ≡ None
places-large wide [] all large = absurd (cc)
places-large wide (u ∷ us) all large =
    elim (either (greatest_offset wide) u) as (λ _. all_of (map (place_of wide) (u ∷ us)) ≡ None) [
      | inl above ↦ rw (place_of-large wide u above all.0) refl
      | inr within ↦
          let test : nat_le u (greatest_offset wide) ≡ true = search (rules, tests) in
          let others : all_small wide us ≡ false = ap (λ b. b && all_small wide us) (sym test) ∙ large in
          rw (place_of-small wide u within, places-large wide us all.1 others) refl
    ]

-- numbers that rise to one that isn't below 0
small-rises : (wide : Bool) (start : ℕ) (rest : List ℕ) (most : ℕ) → most ≤ greatest_offset wide → rises start rest most ≡ true → all_small wide (start ∷ rest) ≡ true
small-rises wide start [] most within rising =
    let last = le_true start most rising in
    let test : nat_le start (greatest_offset wide) ≡ true = search (rules, tests) in rw test refl
small-rises wide start (end ∷ rest) most within rising =
    let low = rises-le start (end ∷ rest) most rising in
    let test : nat_le start (greatest_offset wide) ≡ true = search (rules, tests) in
    rw (test, small-rises wide end rest most within (and_right (nat_le start end) (rises end rest most) rising)) refl

-- the bound of those that aren't below 0
rises-small : (wide : Bool) (start : ℕ) (rest : List ℕ) (size : ℕ) → all_small wide (start ∷ rest) ≡ true → rises start rest size ≡ rises start rest (min size (greatest_offset wide))
rises-small wide start [] size small =
    let low = le_true start (greatest_offset wide) (and_left (nat_le start (greatest_offset wide)) true small) in
    bounded start size (greatest_offset wide) low
  where
    bounded : (a n m : ℕ) → a ≤ m → nat_le a n ≡ nat_le a (min n m)
    bounded a n m within = grind arith
rises-small wide start (end ∷ rest) size small =
    ap (λ b. nat_le start end && b) (rises-small wide end rest size (and_right (nat_le start (greatest_offset wide)) (all_small wide (end ∷ rest)) small))

-- as many texts as values
pub length-pieces : (count : ℕ) (offsets bytes : List ℕ) (valid : List Bool) → length valid ≡ count → length (optional (pieces_of count offsets bytes) valid) ≡ count
length-pieces count offsets bytes valid long =
    let texts = length-map-range_with_len (λ i. slice_range bytes (slice_index offsets i) (slice_index offsets (i + 1))) 0 count in
    length-optional (pieces_of count offsets bytes) valid (texts ∙ sym long) ∙ texts

-- ---- what becomes of binaries

-- no offsets are needed for no values
offsets_of-none : (wide : Bool) (buffer : List ℕ) → offsets_of wide 0 buffer ≡ Some (0 ∷ [])
unfolding offsets_in
offsets_of-none true buffer = refl
offsets_of-none false buffer = refl

-- too few bytes
offsets_of-short : (wide : Bool) (count : ℕ) (buffer : List ℕ) → 0 < count → length buffer < offset_width wide * (count + 1) → offsets_of wide count buffer ≡ None
unfolding offsets_in
offsets_of-short true count buffer some short =
    let test : (count == 0) ≡ false = search (rules, tests) in rw (test, signed_in-short w64 8 (count + 1) buffer short) refl
offsets_of-short false count buffer some short =
    let test : (count == 0) ≡ false = search (rules, tests) in rw (test, signed_in-short w32 4 (count + 1) buffer short) refl

-- enough bytes
offsets_of-long : (wide : Bool) (count : ℕ) (buffer : List ℕ) → 0 < count → offset_width wide * (count + 1) ≤ length buffer
    → offsets_of wide count buffer ≡ all_of (map (place_of wide) (raw_offsets wide buffer 0 (count + 1)))
unfolding offsets_in
offsets_of-long true count buffer some long =
    let test : (count == 0) ≡ false = search (rules, tests) in
    let read = λ (k : ℕ). front_offset true (drop (8 * k) buffer) in
    let range = range_with_len 0 (count + 1) in
    rw (test, signed_in-long w64 8 (count + 1) buffer long) (ap all_of (map-map natural (λ k. cast_signed w64 (read k)) range ∙ sym (map-map (place_of true) read range)))
offsets_of-long false count buffer some long =
    let test : (count == 0) ≡ false = search (rules, tests) in
    let read = λ (k : ℕ). front_offset false (drop (4 * k) buffer) in
    let range = range_with_len 0 (count + 1) in
    rw (test, signed_in-long w32 4 (count + 1) buffer long) (ap all_of (map-map natural (λ k. cast_signed w32 (read k)) range ∙ sym (map-map (place_of false) read range)))

-- the first of them and the others
raw_offsets-first : (wide : Bool) (buffer : List ℕ) (count : ℕ) → raw_offsets wide buffer 0 (count + 1) ≡ front_offset wide buffer ∷ raw_offsets wide buffer 1 count
raw_offsets-first wide buffer count =
    let next : count + 1 ≡ suc count = omega arith in
    let none : offset_width wide * 0 ≡ 0 = grind arith in
    ap (raw_offsets wide buffer 0) next ∙ ap (λ n. front_offset wide (drop n buffer) ∷ raw_offsets wide buffer 1 count) none

-- each fits its bytes
raw_offsets-fit : (wide : Bool) (buffer : List ℕ) (start n : ℕ) → AreBytes buffer → AllByRecursion (λ u. u < offset_bound wide) (raw_offsets wide buffer start n)
raw_offsets-fit wide buffer start zero bytes = tt
raw_offsets-fit true buffer start (suc n) bytes =
    let low = little_from-lt 0 8 (drop (8 * start) buffer) (λ k. let here = get_or-drop (8 * start) buffer k 0 in let byte = bytes (8 * start + k) in omega (arith, here, byte)) in
    (low, raw_offsets-fit true buffer (start + 1) n bytes)
raw_offsets-fit false buffer start (suc n) bytes =
    let low = little_from-lt 0 4 (drop (4 * start) buffer) (λ k. let here = get_or-drop (4 * start) buffer k 0 in let byte = bytes (4 * start + k) in omega (arith, here, byte)) in
    (low, raw_offsets-fit false buffer (start + 1) n bytes)

-- and 64 bits
offsets-fit : (wide : Bool) (us : List ℕ) → AllByRecursion (λ u. u < offset_bound wide) us → AllByRecursion (λ u. u < 2 ^ 64) us
offsets-fit wide [] all = tt
offsets-fit true (u ∷ us) all = (all.0, offsets-fit true us all.1)
offsets-fit false (u ∷ us) all = let low : u < 2 ^ 32 = all.0 in (omega arith, offsets-fit false us all.1)

-- binaries by their offsets
pub binaries_in-offsets : (wide : Bool) (count : ℕ) (valid : List Bool) (offsets bytes : List ℕ)
    → binaries_in wide count valid offsets bytes ≡ (offsets_of wide count offsets >>= λ places. when (are_offsets count places bytes) (Some (optional (pieces_of count places bytes) valid)))
unfolding pieces_in
binaries_in-offsets true count valid offsets bytes = refl
binaries_in-offsets false count valid offsets bytes = refl

-- none of them
pub binaries_in-none : (wide : Bool) (valid : List Bool) (offsets bytes : List ℕ) → binaries_in wide 0 valid offsets bytes ≡ Some []
binaries_in-none wide valid offsets bytes =
    let test : nat_le 0 (length bytes) ≡ true = search (rules, tests) in
    binaries_in-offsets wide 0 valid offsets bytes ∙ rw (offsets_of-none wide offsets, test) refl

-- too few offsets
pub binaries_in-short : (wide : Bool) (count : ℕ) (valid : List Bool) (offsets bytes : List ℕ) → 0 < count → length offsets < offset_width wide * (count + 1) → binaries_in wide count valid offsets bytes ≡ None
binaries_in-short wide count valid offsets bytes some short = binaries_in-offsets wide count valid offsets bytes ∙ rw (offsets_of-short wide count offsets some short) refl

-- offsets that are read without their signs and rise to the last place that there is
binaries_in-raw : (wide : Bool) (count begin : ℕ) (valid : List Bool) (bytes rest : List ℕ) → length rest ≡ count → AllByRecursion (λ u. u < offset_bound wide) (begin ∷ rest)
    → (all_of (map (place_of wide) (begin ∷ rest)) >>= λ places. when (are_offsets count places bytes) (Some (optional (pieces_of count places bytes) valid)))
    ≡ when (rises begin rest (min (length bytes) (greatest_offset wide))) (Some (optional (pieces begin rest bytes) valid))
binaries_in-raw wide count begin valid bytes rest long all =
    by (all_small wide (begin ∷ rest)) refl
  where
    by : (b : Bool) → all_small wide (begin ∷ rest) ≡ b
        → (all_of (map (place_of wide) (begin ∷ rest)) >>= λ places. when (are_offsets count places bytes) (Some (optional (pieces_of count places bytes) valid)))
        ≡ when (rises begin rest (min (length bytes) (greatest_offset wide))) (Some (optional (pieces begin rest bytes) valid))
    by true small =
        rw (places-small wide (begin ∷ rest) small, are_offsets-rises rest count begin bytes long, pieces_of-pieces rest count begin bytes long, rises-small wide begin rest (length bytes) small) refl
    by false large =
        rw (places-large wide (begin ∷ rest) all large) (no (rises begin rest (min (length bytes) (greatest_offset wide))) refl)
      where
        no : (b : Bool) → rises begin rest (min (length bytes) (greatest_offset wide)) ≡ b → None ≡ when b (Some (optional (pieces begin rest bytes) valid))
        no false rising = refl
        no true rising = absurd (let small = small-rises wide begin rest (min (length bytes) (greatest_offset wide)) (omega arith) rising in cc)

binaries_in-rises : (wide : Bool) (count : ℕ) (valid : List Bool) (offsets bytes : List ℕ) → 0 < count → offset_width wide * (count + 1) ≤ length offsets → AreBytes offsets
    → binaries_in wide count valid offsets bytes
    ≡ when (rises (front_offset wide offsets) (raw_offsets wide offsets 1 count) (min (length bytes) (greatest_offset wide))) (Some (optional (pieces (front_offset wide offsets) (raw_offsets wide offsets 1 count) bytes) valid))
binaries_in-rises wide count valid offsets bytes some long are =
    let begin = front_offset wide offsets in
    let rest = raw_offsets wide offsets 1 count in
    let first = raw_offsets-first wide offsets count in
    let fits = let P : List ℕ → Type 0 = λ us. AllByRecursion (λ u. u < offset_bound wide) us in subst P first (raw_offsets-fit wide offsets 0 (count + 1) are) in
    binaries_in-offsets wide count valid offsets bytes
    ∙ ap (λ found. found >>= λ places. when (are_offsets count places bytes) (Some (optional (pieces_of count places bytes) valid))) (offsets_of-long wide count offsets some long ∙ ap (λ us. all_of (map (place_of wide) us)) first)
    ∙ binaries_in-raw wide count begin valid bytes rest (length-map-range_with_len (λ k. front_offset wide (drop (offset_width wide * k) offsets)) 1 count) fits

-- as many ends as values
length-ends : (wide : Bool) (buffer : List ℕ) (count begin : ℕ) → length (behind begin (raw_offsets wide buffer 1 count)) ≡ count
length-ends wide buffer count begin =
    length-map (raw_offsets wide buffer 1 count) (λ place. (place + (2 ^ 64 - begin)) % 2 ^ 64)
    ∙ length-map-range_with_len (λ k. front_offset wide (drop (offset_width wide * k) buffer)) 1 count

greatest-fits : (wide : Bool) → greatest_offset wide < 2 ^ 64
greatest-fits true = omega arith
greatest-fits false = omega arith

-- the offsets and bytes that are read, and the last place in them
pub record IsReadAs (wide : Bool) (count begin most : ℕ) (offsets bytes : List ℕ) : Type 0 where
  pub some : 0 < count
  pub long : offset_width wide * (count + 1) ≤ length offsets
  pub are : AreBytes offsets
  pub begin_is : begin ≡ front_offset wide offsets
  pub most_is : most ≡ min (length bytes) (greatest_offset wide)

read_as : (wide : Bool) (count begin most : ℕ) (valid : List Bool) (offsets bytes : List ℕ) → IsReadAs wide count begin most offsets bytes
    → binaries_in wide count valid offsets bytes ≡ when (rises begin (raw_offsets wide offsets 1 count) most) (Some (optional (pieces begin (raw_offsets wide offsets 1 count) bytes) valid))
read_as wide count begin most valid offsets bytes is = rw (is.begin_is, is.most_is) (binaries_in-rises wide count valid offsets bytes is.some is.long is.are)

pub most-fits : (wide : Bool) (count begin most : ℕ) (offsets bytes : List ℕ) → IsReadAs wide count begin most offsets bytes → (most < 2 ^ 64) × (most ≤ length bytes)
most-fits wide count begin most offsets bytes is = let greatest = greatest-fits wide in let bound = is.most_is in (omega (arith, greatest, bound), omega (arith, bound))

rest-fits : (wide : Bool) (count : ℕ) (offsets : List ℕ) → AreBytes offsets → AllByRecursion (λ u. u < 2 ^ 64) (raw_offsets wide offsets 1 count)
rest-fits wide count offsets are = offsets-fit wide (raw_offsets wide offsets 1 count) (raw_offsets-fit wide offsets 1 count are)

-- the first offset is behind the last place
pub binaries_in-above : (wide : Bool) (count begin most : ℕ) (valid : List Bool) (offsets bytes : List ℕ) → IsReadAs wide count begin most offsets bytes → most < begin → binaries_in wide count valid offsets bytes ≡ None
binaries_in-above wide count begin most valid offsets bytes is above =
    read_as wide count begin most valid offsets bytes is ∙ rw (rises-above begin (raw_offsets wide offsets 1 count) most above) refl

same_rises : (wide : Bool) (count begin most : ℕ) (offsets bytes : List ℕ) → IsReadAs wide count begin most offsets bytes → begin ≤ most
    → rises begin (raw_offsets wide offsets 1 count) most ≡ rises 0 (behind begin (raw_offsets wide offsets 1 count)) (most - begin)
same_rises wide count begin most offsets bytes is within =
    let rest = raw_offsets wide offsets 1 count in
    ap (λ n. rises n rest most) (sym (add-zero begin)) ∙ rises-behind rest begin 0 most within (most-fits wide count begin most offsets bytes is).0 (rest-fits wide count offsets is.are)

-- an offset is below the one before it, or behind the last place
binaries_in-falls : (wide : Bool) (count begin most : ℕ) (valid : List Bool) (offsets bytes : List ℕ) → IsReadAs wide count begin most offsets bytes → begin ≤ most
    → (ends : List ℕ) → ends ≡ behind begin (raw_offsets wide offsets 1 count) → rises 0 ends (most - begin) ≡ false → binaries_in wide count valid offsets bytes ≡ None
binaries_in-falls wide count begin most valid offsets bytes is within ends are falls =
    read_as wide count begin most valid offsets bytes is
    ∙ rw (same_rises wide count begin most offsets bytes is within ∙ ap (λ es. rises 0 es (most - begin)) (sym are) ∙ falls) refl

-- what ends that rise are
ends_within : (wide : Bool) (count begin most last : ℕ) (offsets bytes : List ℕ) → IsReadAs wide count begin most offsets bytes → begin ≤ most
    → (ends : List ℕ) → ends ≡ behind begin (raw_offsets wide offsets 1 count) → rises 0 ends (most - begin) ≡ true → last ≡ get_or ends (count - 1) last
    → (begin + last ≤ most) × Rise 0 ends last
ends_within wide count begin most last offsets bytes is within ends are rising last_is =
    let long : length ends ≡ count = ap length are ∙ length-ends wide offsets count begin in
    let some : 0 < length ends = omega (arith, long, is.some) in
    let place : length ends - 1 ≡ count - 1 = omega (arith, long) in
    let found : get_or ends (length ends - 1) last ≡ last = ap (λ n. get_or ends n last) place ∙ sym last_is in
    let low = last-rises ends 0 (most - begin) last some rising in
    let P : ℕ → Type 0 = λ n. Rise 0 ends n in
    (omega (arith, low, found), subst P found (Rise-rises ends 0 (most - begin) last some rising))

-- the texts between ends that rise
binaries_in-good : (wide : Bool) (count begin most last : ℕ) (valid : List Bool) (offsets bytes : List ℕ) → IsReadAs wide count begin most offsets bytes → begin ≤ most
    → (ends : List ℕ) → ends ≡ behind begin (raw_offsets wide offsets 1 count) → rises 0 ends (most - begin) ≡ true → last ≡ get_or ends (count - 1) last
    → Some (optional (pieces 0 ends (slice_range bytes begin (begin + last))) valid) ≡ binaries_in wide count valid offsets bytes
binaries_in-good wide count begin most last valid offsets bytes is within ends are rising last_is =
    let rest = raw_offsets wide offsets 1 count in
    let fits = most-fits wide count begin most offsets bytes is in
    let ends_are = ends_within wide count begin most last offsets bytes is within ends are rising last_is in
    let back : map (λ e. begin + e) ends ≡ rest =
    ap (map (λ e. begin + e)) are ∙ behind-back rest begin 0 most within fits.0 (rest-fits wide count offsets is.are) (ap (λ es. rises 0 es (most - begin)) (sym are) ∙ rising) in
    let texts : pieces begin rest bytes ≡ pieces 0 ends (slice_range bytes begin (begin + last)) =
    ap (λ n. pieces n rest bytes) (sym (add-zero begin)) ∙ ap (λ es. pieces (begin + 0) es bytes) (sym back) ∙ pieces-part ends begin 0 last bytes ends_are.1 (omega (arith, ends_are.0, fits.1)) in
    sym (read_as wide count begin most valid offsets bytes is
    ∙ rw (same_rises wide count begin most offsets bytes is within ∙ ap (λ es. rises 0 es (most - begin)) (sym are) ∙ rising) (ap (λ xs. Some (optional xs valid)) texts))

pub Rise-size : (ends : List ℕ) (last begin size : ℕ) (bytes : List ℕ) → Rise 0 ends last → begin + last ≤ length bytes → size ≡ length (slice_range bytes begin (begin + last)) → Rise 0 ends size
Rise-size ends last begin size bytes rising within is =
    let long = length-part bytes begin (begin + last) within in
    let same : last ≡ size = omega (arith, long, is) in
    let P : ℕ → Type 0 = λ n. Rise 0 ends n in
    subst P same rising

-- the next of ends that rise
pub next_end : (ends : List ℕ) (start i size : ℕ) → i < length ends → Rise start (drop i ends) size → get_or ends i 0 ≤ size
next_end ends start i size below rising =
    let P : List ℕ → Type 0 = λ es. Rise start es size in
    let next = subst P (drop_more ends i 0 below) rising in
    Rise-within (get_or ends i 0) (drop (i + 1) ends) size next.1

pub is_read_as : (wide : Bool) (count size begin most : ℕ) (offsets bytes : List ℕ) → 0 < count → size ≡ offset_width wide → size * (count + 1) ≤ length offsets → AreBytes offsets → begin ≡ front_offset wide offsets → most ≡ min (length bytes) (greatest_offset wide)
    → IsReadAs wide count begin most offsets bytes
is_read_as wide count size begin most offsets bytes some sized room are begin_is most_is =
    let whole = ap (λ (n : ℕ). n * (count + 1)) sized in
    record { some = some; long = omega (arith, whole, room); are = are; begin_is = begin_is; most_is = most_is }

some_is : (xs ys : List ℕ) → Some xs ≡ Some ys → xs ≡ ys
some_is xs ys is = cc

-- which ends were found
found_risen : (found : Option (List ℕ)) (ends behind_all : List ℕ) (most : ℕ) → found ≡ Some ends → found ≡ risen most behind_all → (ends ≡ behind_all) × (rises 0 ends most ≡ true)
found_risen found ends behind_all most some is =
    by (rises 0 behind_all most) refl
  where
    by : (b : Bool) → rises 0 behind_all most ≡ b → (ends ≡ behind_all) × (rises 0 ends most ≡ true)
    by true rising =
        let open_ : risen most behind_all ≡ Some behind_all = ap (λ b. when b (Some behind_all)) rising in
        let same : ends ≡ behind_all = some_is ends behind_all (sym some ∙ is ∙ open_) in
        (same, ap (λ es. rises 0 es most) same ∙ rising)
    by false falls = absurd (let none : risen most behind_all ≡ None = ap (λ b. when b (Some behind_all)) falls in let no : Some ends ≡ None = sym some ∙ is ∙ none in cc)

none_risen : (found : Option (List ℕ)) (behind_all : List ℕ) (most : ℕ) → found ≡ None → found ≡ risen most behind_all → rises 0 behind_all most ≡ false
none_risen found behind_all most none is =
    by (rises 0 behind_all most) refl
  where
    by : (b : Bool) → rises 0 behind_all most ≡ b → rises 0 behind_all most ≡ false
    by false falls = falls
    by true rising = absurd (let open_ : risen most behind_all ≡ Some behind_all = ap (λ b. when b (Some behind_all)) rising in let no : None ≡ Some behind_all = sym none ∙ is ∙ open_ in cc)

-- the same number, whatever stands where there is none
same_default : (xs : List ℕ) (i d e : ℕ) → i < length xs → get_or xs i d ≡ get_or xs i e
same_default [] i d e below = absurd (omega arith)
same_default (x ∷ xs) zero d e below = refl
same_default (x ∷ xs) (suc i) d e below = same_default xs i d e (omega arith)

-- what the ends that were found are
pub record AreEnds (wide : Bool) (count begin most last : ℕ) (valid : List Bool) (offsets bytes ends : List ℕ) : Type 0 where
  pub within : begin + last ≤ most
  pub rising : Rise 0 ends last
  pub texts : Some (optional (pieces 0 ends (slice_range bytes begin (begin + last))) valid) ≡ binaries_in wide count valid offsets bytes

pub found_long : (wide : Bool) (count begin most : ℕ) (offsets ends : List ℕ) (found : Option (List ℕ)) → found ≡ Some ends → found ≡ risen most (behind begin (raw_offsets wide offsets 1 count)) → length ends ≡ count
found_long wide count begin most offsets ends found some is =
    ap length (found_risen found ends (behind begin (raw_offsets wide offsets 1 count)) most some is).0 ∙ length-ends wide offsets count begin

pub ends_found : (wide : Bool) (count begin most last : ℕ) (valid : List Bool) (offsets bytes ends : List ℕ) (found : Option (List ℕ)) → IsReadAs wide count begin most offsets bytes → begin ≤ most → found ≡ Some ends
    → found ≡ risen (most - begin) (behind begin (raw_offsets wide offsets 1 count)) → last ≡ get_or ends (count - 1) 0 → AreEnds wide count begin most last valid offsets bytes ends
ends_found wide count begin most last valid offsets bytes ends found read below some is last_is =
    let are = found_risen found ends (behind begin (raw_offsets wide offsets 1 count)) (most - begin) some is in
    let long = found_long wide count begin (most - begin) offsets ends found some is in
    let here : last ≡ get_or ends (count - 1) last = last_is ∙ same_default ends (count - 1) 0 last (omega (arith, long, read.some)) in
    let inside = ends_within wide count begin most last offsets bytes read below ends are.0 are.1 here in
    record {
      within = inside.0;
      rising = inside.1;
      texts = binaries_in-good wide count begin most last valid offsets bytes read below ends are.0 are.1 here;
    }

-- no ends were found
pub ends_missing : (wide : Bool) (count begin most : ℕ) (valid : List Bool) (offsets bytes : List ℕ) (found : Option (List ℕ)) → IsReadAs wide count begin most offsets bytes → begin ≤ most → found ≡ None
    → found ≡ risen (most - begin) (behind begin (raw_offsets wide offsets 1 count)) → binaries_in wide count valid offsets bytes ≡ None
ends_missing wide count begin most valid offsets bytes found read below none is =
    let all = behind begin (raw_offsets wide offsets 1 count) in
    binaries_in-falls wide count begin most valid offsets bytes read below all refl (none_risen found all (most - begin) none is)
