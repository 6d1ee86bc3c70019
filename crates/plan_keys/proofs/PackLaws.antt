-- Bytes that are packed into numbers.
use Rattle.std.proofs.Common.{◌≡◌, ◌∙◌, sym, ap, refl, ℕ, ◌+◌, ◌*◌, ◌^◌, ◌<◌, ◌≤◌, ℤ, pos, Bool, true, false, cond, nat_lt, ◌&&◌, List, [], ◌∷◌, ◌++◌, map, length, get_or, drop, drop-cons, add-one, append_assoc, arith}
use Rattle.std.specs.List.{list_all}
use Rattle.std.proofs.lemmas.Bool.{and_parts, lt-ltb, le-ltb, ltb-true}
use Rattle.plan_keys.specs.Keys.{is_byte, packed, bytes_key}
use Rattle.plan_keys.proofs.PieceLaws.{heads, tails}

same_numbers : {m n : ℕ} → pos m ≡ pos n → m ≡ n
same_numbers same = cc

-- what holds of the number and the bytes that are packed behind it
abbrev Same : (m n : ℕ) (a b : List ℕ) (r s : List ℤ) → Type 0
Same m n a b r s = (m ≡ n) × (a ≡ b) × (r ≡ s)

abbrev Packs : (limit : ℕ) (a b : List ℕ) (r s : List ℤ) → Type 0
Packs limit a b r s = (m n : ℕ) → packed limit m a ++ r ≡ packed limit n b ++ s → Same m n a b r s

-- one byte more, where there is room and where there is none
one_more : (room : Bool) (limit m n x y : ℕ) (a b : List ℕ) (r s : List ℤ) → x < 256 → y < 256 → Packs (limit * 256) a b r s → Packs 256 a b r s
    → cond room (packed (limit * 256) (m * 256 + x) a) (pos m ∷ packed 256 x a) ++ r ≡ cond room (packed (limit * 256) (n * 256 + y) b) (pos n ∷ packed 256 y b) ++ s
    → Same m n (x ∷ a) (y ∷ b) r s
one_more true limit m n x y a b r s x_byte y_byte more fresh same =
    let rest = more (m * 256 + x) (n * 256 + y) same in
    let numbers : m ≡ n = omega (arith, rest.0, x_byte, y_byte) in
    let bytes : x ≡ y = omega (arith, rest.0, x_byte, y_byte) in
    (numbers, (λ i. bytes i ∷ rest.1 i), rest.2)
one_more false limit m n x y a b r s x_byte y_byte more fresh same =
    let rest = fresh x y (tails same) in
    (same_numbers (heads same), (λ i. rest.0 i ∷ rest.1 i), rest.2)

byte_first : (x : ℕ) (a : List ℕ) → list_all is_byte (x ∷ a) ≡ true → (x < 256) × (list_all is_byte a ≡ true)
byte_first x a bytes = let parts = and_parts (is_byte x) (list_all is_byte a) bytes in (ltb-true x 256 parts.0, parts.1)

pub packed_told : (a b : List ℕ) (limit : ℕ) (r s : List ℤ) → list_all is_byte a ≡ true → list_all is_byte b ≡ true → length a ≡ length b → Packs limit a b r s
unfolding packed
packed_told [] [] limit r s a_bytes b_bytes long m n same = (same_numbers (heads same), refl, tails (tails same))
packed_told [] (y ∷ b) limit r s a_bytes b_bytes long m n same = absurd (omega arith)
packed_told (x ∷ a) [] limit r s a_bytes b_bytes long m n same = absurd (omega arith)
packed_told (x ∷ a) (y ∷ b) limit r s a_bytes b_bytes long m n same =
    let left = byte_first x a a_bytes in
    let right = byte_first y b b_bytes in
    let shorter : length a ≡ length b = omega arith in
    one_more (nat_lt limit (2 ^ 112)) limit m n x y a b r s left.0 right.0
    (packed_told a b (limit * 256) r s left.1 right.1 shorter) (packed_told a b 256 r s left.1 right.1 shorter) same

each_byte : (a b : List ℕ) (r s : List ℤ) → length a ≡ length b → map pos a ++ r ≡ map pos b ++ s → (a ≡ b) × (r ≡ s)
each_byte [] [] r s long same = (refl, same)
each_byte [] (y ∷ b) r s long same = absurd (omega arith)
each_byte (x ∷ a) [] r s long same = absurd (omega arith)
each_byte (x ∷ a) (y ∷ b) r s long same =
    let first = same_numbers (heads same) in
    let rest = each_byte a b r s (omega arith) (tails same) in
    (λ i. first i ∷ rest.0 i, rest.1)

chosen : (p q : Bool) (a b : List ℕ) (r s : List ℤ) → list_all is_byte a ≡ p → list_all is_byte b ≡ q
    → cond p (pos 4 ∷ pos (length a) ∷ packed 1 0 a) (pos 5 ∷ pos (length a) ∷ map pos a) ++ r ≡ cond q (pos 4 ∷ pos (length b) ∷ packed 1 0 b) (pos 5 ∷ pos (length b) ∷ map pos b) ++ s
    → (a ≡ b) × (r ≡ s)
chosen true true a b r s a_bytes b_bytes same =
    let all = packed_told a b 1 r s a_bytes b_bytes (same_numbers (heads (tails same))) 0 0 (tails (tails same)) in (all.1, all.2)
chosen false false a b r s a_bytes b_bytes same = each_byte a b r s (same_numbers (heads (tails same))) (tails (tails same))
chosen true false a b r s a_bytes b_bytes same = let four : 4 ≡ 5 = same_numbers (heads same) in absurd (omega (arith, four))
chosen false true a b r s a_bytes b_bytes same = let five : 5 ≡ 4 = same_numbers (heads same) in absurd (omega (arith, five))

-- what begins with the key of bytes begins with no other's
pub tells_bytes : (a b : List ℕ) (r s : List ℤ) → bytes_key a ++ r ≡ bytes_key b ++ s → (a ≡ b) × (r ≡ s)
tells_bytes a b r s same = chosen (list_all is_byte a) (list_all is_byte b) a b r s refl refl same

-- a key of bytes begins as no other value's does
begins : (p : Bool) (n : ℕ) (long : ℤ) (a b : List ℤ) (r s : List ℤ) → n < 4 → pos n ∷ s ≡ cond p (pos 4 ∷ long ∷ a) (pos 5 ∷ long ∷ b) ++ r → ⊥
begins true n long a b r s low same = let four : n ≡ 4 = same_numbers (heads same) in omega (arith, four, low)
begins false n long a b r s low same = let five : n ≡ 5 = same_numbers (heads same) in omega (arith, five, low)

pub begins_otherwise : (n : ℕ) (a : List ℕ) (r s : List ℤ) → n < 4 → pos n ∷ s ≡ bytes_key a ++ r → ⊥
begins_otherwise n a r s = begins (list_all is_byte a) n (pos (length a)) (packed 1 0 a) (map pos a) r s

-- ---- the bytes one by one
pub next_byte : (bytes : List ℕ) (i d : ℕ) → i < length bytes → drop i bytes ≡ get_or bytes i d ∷ drop (i + 1) bytes
next_byte bytes i d below = rw (add-one, drop-cons bytes i d) refl

pub with_room : (limit number byte : ℕ) (rest : List ℕ) → limit < 2 ^ 112 → packed limit number (byte ∷ rest) ≡ packed (limit * 256) (number * 256 + byte) rest
unfolding packed
with_room limit number byte rest room =
    ap (λ b. cond b (packed (limit * 256) (number * 256 + byte) rest) (pos number ∷ packed 256 byte rest)) (lt-ltb limit (2 ^ 112) room)

pub without_room : (limit number byte : ℕ) (rest : List ℕ) → 2 ^ 112 ≤ limit → packed limit number (byte ∷ rest) ≡ pos number ∷ packed 256 byte rest
unfolding packed
without_room limit number byte rest full =
    ap (λ b. cond b (packed (limit * 256) (number * 256 + byte) rest) (pos number ∷ packed 256 byte rest)) (le-ltb limit (2 ^ 112) full)

pub no_byte : (limit number : ℕ) → packed limit number [] ≡ pos number ∷ pos 0 ∷ []
unfolding packed
no_byte limit number = refl

pub byte_more : (byte : ℕ) (rest : List ℕ) → byte < 256 → list_all is_byte (byte ∷ rest) ≡ list_all is_byte rest
byte_more byte rest below = ap (λ b. b && list_all is_byte rest) (lt-ltb byte 256 below)

-- what is written and in the number behind one byte more
pub more_in : (out start : List ℤ) (bytes : List ℕ) (i limit number byte : ℕ) → i < length bytes → get_or bytes i byte ≡ byte → byte < 256 → limit < 2 ^ 112 → number < limit
    → out ++ packed limit number (drop i bytes) ≡ start → list_all is_byte (drop i bytes) ≡ list_all is_byte bytes
    → (number * 256 + byte < limit * 256) × (out ++ packed (limit * 256) (number * 256 + byte) (drop (i + 1) bytes) ≡ start) × (list_all is_byte (drop (i + 1) bytes) ≡ list_all is_byte bytes)
more_in out start bytes i limit number byte inside at is_small room below written all =
    let next : drop i bytes ≡ byte ∷ drop (i + 1) bytes = next_byte bytes i byte inside ∙ ap (λ b. b ∷ drop (i + 1) bytes) at in (
      omega (arith, is_small, below),
      ap (λ rest. out ++ rest) (sym (ap (packed limit number) next ∙ with_room limit number byte (drop (i + 1) bytes) room)) ∙ written,
      sym (ap (list_all is_byte) next ∙ byte_more byte (drop (i + 1) bytes) is_small) ∙ all,
    )

pub more_behind : (out start : List ℤ) (bytes : List ℕ) (i limit number byte : ℕ) → i < length bytes → get_or bytes i byte ≡ byte → byte < 256 → 2 ^ 112 ≤ limit
    → out ++ packed limit number (drop i bytes) ≡ start → list_all is_byte (drop i bytes) ≡ list_all is_byte bytes
    → (byte < 256) × ((out ++ pos number ∷ []) ++ packed 256 byte (drop (i + 1) bytes) ≡ start) × (list_all is_byte (drop (i + 1) bytes) ≡ list_all is_byte bytes)
more_behind out start bytes i limit number byte inside at is_small full written all =
    let next : drop i bytes ≡ byte ∷ drop (i + 1) bytes = next_byte bytes i byte inside ∙ ap (λ b. b ∷ drop (i + 1) bytes) at in (
      is_small,
      append_assoc out (pos number ∷ []) (packed 256 byte (drop (i + 1) bytes))
          ∙ ap (λ rest. out ++ rest) (sym (ap (packed limit number) next ∙ without_room limit number byte (drop (i + 1) bytes) full)) ∙ written,
      sym (ap (list_all is_byte) next ∙ byte_more byte (drop (i + 1) bytes) is_small) ∙ all,
    )

pub at_end : (out start : List ℤ) (bytes : List ℕ) (i limit number : ℕ) → drop i bytes ≡ [] → out ++ packed limit number (drop i bytes) ≡ start → out ++ pos number ∷ pos 0 ∷ [] ≡ start
at_end out start bytes i limit number none written =
    ap (λ rest. out ++ rest) (sym (ap (packed limit number) none ∙ no_byte limit number)) ∙ written

pub key_of_bytes : (bytes : List ℕ) → list_all is_byte bytes ≡ true → pos 4 ∷ pos (length bytes) ∷ packed 1 0 bytes ≡ bytes_key bytes
key_of_bytes bytes all = ap (λ b. cond b (pos 4 ∷ pos (length bytes) ∷ packed 1 0 bytes) (pos 5 ∷ pos (length bytes) ∷ map pos bytes)) (sym all)
