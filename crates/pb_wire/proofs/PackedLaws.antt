-- The numbers of a packed payload one by one.
use Rattle.std.proofs.Common.{◌≡◌, ◌∙◌, sym, ap, refl, subst, ℕ, zero, suc, ◌-◌, ◌<◌, ◌≤◌, List, [], ◌∷◌, length, drop, Option, Some, None, IfSome, is_some, unwrap_or, true, arith}
use Rattle.std.specs.Option.{option_map, option_and_then}
use Rattle.pb_wire.specs.Varint.{varint_of}
use Rattle.pb_wire.specs.Payloads.{packed_from, packed_numbers}
use Rattle.pb_wire.proofs.SizeLaws.{IsSize, varint_size}
use Rattle.pb_wire.proofs.ScanLaws.{drop-front}

packed-inside : (bytes : List ℕ) (inside : ℕ) → inside ≤ length bytes → packed_from bytes inside ≡ packed_from (drop inside bytes) 0
packed-inside bytes zero h = refl
packed-inside [] (suc inside) h = absurd (omega arith)
packed-inside (byte ∷ bytes) (suc inside) h = packed-inside bytes inside (omega arith)

pub packed-end : (bytes : List ℕ) → length bytes ≡ 0 → packed_numbers bytes ≡ Some []
unfolding packed_numbers
packed-end [] h = refl
packed-end (byte ∷ bytes) h = absurd (omega arith)

-- no varint stands where there are bytes
pub packed-none : (bytes : List ℕ) → 0 < length bytes → varint_of bytes ≡ None → packed_numbers bytes ≡ None
unfolding packed_numbers
packed-none [] h none = absurd (omega arith)
packed-none (byte ∷ bytes) h none = ap (option_and_then (λ found. option_map (λ rest. found.0 ∷ rest) (packed_from bytes (found.1 - 1)))) none

pub packed-first : (bytes : List ℕ) (value len : ℕ) → varint_of bytes ≡ Some (value, len) → packed_numbers bytes ≡ option_map (λ rest. value ∷ rest) (packed_numbers (drop len bytes))
unfolding packed_numbers
packed-first bytes value len found =
    let P : Option (ℕ × ℕ) → Type 0 = λ read. IfSome read (λ r. IsSize r.1 bytes) in
    let size : IsSize len bytes = subst P found (varint_size bytes) in
    at_first bytes value len found size.some size.within
  where
    at_first : (bytes : List ℕ) (value len : ℕ) → varint_of bytes ≡ Some (value, len) → 0 < len → len ≤ length bytes → packed_from bytes 0 ≡ option_map (λ rest. value ∷ rest) (packed_from (drop len bytes) 0)
    at_first [] value len found some within = absurd (omega arith)
    at_first (byte ∷ bytes) value len found some within =
        ap (option_and_then (λ found. option_map (λ rest. found.0 ∷ rest) (packed_from bytes (found.1 - 1)))) found
        ∙ ap (option_map (λ rest. value ∷ rest)) (packed-inside bytes (len - 1) (omega arith) ∙ ap (λ b. packed_from b 0) (sym (drop-front len byte bytes some)))

pub same_answer : (bytes : List ℕ) (value len : ℕ) → varint_of bytes ≡ Some (value, len) → is_some (packed_numbers (drop len bytes)) ≡ is_some (packed_numbers bytes)
same_answer bytes value len found = sym (ap is_some (packed-first bytes value len found) ∙ is_mapped (packed_numbers (drop len bytes)))
  where
    is_mapped : (rest : Option (List ℕ)) → is_some (option_map (λ rest. value ∷ rest) rest) ≡ is_some rest
    is_mapped None = refl
    is_mapped (Some rest) = refl

-- the numbers of a payload that varints fill
abbrev pub numbers_of : List ℕ → List ℕ
numbers_of bytes = unwrap_or (packed_numbers bytes) []

pub numbers-first : (bytes : List ℕ) (value len : ℕ) → varint_of bytes ≡ Some (value, len) → is_some (packed_numbers bytes) ≡ true → numbers_of bytes ≡ value ∷ numbers_of (drop len bytes)
numbers-first bytes value len found packed =
    ap (λ numbers. unwrap_or numbers []) (packed-first bytes value len found)
    ∙ mapped (packed_numbers (drop len bytes)) (same_answer bytes value len found ∙ packed)
  where
    mapped : (rest : Option (List ℕ)) → is_some rest ≡ true → unwrap_or (option_map (λ rest. value ∷ rest) rest) [] ≡ value ∷ unwrap_or rest []
    mapped None h = cc
    mapped (Some rest) h = refl

pub numbers-end : (bytes : List ℕ) → length bytes ≡ 0 → numbers_of bytes ≡ []
numbers-end bytes h = ap (λ numbers. unwrap_or numbers []) (packed-end bytes h)
