-- The list of a packed payload's numbers by places.
use Rattle.std.proofs.Common.{◌≡◌, ◌∙◌, sym, ap, refl, subst, ℕ, ◌+◌, ◌≤◌, List, [], ◌∷◌, length, drop, Option, Some, None, IfSome, arith, length-drop}
use Rattle.std.specs.Option.{option_map}
use Rattle.std.proofs.lemmas.List.{drop-drop}
use Rattle.pb_wire.specs.Varint.{varint_of}
use Rattle.pb_wire.specs.Payloads.{packed_numbers, AreNumbersFrom, AreNumbers}
use Rattle.pb_wire.proofs.SizeLaws.{IsSize, varint_size}
use Rattle.pb_wire.proofs.PackedLaws.{packed-end, packed-none, packed-first}

-- a packed payload of these numbers begins with the varint of the first, and goes on with the others
abbrev Begins : List ℕ → List ℕ → Type 0
Begins bytes [] = length bytes ≡ 0
Begins bytes (number ∷ numbers) = (size : ℕ) × (varint_of bytes ≡ Some (number, size)) × (packed_numbers (drop size bytes) ≡ Some numbers)

-- where a varint begins the bytes, by the numbers behind it
begins_with : (bytes : List ℕ) (value size : ℕ) (rest : Option (List ℕ)) (numbers : List ℕ) → varint_of bytes ≡ Some (value, size) → packed_numbers (drop size bytes) ≡ rest → option_map (λ rest. value ∷ rest) rest ≡ Some numbers → Begins bytes numbers
begins_with bytes value size None numbers first behind e = absurd (cc)
begins_with bytes value size (Some rest) [] first behind e = absurd (cc)
begins_with bytes value size (Some rest) (number ∷ numbers) first behind e =
    let here : value ≡ number = cc in
    let others : rest ≡ numbers = cc in
    (size, first ∙ ap (λ n. Some (n, size)) here, behind ∙ ap Some others)

begins : (bytes numbers : List ℕ) → packed_numbers bytes ≡ Some numbers → Begins bytes numbers
begins [] [] e = refl
begins [] (number ∷ numbers) e = let none = packed-end [] refl in absurd (cc)
begins (byte ∷ bytes) numbers e = (elim (varint_of (byte ∷ bytes)) as (λ read. varint_of (byte ∷ bytes) ≡ read → Begins (byte ∷ bytes) numbers) [
  | None ↦ λ none. let broken = packed-none (byte ∷ bytes) (omega arith) none in absurd (cc)
  | Some read ↦ λ first. begins_with (byte ∷ bytes) read.0 read.1 (packed_numbers (drop read.1 (byte ∷ bytes))) numbers first refl (sym (packed-first (byte ∷ bytes) read.0 read.1 first) ∙ e)
]) refl

found_from : (bytes : List ℕ) (place : ℕ) (numbers : List ℕ) → place ≤ length bytes → packed_numbers (drop place bytes) ≡ Some numbers → AreNumbersFrom bytes place numbers
found_from bytes place [] within e = omega (arith, begins (drop place bytes) [] e, length-drop place bytes)
found_from bytes place (number ∷ numbers) within e =
    let first = begins (drop place bytes) (number ∷ numbers) e in
    let P : Option (ℕ × ℕ) → Type 0 = λ read. IfSome read (λ r. IsSize r.1 (drop place bytes)) in
    let size : IsSize first.0 (drop place bytes) = subst P first.1 (varint_size (drop place bytes)) in
    (first.0, first.1, found_from bytes (place + first.0) numbers (omega (arith, size.within, length-drop place bytes)) (ap packed_numbers (sym (drop-drop first.0 place bytes)) ∙ first.2))

pub found : (bytes numbers : List ℕ) → packed_numbers bytes ≡ Some numbers → AreNumbers bytes numbers
found bytes numbers e = found_from bytes 0 numbers (omega arith) e

only_from : (bytes : List ℕ) (place : ℕ) (numbers : List ℕ) → AreNumbersFrom bytes place numbers → packed_numbers (drop place bytes) ≡ Some numbers
only_from bytes place [] end = packed-end (drop place bytes) (omega (arith, length-drop place bytes))
only_from bytes place (number ∷ numbers) (size, first, rest) =
    packed-first (drop place bytes) number size first
    ∙ ap (option_map (λ rest. number ∷ rest)) (ap packed_numbers (drop-drop size place bytes) ∙ only_from bytes (place + size) numbers rest)

pub only : (bytes numbers : List ℕ) → AreNumbers bytes numbers → packed_numbers bytes ≡ Some numbers
only bytes numbers are = only_from bytes 0 numbers are
