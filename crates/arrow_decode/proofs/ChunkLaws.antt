-- Numbers read chunk by chunk.
use Rattle.std.proofs.Common.{◌≡◌, ◌∙◌, ℕ, zero, suc, ◌+◌, ◌-◌, ◌*◌, ◌/◌, ◌%◌, ◌^◌, ◌<◌, ◌≤◌, ℤ, Bool, true, false, List, ◌∷◌, ◌++◌, length, map, take, drop, refl, sym, ap, arith}
use Rattle.std.specs.Int.{Width, cast_signed}
use Rattle.std.specs.List.{range_with_len}
use Rattle.std.specs.Simd.{first_chunks}
use Rattle.std.proofs.Math.Nat.{mul-div_cancel_left}
use Rattle.std.proofs.lemmas.List.{take-append-drop, take-append-le, drop-append-le, drop-drop, length-drop, length-map}
use Rattle.byteorder.specs.Endian.{little_number}
use Rattle.byteorder.specs.Numbers.{little_from-take}
use Rattle.arrow_decode.specs.Offsets.{offset_width, front_offset, raw_offsets, behind}
use Rattle.arrow_decode.proofs.NumberLaws.{map-map, signed_number}

-- what follows the chunks doesn't show
chunks_front : (size n : ℕ) (front back : List ℕ) → size * n ≤ length front → first_chunks size n (front ++ back) ≡ first_chunks size n front
chunks_front size zero front back room = refl
chunks_front size (suc n) front back room =
    let grown : size * suc n ≡ size + size * n = grind arith in
    let first : size ≤ length front = omega (arith, grown, room) in
    let rest = chunks_front size n (drop size front) back (omega (arith, grown, room, length-drop size front)) in
    ap (λ chunk. chunk ∷ first_chunks size n (drop size (front ++ back))) (take-append-le size front back first)
    ∙ ap (λ xs. take size front ∷ first_chunks size n xs) (drop-append-le size front back first)
    ∙ ap (λ xs. take size front ∷ xs) rest

-- what is read of a chunk is read at its place
chunks_from : {X : Type 0} (f : List ℕ → X) (size n start : ℕ) (buffer rest : List ℕ) → ((ys : List ℕ) → f (take size ys) ≡ f ys) → rest ≡ drop (size * start) buffer
    → map f (first_chunks size n rest) ≡ map (λ k. f (drop (size * k) buffer)) (range_with_len start n)
chunks_from f size zero start buffer rest short here = refl
chunks_from f size (suc n) start buffer rest short here =
    let moved : size * start + size ≡ size * (start + 1) = grind arith in
    let next = ap (drop size) here ∙ drop-drop size (size * start) buffer ∙ ap (λ m. drop m buffer) moved in
    let later = chunks_from f size n (start + 1) buffer (drop size rest) short next in
    ap (λ x. x ∷ map f (first_chunks size n (drop size rest))) (short rest ∙ ap f here) ∙ ap (λ xs. f (drop (size * start) buffer) ∷ xs) later

-- as many chunks as were asked for
length-chunks : (size n : ℕ) (xs : List ℕ) → length (first_chunks size n xs) ≡ n
length-chunks size zero xs = refl
length-chunks size (suc n) xs = let rest = length-chunks size n (drop size xs) in omega (arith, rest)

-- as many values as the chunks of a buffer
pub length-chunk_values : {T : Type 0} (value_of : List ℕ → T) (size count : ℕ) (front : List ℕ) → 0 < size → length front ≡ size * count → length (map value_of (first_chunks size (length front / size) front)) ≡ count
length-chunk_values value_of size count front some long =
    length-map (first_chunks size (length front / size) front) value_of ∙ length-chunks size (length front / size) front ∙ ap (λ n. n / size) long ∙ mul-div_cancel_left count some

-- the numbers in the chunks at the front of a buffer
pub chunk_numbers : {T : Type 0} (number : T → ℤ) (value_of : List ℕ → T) (width : Width) (size count : ℕ) (front back : List ℕ)
    → ((bytes : List ℕ) → number (value_of bytes) ≡ cast_signed width (little_number size bytes)) → 0 < size → length front ≡ size * count
    → map number (map value_of (first_chunks size (length front / size) front)) ≡ map (signed_number width size (front ++ back)) (range_with_len 0 count)
chunk_numbers number value_of width size count front back reads some long =
    let read = λ (bytes : List ℕ). cast_signed width (little_number size bytes) in
    let whole : length front / size ≡ count = ap (λ n. n / size) long ∙ mul-div_cancel_left count some in
    let none : size * 0 ≡ 0 = grind arith in
    ap (λ n. map number (map value_of (first_chunks size n front))) whole
    ∙ map-map number value_of (first_chunks size count front)
    ∙ ap (λ f. map f (first_chunks size count front)) (λ i x. reads x i)
    ∙ ap (map read) (sym (chunks_front size count front back (omega (arith, long))))
    ∙ chunks_from read size count 0 (front ++ back) (front ++ back) (λ ys. ap (cast_signed width) (little_from-take 0 size size ys (omega arith))) (ap (λ m. drop m (front ++ back)) (sym none))

-- an offset has bytes
width_some : (wide : Bool) → 0 < offset_width wide
width_some true = omega arith
width_some false = omega arith

-- the offsets behind the first, in the chunks of their bytes
chunk_offsets : (wide : Bool) (count : ℕ) (offsets others back : List ℕ) → others ++ back ≡ drop (offset_width wide) offsets → length others ≡ offset_width wide * count
    → map (front_offset wide) (first_chunks (offset_width wide) (length others / offset_width wide) others) ≡ raw_offsets wide offsets 1 count
chunk_offsets wide count offsets others back here long =
    let size = offset_width wide in
    let whole : length others / size ≡ count = ap (λ n. n / size) long ∙ mul-div_cancel_left count (width_some wide) in
    let one : size ≡ size * 1 = grind arith in
    ap (λ n. map (front_offset wide) (first_chunks size n others)) whole
    ∙ ap (map (front_offset wide)) (sym (chunks_front size count others back (omega (arith, long))))
    ∙ chunks_from (front_offset wide) size count 1 offsets (others ++ back) (λ ys. little_from-take 0 size size ys (omega arith)) (here ∙ ap (λ m. drop m offsets) one)

-- the same behind a first place
ends_read : (wide : Bool) (count begin : ℕ) (offsets rest others : List ℕ) → rest ≡ drop (offset_width wide) offsets → others ≡ take (offset_width wide * count) rest → length others ≡ offset_width wide * count
    → map (λ chunk. (front_offset wide chunk + (2 ^ 64 - begin)) % 2 ^ 64) (first_chunks (offset_width wide) (length others / offset_width wide) others) ≡ behind begin (raw_offsets wide offsets 1 count)
ends_read wide count begin offsets rest others here front long =
    let m = offset_width wide * count in
    let whole : others ++ drop m rest ≡ drop (offset_width wide) offsets = ap (λ (bytes : List ℕ). bytes ++ drop m rest) front ∙ take-append-drop m rest ∙ here in
    sym (map-map (λ place. (place + (2 ^ 64 - begin)) % 2 ^ 64) (front_offset wide) (first_chunks (offset_width wide) (length others / offset_width wide) others))
    ∙ ap (behind begin) (chunk_offsets wide count offsets others (drop m rest) whole long)

-- where it is known whether they are wide
pub ends_read_as : (w wide : Bool) (count begin size : ℕ) (offsets rest others : List ℕ) → wide ≡ w → size ≡ offset_width wide → rest ≡ drop size offsets → others ≡ take (size * count) rest → length others ≡ size * count
    → map (λ chunk. (front_offset w chunk + (2 ^ 64 - begin)) % 2 ^ 64) (first_chunks (offset_width w) (length others / offset_width w) others) ≡ behind begin (raw_offsets wide offsets 1 count)
ends_read_as w wide count begin size offsets rest others is sized here front long =
    let size_is : size ≡ offset_width w = sized ∙ ap offset_width is in
    ends_read w count begin offsets rest others (here ∙ ap (λ n. drop n offsets) size_is) (front ∙ ap (λ n. take (n * count) rest) size_is) (long ∙ ap (λ n. n * count) size_is)
    ∙ ap (λ b. behind begin (raw_offsets b offsets 1 count)) (sym is)
