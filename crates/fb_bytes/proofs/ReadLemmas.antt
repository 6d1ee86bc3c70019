-- What stands in bytes reads back.
use Rattle.std.proofs.Common.{◌≡◌, ◌≤◌, ◌<◌, ◌+◌, ◌%◌, ◌^◌, ℕ, cond, leb, ◌&&◌, List, ◌++◌, length, drop, Some, None, Result, Ok, pos, ◌-ℤ◌, refl, sym, ap, ◌∙◌, arith, length-append}
use Rattle.std.proofs.lemmas.List.{drop_at}
use Rattle.std.proofs.lemmas.Int.{ints}
use Rattle.std.proofs.Math.Nat.{div-one, mod-eq_of_lt}
use Rattle.std.specs.Int.{cast_signed, w32}
use Rattle.byteorder.specs.Endian.{little_bytes, little_number}
use Rattle.byteorder.specs.Numbers.{length-bytes_low_first, little_from-bytes}
use Rattle.fb_bytes.specs.declared.bad_buffer.BadBuffer.{BadBuffer}
use Rattle.fb_bytes.specs.Reading.{bad, number_at, offset_at, vtable_size, whole_vtable, with_size, with_vtable, table_at}
use Rattle.sub_types.specs.ResultSteps.{◌>>=◌}

pub fits : {A : Type 0} (m n : ℕ) (x y : A) → m ≤ n → cond (leb m n) x y ≡ x
fits m n x y h = grind arith

pub past : {A : Type 0} (m n : ℕ) (x y : A) → n < m → cond (leb m n) x y ≡ y
past m n x y h = grind arith

-- the number that bytes begin with
pub number_first : (w v : ℕ) (rest : List ℕ) → little_number w (little_bytes w v ++ rest) ≡ v % 256 ^ w
number_first w v rest = little_from-bytes w 0 v rest ∙ ap (λ (x : ℕ). x % 256 ^ w) (div-one v)

pub drop_stands : (bytes front rest : List ℕ) (place : ℕ) → bytes ≡ front ++ rest → place ≡ length front → drop place bytes ≡ rest
drop_stands bytes front rest place e at = ap (drop place) e ∙ drop_at front rest place (sym at)

pub room_stands : (bytes front x rest : List ℕ) (place : ℕ) → bytes ≡ front ++ (x ++ rest) → place ≡ length front → place + length x ≤ length bytes
room_stands bytes front x rest place e at =
    let l = ap length e ∙ length-append front (x ++ rest) in
    let m = length-append x rest in
    omega arith

-- a number that stands reads back
pub number_back : (bytes front rest : List ℕ) (place w v : ℕ) → bytes ≡ front ++ (little_bytes w v ++ rest) → place ≡ length front → number_at bytes w place ≡ Ok (v % 256 ^ w)
unfolding number_at
number_back bytes front rest place w v e at =
    let room = room_stands bytes front (little_bytes w v) rest place e at in
    let wide = length-bytes_low_first 0 w v in
    fits (place + w) (length bytes) (Ok (little_number w (drop place bytes))) (bad (pos place)) (omega arith)
    ∙ ap (λ (xs : List ℕ). Ok (little_number w xs)) (drop_stands bytes front (little_bytes w v ++ rest) place e at)
    ∙ ap (λ (n : ℕ). Ok n) (number_first w v rest)

-- an offset of 32 bits that stands leads to its place
pub offset_back : (bytes front rest : List ℕ) (place v : ℕ) → bytes ≡ front ++ (little_bytes 4 v ++ rest) → place ≡ length front → v < 2 ^ 32 → offset_at bytes place ≡ Ok (place + v)
unfolding offset_at
offset_back bytes front rest place v e at small =
    ap (λ (r : Result ℕ BadBuffer). r >>= λ offset. Ok (place + offset)) (number_back bytes front rest place 4 v e at)
    ∙ ap (λ (n : ℕ). Ok (place + n)) (mod-eq_of_lt small)

-- a table is found where its distance leads back to its vtable
pub table_found : (bytes before vtable_rest between rest : List ℕ) (place distance n : ℕ)
    → bytes ≡ before ++ (little_bytes 2 n ++ vtable_rest) → bytes ≡ between ++ (little_bytes 4 distance ++ rest)
    → place ≡ length between → place ≡ length before + distance → distance < 2 ^ 31 → n < 2 ^ 16 → 4 ≤ n → length before + n ≤ length bytes
    → table_at bytes place ≡ Ok (record { bytes = bytes; place = place; vtable = length before })
unfolding table_at whole_vtable
table_found bytes before vtable_rest between rest place distance n ev ed at back near few least inside =
    let size : vtable_size bytes (length before) ≡ n =
    ap (little_number 2) (drop_stands bytes before (little_bytes 2 n ++ vtable_rest) (length before) ev refl) ∙ number_first 2 n vtable_rest ∙ mod-eq_of_lt few in
    let z : pos place -ℤ cast_signed w32 distance ≡ pos (length before) = omega (arith, ints) in
    ap (λ (r : Result ℕ BadBuffer). r >>= λ d. with_vtable bytes place (pos place -ℤ cast_signed w32 d)) (number_back bytes between rest place 4 distance ed at ∙ ap (λ (d : ℕ). Ok d) (mod-eq_of_lt (omega arith)))
    ∙ ap (with_vtable bytes place) z
    ∙ ap (with_size bytes place (length before)) (whole (vtable_size bytes (length before)) (omega arith) (omega arith))
  where
    whole : (s : ℕ) → 4 ≤ s → length before + s ≤ length bytes → cond (leb 4 s && leb (length before + s) (length bytes)) (Some s) None ≡ Some s
    whole s a b = grind arith
