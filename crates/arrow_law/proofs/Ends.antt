-- The ends of a file: its magics, and its footer with the size.
use Rattle.std.proofs.Common.{◌≡◌, ◌∙◌, ℕ, ◌+◌, ◌-◌, ◌^◌, ◌<◌, ◌≤◌, pos, List, ◌++◌, true, Some, Ok, length, take, drop, replicate, refl, sym, ap, arith, append_assoc, length-append, nat_le}
use Rattle.std.specs.List.{slice_range}
use Rattle.std.specs.Int.{w32, cast_signed}
use Rattle.std.specs.Str.{bytes_eq}
use Rattle.std.proofs.lemmas.Bool.{le-leb}
use Rattle.std.proofs.lemmas.Int.{to_z_pos}
use Rattle.std.proofs.lemmas.Slice.Eq.{bytes_eq-Decides}
use Rattle.std.proofs.lemmas.List.{take_at, drop_at, drop-drop}
use Rattle.byteorder.specs.Endian.{little_number, little_bytes}
use Rattle.byteorder.specs.Numbers.{little_number-reads_back, length-bytes_low_first}
use Rattle.arrow_meta.specs.File.{magic, framed}
use Rattle.arrow_meta.specs.Messages.{Place}
use Rattle.arrow_meta.specs.Places.{signed_at, footer_size, metadata_in, body_in}
use Rattle.arrow_meta.specs.Head.{footer_place}

-- bytes are the same as themselves
same_bytes : (xs ys : List ℕ) → xs ≡ ys → bytes_eq xs ys ≡ true
same_bytes xs ys e = (bytes_eq-Decides xs ys).1 e

-- a size that stands in four bytes
size_at : (bytes rest : List ℕ) (place n : ℕ) → n < 2 ^ 31 → drop place bytes ≡ little_bytes 4 n ++ rest → signed_at bytes place ≡ pos n
size_at bytes rest place n low at =
    let fits : n < 256 ^ 4 = omega (arith, low) in
    ap (λ xs. cast_signed w32 (little_number 4 xs)) at ∙ ap (cast_signed w32) (little_number-reads_back 4 n rest fits) ∙ to_z_pos w32 n low

-- what ends in a footer with its size and the magic
abbrev pub ending : List ℕ → List ℕ → List ℕ
ending front footer = front ++ (footer ++ (little_bytes 4 (length footer) ++ magic))

pub length-ending : (front footer : List ℕ) → length (ending front footer) ≡ length front + length footer + 10
length-ending front footer =
    let tail : List ℕ = little_bytes 4 (length footer) ++ magic in
    length-append front (footer ++ tail) ∙ ap (λ n. length front + n) (length-append footer tail) ∙ omega arith

-- where the footer begins
pub footer_place_back : (front footer bytes : List ℕ) → bytes ≡ ending front footer → take 6 bytes ≡ magic → 8 ≤ length front → 1 ≤ length footer → length footer < 2 ^ 31
    → footer_place bytes ≡ Ok (length front)
unfolding footer_place footer_size
footer_place_back front footer bytes same begins room some short =
    let size : List ℕ = little_bytes 4 (length footer) in
    let long : length bytes ≡ length front + length footer + 10 = ap length same ∙ length-ending front footer in
    let four : length size ≡ 4 = length-bytes_low_first 0 4 (length footer) in
    let last : bytes ≡ (front ++ (footer ++ size)) ++ magic = same ∙ ap (λ xs. front ++ xs) (sym (append_assoc footer size magic)) ∙ sym (append_assoc front (footer ++ size) magic) in
    let before : length (front ++ (footer ++ size)) ≡ length bytes - 6 = length-append front (footer ++ size) ∙ ap (λ n. length front + n) (length-append footer size) ∙ omega (arith, long, four) in
    let ends : drop (length bytes - 6) bytes ≡ magic = ap (drop (length bytes - 6)) last ∙ drop_at (front ++ (footer ++ size)) magic (length bytes - 6) before in
    let sized : bytes ≡ (front ++ footer) ++ (size ++ magic) = same ∙ sym (append_assoc front footer (size ++ magic)) in
    let until : length (front ++ footer) ≡ length bytes - 10 = length-append front footer ∙ omega (arith, long) in
    let at : drop (length bytes - 10) bytes ≡ size ++ magic = ap (drop (length bytes - 10)) sized ∙ drop_at (front ++ footer) (size ++ magic) (length bytes - 10) until in
    let number = size_at bytes magic (length bytes - 10) (length footer) short at in
    let enough : nat_le 18 (length bytes) ≡ true = le-leb 18 (length bytes) (omega (arith, long, room)) in
    let one : nat_le 1 (length footer) ≡ true = le-leb 1 (length footer) some in
    let within : nat_le (length footer + 18) (length bytes) ≡ true = le-leb (length footer + 18) (length bytes) (omega (arith, long, room)) in
    let place : length bytes - 10 - length footer ≡ length front = omega (arith, long) in
    rw (enough, same_bytes (take 6 bytes) magic begins, same_bytes (drop (length bytes - 6) bytes) magic ends, number, one, within) (ap (λ n. Ok n) place)

-- the footer there
pub footer_bytes : (front footer bytes : List ℕ) → bytes ≡ ending front footer → slice_range bytes (length front) (length bytes - 10) ≡ footer
footer_bytes front footer bytes same =
    let tail : List ℕ = little_bytes 4 (length footer) ++ magic in
    let count : length bytes - 10 - length front ≡ length footer = omega (arith, ap length same, length-ending front footer) in
    ap (λ n. take n (drop (length front) bytes)) count
    ∙ ap (λ xs. take (length footer) (drop (length front) xs)) same
    ∙ ap (take (length footer)) (drop_at front (footer ++ tail) (length front) refl)
    ∙ take_at footer tail (length footer) refl

-- where a message stands
abbrev pub message_place : List ℕ → List ℕ → List ℕ → Place
message_place front metadata body = record { offset = length front; meta_len = length metadata + 8; body_len = length body }

behind_front : (front bytes rest : List ℕ) (n : ℕ) → bytes ≡ front ++ rest → drop (length front + n) bytes ≡ drop n rest
behind_front front bytes rest n same =
    ap (drop (length front + n)) same ∙ sym (drop-drop n (length front) (front ++ rest)) ∙ ap (drop n) (drop_at front rest (length front) refl)

-- its metadata
pub metadata_back : (front metadata body back bytes : List ℕ) → bytes ≡ front ++ (framed metadata body ++ back) → 1 ≤ length metadata → length metadata < 2 ^ 31
    → metadata_in bytes (message_place front metadata body) ≡ Some metadata
unfolding metadata_in
metadata_back front metadata body back bytes same some short =
    let rest : List ℕ = framed metadata body ++ back in
    let mark : drop (length front) bytes ≡ rest = ap (drop (length front)) same ∙ drop_at front rest (length front) refl in
    let size = size_at bytes (metadata ++ body ++ back) (length front + 4) (length metadata) short (behind_front front bytes rest 4 same) in
    let begins : bytes_eq (take 4 (drop (length front) bytes)) (replicate 4 255) ≡ true = same_bytes (take 4 (drop (length front) bytes)) (replicate 4 255) (ap (take 4) mark) in
    let one : nat_le 1 (length metadata) ≡ true = le-leb 1 (length metadata) some in
    let within : nat_le (length metadata + 8) (length metadata + 8) ≡ true = le-leb (length metadata + 8) (length metadata + 8) (omega arith) in
    let behind : drop (length front + 8) bytes ≡ metadata ++ body ++ back = behind_front front bytes rest 8 same in
    let own : take (length metadata) (drop (length front + 8) bytes) ≡ metadata =
    ap (take (length metadata)) (behind ∙ append_assoc metadata body back) ∙ take_at metadata (body ++ back) (length metadata) refl in
    rw (size, begins, one, within) (ap (λ xs. Some xs) own)

-- its body
pub body_back : (front metadata body back bytes : List ℕ) → bytes ≡ front ++ (framed metadata body ++ back) → body_in bytes (message_place front metadata body) ≡ body
body_back front metadata body back bytes same =
    let rest : List ℕ = framed metadata body ++ back in
    let place : length front + (length metadata + 8) ≡ length front + (8 + length metadata) = omega arith in
    let behind : drop (length front + (8 + length metadata)) bytes ≡ drop (8 + length metadata) rest = behind_front front bytes rest (8 + length metadata) same in
    let own : drop (8 + length metadata) rest ≡ body ++ back =
    sym (drop-drop (length metadata) 8 rest) ∙ ap (drop (length metadata)) (append_assoc metadata body back) ∙ drop_at metadata (body ++ back) (length metadata) refl in
    ap (λ n. take (length body) (drop n bytes)) place ∙ ap (take (length body)) (behind ∙ own) ∙ take_at body back (length body) refl
