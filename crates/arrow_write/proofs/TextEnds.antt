-- Where texts end, one more at a time.
use Rattle.std.proofs.Common.{◌≡◌, ◌+◌, ◌*◌, ◌<◌, ◌≤◌, ◌∙◌, ℕ, List, [], ◌∷◌, ◌++◌, length, get_or, take, drop, replicate, sym, ap, arith, append_assoc, append-nil}
use Rattle.std.specs.List.{concat}
use Rattle.std.proofs.lemmas.List.{take_more, take_all, take_at, length-append, length-take-le, length-drop, length-replicate, take-replicate}
use Rattle.byteorder.specs.Endian.{little_bytes}
use Rattle.arrow_meta.specs.Buffers.{text_ends}

length-concat-push : (texts : List (List ℕ)) (text : List ℕ) → length (concat (texts ++ text ∷ [])) ≡ length (concat texts) + length text
length-concat-push [] text = let e = length-append text [] in omega (arith, e)
length-concat-push (x ∷ texts) text =
    let rest = length-concat-push texts text in
    omega (arith, rest, length-append x (concat (texts ++ text ∷ [])), length-append x (concat texts))

text_ends-push : (start : ℕ) (texts : List (List ℕ)) (text : List ℕ) → text_ends start (texts ++ text ∷ []) ≡ text_ends start texts ++ little_bytes 4 (start + length (concat texts) + length text)
text_ends-push start [] text =
    let e : start + length text ≡ start + 0 + length text = omega arith in
    append-nil (little_bytes 4 (start + length text)) ∙ ap (little_bytes 4) e
text_ends-push start (x ∷ texts) text =
    let e : start + length x + length (concat texts) + length text ≡ start + length (concat (x ∷ texts)) + length text = omega (arith, length-append x (concat texts)) in
    let head = little_bytes 4 (start + length x) in
    ap (λ rest. head ++ rest) (text_ends-push (start + length x) texts text ∙ ap (λ n. text_ends (start + length x) texts ++ little_bytes 4 n) e)
    ∙ sym (append_assoc head (text_ends (start + length x) texts) (little_bytes 4 (start + length (concat (x ∷ texts)) + length text)))

-- the offsets with one more
pub next_end : (texts : List (List ℕ)) (i end : ℕ) (bytes new : List ℕ) → i < length texts → bytes ≡ little_bytes 4 0 ++ text_ends 0 (take i texts) → end ≡ length (concat (take (i + 1) texts))
    → new ≡ bytes ++ little_bytes 4 end → new ≡ little_bytes 4 0 ++ text_ends 0 (take (i + 1) texts)
next_end texts i end bytes new below so_far end_is new_is =
    let text = get_or texts i [] in
    let front = take i texts in
    let more : take (i + 1) texts ≡ front ++ text ∷ [] = take_more texts i [] below in
    let long : end ≡ 0 + length (concat front) + length text = end_is ∙ ap (λ xs. length (concat xs)) more ∙ length-concat-push front text ∙ omega arith in
    new_is ∙ ap (λ (b : List ℕ). b ++ little_bytes 4 end) so_far ∙ append_assoc (little_bytes 4 0) (text_ends 0 front) (little_bytes 4 end)
    ∙ ap (λ (last : List ℕ). little_bytes 4 0 ++ last) (ap (λ n. text_ends 0 front ++ little_bytes 4 n) long ∙ sym (text_ends-push 0 front text) ∙ ap (text_ends 0) (sym more))

-- a word that is written over those at a place, and what stands before its end
pub take-written : (old word : List ℕ) (place : ℕ) → place + length word ≤ length old → take (place + length word) (take place old ++ (word ++ drop (place + length word) old)) ≡ take place old ++ word
take-written old word place within =
    let front = take place old in
    let rest = drop (place + length word) old in
    let long : length (front ++ word) ≡ place + length word = length-append front word ∙ ap (λ n. n + length word) (length-take-le place old (omega arith)) in
    ap (take (place + length word)) (sym (append_assoc front word rest)) ∙ take_at (front ++ word) rest (place + length word) long

pub length-written : (old word : List ℕ) (place : ℕ) → place + length word ≤ length old → length (take place old ++ (word ++ drop (place + length word) old)) ≡ length old
length-written old word place within =
    let rest = drop (place + length word) old in
    omega (arith, length-append (take place old) (word ++ rest), length-append word rest, length-take-le place old (omega arith), length-drop (place + length word) old)

-- so many offsets are written, and there is room for the others
pub record AreWritten (texts : List (List ℕ)) (bytes : List ℕ) (i : ℕ) : Type 0 where
  pub long : length bytes ≡ 4 * length texts + 4
  pub written : take (4 * i + 4) bytes ≡ little_bytes 4 0 ++ text_ends 0 (take i texts)

pub AreWritten-none : (texts : List (List ℕ)) (bytes : List ℕ) → bytes ≡ replicate (4 * length texts + 4) 0 → AreWritten texts bytes 0
AreWritten-none texts bytes is =
    let room : 4 * length texts + 4 ≡ 4 + 4 * length texts = omega arith in
    let first : take 4 bytes ≡ 0 ∷ 0 ∷ 0 ∷ 0 ∷ [] = ap (take 4) (is ∙ ap (λ n. replicate n 0) room) ∙ take-replicate 4 (4 + 4 * length texts) 0 (omega arith) in
    record { long = ap length is ∙ length-replicate (4 * length texts + 4) 0; written = first }

pub AreWritten-more : (texts : List (List ℕ)) (bytes new : List ℕ) (i end : ℕ) → AreWritten texts bytes i → i < length texts → end ≡ length (concat (take (i + 1) texts))
    → new ≡ take (4 * i + 4) bytes ++ (little_bytes 4 end ++ drop (4 * i + 4 + 4) bytes) → AreWritten texts new (i + 1)
AreWritten-more texts bytes new i end so_far below end_is is =
    let word = little_bytes 4 end in
    let place = 4 * i + 4 in
    let within : place + 4 ≤ length bytes = omega (arith, so_far.long) in
    let next : 4 * (i + 1) + 4 ≡ place + 4 = omega arith in
    let front : take (place + 4) new ≡ take place bytes ++ word = ap (take (place + 4)) is ∙ take-written bytes word place within in
    record {
      long = ap length is ∙ length-written bytes word place within ∙ so_far.long;
      written = ap (λ n. take n new) next ∙ next_end texts i end (take place bytes) (take (place + 4) new) below so_far.written end_is front;
    }

pub AreWritten-all : (texts : List (List ℕ)) (bytes : List ℕ) (i : ℕ) → AreWritten texts bytes i → i ≡ length texts → bytes ≡ little_bytes 4 0 ++ text_ends 0 texts
AreWritten-all texts bytes i all done =
    sym (take_all (4 * i + 4) bytes (omega (arith, all.long, done))) ∙ all.written ∙ ap (λ (xs : List (List ℕ)). little_bytes 4 0 ++ text_ends 0 xs) (take_all i texts (omega (arith, done)))
