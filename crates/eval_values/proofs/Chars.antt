-- The characters of a text from a place on, and up to it.
use Rattle.std.specs.Prelude.{◌≡◌, ℕ, suc, ◌+◌, ◌-◌, ◌≤◌, List, [], ◌∷◌, ◌++◌, length, take, drop, encode_utf8_all}
use Rattle.std.proofs.Common.{zero, sym, ap, ◌∙◌, arith, add-one, length-append, length-drop}
use Rattle.std.proofs.Math.Utf8.{encode}
use Rattle.std.proofs.Math.Seq.{take-append_seam}
use Rattle.std.proofs.lemmas.List.{nil_from_length, take-append-drop}
use Rattle.std.proofs.lemmas.Str.{cons_from_encodes, encodes-append, length-le-encodes}

-- one more character is passed
tail_of_drop : (cs es : List ℕ) (i c : ℕ) → drop i cs ≡ c ∷ es → drop (suc i) cs ≡ es
tail_of_drop [] es zero c e = absurd (cc)
tail_of_drop [] es (suc i) c e = absurd (cc)
tail_of_drop (x ∷ cs) es zero c e = cc
tail_of_drop (x ∷ cs) es (suc i) c e = tail_of_drop cs es i c e

pub passed_more : (cs rest next : List ℕ) (i c : ℕ) → rest ≡ encode_utf8_all (drop i cs) → rest ≡ encode c ++ next → next ≡ encode_utf8_all (drop (i + 1) cs)
passed_more cs rest next i c e n =
    let h = cons_from_encodes (drop i cs) next c (sym e ∙ n) in
    let t : drop (i + 1) cs ≡ h.0 = rw add-one (tail_of_drop cs h.0 i c h.1) in
    sym h.2 ∙ ap encode_utf8_all (sym t)

-- a text that has ended
none_left : (cs : List ℕ) (i : ℕ) → length (drop i cs) ≡ 0 → (n : ℕ) → i ≤ n → drop n cs ≡ []
none_left cs i e n l = nil_from_length (drop n cs) (omega (arith, length-drop i cs, length-drop n cs))

pub passed_all : (cs rest : List ℕ) (i n : ℕ) → rest ≡ encode_utf8_all (drop i cs) → length rest ≡ 0 → i ≤ n → [] ≡ encode_utf8_all (drop n cs)
passed_all cs rest i n e z l =
    let empty : length (drop i cs) ≡ 0 = omega (arith, length-le-encodes (drop i cs), ap length e) in
    ap encode_utf8_all (sym (none_left cs i empty n l))

-- what stands before the rest
front_and_rest : (cs text rest : List ℕ) (n : ℕ) → encode_utf8_all cs ≡ text → rest ≡ encode_utf8_all (drop n cs) → encode_utf8_all (take n cs) ++ rest ≡ text
front_and_rest cs text rest n t r =
    ap (λ z. encode_utf8_all (take n cs) ++ z) r ∙ sym (encodes-append (take n cs) (drop n cs)) ∙ ap encode_utf8_all (take-append-drop n cs) ∙ t

pub rest_within : (cs text rest : List ℕ) (n : ℕ) → encode_utf8_all cs ≡ text → rest ≡ encode_utf8_all (drop n cs) → length rest ≤ length text
rest_within cs text rest n t r =
    omega (arith, length-append (encode_utf8_all (take n cs)) rest, ap length (front_and_rest cs text rest n t r))

pub front_of : (cs text rest : List ℕ) (n : ℕ) → encode_utf8_all cs ≡ text → rest ≡ encode_utf8_all (drop n cs) → take (length text - length rest) text ≡ encode_utf8_all (take n cs)
front_of cs text rest n t r =
    let both : encode_utf8_all (take n cs) ++ rest ≡ text = front_and_rest cs text rest n t r in
    let long : length text - length rest ≡ length (encode_utf8_all (take n cs)) = omega (arith, length-append (encode_utf8_all (take n cs)) rest, ap length both) in
    ap (λ k. take k text) long ∙ ap (λ z. take (length (encode_utf8_all (take n cs))) z) (sym both) ∙ take-append_seam (encode_utf8_all (take n cs)) rest
