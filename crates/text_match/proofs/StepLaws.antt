-- One step of each loop over segments and places.
use Rattle.std.proofs.Common.{◌≡◌, ◌==◌, ℕ, List, [], ◌∷◌, Option, Some, None, length, sym, ap, ◌∙◌, eqb-true, eq-eqb, IsUtf8, chars, encode_utf8_all}
use Rattle.std.proofs.lemmas.List.{nil_from_length}
use Rattle.std.proofs.lemmas.Str.{chars-nil, encodes-chars}
use Rattle.plan_denote.specs.Texts.{PERCENT, some_end, is_like}
use Rattle.text_match.specs.Segments.{SplitsAtPercent, after_segment, rest_passes, first_of, after_leftmost, after_character}
use Rattle.text_match.proofs.TextLaws.{same_tests}
use Rattle.text_match.proofs.SegmentLaws.{is_like-append, some_end-is_like}
use Rattle.text_match.proofs.SignLaws.{StepsOver, after_character-none}

-- a pattern's first segment, at the text's start
pub is_like-split : (text pattern segment later : List ℕ) (o : Option (List ℕ)) → SplitsAtPercent pattern segment later → o ≡ after_segment (chars segment) (chars text)
    → rest_passes (some_end (is_like (chars later))) o ≡ is_like (chars pattern) (chars text)
is_like-split text pattern segment later o split e =
    ap (rest_passes (some_end (is_like (chars later)))) e
    ∙ sym (is_like-append (chars segment) (PERCENT ∷ chars later) (chars text) split.lacks)
    ∙ ap (λ p. is_like p (chars text)) (sym split.signs)

-- and at its leftmost place
pub some_end-split : (text pattern segment later : List ℕ) (o : Option (List ℕ)) → SplitsAtPercent pattern segment later → o ≡ after_leftmost (chars segment) (chars text)
    → rest_passes (some_end (is_like (chars later))) o ≡ some_end (is_like (chars pattern)) (chars text)
some_end-split text pattern segment later o split e =
    ap (rest_passes (some_end (is_like (chars later)))) e
    ∙ sym (some_end-is_like (chars segment) (chars later) (chars text) split.lacks)
    ∙ ap (λ p. some_end (is_like p) (chars text)) (sym split.signs)

-- the leftmost place is this one
pub after_leftmost-here : (segment text rest : List ℕ) → Some rest ≡ after_segment segment text → Some rest ≡ after_leftmost segment text
after_leftmost-here segment [] rest e = e
after_leftmost-here segment (c ∷ text) rest e = ap (λ o. first_of o (after_leftmost segment text)) e

-- it isn't, and there is another character
pub after_leftmost-next : (segment text later : List ℕ) → StepsOver text later → None ≡ after_segment segment (chars text) → after_leftmost segment (chars text) ≡ after_leftmost segment (chars later)
after_leftmost-next segment text later step none =
    ap (after_leftmost segment) step.all
    ∙ ap (λ o. first_of o (after_leftmost segment (chars later))) (ap (after_segment segment) (sym step.all) ∙ sym none)

pub no_characters : (text : List ℕ) → IsUtf8 text → None ≡ after_character text → chars text ≡ []
no_characters text u e = ap chars (after_character-none text u (sym e)) ∙ chars-nil

-- it isn't, and the text has ended
pub after_leftmost-ended : (segment text : List ℕ) → IsUtf8 text → None ≡ after_segment segment (chars text) → None ≡ after_character text → None ≡ after_leftmost segment (chars text)
after_leftmost-ended segment text u none e =
    let empty = no_characters text u e in
    none ∙ ap (after_segment segment) empty ∙ sym (ap (after_leftmost segment) empty)

-- a text is empty as its characters are
pub empty-chars : (text : List ℕ) → IsUtf8 text → (length text == 0) ≡ (length (chars text) == 0)
empty-chars text u = same_tests (length text == 0) (length (chars text) == 0)
    (λ yes. eq-eqb (length (chars text)) 0 (ap length (ap chars (nil_from_length text (eqb-true (length text) 0 yes)) ∙ chars-nil)))
    (λ yes. eq-eqb (length text) 0 (ap length (sym (encodes-chars text u) ∙ ap encode_utf8_all (nil_from_length (chars text) (eqb-true (length (chars text)) 0 yes)))))
