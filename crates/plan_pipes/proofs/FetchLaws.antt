-- A fetch from an input in pieces.
use Rattle.std.proofs.Common.{◌≡◌, ◌∙◌, ℕ, zero, suc, ◌+◌, ◌-◌, ◌≤◌, List, [], ◌∷◌, ◌++◌, Bool, true, false, Option, Some, None, length, take, drop, refl, sym, ap, arith}
use Rattle.std.proofs.lemmas.List.{append-nil, length-append, length-drop}
use Rattle.std.proofs.lemmas.Bool.{leb-true, le-leb}
use Rattle.std.proofs.lemmas.Bool.Decides.{nat_tests}
use Rattle.std.specs.Prelude.{nat_le, if◌then◌else◌}
use Rattle.sub_types.specs.declared.fault.Fault.{Fault}
use Rattle.sub_types.specs.Stream.{Stream, followed_by, glue}
use Rattle.plan_denote.specs.Rows.{Row}
use Rattle.plan_denote.specs.Fetch.{fetched}
use Rattle.plan_pipes.specs.FetchPieces.{offset_after, count_after, fetched_pieces}

abbrev stream : {R : Type 0} → List R → Option Fault → Stream R
stream rows end = record { rows = rows; end = end }

drop_none : {A : Type 0} (n : ℕ) → drop {A = A} n [] ≡ []
drop_none zero = refl
drop_none (suc n) = refl

drop_both : {A : Type 0} (n : ℕ) (xs ys : List A) → drop n (xs ++ ys) ≡ drop n xs ++ drop (n - length xs) ys
drop_both zero [] ys = refl
drop_both (suc n) [] ys = let same : suc n ≡ suc n - 0 = omega arith in ap (λ k. drop k ys) same
drop_both zero (x ∷ xs) ys = let none : 0 ≡ 0 - suc (length xs) = omega arith in ap (λ k. x ∷ (xs ++ drop k ys)) none
drop_both (suc n) (x ∷ xs) ys =
    let same : n - length xs ≡ suc n - suc (length xs) = omega arith in
    drop_both n xs ys ∙ ap (λ k. drop n xs ++ drop k ys) same

take_both : {A : Type 0} (n : ℕ) (xs ys : List A) → take n (xs ++ ys) ≡ take n xs ++ take (n - length xs) ys
take_both zero [] ys = refl
take_both (suc n) [] ys = let same : suc n ≡ suc n - 0 = omega arith in ap (λ k. take k ys) same
take_both zero (x ∷ xs) ys = let none : 0 ≡ 0 - suc (length xs) = omega arith in ap (λ k. take k ys) none
take_both (suc n) (x ∷ xs) ys =
    let same : n - length xs ≡ suc n - suc (length xs) = omega arith in
    ap (λ rest. x ∷ rest) (take_both n xs ys) ∙ ap (λ k. x ∷ (take n xs ++ take k ys)) same

-- whether there are enough rows
enough : (offset many rows more : ℕ) → nat_le (offset + many) (rows + more) ≡ nat_le ((offset - rows) + (many - (rows - offset))) more
enough offset many rows more = grind (arith, nat_tests)

abbrev end_if : Bool → Option Fault → Option Fault
end_if test end = if test then None else end

-- nothing more is taken where a fault came behind all that was asked for
satisfied : (offset many : ℕ) (rows : List Row) (fault : Fault) (rest : Stream Row) (test : Bool) → nat_le (offset + many) (length rows) ≡ test
    → stream (take many (drop offset rows)) (end_if test (Some fault))
    ≡ followed_by (stream (take many (drop offset rows)) (end_if test (Some fault)))
    (stream (take (many - (length rows - offset)) (drop (offset - length rows) rest.rows)) (end_if (nat_le ((offset - length rows) + (many - (length rows - offset))) (length rest.rows)) rest.end))
satisfied offset many rows fault rest false is = refl
satisfied offset many rows fault rest true is =
    let taken = take many (drop offset rows) in
    let left = drop (offset - length rows) rest.rows in
    let within : offset + many ≤ length rows = leb-true (offset + many) (length rows) is in
    let none : 0 ≡ many - (length rows - offset) = omega (arith, within) in
    let met : true ≡ nat_le ((offset - length rows) + (many - (length rows - offset))) (length rest.rows) = sym (le-leb ((offset - length rows) + (many - (length rows - offset))) (length rest.rows) (omega (arith, within))) in
    let all : taken ≡ taken ++ take (many - (length rows - offset)) left = sym (append-nil taken) ∙ ap (λ k. taken ++ take k left) none in
    λ i. stream (all i) (end_if (met i) rest.end)

without_end : (test : Bool) (rows : List Row) (rest : Stream Row) → stream (rows ++ rest.rows) rest.end ≡ followed_by (stream rows (end_if test None)) rest
without_end true rows rest = refl
without_end false rows rest = refl

glued_parts : (offset : ℕ) (count : Option ℕ) (rows : List Row) (end : Option Fault) (rest : Stream Row)
    → fetched offset count (followed_by (stream rows end) rest) ≡ followed_by (fetched offset count (stream rows end)) (fetched (offset_after offset (length rows)) (count_after offset count (length rows)) rest)
unfolding fetched
glued_parts offset None rows (Some fault) rest = refl
glued_parts offset (Some many) rows (Some fault) rest = satisfied offset many rows fault rest (nat_le (offset + many) (length rows)) refl
glued_parts offset None rows None rest = ap (λ all. stream all rest.end) (drop_both offset rows rest.rows)
glued_parts offset (Some many) rows None rest =
    let left = drop (offset - length rows) rest.rows in
    let taken : take many (drop offset (rows ++ rest.rows)) ≡ take many (drop offset rows) ++ take (many - (length rows - offset)) left =
    ap (take many) (drop_both offset rows rest.rows) ∙ take_both many (drop offset rows) left ∙ ap (λ k. take many (drop offset rows) ++ take (many - k) left) (length-drop offset rows) in
    let test : nat_le (offset + many) (length (rows ++ rest.rows)) ≡ nat_le ((offset - length rows) + (many - (length rows - offset))) (length rest.rows) =
    ap (nat_le (offset + many)) (length-append rows rest.rows) ∙ enough offset many (length rows) (length rest.rows) in
    (λ i. stream (taken i) (end_if (test i) rest.end))
    ∙ without_end (nat_le (offset + many) (length rows)) (take many (drop offset rows))
    (stream (take (many - (length rows - offset)) left) (end_if (nat_le ((offset - length rows) + (many - (length rows - offset))) (length rest.rows)) rest.end))

-- a fetch from a stream and then the rest
pub fetched_glued : (offset : ℕ) (count : Option ℕ) (s rest : Stream Row)
    → fetched offset count (followed_by s rest) ≡ followed_by (fetched offset count s) (fetched (offset_after offset (length s.rows)) (count_after offset count (length s.rows)) rest)
fetched_glued offset count s rest = glued_parts offset count s.rows s.end rest

of_nothing : (offset : ℕ) (count : Option ℕ) → fetched offset count (stream [] None) ≡ stream [] None
unfolding fetched
of_nothing offset None = ap (λ rows. stream rows None) (drop_none offset)
of_nothing offset (Some many) = by_test (nat_le (offset + many) 0) (ap (take many) (drop_none offset) ∙ take_none many)
  where
    take_none : (n : ℕ) → take {A = Row} n [] ≡ []
    take_none zero = refl
    take_none (suc n) = refl

    by_test : (test : Bool) → take many (drop {A = Row} offset []) ≡ [] → stream (take many (drop {A = Row} offset [])) (end_if test None) ≡ stream [] None
    by_test true is = ap (λ rows. stream rows None) is
    by_test false is = ap (λ rows. stream rows None) is

-- a fetch from glued pieces
pub fetched-glue : (offset : ℕ) (count : Option ℕ) (pieces : List (Stream Row)) → fetched offset count (glue pieces) ≡ glue (fetched_pieces offset count pieces)
fetched-glue offset count [] = of_nothing offset count
fetched-glue offset count (piece ∷ pieces) =
    fetched_glued offset count piece (glue pieces)
    ∙ ap (followed_by (fetched offset count piece)) (fetched-glue (offset_after offset (length piece.rows)) (count_after offset count (length piece.rows)) pieces)
