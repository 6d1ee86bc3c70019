-- Pieces up to their first fault, and pieces behind others.
use Rattle.std.proofs.Common.{◌≡◌, ◌∙◌, List, [], ◌∷◌, ◌++◌, Option, Some, None, map, refl, sym, ap, subst, append_assoc}
use Rattle.std.specs.List.{All, AllByRecursion, flat_map}
use Rattle.std.proofs.lemmas.List.{append-nil, map-append}
use Rattle.std.proofs.lemmas.List.Elements.{All-nil, All-cons}
use Rattle.sub_types.specs.declared.fault.Fault.{Fault}
use Rattle.sub_types.specs.Stream.{Stream, rows_alone, followed_by}
use Rattle.batch.specs.declared.batch.Piece.{Piece}
use Rattle.batch.specs.BatchRows.{rows_of, stream_of_piece}
use Rattle.plan_denote.specs.Rows.{Row}
use Rattle.set_rels.specs.Inputs.{stream_of, rows_in}
use Rattle.pipe_ends.specs.Given.{behind, up_to_fault}

-- a stream of these rows and this end
abbrev pub stream : List Row → Option Fault → Stream Row
stream rows end = record { rows = rows; end = end }

same_behind : (rows : List Row) (end : Option Fault) (rest kept : List Piece) → stream_of kept ≡ stream_of rest → followed_by (stream rows end) (stream_of (behind end kept)) ≡ followed_by (stream rows end) (stream_of rest)
same_behind rows None rest kept same = ap (followed_by (stream rows None)) same
same_behind rows (Some fault) rest kept same = refl

-- what is behind a fault doesn't count
pub same_stream : (pieces : List Piece) → stream_of (up_to_fault pieces) ≡ stream_of pieces
same_stream [] = refl
same_stream (piece ∷ pieces) = same_behind (rows_of piece.batch) piece.end pieces (up_to_fault pieces) (same_stream pieces)

rows_behind : (rows : List Row) (end : Option Fault) (kept : List Piece) → rows_in kept ≡ (stream_of kept).rows → rows ++ rows_in (behind end kept) ≡ (followed_by (stream rows end) (stream_of (behind end kept))).rows
rows_behind rows None kept same = ap (λ more. rows ++ more) same
rows_behind rows (Some fault) kept same = append-nil rows

-- and all rows up to it do
pub all_count : (pieces : List Piece) → rows_in (up_to_fault pieces) ≡ (stream_of (up_to_fault pieces)).rows
all_count [] = refl
all_count (piece ∷ pieces) = rows_behind (rows_of piece.batch) piece.end (up_to_fault pieces) (all_count pieces)

kept_behind : (P : Piece → Type 0) (end : Option Fault) (kept : List Piece) → AllByRecursion P kept → AllByRecursion P (behind end kept)
kept_behind P None kept all = all
kept_behind P (Some fault) kept all = tt

-- what holds of all pieces holds of these
pub kept_all : (P : Piece → Type 0) (pieces : List Piece) → AllByRecursion P pieces → AllByRecursion P (up_to_fault pieces)
kept_all P [] all = tt
kept_all P (piece ∷ pieces) all = (all.0, kept_behind P piece.end (up_to_fault pieces) (kept_all P pieces all.1))

-- a piece behind others
alone : (rows : List Row) (end : Option Fault) → followed_by (stream rows end) (rows_alone []) ≡ stream rows end
alone rows None = ap (λ all. stream all None) (append-nil rows)
alone rows (Some fault) = refl

pub same_alone : (s : Stream Row) → followed_by s (rows_alone []) ≡ s
same_alone s = alone s.rows s.end

-- one piece alone
pub one_stream : (pieces : List Piece) (piece : Piece) (s : Stream Row) → pieces ≡ piece ∷ [] → stream_of_piece piece ≡ s → stream_of pieces ≡ s
one_stream pieces piece s is same = ap stream_of is ∙ same_alone (stream_of_piece piece) ∙ same

pub one_holds : (P : Piece → Type 0) (pieces : List Piece) (piece : Piece) → pieces ≡ piece ∷ [] → P piece → All P pieces
one_holds P pieces piece is here = subst (All P) (sym is) (All-cons P piece [] here (All-nil P))

-- one item more, of a list that is gone over
pub held_more : {A B : Type 0} (f : A → B) (old new : List A) (x : A) (y : B) (all rest whole : List B) → all ≡ y ∷ rest → new ≡ old ++ x ∷ [] → f x ≡ y → map f old ++ all ≡ whole → map f new ++ rest ≡ whole
held_more f old new x y all rest whole parts pushed same so_far =
    ap (λ l. map f l ++ rest) pushed
    ∙ ap (λ l. l ++ rest) (map-append f old (x ∷ []))
    ∙ append_assoc (map f old) (f x ∷ []) rest
    ∙ ap (λ one. map f old ++ one ∷ rest) same
    ∙ ap (λ l. map f old ++ l) (sym parts)
    ∙ so_far

pub flat_more : {A B : Type 0} (f : B → List A) (old new : List A) (x : A) (y : B) (all rest : List B) (whole : List A) → all ≡ y ∷ rest → new ≡ old ++ x ∷ [] → x ∷ [] ≡ f y → old ++ flat_map f all ≡ whole → new ++ flat_map f rest ≡ whole
flat_more f old new x y all rest whole parts pushed same so_far =
    let left : old ++ (f y ++ flat_map f rest) ≡ whole = ap (λ l. old ++ flat_map f l) (sym parts) ∙ so_far in
    ap (λ l. l ++ flat_map f rest) pushed
    ∙ append_assoc old (x ∷ []) (flat_map f rest)
    ∙ ap (λ l. old ++ (l ++ flat_map f rest)) same
    ∙ left
