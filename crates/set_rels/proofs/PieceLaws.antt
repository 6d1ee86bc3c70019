-- Inputs in pieces: their ends, and their rows where none ends in a fault.
use Rattle.std.proofs.Common.{◌≡◌, ◌∙◌, ◌≢◌, ℕ, ◌+◌, ◌<◌, ◌≤◌, List, [], ◌∷◌, ◌++◌, Option, Some, None, Result, Ok, Err, IfOk, length, map, drop, get_or, refl, sym, ap, ap₂, arith, append_assoc}
use Rattle.std.specs.List.{All, AllByRecursion, flat_map}
use Rattle.std.specs.Option.{option_or}
use Rattle.std.proofs.lemmas.List.{length-append, drop_more, drop_all}
use Rattle.std.proofs.lemmas.List.Elements.{recursion_from_All}
use Rattle.std.proofs.lemmas.Simd.{map-map}
use Rattle.sub_types.specs.declared.fault.Fault.{Fault}
use Rattle.sub_types.specs.Stream.{Stream, rows_alone, ended, followed_by, glue}
use Rattle.sub_types.proofs.StreamLaws.{glue-flat}
use Rattle.batch.specs.declared.batch.Batch.{Batch}
use Rattle.batch.specs.declared.batch.Piece.{Piece}
use Rattle.batch.specs.BatchRows.{rows_of, stream_of_piece}
use Rattle.batch_places.proofs.PlaceLaws.{length-rows}
use Rattle.plan_typed.specs.declared.rel.SetOp.{SetOp}
use Rattle.plan_typed.specs.declared.rel.SetOp.TheVariants as ops
use Rattle.plan_denote.specs.Rows.{Row, unless_fault}
use Rattle.plan_denote.specs.Sets.{first_fault, set_in, set_rows}
use Rattle.set_rels.specs.Inputs.{stream_of, rows_in}
use Rattle.set_rels.specs.Keyed.{all_rows}

-- the end of a stream and what follows it
end_by : (rows : List Row) (end : Option Fault) (rest : Stream Row) → (followed_by (record { rows = rows; end = end }) rest).end ≡ option_or end rest.end
end_by rows None rest = refl
end_by rows (Some fault) rest = refl

or_some : (end other : Option Fault) (fault : Fault) → end ≡ Some fault → option_or end other ≡ end
or_some None other fault e = absurd (cc)
or_some (Some f) other fault e = refl

or_none : (end other : Option Fault) → end ≡ None → option_or end other ≡ other
or_none None other e = refl
or_none (Some f) other e = absurd (cc)

-- a piece that ends in a fault ends all, and one that doesn't leaves the end to the others
pub end_found : (pieces : List Piece) (i : ℕ) (piece : Piece) (fault : Fault) → i < length pieces → piece ≡ get_or pieces i piece → piece.end ≡ Some fault → (stream_of (drop i pieces)).end ≡ piece.end
end_found pieces i piece fault h at is =
    ap (λ l. (stream_of l).end) (drop_more pieces i piece h ∙ ap (λ p. p ∷ drop (i + 1) pieces) (sym at))
    ∙ end_by (rows_of piece.batch) piece.end (stream_of (drop (i + 1) pieces))
    ∙ or_some piece.end (stream_of (drop (i + 1) pieces)).end fault is

pub end_passed : (pieces : List Piece) (i : ℕ) (piece : Piece) → i < length pieces → piece ≡ get_or pieces i piece → piece.end ≡ None → (stream_of (drop i pieces)).end ≡ (stream_of (drop (i + 1) pieces)).end
end_passed pieces i piece h at is =
    ap (λ l. (stream_of l).end) (drop_more pieces i piece h ∙ ap (λ p. p ∷ drop (i + 1) pieces) (sym at))
    ∙ end_by (rows_of piece.batch) piece.end (stream_of (drop (i + 1) pieces))
    ∙ or_none piece.end (stream_of (drop (i + 1) pieces)).end is

pub end_all : (pieces : List Piece) (i : ℕ) → length pieces ≤ i → (stream_of (drop i pieces)).end ≡ None
end_all pieces i h = ap (λ l. (stream_of l).end) (drop_all i pieces h)

-- pieces without a fault are their rows
whole_head : (rows : List Row) (end : Option Fault) (rest : Stream Row) (more : List Row) → (followed_by (record { rows = rows; end = end }) rest).end ≡ None → (rest.end ≡ None → rest ≡ rows_alone more)
    → followed_by (record { rows = rows; end = end }) rest ≡ rows_alone (rows ++ more)
whole_head rows None rest more e f = ap (λ (s : Stream Row). record { rows = rows ++ s.rows; end = s.end }) (f e)
whole_head rows (Some fault) rest more e f = absurd (cc)

pub whole : (pieces : List Piece) → (stream_of pieces).end ≡ None → stream_of pieces ≡ rows_alone (rows_in pieces)
whole [] e = refl
whole (piece ∷ pieces) e = whole_head (rows_of piece.batch) piece.end (stream_of pieces) (rows_in pieces) e (whole pieces)

none_first : (end other : Option Fault) → None ≡ option_or end other → (end ≡ None) × (None ≡ other)
none_first None other e = (refl, e)
none_first (Some f) other e = absurd (cc)

-- where no input ends in a fault, each is its rows
pub whole_inputs : {I : Type 0} (pieces_in : I → List Piece) (inputs : List I) → None ≡ first_fault (map (λ input. stream_of (pieces_in input)) inputs) → map (λ input. (stream_of (pieces_in input)).rows) inputs ≡ map (λ input. rows_in (pieces_in input)) inputs
whole_inputs pieces_in [] e = refl
whole_inputs pieces_in (input ∷ inputs) e =
    let both = none_first (stream_of (pieces_in input)).end (first_fault (map (λ one. stream_of (pieces_in one)) inputs)) e in
    ap₂ (λ rows more. rows ∷ more) (ap (λ (s : Stream Row). s.rows) (whole (pieces_in input) both.0)) (whole_inputs pieces_in inputs both.1)

-- the rows of the batches of pieces
rows_by_streams : (pieces : List Piece) → all_rows (map (λ (piece : Piece). piece.batch) pieces) ≡ flat_map (λ (s : Stream Row). s.rows) (map stream_of_piece pieces)
rows_by_streams [] = refl
rows_by_streams (piece ∷ pieces) = ap (λ more. rows_of piece.batch ++ more) (rows_by_streams pieces)

rows_before : (pieces : List Piece) (rest : List (Stream Row)) → flat_map (λ (s : Stream Row). s.rows) (map stream_of_piece pieces ++ rest) ≡ rows_in pieces ++ flat_map (λ (s : Stream Row). s.rows) rest
rows_before [] rest = refl
rows_before (piece ∷ pieces) rest =
    ap (λ more. rows_of piece.batch ++ more) (rows_before pieces rest) ∙ sym (append_assoc (rows_of piece.batch) (rows_in pieces) (flat_map (λ (s : Stream Row). s.rows) rest))

rows_by_inputs : {I : Type 0} (pieces_in : I → List Piece) (inputs : List I) → flat_map (λ (s : Stream Row). s.rows) (flat_map (λ input. map stream_of_piece (pieces_in input)) inputs) ≡ flat_map (λ rows. rows) (map (λ input. rows_in (pieces_in input)) inputs)
rows_by_inputs pieces_in [] = refl
rows_by_inputs pieces_in (input ∷ inputs) =
    rows_before (pieces_in input) (flat_map (λ one. map stream_of_piece (pieces_in one)) inputs) ∙ ap (λ more. rows_in (pieces_in input) ++ more) (rows_by_inputs pieces_in inputs)

pub rows_of_runs : {I : Type 0} (pieces_in : I → List Piece) (inputs : List I) (pieces : List Piece) (runs : List Batch) → map stream_of_piece pieces ≡ flat_map (λ input. map stream_of_piece (pieces_in input)) inputs → runs ≡ map (λ (piece : Piece). piece.batch) pieces
    → all_rows runs ≡ flat_map (λ rows. rows) (map (λ input. rows_in (pieces_in input)) inputs)
rows_of_runs pieces_in inputs pieces runs streams runs_are =
    ap all_rows runs_are ∙ rows_by_streams pieces ∙ ap (flat_map (λ (s : Stream Row). s.rows)) streams ∙ rows_by_inputs pieces_in inputs

-- batches as pieces without a fault
ends_none : (pieces : List Piece) → AllByRecursion (λ (piece : Piece). piece.end ≡ None) pieces → (stream_of pieces).end ≡ None
ends_none [] all = refl
ends_none (piece ∷ pieces) all = end_by (rows_of piece.batch) piece.end (stream_of pieces) ∙ or_none piece.end (stream_of pieces).end all.0 ∙ ends_none pieces all.1

rows_by_batches : (pieces : List Piece) → rows_in pieces ≡ all_rows (map (λ (piece : Piece). piece.batch) pieces)
rows_by_batches [] = refl
rows_by_batches (piece ∷ pieces) = ap (λ more. rows_of piece.batch ++ more) (rows_by_batches pieces)

pub stream_of_batches : (pieces : List Piece) (batches : List Batch) → map (λ (piece : Piece). piece.batch) pieces ≡ batches → All (λ (piece : Piece). piece.end ≡ None) pieces → stream_of pieces ≡ rows_alone (all_rows batches)
stream_of_batches pieces batches are none =
    whole pieces (ends_none pieces (recursion_from_All (λ (piece : Piece). piece.end ≡ None) pieces none)) ∙ ap rows_alone (rows_by_batches pieces ∙ ap all_rows are)

-- the operations that need all rows of their inputs
pub of_whole : (op : SetOp) (inputs : List (Stream Row)) → (op ≢ ops.UnionAll) → set_rows op inputs ≡ unless_fault (first_fault inputs) (rows_alone (set_in op (map (λ input. input.rows) inputs)))
unfolding set_rows
of_whole ops.MinusPrimary inputs h = refl
of_whole ops.MinusPrimaryAll inputs h = refl
of_whole ops.IntersectionPrimary inputs h = refl
of_whole ops.IntersectionMultiset inputs h = refl
of_whole ops.IntersectionMultisetAll inputs h = refl
of_whole ops.UnionDistinct inputs h = refl
of_whole ops.UnionAll inputs h = absurd (h refl)

pub of_inputs : {I : Type 0} (op : SetOp) (pieces_in : I → List Piece) (inputs : List I) (result : Stream Row) → (op ≢ ops.UnionAll)
    → result ≡ unless_fault (first_fault (map (λ input. stream_of (pieces_in input)) inputs)) (rows_alone (set_in op (map (λ input. (stream_of (pieces_in input)).rows) inputs)))
    → result ≡ set_rows op (map (λ input. stream_of (pieces_in input)) inputs)
of_inputs op pieces_in inputs result h is =
    is
    ∙ ap (λ rows. unless_fault (first_fault (map (λ input. stream_of (pieces_in input)) inputs)) (rows_alone (set_in op rows))) (sym (map-map (λ (s : Stream Row). s.rows) (λ input. stream_of (pieces_in input)) inputs))
    ∙ sym (of_whole op (map (λ input. stream_of (pieces_in input)) inputs) h)

-- a fault leaves no rows, and without one the rows are those of the operation
pub fault_is : (result s : Stream Row) (found : Option Fault) (fault : Fault) → Some fault ≡ found → result ≡ ended (Some fault) → result ≡ unless_fault found s
fault_is result s found fault e is = is ∙ ap (λ f. unless_fault f s) e

pub rows_are : {I : Type 0} (op : SetOp) (pieces_in : I → List Piece) (inputs : List I) (result : Stream Row) (rows : List Row) → None ≡ first_fault (map (λ input. stream_of (pieces_in input)) inputs) → result ≡ rows_alone rows → rows ≡ set_in op (map (λ input. rows_in (pieces_in input)) inputs)
    → result ≡ unless_fault (first_fault (map (λ input. stream_of (pieces_in input)) inputs)) (rows_alone (set_in op (map (λ input. (stream_of (pieces_in input)).rows) inputs)))
rows_are op pieces_in inputs result rows none is rows_is =
    is ∙ ap rows_alone (rows_is ∙ ap (set_in op) (sym (whole_inputs pieces_in inputs none)))
    ∙ ap (λ f. unless_fault f (rows_alone (set_in op (map (λ input. (stream_of (pieces_in input)).rows) inputs)))) none

-- UNION_ALL
flat_mapped : {I A : Type 0} (f : I → List A) (inputs : List I) → flat_map (λ part. part) (map f inputs) ≡ flat_map f inputs
flat_mapped f [] = refl
flat_mapped f (input ∷ inputs) = ap (λ more. f input ++ more) (flat_mapped f inputs)

pub all_of : {I : Type 0} (pieces_in : I → List Piece) (inputs : List I) (pieces : List Piece) → map stream_of_piece pieces ≡ flat_map (λ input. map stream_of_piece (pieces_in input)) inputs → stream_of pieces ≡ set_rows ops.UnionAll (map (λ input. stream_of (pieces_in input)) inputs)
unfolding set_rows
all_of pieces_in inputs pieces e =
    ap glue (e ∙ sym (flat_mapped (λ input. map stream_of_piece (pieces_in input)) inputs))
    ∙ sym (glue-flat (map (λ input. map stream_of_piece (pieces_in input)) inputs))
    ∙ ap glue (map-map glue (λ input. map stream_of_piece (pieces_in input)) inputs)

-- the rows of pieces, as they are counted
pub length-more : (pieces : List Piece) (i end more : ℕ) (piece : Piece) (all : ℕ) → i < length pieces → piece ≡ get_or pieces i piece → more ≡ end + piece.batch.rows → end + length (rows_in (drop i pieces)) ≡ all → more + length (rows_in (drop (i + 1) pieces)) ≡ all
length-more pieces i end more piece all h at is so_far =
    let parts : drop i pieces ≡ piece ∷ drop (i + 1) pieces = drop_more pieces i piece h ∙ ap (λ p. p ∷ drop (i + 1) pieces) (sym at) in
    let count : length (rows_in (drop i pieces)) ≡ length (rows_of piece.batch) + length (rows_in (drop (i + 1) pieces)) = ap (λ l. length (rows_in l)) parts ∙ length-append (rows_of piece.batch) (rows_in (drop (i + 1) pieces)) in
    omega (arith, length-rows piece.batch)

pub length-all : (pieces : List Piece) (i end all : ℕ) → length pieces ≤ i → end + length (rows_in (drop i pieces)) ≡ all → end ≡ all
length-all pieces i end all h so_far =
    let none : length (rows_in (drop i pieces)) ≡ 0 = ap (λ l. length (rows_in l)) (drop_all i pieces h) in
    omega arith

-- two clauses of one result
pub IfOk-both : {A E : Type 0} (result : Result A E) (P Q R : A → Type 0) → ((x : A) → P x → Q x → R x) → IfOk result P → IfOk result Q → IfOk result R
IfOk-both (Ok x) P Q R f p q = f x p q
IfOk-both (Err e) P Q R f p q = tt
