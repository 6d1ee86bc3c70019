-- Pieces one after the other, as batches.
use Rattle.std.proofs.Common.{◌≡◌, ◌∙◌, List, [], ◌∷◌, ◌++◌, Option, Some, None, map, sym, ap, subst, append_assoc}
use Rattle.std.specs.Prelude.{IsSome}
use Rattle.std.specs.List.{All, flat_map}
use Rattle.std.proofs.lemmas.List.{append-nil}
use Rattle.std.proofs.lemmas.List.Concat.{flat_map-append}
use Rattle.std.proofs.lemmas.List.Elements.{All-push}
use Rattle.sub_types.specs.declared.fault.Fault.{Fault}
use Rattle.sub_types.specs.declared.kind.Ty.{Ty}
use Rattle.sub_types.specs.declared.value.Value.{Value}
use Rattle.sub_types.specs.Stream.{Stream, rows_alone, followed_by, glue}
use Rattle.batch.specs.declared.batch.Batch.{Batch}
use Rattle.batch.specs.declared.batch.Piece.{Piece}
use Rattle.batch.specs.BatchRows.{rows_of, types_of, stream_of_piece}

abbrev Row : Type 0
Row = List Value

abbrev stream_of : List Piece → Stream Row
stream_of pieces = glue (map stream_of_piece pieces)

flat_more : (batches : List Batch) (batch : Batch) → flat_map rows_of (batches ++ batch ∷ []) ≡ flat_map rows_of batches ++ rows_of batch
flat_more batches batch = flat_map-append rows_of batches (batch ∷ []) ∙ ap (λ rows. flat_map rows_of batches ++ rows) (append-nil (rows_of batch))

pub one_more : (batches : List Batch) (batch : Batch) (rows : List Row) (end : Option Fault) (rest all : Stream Row) → end ≡ None → rows_of batch ≡ rows
    → followed_by (rows_alone (flat_map rows_of batches)) (followed_by (record { rows = rows; end = end }) rest) ≡ all → followed_by (rows_alone (flat_map rows_of (batches ++ batch ∷ []))) rest ≡ all
one_more batches batch rows (Some fault) rest all none is so = absurd (cc)
one_more batches batch rows None rest all none is so =
    ap (λ (done : List Row). followed_by (rows_alone done) rest) (flat_more batches batch ∙ ap (λ last. flat_map rows_of batches ++ last) is)
    ∙ ap (λ (given : List Row). record { rows = given; end = rest.end }) (append_assoc (flat_map rows_of batches) rows rest.rows) ∙ so

pub next_batch : (old new : List Batch) (batch : Batch) (piece : Piece) (rest left pieces : List Piece) → left ≡ piece ∷ rest → new ≡ old ++ batch ∷ [] → piece.end ≡ None → rows_of batch ≡ rows_of piece.batch
    → followed_by (rows_alone (flat_map rows_of old)) (stream_of left) ≡ stream_of pieces → followed_by (rows_alone (flat_map rows_of new)) (stream_of rest) ≡ stream_of pieces
next_batch old new batch piece rest left pieces is pushed none same so =
    ap (λ (all : List Batch). followed_by (rows_alone (flat_map rows_of all)) (stream_of rest)) pushed
    ∙ one_more old batch (rows_of piece.batch) piece.end (stream_of rest) (stream_of pieces) none same (ap (λ (all : List Piece). followed_by (rows_alone (flat_map rows_of old)) (stream_of all)) (sym is) ∙ so)

pub next_typed : (types : List Ty) (old new : List Batch) (batch : Batch) → new ≡ old ++ batch ∷ [] → types_of batch ≡ types → All (λ (one : Batch). types_of one ≡ types) old → All (λ (one : Batch). types_of one ≡ types) new
next_typed types old new batch pushed same all =
    subst (All (λ (one : Batch). types_of one ≡ types)) (sym pushed) (All-push (λ (one : Batch). types_of one ≡ types) old batch all same)

pub last_one : (batches : List Batch) (batch : Batch) (rows : List Row) (end : Option Fault) (rest all : Stream Row) → IsSome end → rows_of batch ≡ rows
    → followed_by (rows_alone (flat_map rows_of batches)) (followed_by (record { rows = rows; end = end }) rest) ≡ all → record { rows = flat_map rows_of (batches ++ batch ∷ []); end = end } ≡ all
last_one batches batch rows None rest all some is so = absurd (cc)
last_one batches batch rows (Some fault) rest all some is so =
    ap (λ (done : List Row). record { rows = done; end = Some fault }) (flat_more batches batch ∙ ap (λ last. flat_map rows_of batches ++ last) is) ∙ so

pub none_more : (batches : List Batch) (all : Stream Row) → followed_by (rows_alone (flat_map rows_of batches)) (rows_alone []) ≡ all → rows_alone (flat_map rows_of batches) ≡ all
none_more batches all so = ap (λ (rows : List Row). rows_alone rows) (sym (append-nil (flat_map rows_of batches))) ∙ so
