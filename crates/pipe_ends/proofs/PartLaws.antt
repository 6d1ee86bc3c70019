-- What parts hold of the pieces that they are parts of.
use Rattle.std.proofs.Common.{◌≡◌, ◌∙◌, ℕ, ◌+◌, ◌<◌, List, [], ◌∷◌, ◌++◌, true, false, Option, Some, None, length, get_or, drop, map, refl, sym, ap, ap₂, subst}
use Rattle.std.specs.Prelude.{is_some}
use Rattle.std.specs.List.{All, AllByRecursion, flat_map}
use Rattle.std.proofs.lemmas.List.{map-append, drop_more}
use Rattle.std.proofs.lemmas.List.Elements.{recursion_from_All, All-from_recursion}
use Rattle.sub_types.specs.declared.fault.Fault.{Fault}
use Rattle.sub_types.specs.declared.kind.Ty.{Ty}
use Rattle.sub_types.specs.Stream.{Stream, followed_by}
use Rattle.sub_types.specs.Value.{Fits}
use Rattle.batch.specs.declared.batch.Batch.{Batch}
use Rattle.batch.specs.declared.batch.Piece.{Piece}
use Rattle.batch.specs.BatchRows.{rows_of, stream_of_piece, types_of}
use Rattle.plan_denote.specs.Rows.{Row}
use Rattle.rel_specs.specs.declared.join.JoinSpec.{JoinSpec}
use Rattle.rel_specs.specs.declared.key_order.KeyOrder.{KeyOrder}
use Rattle.plan_pipes.specs.declared.pipe.Breaker.{Breaker}
use Rattle.plan_pipes.specs.declared.pipe.Breaker.TheVariants as breakers
use Rattle.denote_typed.proofs.RowsLaws.{Rows}
use Rattle.hash_join.specs.Built.{first_end}
use Rattle.hash_join.specs.declared.build_part.BuildPart.{BuildPart}
use Rattle.set_rels.specs.Inputs.{stream_of}
use Rattle.sort_merge.specs.RowOrder.{in_order}
use Rattle.pipe_steps.specs.Behind.{IsStored}
use Rattle.pipe_parts.specs.Parts.{IsPart, AreParts, ArePartsOf, HaveParts}
use Rattle.pipe_parts.specs.declared.part.Part.{Part}
use Rattle.pipe_parts.specs.declared.part.Part.TheVariants as kept
use Rattle.pipe_ends.specs.Held.{end_in, end_among, right_in}
use Rattle.pipe_ends.specs.Merged.{AreOf}
use Rattle.pipe_ends.proofs.EndLaws.{stream}
use Rattle.pipe_ends.proofs.FitLaws.{HasTypes, FitsOwn, own_rows}

abbrev pub batch_in : Piece → Batch
batch_in piece = piece.batch

-- stored pieces
pub stored_typed : (types : List Ty) (pieces : List Piece) → All (IsStored types) pieces → All (HasTypes types) pieces
stored_typed types pieces stored = λ k d within. (stored k d within).typed

pub stored_fit : (types : List Ty) (pieces : List Piece) → All (IsStored types) pieces → All FitsOwn pieces
stored_fit types pieces stored = λ k d within. (stored k d within).fit

-- the rows of parts fit the types
pub rows_fit : (breaker : Breaker) (types : List Ty) (rows : Stream Row) (all : List Part) → ArePartsOf breaker types rows all → Rows (Fits types) rows
rows_fit breaker types rows all are = subst (Rows (Fits types)) are.rows_are (own_rows types are.pieces (stored_typed types are.pieces are.stored) (stored_fit types are.pieces are.stored))

-- a breaker that keeps pieces as they are
module _ (breaker : Breaker) (is_same : (piece one : Piece) → IsPart breaker piece (kept.Rows one) → one ≡ piece) where
  same_pieces : (pieces taken : List Piece) → AreParts breaker pieces (map kept.Rows taken) → taken ≡ pieces
  same_pieces [] [] are = refl
  same_pieces [] (one ∷ taken) are = absurd are
  same_pieces (piece ∷ pieces) [] are = absurd are
  same_pieces (piece ∷ pieces) (one ∷ taken) are = ap₂ (λ (first : Piece) (more : List Piece). first ∷ more) (is_same piece one are.0) (same_pieces pieces taken are.1)

  module _ (types : List Ty) (all : List Part) (taken : List Piece) (held : map kept.Rows taken ≡ all) where
    taken_are : (rows : Stream Row) (are : ArePartsOf breaker types rows all) → taken ≡ are.pieces
    taken_are rows are = same_pieces are.pieces taken (subst (AreParts breaker are.pieces) (sym held) are.kept)

    pub taken_stream : (rows : Stream Row) → ArePartsOf breaker types rows all → stream_of taken ≡ rows
    taken_stream rows are = ap stream_of (taken_are rows are) ∙ are.rows_are

    taken_stored : HaveParts breaker types all → All (IsStored types) taken
    taken_stored given = subst (All (IsStored types)) (sym (taken_are given.0 given.1)) given.1.stored

    pub taken_typed : HaveParts breaker types all → All (HasTypes types) taken
    taken_typed given = stored_typed types taken (taken_stored given)

    pub taken_fit : HaveParts breaker types all → All FitsOwn taken
    taken_fit given = stored_fit types taken (taken_stored given)

-- a breaker that keeps what is known of each piece
module _ {P : Type 0} (hold : P → Part) (breaker : Breaker) (Of : Stream Row → P → Type 0) (For : List Ty → P → Type 0) (is_known : (piece : Piece) (one : P) → IsPart breaker piece (hold one) → Of (stream_of_piece piece) one × For (types_of piece.batch) one) where
  each_of : (pieces : List Piece) (ones : List P) → AreParts breaker pieces (map hold ones) → AreOf Of (map stream_of_piece pieces) ones
  each_of [] [] are = tt
  each_of [] (one ∷ ones) are = absurd are
  each_of (piece ∷ pieces) [] are = absurd are
  each_of (piece ∷ pieces) (one ∷ ones) are = ((is_known piece one are.0).0, each_of pieces ones are.1)

  each_for : (types : List Ty) (pieces : List Piece) (ones : List P) → AreParts breaker pieces (map hold ones) → AllByRecursion (IsStored types) pieces → AllByRecursion (For types) ones
  each_for types [] [] are stored = tt
  each_for types [] (one ∷ ones) are stored = absurd are
  each_for types (piece ∷ pieces) [] are stored = absurd are
  each_for types (piece ∷ pieces) (one ∷ ones) are stored = (subst (λ (own : List Ty). For own one) stored.0.typed (is_known piece one are.0).1, each_for types pieces ones are.1 stored.1)

  module _ (types : List Ty) (all : List Part) (ones : List P) (held : map hold ones ≡ all) where
    pub all_of : (rows : Stream Row) (are : ArePartsOf breaker types rows all) → AreOf Of (map stream_of_piece are.pieces) ones
    all_of rows are = each_of are.pieces ones (subst (AreParts breaker are.pieces) (sym held) are.kept)

    pub all_for : HaveParts breaker types all → All (For types) ones
    all_for given =
        All-from_recursion (For types) ones
        (each_for types given.1.pieces ones (subst (AreParts breaker given.1.pieces) (sym held) given.1.kept) (recursion_from_All (IsStored types) given.1.pieces given.1.stored))

-- where the parts from a place on end
pub no_end : (end more : Option Fault) → is_some end ≡ false → first_end end more ≡ more
no_end None more none = refl
no_end (Some fault) more none = absurd (cc)

pub its_end : (end more : Option Fault) → is_some end ≡ true → end ≡ first_end end more
its_end None more some = absurd (cc)
its_end (Some fault) more some = refl

pub ends_from : (all : List Part) (i : ℕ) (part : Part) → i < length all → part ≡ get_or all i part → end_among (drop i all) ≡ first_end (end_in part) (end_among (drop (i + 1) all))
ends_from all i part below is = ap end_among (drop_more all i part below ∙ ap (λ (one : Part). one ∷ drop (i + 1) all) (sym is))

-- where parts end, of a breaker that keeps the ends of pieces
behind_end : (rows : List Row) (end more : Option Fault) (pieces : List Piece) → more ≡ (stream_of pieces).end → first_end end more ≡ (followed_by (stream rows end) (stream_of pieces)).end
behind_end rows None more pieces same = same
behind_end rows (Some fault) more pieces same = refl

module _ (breaker : Breaker) (is_end : (piece : Piece) (part : Part) → IsPart breaker piece part → end_in part ≡ piece.end) where
  ends_are : (pieces : List Piece) (all : List Part) → AreParts breaker pieces all → end_among all ≡ (stream_of pieces).end
  ends_are [] [] are = refl
  ends_are [] (part ∷ all) are = absurd are
  ends_are (piece ∷ pieces) [] are = absurd are
  ends_are (piece ∷ pieces) (part ∷ all) are =
      ap (λ (end : Option Fault). first_end end (end_among all)) (is_end piece part are.0) ∙ behind_end (rows_of piece.batch) piece.end (end_among all) pieces (ends_are pieces all are.1)

  parts_end : (types : List Ty) (rows : Stream Row) (all : List Part) → ArePartsOf breaker types rows all → end_among all ≡ rows.end
  parts_end types rows all are = ends_are are.pieces all are.kept ∙ ap (λ (s : Stream Row). s.end) are.rows_are

run_end : (keys : List KeyOrder) (piece : Piece) (part : Part) → IsPart (breakers.Sort keys) piece part → end_in part ≡ piece.end
run_end keys piece (kept.Rows run) is = is.end
run_end keys piece (kept.Groups partial) is = absurd is
run_end keys piece (kept.Sets partial) is = absurd is
run_end keys piece (kept.Built right end) is = absurd is

pub runs_end : (keys : List KeyOrder) (types : List Ty) (rows : Stream Row) (all : List Part) → ArePartsOf (breakers.Sort keys) types rows all → end_among all ≡ rows.end
runs_end keys = parts_end (breakers.Sort keys) (run_end keys)

right_end : (join : JoinSpec) (piece : Piece) (part : Part) → IsPart (breakers.Build join) piece part → end_in part ≡ piece.end
right_end join piece (kept.Rows run) is = absurd is
right_end join piece (kept.Groups partial) is = absurd is
right_end join piece (kept.Sets partial) is = absurd is
right_end join piece (kept.Built right end) is = is.1

pub rights_end : (join : JoinSpec) (types : List Ty) (rows : Stream Row) (all : List Part) → ArePartsOf (breakers.Build join) types rows all → end_among all ≡ rows.end
rights_end join = parts_end (breakers.Build join) (right_end join)

-- the parts of a join's table
right_batch : (join : JoinSpec) (piece : Piece) (part : Part) → IsPart (breakers.Build join) piece part → map (λ (right : BuildPart). right.batch) (right_in part) ≡ piece.batch ∷ []
right_batch join piece (kept.Rows run) is = absurd is
right_batch join piece (kept.Groups partial) is = absurd is
right_batch join piece (kept.Sets partial) is = absurd is
right_batch join piece (kept.Built right end) is = ap (λ (batch : Batch). batch ∷ []) is.0

rights_batches : (join : JoinSpec) (pieces : List Piece) (all : List Part) → AreParts (breakers.Build join) pieces all → map (λ (right : BuildPart). right.batch) (flat_map right_in all) ≡ map (λ (piece : Piece). piece.batch) pieces
rights_batches join [] [] are = refl
rights_batches join [] (part ∷ all) are = absurd are
rights_batches join (piece ∷ pieces) [] are = absurd are
rights_batches join (piece ∷ pieces) (part ∷ all) are =
    map-append (λ (right : BuildPart). right.batch) (right_in part) (flat_map right_in all)
    ∙ ap₂ (λ (first more : List Batch). first ++ more) (right_batch join piece part are.0) (rights_batches join pieces all are.1)

pub rights_are : (join : JoinSpec) (types : List Ty) (rows : Stream Row) (all : List Part) (rights : List BuildPart) → rights ≡ flat_map right_in all → (are : ArePartsOf (breakers.Build join) types rows all)
    → map (λ (right : BuildPart). right.batch) rights ≡ map (λ (piece : Piece). piece.batch) are.pieces
rights_are join types rows all rights held are = ap (map (λ (right : BuildPart). right.batch)) held ∙ rights_batches join are.pieces all are.kept

-- runs
runs_rows : (keys : List KeyOrder) (pieces runs : List Piece) → AreParts (breakers.Sort keys) pieces (map kept.Rows runs) → map rows_of (map batch_in runs) ≡ map (λ (piece : Piece). in_order keys (rows_of piece.batch)) pieces
runs_rows keys [] [] are = refl
runs_rows keys [] (run ∷ runs) are = absurd are
runs_rows keys (piece ∷ pieces) [] are = absurd are
runs_rows keys (piece ∷ pieces) (run ∷ runs) are = ap₂ (λ (first : List Row) (more : List (List Row)). first ∷ more) are.0.rows (runs_rows keys pieces runs are.1)

runs_typed : (keys : List KeyOrder) (types : List Ty) (pieces runs : List Piece) → AreParts (breakers.Sort keys) pieces (map kept.Rows runs) → AllByRecursion (IsStored types) pieces
    → AllByRecursion (λ (run : Batch). types_of run ≡ types) (map batch_in runs)
runs_typed keys types [] [] are stored = tt
runs_typed keys types [] (run ∷ runs) are stored = absurd are
runs_typed keys types (piece ∷ pieces) [] are stored = absurd are
runs_typed keys types (piece ∷ pieces) (run ∷ runs) are stored = (are.0.types ∙ stored.0.typed, runs_typed keys types pieces runs are.1 stored.1)

module _ (keys : List KeyOrder) (types : List Ty) (all : List Part) (taken : List Piece) (runs : List Batch) (held : map kept.Rows taken ≡ all) (in_taken : runs ≡ map (λ (piece : Piece). piece.batch) taken) where
  pub each_run : (rows : Stream Row) (are : ArePartsOf (breakers.Sort keys) types rows all) → map rows_of runs ≡ map (λ (piece : Piece). in_order keys (rows_of piece.batch)) are.pieces
  each_run rows are = ap (map rows_of) in_taken ∙ runs_rows keys are.pieces taken (subst (AreParts (breakers.Sort keys) are.pieces) (sym held) are.kept)

  pub run_types : HaveParts (breakers.Sort keys) types all → All (λ (run : Batch). types_of run ≡ types) runs
  run_types given =
      subst (All (λ (run : Batch). types_of run ≡ types)) (sym in_taken)
      (All-from_recursion (λ (run : Batch). types_of run ≡ types) (map batch_in taken)
      (runs_typed keys types given.1.pieces taken (subst (AreParts (breakers.Sort keys) given.1.pieces) (sym held) given.1.kept) (recursion_from_All (IsStored types) given.1.pieces given.1.stored)))
