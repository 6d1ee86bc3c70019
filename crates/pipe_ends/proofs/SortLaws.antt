-- Sorts in runs: what holds of the rows, and the columns of their keys.
use Rattle.std.proofs.Common.{◌≡◌, ◌∙◌, ◌<◌, List, [], ◌∷◌, ◌++◌, true, false, Option, Some, None, map, length, slice_index_or, refl, sym, ap, subst, arith}
use Rattle.std.specs.Prelude.{is_some}
use Rattle.std.specs.List.{All, AllByRecursion, flat_map}
use Rattle.sub_types.specs.declared.fault.Fault.{Fault}
use Rattle.sub_types.specs.Stream.{Stream, rows_alone, ended}
use Rattle.sub_types.specs.declared.kind.Ty.{Ty}
use Rattle.batch.specs.declared.batch.Batch.{Batch}
use Rattle.batch.specs.declared.batch.Piece.{Piece}
use Rattle.batch.specs.BatchRows.{rows_of, types_of}
use Rattle.plan_denote.specs.Rows.{Row, from_all}
use Rattle.plan_denote.specs.Sort.{sorted_rows}
use Rattle.plan_pipes.specs.RowMeaning.{sorted_by, keyed_by, direction_in}
use Rattle.rel_specs.specs.declared.key_order.KeyOrder.{KeyOrder}
use Rattle.set_rels.specs.Inputs.{stream_of, rows_in}
use Rattle.set_rels.proofs.PieceLaws.{whole, stream_of_batches}
use Rattle.sort_merge.proofs.ArrangedLaws.{all_arranged}
use Rattle.sort_merge.proofs.OrderLaws.{in_order_is, sorted_is, in_order-runs}
use Rattle.sort_merge.specs.RowOrder.{in_order, row_cmp}
use Rattle.well_typed.specs.WellTyped.{AreBelow}
use Rattle.pipe_parts.proofs.RunLaws.{columns_of_batch}

-- what holds of the rows holds of them in order
pub in_order_all : (P : Row → Type 0) (keys : List KeyOrder) (rows : List Row) → AllByRecursion P rows → AllByRecursion P (in_order keys rows)
in_order_all P keys rows all = subst (AllByRecursion P) (sym (in_order_is keys rows)) (all_arranged P (row_cmp keys) rows all)

-- the rows of pieces whose runs are in order
flat_rows : (runs : List Batch) → flat_map rows_of runs ≡ flat_map (λ (rows : List Row). rows) (map rows_of runs)
flat_rows [] = refl
flat_rows (run ∷ runs) = ap (λ more. rows_of run ++ more) (flat_rows runs)

flat_pieces : (keys : List KeyOrder) (pieces : List Piece) → flat_map (λ (rows : List Row). rows) (map (λ (piece : Piece). in_order keys (rows_of piece.batch)) pieces) ≡ flat_map (in_order keys) (map (λ (piece : Piece). rows_of piece.batch) pieces)
flat_pieces keys [] = refl
flat_pieces keys (piece ∷ pieces) = ap (λ more. in_order keys (rows_of piece.batch) ++ more) (flat_pieces keys pieces)

flat_in : (pieces : List Piece) → flat_map (λ (rows : List Row). rows) (map (λ (piece : Piece). rows_of piece.batch) pieces) ≡ rows_in pieces
flat_in [] = refl
flat_in (piece ∷ pieces) = ap (λ more. rows_of piece.batch ++ more) (flat_in pieces)

pub runs_are : (keys : List KeyOrder) (pieces : List Piece) (runs : List Batch) → map rows_of runs ≡ map (λ (piece : Piece). in_order keys (rows_of piece.batch)) pieces → in_order keys (flat_map rows_of runs) ≡ in_order keys (rows_in pieces)
runs_are keys pieces runs each =
    ap (in_order keys) (flat_rows runs ∙ ap (flat_map (λ (one : List Row). one)) each ∙ flat_pieces keys pieces)
    ∙ in_order-runs keys (map (λ (piece : Piece). rows_of piece.batch) pieces)
    ∙ ap (in_order keys) (flat_in pieces)

pub none_in_order : (keys : List KeyOrder) → [] ≡ in_order keys []
none_in_order keys = sym (in_order_is keys [])

-- keys over the columns of each run
pub columns_of_all : (keys : List KeyOrder) (types : List Ty) (runs : List Batch) → AreBelow (length types) (map (λ (key : KeyOrder). key.column) keys) → All (λ (run : Batch). types_of run ≡ types) runs
    → All (λ (run : Batch). All (λ (key : KeyOrder). key.column < length run.columns.items) keys) runs
columns_of_all keys types runs below same = λ k d within. columns_of_batch keys types (slice_index_or runs k d) below (same k d within)

-- no items, by their number
pub no_items : {A : Type 0} (xs : List A) → length xs ≡ 0 → xs ≡ []
no_items [] is = refl
no_items (x ∷ xs) is = absurd (omega (arith, is))

-- rows that end in a fault have no order
faulted_by : (given : List Row → Stream Row) (rows : List Row) (end : Option Fault) → is_some end ≡ true → from_all given (record { rows = rows; end = end }) ≡ ended end
faulted_by given rows None is = absurd (cc)
faulted_by given rows (Some fault) is = refl

pub faulted : (keys : List KeyOrder) (s : Stream Row) → is_some s.end ≡ true → sorted_by keys s ≡ ended s.end
unfolding sorted_by
faulted keys s is = faulted_by (λ rows. rows_alone (sorted_rows (map direction_in keys) (map (keyed_by keys) rows))) s.rows s.end is

pub not_some : (end : Option Fault) → is_some end ≡ false → end ≡ None
not_some None is = refl
not_some (Some fault) is = absurd (cc)

-- the rows of whole pieces in order
pub whole_sorted : (keys : List KeyOrder) (pieces : List Piece) → (stream_of pieces).end ≡ None → sorted_by keys (stream_of pieces) ≡ rows_alone (in_order keys (rows_in pieces))
whole_sorted keys pieces none = ap (sorted_by keys) (whole pieces none) ∙ sorted_is keys (rows_in pieces)

pub out_is : (keys : List KeyOrder) (pieces out : List Piece) (runs batches : List Batch) → map rows_of runs ≡ map (λ (piece : Piece). in_order keys (rows_of piece.batch)) pieces → flat_map rows_of batches ≡ in_order keys (flat_map rows_of runs)
    → map (λ (piece : Piece). piece.batch) out ≡ batches → All (λ (piece : Piece). piece.end ≡ None) out → stream_of out ≡ rows_alone (in_order keys (rows_in pieces))
out_is keys pieces out runs batches each is are none = stream_of_batches out batches are none ∙ ap rows_alone (is ∙ runs_are keys pieces runs each)
