-- Columns that get other types of the same kinds.
use Rattle.std.proofs.Common.{◌≡◌, ◌∙◌, ℕ, suc, ◌+◌, ◌-◌, ◌<◌, ◌≤◌, List, [], ◌∷◌, ◌++◌, Some, length, map, take, drop, get_or, slice_get, sym, ap, ap₂, subst, arith, append_assoc, append-nil}
use Rattle.std.specs.List.{All, flat_map}
use Rattle.std.proofs.Math.ListN.{get_or-map}
use Rattle.std.proofs.lemmas.Option.{get_or_from_slice_get}
use Rattle.std.proofs.lemmas.List.Elements.{All-map}
use Rattle.sub_types.specs.Stream.{Stream}
use Rattle.batch.specs.declared.batch.Batch.{Batch}
use Rattle.batch.specs.declared.batch.Piece.{Piece}
use Rattle.batch.specs.BatchRows.{rows_of, types_of, stream_of_piece}
use Rattle.plan_denote.specs.Rows.{Row}
use Rattle.std.proofs.lemmas.List.{length-map, length-drop, length-append, drop_more, take_more, take_all, map-append}
use Rattle.sub_types.specs.declared.kind.Kind.TheVariants as kinds
use Rattle.sub_types.specs.declared.kind.Ty.{Ty}
use Rattle.batch.specs.declared.column.Column.{Column}
use Rattle.batch.specs.Column.{column_values, column_type}
use Rattle.set_rels.specs.Inputs.{kinds_of}

-- the columns so far have their types, and those that are left the kinds of the other types
pub record IsTyping (types : List Ty) (columns typed left : List Column) : Type 0 where
  pub values : map column_values typed ++ map column_values left ≡ map column_values columns
  pub types_are : map column_type typed ≡ take (length typed) types
  pub kinds : kinds_of (map column_type left) ≡ kinds_of (drop (length typed) types)

pub typing_begins : (types : List Ty) (columns typed : List Column) → typed ≡ [] → kinds_of (map column_type columns) ≡ kinds_of types → IsTyping types columns typed columns
typing_begins types columns typed none alike = record {
  values = ap (λ l. map column_values l ++ map column_values columns) none;
  types_are = ap (map column_type) none ∙ sym (ap (λ l. take (length l) types) none);
  kinds = alike ∙ sym (ap (λ l. kinds_of (drop (length l) types)) none);
}

-- a column that is left has a type
counted : (types : List Ty) (columns typed : List Column) (column : Column) (left : List Column) → IsTyping types columns typed (column ∷ left) → suc (length left) ≡ length types - length typed
counted types columns typed column left is =
    let n = length typed in
    let a : length (kinds_of (map column_type (column ∷ left))) ≡ suc (length left) = length-map (map column_type (column ∷ left)) (λ (ty : Ty). ty.kind) ∙ length-map (column ∷ left) column_type in
    let b : length (kinds_of (drop n types)) ≡ length types - n = length-map (drop n types) (λ (ty : Ty). ty.kind) ∙ length-drop n types in
    sym a ∙ ap length is.kinds ∙ b

pub type_there : (types : List Ty) (columns typed : List Column) (column : Column) (left : List Column) → IsTyping types columns typed (column ∷ left) → length typed < length types
type_there types columns typed column left is = omega (arith, counted types columns typed column left is)

pub kind_there : (types : List Ty) (columns typed : List Column) (column : Column) (left : List Column) (ty d : Ty) → IsTyping types columns typed (column ∷ left) → ty ≡ get_or types (length typed) d → ty.kind ≡ column.ty.kind
kind_there types columns typed column left ty d is at =
    let n = length typed in
    let below = type_there types columns typed column left is in
    let head : kinds_of (drop n types) ≡ (get_or types n d).kind ∷ kinds_of (drop (n + 1) types) = ap kinds_of (drop_more types n d below) in
    ap (λ (t : Ty). t.kind) at ∙ sym (ap (λ l. get_or l 0 kinds.Bool) (is.kinds ∙ head))

pub typing_more : (types : List Ty) (columns typed more : List Column) (column new : Column) (left : List Column) (ty d : Ty) → IsTyping types columns typed (column ∷ left) → ty ≡ get_or types (length typed) d → column_values new ≡ column_values column → new.ty ≡ ty → more ≡ typed ++ new ∷ [] → IsTyping types columns more left
typing_more types columns typed more column new left ty d is at values ty_is more_is =
    let n = length typed in
    let below = type_there types columns typed column left is in
    let long : length more ≡ n + 1 = ap length more_is ∙ length-append typed (new ∷ []) in
    let head : kinds_of (drop n types) ≡ (get_or types n d).kind ∷ kinds_of (drop (n + 1) types) = ap kinds_of (drop_more types n d below) in
    record {
      values =
          ap (λ l. map column_values l ++ map column_values left) more_is
          ∙ ap (λ l. l ++ map column_values left) (map-append column_values typed (new ∷ []) ∙ ap (λ v. map column_values typed ++ v ∷ []) values)
          ∙ append_assoc (map column_values typed) (column_values column ∷ []) (map column_values left)
          ∙ is.values;
      types_are =
          ap (map column_type) more_is ∙ map-append column_type typed (new ∷ []) ∙ ap₂ (λ l t. l ++ t ∷ []) is.types_are (ty_is ∙ at)
          ∙ sym (take_more types n d below) ∙ sym (ap (λ m. take m types) long);
      kinds = ap (drop 1) (is.kinds ∙ head) ∙ sym (ap (λ m. kinds_of (drop m types)) long);
    }

pub typing_ends : (types : List Ty) (columns typed left : List Column) → left ≡ [] → IsTyping types columns typed left → (map column_values typed ≡ map column_values columns) × (map column_type typed ≡ types)
typing_ends types columns typed left none is =
    let rest : 0 ≡ length types - length typed =
    (let a : length (kinds_of (map column_type left)) ≡ 0 = ap (λ l. length (kinds_of (map column_type l))) none in
    let b : length (kinds_of (drop (length typed) types)) ≡ length types - length typed = length-map (drop (length typed) types) (λ (ty : Ty). ty.kind) ∙ length-drop (length typed) types in
    sym a ∙ ap length is.kinds ∙ b) in
    (sym (append-nil (map column_values typed)) ∙ sym (ap (λ l. map column_values typed ++ map column_values l) none) ∙ is.values, is.types_are ∙ take_all (length typed) types (omega arith))

-- columns with the same values are as long
pub sized_again : (rows : ℕ) (columns typed : List Column) → map column_values typed ≡ map column_values columns → All (λ (column : Column). length (column_values column) ≡ rows) columns → All (λ (column : Column). length (column_values column) ≡ rows) typed
sized_again rows columns typed same sized = λ k d below.
    let many : length typed ≡ length columns = sym (length-map typed column_values) ∙ ap length same ∙ length-map columns column_values in
    ap length (sym (get_or-map column_values typed k d) ∙ ap (λ l. get_or l k (column_values d)) same ∙ get_or-map column_values columns k d) ∙ sized k d (omega arith)

-- one piece more
pub streams_more : (old more : List Piece) (piece new : Piece) (left rest : List Piece) (all : List (Stream Row)) → left ≡ piece ∷ rest → more ≡ old ++ new ∷ [] → rows_of new.batch ≡ rows_of piece.batch → new.end ≡ piece.end
    → map stream_of_piece old ++ map stream_of_piece left ≡ all → map stream_of_piece more ++ map stream_of_piece rest ≡ all
streams_more old more piece new left rest all parts pushed rows end so_far =
    let same : stream_of_piece new ≡ stream_of_piece piece = ap₂ (λ r e. record { rows = r; end = e }) rows end in
    ap (λ l. map stream_of_piece l ++ map stream_of_piece rest) pushed
    ∙ ap (λ l. l ++ map stream_of_piece rest) (map-append stream_of_piece old (new ∷ []) ∙ ap (λ s. map stream_of_piece old ++ s ∷ []) same)
    ∙ append_assoc (map stream_of_piece old) (stream_of_piece piece ∷ []) (map stream_of_piece rest)
    ∙ sym (ap (λ l. map stream_of_piece old ++ map stream_of_piece l) parts) ∙ so_far

-- the pieces of one input more
pub inputs_more : {I : Type 0} (pieces_in : I → List Piece) (old more : List Piece) (input : I) (left rest : List I) (all : List (Stream Row)) → left ≡ input ∷ rest → map stream_of_piece more ≡ map stream_of_piece old ++ map stream_of_piece (pieces_in input)
    → map stream_of_piece old ++ flat_map (λ one. map stream_of_piece (pieces_in one)) left ≡ all → map stream_of_piece more ++ flat_map (λ one. map stream_of_piece (pieces_in one)) rest ≡ all
inputs_more pieces_in old more input left rest all parts pushed so_far =
    ap (λ l. l ++ flat_map (λ one. map stream_of_piece (pieces_in one)) rest) pushed
    ∙ append_assoc (map stream_of_piece old) (map stream_of_piece (pieces_in input)) (flat_map (λ one. map stream_of_piece (pieces_in one)) rest)
    ∙ sym (ap (λ l. map stream_of_piece old ++ flat_map (λ one. map stream_of_piece (pieces_in one)) l) parts) ∙ so_far

-- a column's kind, by the type that is read
pub kind_read : (types : List Ty) (columns typed : List Column) (column : Column) (left rest : List Column) (n : ℕ) (ty : Ty) → left ≡ column ∷ rest → IsTyping types columns typed left → n ≡ length typed → slice_get types n ≡ Some ty → ty.kind ≡ column.ty.kind
kind_read types columns typed column left rest n ty parts is n_is read =
    kind_there types columns typed column rest ty ty (subst (IsTyping types columns typed) parts is) (sym (get_or_from_slice_get types n ty ty read) ∙ ap (λ m. get_or types m ty) n_is)

-- the types of the batches of pieces
pub types_in : (types : List Ty) (pieces : List Piece) (runs : List Batch) → runs ≡ map (λ (piece : Piece). piece.batch) pieces → All (λ (piece : Piece). types_of piece.batch ≡ types) pieces → All (λ run. types_of run ≡ types) runs
types_in types pieces runs e all = subst (All (λ run. types_of run ≡ types)) (sym e) (All-map (λ run. types_of run ≡ types) (λ (piece : Piece). piece.batch) pieces all)

pub types_back : (types : List Ty) (pieces : List Piece) (runs : List Batch) → map (λ (piece : Piece). piece.batch) pieces ≡ runs → All (λ run. types_of run ≡ types) runs → All (λ (piece : Piece). types_of piece.batch ≡ types) pieces
types_back types pieces runs e all = λ k d below.
    let many : length pieces ≡ length runs = sym (length-map pieces (λ (piece : Piece). piece.batch)) ∙ ap length e in
    ap types_of (sym (get_or-map (λ (piece : Piece). piece.batch) pieces k d) ∙ ap (λ l. get_or l k d.batch) e) ∙ all k d.batch (omega arith)

pub few_back : (pieces : List Piece) (runs : List Batch) → map (λ (piece : Piece). piece.batch) pieces ≡ runs → All (λ (run : Batch). run.rows ≤ 65536) runs → All (λ (piece : Piece). piece.batch.rows ≤ 65536) pieces
few_back pieces runs e all = λ k d below.
    let many : length pieces ≡ length runs = sym (length-map pieces (λ (piece : Piece). piece.batch)) ∙ ap length e in
    subst (λ (run : Batch). run.rows ≤ 65536) (sym (sym (get_or-map (λ (piece : Piece). piece.batch) pieces k d) ∙ ap (λ l. get_or l k d.batch) e)) (all k d.batch (omega arith))
