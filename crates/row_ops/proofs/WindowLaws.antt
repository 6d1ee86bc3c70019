-- The rows that a fetch takes, by their places.
use Rattle.std.proofs.Common.{◌≡◌, ◌∙◌, ℕ, ◌+◌, ◌-◌, ◌≤◌, List, [], Option, Some, None, length, take, drop, nat_le, Bool, true, false, ◌∷◌, ◌++◌, map, refl, sym, ap, ap₂, arith, if◌then◌else◌}
use Rattle.std.specs.List.{slice_range}
use Rattle.std.proofs.Math.ListN.{drop_of_length-le}
use Rattle.std.proofs.Math.Seq.{take-nil}
use Rattle.std.proofs.lemmas.Bool.{leb-false}
use Rattle.std.proofs.lemmas.List.{length-drop, take_all, map-append, append_assoc}
use Rattle.sub_types.specs.declared.fault.Fault.{Fault}
use Rattle.sub_types.specs.Stream.{Stream}
use Rattle.batch.specs.declared.batch.Piece.{Piece}
use Rattle.sub_types.specs.declared.value.Value.TheVariants.{Null}
use Rattle.batch.specs.BatchRows.{stream_of_piece, columns_of, types_of}
use Rattle.sub_types.specs.declared.kind.Ty.{Ty}
use Rattle.batch.proofs.RowLaws.{length-transpose}
use Rattle.plan_pipes.specs.FetchPieces.{offset_after, count_after, fetched_pieces}
use Rattle.plan_denote.specs.Rows.{Row}
use Rattle.plan_denote.specs.Fetch.{window, end_of_window, fetched}
use Rattle.row_ops.specs.Windows.{window_start, window_end}

abbrev stream : List Row → Option Fault → Stream Row
stream rows end = record { rows = rows; end = end }

-- rows behind the last
none_behind : (rows : List Row) (from to : ℕ) → length rows ≤ from → slice_range rows from to ≡ []
none_behind rows from to behind = ap (take (to - from)) (drop_of_length-le rows behind) ∙ take-nil (to - from)

window_behind : (offset : ℕ) (count : Option ℕ) (rows : List Row) → length rows ≤ offset → window offset count rows ≡ []
window_behind offset None rows behind = drop_of_length-le rows behind
window_behind offset (Some count) rows behind = ap (take count) (drop_of_length-le rows behind) ∙ take-nil count

all_behind : (offset : ℕ) (rows : List Row) → slice_range rows offset (length rows) ≡ drop offset rows
all_behind offset rows = take_all (length rows - offset) (drop offset rows) (omega (arith, length-drop offset rows))

some_of : (offset count : ℕ) (rows : List Row) (few : Bool) → nat_le count (length rows - offset) ≡ few → slice_range rows offset (if few then offset + count else length rows) ≡ take count (drop offset rows)
some_of offset count rows true is = ap (λ n. take n (drop offset rows)) (omega arith)
some_of offset count rows false is =
    let many = leb-false count (length rows - offset) is in
    all_behind offset rows ∙ sym (take_all count (drop offset rows) (omega (arith, length-drop offset rows, many)))

window_from : (offset : ℕ) (count : Option ℕ) (rows : List Row) → slice_range rows offset (window_end offset count (length rows)) ≡ window offset count rows
window_from offset None rows = all_behind offset rows
window_from offset (Some count) rows = some_of offset count rows (nat_le count (length rows - offset)) refl

window_by : (offset : ℕ) (count : Option ℕ) (rows : List Row) (within : Bool) → nat_le offset (length rows) ≡ within →
    let from : ℕ = if within then offset else length rows in
    slice_range rows from (window_end from count (length rows)) ≡ window offset count rows
window_by offset count rows true is = window_from offset count rows
window_by offset count rows false is =
    let behind = leb-false offset (length rows) is in
    none_behind rows (length rows) (window_end (length rows) count (length rows)) (omega arith) ∙ sym (window_behind offset count rows (omega (arith, behind)))

-- the rows between the two places
pub window_is : (offset : ℕ) (count : Option ℕ) (rows : List Row) (from to : ℕ) → from ≡ window_start offset (length rows) → to ≡ window_end from count (length rows) → slice_range rows from to ≡ window offset count rows
window_is offset count rows from to starts ends =
    ap (slice_range rows from) ends ∙ ap (λ n. slice_range rows n (window_end n count (length rows))) starts ∙ window_by offset count rows (nat_le offset (length rows)) refl

-- all rows
pub window_whole : (offset : ℕ) (count : Option ℕ) (rows : List Row) (from to : ℕ) → from ≡ window_start offset (length rows) → to ≡ window_end from count (length rows) → from ≡ 0 → to ≡ length rows → rows ≡ window offset count rows
window_whole offset count rows from to starts ends first last =
    sym (ap (λ n. slice_range rows n to) first ∙ ap (slice_range rows 0) last ∙ all_behind 0 rows) ∙ window_is offset count rows from to starts ends

-- the stream of these rows and this end
pub fetched_is : (offset : ℕ) (count : Option ℕ) (s : Stream Row) (rows : List Row) (end : Option Fault) → rows ≡ window offset count s.rows → end ≡ end_of_window offset count (length s.rows) s.end → ◌≡◌ {A = Stream Row} (record { rows = rows; end = end }) (fetched offset count s)
unfolding fetched
fetched_is offset count s rows end taken ends = ap₂ (λ (rows : List Row) (end : Option Fault). stream rows end) taken ends

-- what is fetched from one piece more
pub fetch_more : (offset : ℕ) (count : Option ℕ) (after : ℕ) (left : Option ℕ) (pieces : List Piece) (one piece : Piece) (rest : List Piece) → stream_of_piece one ≡ fetched offset count (stream_of_piece piece) → after ≡ offset_after offset piece.batch.rows → left ≡ count_after offset count piece.batch.rows
    → map stream_of_piece (pieces ++ one ∷ []) ++ fetched_pieces after left (map stream_of_piece rest) ≡ map stream_of_piece pieces ++ fetched_pieces offset count (map stream_of_piece (piece ∷ rest))
fetch_more offset count after left pieces one piece rest is offset_is count_is =
    let many : piece.batch.rows ≡ length (stream_of_piece piece).rows = sym (length-transpose Null piece.batch.rows (columns_of piece.batch)) in
    let later : fetched_pieces after left (map stream_of_piece rest) ≡ fetched_pieces (offset_after offset (length (stream_of_piece piece).rows)) (count_after offset count (length (stream_of_piece piece).rows)) (map stream_of_piece rest) =
    ap₂ (λ (n : ℕ) (m : Option ℕ). fetched_pieces n m (map stream_of_piece rest)) (offset_is ∙ ap (offset_after offset) many) (count_is ∙ ap (count_after offset count) many) in
    ap (λ (all : List (Stream Row)). all ++ fetched_pieces after left (map stream_of_piece rest)) (map-append stream_of_piece pieces (one ∷ []))
    ∙ append_assoc (map stream_of_piece pieces) (stream_of_piece one ∷ []) (fetched_pieces after left (map stream_of_piece rest))
    ∙ ap₂ (λ (s : Stream Row) (more : List (Stream Row)). map stream_of_piece pieces ++ (s ∷ more)) is later

abbrev piece_types : Piece → List Ty
piece_types piece = types_of piece.batch

-- the types of one piece more
pub types_more : (pieces : List Piece) (one piece : Piece) (rest : List Piece) → types_of one.batch ≡ types_of piece.batch → map piece_types (pieces ++ one ∷ []) ++ map piece_types rest ≡ map piece_types pieces ++ map piece_types (piece ∷ rest)
types_more pieces one piece rest is =
    ap (λ (all : List (List Ty)). all ++ map piece_types rest) (map-append piece_types pieces (one ∷ []))
    ∙ append_assoc (map piece_types pieces) (piece_types one ∷ []) (map piece_types rest)
    ∙ ap (λ (types : List Ty). map piece_types pieces ++ (types ∷ map piece_types rest)) is
