-- The rows that stand in a plan, piece by piece.
use Rattle.std.proofs.Common.{◌≡◌, ◌∙◌, ℕ, ◌+◌, ◌-◌, ◌*◌, ◌/◌, zero, suc, List, [], ◌∷◌, ◌++◌, Option, Some, None, Ok, length, map, min, take, drop, refl, sym, ap, ap₂, subst, arith}
use Rattle.std.specs.List.{All, AllByRecursion, slice_range}
use Rattle.std.proofs.lemmas.List.{append-nil, length_push, map-append, take-append-drop, take-take, drop-take, take_all, take_min, length-drop}
use Rattle.std.proofs.lemmas.List.Elements.{All-nil, All-push}
use Rattle.sub_types.specs.declared.fault.Fault.{Fault}
use Rattle.sub_types.specs.declared.kind.Ty.{Ty}
use Rattle.sub_types.specs.Stream.{Stream, rows_alone, followed_by, glue, stream_of}
use Rattle.sub_types.proofs.StreamLaws.{each_stream-followed_by, glue-append}
use Rattle.batch.specs.declared.batch.Piece.{Piece}
use Rattle.batch.specs.BatchRows.{stream_of_piece}
use Rattle.plan_typed.specs.declared.expr.Expr.{Expr}
use Rattle.plan_typed.specs.declared.rel.Source.TheVariants as sources
use Rattle.well_typed.specs.WellTyped.{IsRowOf, IsSourceOf}
use Rattle.plan_denote.specs.Eval.{eval}
use Rattle.plan_denote.specs.Read.{read_row, read_rows, virtual_rows}
use Rattle.plan_denote.specs.Rows.{Formula, Row, ◌>>=◌, at_relation, values_at}
use Rattle.virtual_pieces.specs.Pieces.{HoldsRows}

-- the first so many and the next
take_both : {X : Type 0} (n m : ℕ) (xs : List X) → take (n + m) xs ≡ take n xs ++ take m (drop n xs)
take_both n m xs =
    sym (take-append-drop n (take (n + m) xs)) ∙ ap (λ front. front ++ drop n (take (n + m) xs)) (take-take n (n + m) xs (omega arith)) ∙ ap (λ back. take n xs ++ back) (drop-take n m xs)

next_part : {X : Type 0} (from to : ℕ) (xs : List X) → to ≡ min (length xs) (from + 1024) → take (from + 1024) xs ≡ take from xs ++ slice_range xs from to
next_part from to xs is =
    let cut : to - from ≡ min 1024 (length (drop from xs)) = omega (arith, is, length-drop from xs) in
    take_both from 1024 xs ∙ ap (λ back. take from xs ++ back) (sym (ap (λ n. take n (drop from xs)) cut ∙ take_min 1024 (drop from xs)))

-- a stream and nothing behind it
alone : (rows : List Row) (end : Option Fault) → followed_by (record { rows = rows; end = end }) (rows_alone []) ≡ record { rows = rows; end = end }
alone rows None = ap (λ (all : List Row). rows_alone all) (append-nil rows)
alone rows (Some fault) = refl

glue_more : (pieces : List Piece) (piece : Piece) → glue (map stream_of_piece (pieces ++ piece ∷ [])) ≡ followed_by (glue (map stream_of_piece pieces)) (stream_of_piece piece)
glue_more pieces piece =
    ap glue (map-append stream_of_piece pieces (piece ∷ [])) ∙ glue-append (map stream_of_piece pieces) (stream_of_piece piece ∷ [])
    ∙ ap (followed_by (glue (map stream_of_piece pieces))) (alone (stream_of_piece piece).rows (stream_of_piece piece).end)

-- the rows of one list and then of the next
virtual_more : (number : ℕ) (a b : List (List Formula)) → virtual_rows number (a ++ b) ≡ followed_by (virtual_rows number a) (virtual_rows number b)
unfolding virtual_rows
virtual_more number a b = each_stream-followed_by (λ (exprs : List Formula). stream_of (at_relation number (values_at exprs [] >>= (λ (row : Row). Ok (row ∷ []))))) (rows_alone a) (rows_alone b)

read_more : (reader : ℕ) (types : List Ty) (filter : Formula) (mask : List ℕ) (a b : Stream Row) → read_rows reader types filter mask (followed_by a b) ≡ followed_by (read_rows reader types filter mask a) (read_rows reader types filter mask b)
unfolding read_rows
read_more reader types filter mask a b = each_stream-followed_by (λ (row : Row). stream_of (at_relation reader (read_row types filter mask row))) a b

none_read : (number reader : ℕ) (types : List Ty) (filter : Formula) (mask : List ℕ) → rows_alone [] ≡ read_rows reader types filter mask (virtual_rows number [])
unfolding read_rows virtual_rows
none_read number reader types filter mask = refl

-- rows of expressions between two places
first_rows : (types : List Ty) (n : ℕ) (rows : List (List Expr)) → AllByRecursion (IsRowOf types) rows → AllByRecursion (IsRowOf types) (take n rows)
first_rows types zero rows all = tt
first_rows types (suc n) [] all = tt
first_rows types (suc n) (row ∷ rows) all = (all.0, first_rows types n rows all.1)

last_rows : (types : List Ty) (n : ℕ) (rows : List (List Expr)) → AllByRecursion (IsRowOf types) rows → AllByRecursion (IsRowOf types) (drop n rows)
last_rows types zero rows all = all
last_rows types (suc n) [] all = tt
last_rows types (suc n) (row ∷ rows) all = last_rows types n rows all.1

pub rows_between : (types : List Ty) (from to : ℕ) (rows : List (List Expr)) → IsSourceOf types (sources.Rows rows) → IsSourceOf types (sources.Rows (slice_range rows from to))
rows_between types from to rows all = first_rows types (to - from) (drop from rows) (last_rows types from rows all)

module _ (number reader : ℕ) (types : List Ty) (filter : Formula) (mask : List ℕ) where
  abbrev whole : List (List Expr) → Stream Row
  whole rows = read_rows reader types filter mask (virtual_rows number (map (map eval) rows))

  whole_more : (a b : List (List Expr)) → whole (a ++ b) ≡ followed_by (whole a) (whole b)
  whole_more a b =
      ap (λ (all : List (List Formula)). read_rows reader types filter mask (virtual_rows number all)) (map-append (map eval) a b)
      ∙ ap (read_rows reader types filter mask) (virtual_more number (map (map eval) a) (map (map eval) b))
      ∙ read_more reader types filter mask (virtual_rows number (map (map eval) a)) (virtual_rows number (map (map eval) b))

  -- the pieces of so many parts
  pub record AreParts (rows : List (List Expr)) (columns : List Ty) (parts : ℕ) (pieces : List Piece) : Type 0 where
    pub streams : glue (map stream_of_piece pieces) ≡ whole (take (parts * 1024) rows)
    pub held : All (HoldsRows columns) pieces
    pub count : length pieces ≡ parts

  pub parts_begin : (rows : List (List Expr)) (columns : List Ty) (pieces : List Piece) → pieces ≡ [] → AreParts rows columns 0 pieces
  parts_begin rows columns pieces none = subst (AreParts rows columns 0) (sym none) (record { streams = none_read number reader types filter mask; held = All-nil (HoldsRows columns); count = refl })

  -- one piece more
  pub parts_next : (rows : List (List Expr)) (columns : List Ty) (parts to : ℕ) (old new : List Piece) (piece : Piece) → to ≡ min (length rows) (parts * 1024 + 1024) → new ≡ old ++ piece ∷ [] → AreParts rows columns parts old
      → stream_of_piece piece ≡ whole (slice_range rows (parts * 1024) to) → HoldsRows columns piece → AreParts rows columns (parts + 1) new
  parts_next rows columns parts to old new piece is pushed are own holds =
      let size : parts * 1024 + 1024 ≡ (parts + 1) * 1024 = omega arith in
      subst (AreParts rows columns (parts + 1)) (sym pushed) (record {
        streams =
            glue_more old piece ∙ ap₂ (λ (a : Stream Row) (b : Stream Row). followed_by a b) are.streams own ∙ sym (whole_more (take (parts * 1024) rows) (slice_range rows (parts * 1024) to))
            ∙ ap whole (sym (next_part (parts * 1024) to rows is)) ∙ ap (λ (n : ℕ). whole (take n rows)) size;
        held = All-push (HoldsRows columns) old piece are.held holds;
        count = length_push old piece ∙ ap (λ (n : ℕ). n + 1) are.count;
      })

  -- all of them
  pub parts_end : (rows : List (List Expr)) (columns : List Ty) (parts : ℕ) (pieces : List Piece) → parts ≡ (length rows + 1023) / 1024 → AreParts rows columns parts pieces → glue (map stream_of_piece pieces) ≡ whole rows
  parts_end rows columns parts pieces is are = are.streams ∙ ap whole (take_all (parts * 1024) rows (omega (arith, is)))
