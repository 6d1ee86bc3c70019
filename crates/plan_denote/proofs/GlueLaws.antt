-- Filters, projections, reads and emitted columns of a stream in pieces are those of each piece, one after the other.
use Rattle.std.proofs.Common.{◌≡◌, ◌∙◌, ℕ, List, [], ◌∷◌, Option, Some, None, map, refl, ap}
use Rattle.std.proofs.lemmas.List.{map-append}
use Rattle.sub_types.proofs.StreamLaws.{each-glue}
use Rattle.sub_types.specs.declared.fault.Fault.{Fault}
use Rattle.sub_types.specs.declared.kind.Ty.{Ty}
use Rattle.sub_types.specs.Stream.{Stream, followed_by, glue}
use Rattle.plan_denote.specs.Rows.{Row, Formula, at_relation}
use Rattle.plan_denote.specs.Filter.{filtered, filter_row}
use Rattle.plan_denote.specs.Project.{projected, project_row, emitted, columns_at}
use Rattle.plan_denote.specs.Read.{read_rows, read_row}

pub filtered-glue : (number : ℕ) (condition : Formula) (pieces : List (Stream Row)) → filtered number condition (glue pieces) ≡ glue (map (filtered number condition) pieces)
unfolding filtered
filtered-glue number condition pieces = each-glue (λ row. at_relation number (filter_row condition row)) pieces

pub projected-glue : (number : ℕ) (exprs : List Formula) (pieces : List (Stream Row)) → projected number exprs (glue pieces) ≡ glue (map (projected number exprs) pieces)
unfolding projected
projected-glue number exprs pieces = each-glue (λ row. at_relation number (project_row exprs row)) pieces

pub read_rows-glue : (number : ℕ) (types : List Ty) (filter : Formula) (mask : List ℕ) (pieces : List (Stream Row))
    → read_rows number types filter mask (glue pieces) ≡ glue (map (read_rows number types filter mask) pieces)
unfolding read_rows
read_rows-glue number types filter mask pieces = each-glue (λ row. at_relation number (read_row types filter mask row)) pieces

emit_parts : (columns : List ℕ) (rows more : List Row) (end next : Option Fault)
    → emitted columns (followed_by (record { rows = rows; end = end }) (record { rows = more; end = next })) ≡ followed_by (emitted columns (record { rows = rows; end = end })) (emitted columns (record { rows = more; end = next }))
unfolding emitted
emit_parts columns rows more (Some fault) next = refl
emit_parts columns rows more None next = ap (λ all. record { rows = all; end = next }) (map-append (columns_at columns) rows more)

pub emitted-glue : (columns : List ℕ) (pieces : List (Stream Row)) → emitted columns (glue pieces) ≡ glue (map (emitted columns) pieces)
unfolding emitted
emitted-glue columns [] = refl
emitted-glue columns (piece ∷ pieces) = emit_parts columns piece.rows (glue pieces).rows piece.end (glue pieces).end ∙ ap (followed_by (emitted columns piece)) (emitted-glue columns pieces)
