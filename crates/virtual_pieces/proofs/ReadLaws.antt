-- The rows of a piece are as they are read, and fit.
use Rattle.std.proofs.Common.{◌≡◌, ◌∙◌, ℕ, List, [], ◌∷◌, Option, None, Some, length, map, sym, ap, subst}
use Rattle.std.specs.Prelude.{slice_get}
use Rattle.std.specs.List.{All, AllByRecursion, cons_option}
use Rattle.std.proofs.lemmas.List.Elements.{All-from_recursion}
use Rattle.sub_types.specs.Kind.{IsKind}
use Rattle.sub_types.specs.declared.fault.Fault.{Fault}
use Rattle.sub_types.specs.declared.kind.Ty.{Ty}
use Rattle.sub_types.specs.Stream.{Stream, rows_alone}
use Rattle.sub_types.specs.Value.{Fits}
use Rattle.batch.specs.declared.batch.Batch.{Batch}
use Rattle.batch.specs.BatchRows.{rows_of, types_of}
use Rattle.plan_typed.specs.declared.expr.Expr.{Expr}
use Rattle.plan_typed.specs.declared.rel.Source.TheVariants as sources
use Rattle.well_typed.proofs.ValidKinds.{AreKinds, kind_at}
use Rattle.well_typed.specs.Columns.{columns_at}
use Rattle.well_typed.specs.WellTyped.{MayBe, AreBelow, IsSourceOf}
use Rattle.plan_denote.specs.Denote.{Tables, maybe_condition}
use Rattle.plan_denote.specs.Eval.{eval}
use Rattle.plan_denote.specs.Read.{read_rows, virtual_rows}
use Rattle.plan_denote.specs.Rows.{Row}
use Rattle.denote_typed.proofs.ReadLaws.{read_fits, source_kinds}
use Rattle.virtual_pieces.specs.Pieces.{HoldsRows}

-- columns at places of columns are of valid kinds
with_kinds : (found : Option Ty) (rest : List Ty) → MayBe (λ (ty : Ty). IsKind ty.kind) found → AreKinds rest → AreKinds (cons_option found rest)
with_kinds None rest one all = all
with_kinds (Some ty) rest one all = (one, all)

kinds_at : (types : List Ty) (places : List ℕ) → AreKinds types → AreKinds (columns_at types places)
kinds_at types [] all = tt
kinds_at types (place ∷ places) all = with_kinds (slice_get types place) (columns_at types places) (kind_at types place all) (kinds_at types places all)

pub read_kinds : (types : List Ty) (mask : List ℕ) (columns : List Ty) → columns ≡ columns_at types mask → AreKinds types → All (λ (ty : Ty). IsKind ty.kind) columns
read_kinds types mask columns is kinds =
    subst (λ (own : List Ty). All (λ (ty : Ty). IsKind ty.kind) own) (sym is) (All-from_recursion (λ (ty : Ty). IsKind ty.kind) (columns_at types mask) (kinds_at types mask kinds))

-- the rows that are read fit
no_tables : Tables
no_tables number = rows_alone []

virtual_fit : (number reader : ℕ) (types : List Ty) (filter : Option Expr) (mask : List ℕ) (rows : List (List Expr)) → AreBelow (length types) mask → IsSourceOf types (sources.Rows rows)
    → AllByRecursion (Fits (columns_at types mask)) (read_rows reader types (maybe_condition filter) mask (virtual_rows number (map (map eval) rows))).rows
virtual_fit number reader types filter mask rows below source =
    read_fits types (maybe_condition filter) mask reader (virtual_rows number (map (map eval) rows)) below (source_kinds no_tables number types (sources.Rows rows) source tt)

pub read_held : (number reader : ℕ) (types : List Ty) (filter : Option Expr) (mask : List ℕ) (rows : List (List Expr)) (columns : List Ty) (given read : Stream Row) → given ≡ virtual_rows number (map (map eval) rows)
    → read ≡ read_rows reader types (maybe_condition filter) mask given → columns ≡ columns_at types mask → AreBelow (length types) mask → IsSourceOf types (sources.Rows rows) → All (Fits columns) read.rows
read_held number reader types filter mask rows columns given read gives reads is below source =
    All-from_recursion (Fits columns) read.rows
    (subst (λ (own : List Ty). AllByRecursion (Fits own) read.rows) (sym is)
    (subst (λ (s : Stream Row). AllByRecursion (Fits (columns_at types mask)) s.rows) (sym (reads ∙ ap (read_rows reader types (maybe_condition filter) mask) gives))
    (virtual_fit number reader types filter mask rows below source)))

-- what was read of what was given
pub read_as : (number reader : ℕ) (types : List Ty) (filter : Option Expr) (mask : List ℕ) (rows : List (List Expr)) (piece given read : Stream Row) → piece ≡ read → read ≡ read_rows reader types (maybe_condition filter) mask given
    → given ≡ virtual_rows number (map (map eval) rows) → piece ≡ read_rows reader types (maybe_condition filter) mask (virtual_rows number (map (map eval) rows))
read_as number reader types filter mask rows piece given read same reads gives = same ∙ reads ∙ ap (read_rows reader types (maybe_condition filter) mask) gives

-- rows in one batch, with their end
abbrev stream : List Row → Option Fault → Stream Row
stream rows end = record { rows = rows; end = end }

pub stream_as : (rows other : List Row) (end : Option Fault) → rows ≡ other → stream rows end ≡ stream other end
stream_as rows other end same = ap (λ (all : List Row). stream all end) same

pub holds_rows : (batch : Batch) (end : Option Fault) (types : List Ty) (rows : List Row) → types_of batch ≡ types → rows_of batch ≡ rows → All (Fits types) rows → HoldsRows types (record { batch = batch; end = end })
holds_rows batch end types rows same is fit = record { typed = same; fit = subst (All (Fits types)) (sym is) fit }
