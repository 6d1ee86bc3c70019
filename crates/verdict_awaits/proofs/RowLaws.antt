-- The checks of what a read reads number the nodes of its rows.
use Rattle.std.proofs.Common.{◌∙◌, ℕ, List, [], ◌∷◌, ◌++◌, Ok, map, refl, sym, ap}
use Rattle.std.specs.Prelude.{length, ◌==◌}
use Rattle.std.specs.List.{AllByRecursion, zip, flat_map}
use Rattle.std.proofs.lemmas.Grind.{flat_map-append}
use Rattle.std.proofs.lemmas.List.{append-nil, append_assoc}
use Rattle.sub_types.specs.declared.kind.Ty.{Ty}
use Rattle.plan_leaves.specs.declared.files.LocalFiles.{LocalFiles}
use Rattle.plan_leaves.specs.declared.literal.LiteralRow.{LiteralRow}
use Rattle.plan_leaves.specs.declared.literal.RawLiteral.{RawLiteral}
use Rattle.plan_leaves.specs.declared.schema.NamedTable.{NamedTable}
use Rattle.plan_raw.specs.declared.source.RawSource.{RawSource-F}
use Rattle.plan_typed.specs.declared.expr.Expr.{Expr}
use Rattle.plan_typed.specs.declared.rel.Source.{Source}
use Rattle.plan_typed.specs.declared.rel.Source.TheVariants as sources
use Rattle.func_table.specs.Kinds.{is_equal}
use Rattle.well_typed.specs.Types.{kind_of}
use Rattle.denote_typed.specs.Holes.{Slot, slots_of, slots_of_all, slots_of_source}
use Rattle.plan_verdict.specs.declared.rule.Rule.TheVariants as rules
use Rattle.plan_verdict.specs.Checking.{Checking, part, in_order}
use Rattle.plan_verdict.specs.Literals.{constant_in}
use Rattle.plan_verdict.specs.Meaning.{Expression}
use Rattle.plan_verdict.specs.Reads.{no_columns, of_kind, row_in, literal_field, literal_row, expr_row, rows_in, paths_in, table_name_in, source_in}
use Rattle.plan_verdict.proofs.RelLaws.{anything_given}
use Rattle.verdict_awaits.proofs.ExprLaws.{IsWaitingExpr, numbered_waits, literal_waits}
use Rattle.verdict_awaits.proofs.Parts.{Part, with_slots, same_part, all_any}
use Rattle.verdict_awaits.proofs.Slots.{slots_of_each}
use Rattle.verdict_awaits.proofs.Waits.{Waits, Grows, none, Any, then, and_then, accepted, refused, parted, tested, mapped, each_grows, respelled}

-- the nodes of rows
abbrev pub slots_of_rows : List (List Expr) → List Slot
slots_of_rows rows = flat_map slots_of_all rows

-- the check of a table, and of what is read, numbers the nodes of its rows
abbrev pub IsWaitingTable : (ℕ → List Ty → Checking (List (List Expr))) → Type 0
IsWaitingTable table = (number : ℕ) (types : List Ty) → Grows number Any slots_of_rows (table number types)

abbrev pub IsWaitingSource : (ℕ → List Ty → Checking Source) → Type 0
IsWaitingSource source = (number : ℕ) (types : List Ty) → Grows number Any slots_of_source (source number types)

module _ (number : ℕ) where
  abbrev IsWaitingField : Checking Expr → Type 0
  IsWaitingField field = Grows number Any slots_of field

  field_waits : (ty : Ty) (field : Checking Expr) → IsWaitingField field → IsWaitingField (of_kind (no_columns number) ty field)
  field_waits ty field ok start =
      then (ok start) (λ expr _.
      let now = with_slots start (slots_of expr) in
      and_then (tested number number (is_equal (kind_of expr) ty.kind) rules.TypeMismatch now) (λ _ _.
      accepted number none Any (λ one. with_slots start (slots_of one)) now expr tt refl))

  fields_wait : (fields : List (Checking Expr)) (types : List Ty) → AllByRecursion IsWaitingField fields → Grows number Any (flat_map slots_of) (in_order (map (λ (field : Checking Expr × Ty). of_kind (no_columns number) field.1 field.0) (zip fields types)))
  fields_wait [] types all start = accepted number none Any (λ exprs. with_slots start (flat_map slots_of exprs)) start [] tt (same_part (with_slots start []) start (append-nil start.slots) refl)
  fields_wait (field ∷ fields) [] all start = accepted number none Any (λ exprs. with_slots start (flat_map slots_of exprs)) start [] tt (same_part (with_slots start []) start (append-nil start.slots) refl)
  fields_wait (field ∷ fields) (ty ∷ types) all start =
      then (field_waits ty field all.0 start) (λ expr _.
      then (fields_wait fields types all.1 (with_slots start (slots_of expr))) (λ exprs _.
      let now = with_slots (with_slots start (slots_of expr)) (flat_map slots_of exprs) in
      accepted number none Any (λ all. with_slots start (flat_map slots_of all)) now (expr ∷ exprs) tt
      (same_part (with_slots start (slots_of expr ++ flat_map slots_of exprs)) now (sym (append_assoc start.slots (slots_of expr) (flat_map slots_of exprs))) refl)))

  row_waits : (types : List Ty) (fields : List (Checking Expr)) → AllByRecursion IsWaitingField fields → Grows number Any slots_of_all (row_in number types fields)
  row_waits types fields all =
      respelled number Any (flat_map slots_of) slots_of_all (row_in number types fields) slots_of_each
      (λ start. and_then (tested number number (length fields == length types) rules.TypeMismatch start) (λ _ _. fields_wait fields types all start))

  literal_field_waits : (raw : RawLiteral) → IsWaitingField (literal_field number raw)
  literal_field_waits raw = numbered_waits (no_columns number) (λ _. part number (constant_in raw)) (λ node. literal_waits (no_columns number) node raw)

  literals_wait : (types : List Ty) (row : LiteralRow) → Grows number Any slots_of_all (literal_row number types row)
  literals_wait types row =
      row_waits types (map (literal_field number) row.fields) (mapped number Any slots_of (λ _. Unit {0}) (literal_field number) row.fields (all_any row.fields) (λ raw _. literal_field_waits raw))

  exprs_wait : (types : List Ty) (fields : List Expression) → AllByRecursion IsWaitingExpr fields → Grows number Any slots_of_all (expr_row number types fields)
  exprs_wait types fields all =
      row_waits types (map (λ (field : Expression). field.check (no_columns number)) fields)
      (mapped number Any slots_of IsWaitingExpr (λ (field : Expression). field.check (no_columns number)) fields all (λ field ok. ok (no_columns number)))

-- VirtualTable
pub rows_wait : (literal_rows : List LiteralRow) (expr_rows : List (List Expression)) → AllByRecursion (AllByRecursion IsWaitingExpr) expr_rows → IsWaitingTable (rows_in literal_rows expr_rows)
rows_wait literal_rows expr_rows all number types start =
    then (each_grows number Any slots_of_all (λ _. Unit {0}) (literal_row number types) literal_rows (all_any literal_rows) (λ row _. literals_wait number types row) start) (λ literals _.
    then (each_grows number Any slots_of_all (AllByRecursion IsWaitingExpr) (expr_row number types) expr_rows all (exprs_wait number types) (with_slots start (slots_of_rows literals))) (λ exprs _.
    let now = with_slots (with_slots start (slots_of_rows literals)) (slots_of_rows exprs) in
    accepted number none Any (λ rows. with_slots start (slots_of_rows rows)) now (literals ++ exprs) tt
    (same_part (with_slots start (slots_of_rows (literals ++ exprs))) now (ap (λ l. start.slots ++ l) (flat_map-append slots_of_all literals exprs) ∙ sym (append_assoc start.slots (slots_of_rows literals) (slots_of_rows exprs))) refl)))

-- what a read reads, by its member
pub missing_source_waits : IsWaitingSource (source_in RawSource-F.«RawSource::Missing»)
missing_source_waits number types start = refused number none Any (λ source. with_slots start (slots_of_source source)) start number rules.MissingField

pub table_source_waits : (table : ℕ → List Ty → Checking (List (List Expr))) → IsWaitingTable table → IsWaitingSource (source_in (RawSource-F.VirtualTable table))
table_source_waits table ok number types start =
    then (ok number types start) (λ rows _. accepted number none Any (λ source. with_slots start (slots_of_source source)) (with_slots start (slots_of_rows rows)) (sources.Rows rows) tt refl)

-- tables that are named have no nodes
named_made : (number : ℕ) (start : Part) (names : List (List ℕ)) → Waits number none Any (λ source. with_slots start (slots_of_source source)) start (λ progress. Ok (sources.Named names, progress))
named_made number start names = accepted number none Any (λ source. with_slots start (slots_of_source source)) start (sources.Named names) tt (same_part (with_slots start []) start (append-nil start.slots) refl)

pub files_source_waits : (files : LocalFiles) → IsWaitingSource (source_in (RawSource-F.LocalFiles files))
files_source_waits files number types start = then (parted number Any number (paths_in files) (anything_given (paths_in files)) start) (λ names _. named_made number start names)

pub named_source_waits : (table : NamedTable) → IsWaitingSource (source_in (RawSource-F.NamedTable table))
named_source_waits table number types start = then (parted number Any number (table_name_in table) (anything_given (table_name_in table)) start) (λ name _. named_made number start (name ∷ []))
