-- The checks of what a read reads don't depend on the numbers of nodes.
use Rattle.std.proofs.Common.{ℕ, List, [], ◌∷◌, ◌++◌, map}
use Rattle.std.specs.Prelude.{length, ◌==◌}
use Rattle.std.specs.List.{AllByRecursion, zip}
use Rattle.sub_types.specs.declared.kind.Ty.{Ty}
use Rattle.plan_leaves.specs.declared.files.LocalFiles.{LocalFiles}
use Rattle.plan_leaves.specs.declared.literal.LiteralRow.{LiteralRow}
use Rattle.plan_leaves.specs.declared.literal.RawLiteral.{RawLiteral}
use Rattle.plan_leaves.specs.declared.schema.NamedTable.{NamedTable}
use Rattle.plan_raw.specs.declared.source.RawSource.{RawSource-F}
use Rattle.plan_typed.specs.declared.expr.Expr.{Expr}
use Rattle.plan_typed.specs.declared.rel.Source.{Source}
use Rattle.plan_typed.specs.declared.rel.Source.TheVariants as sources
use Rattle.func_table.specs.Kinds.{is_equal}
use Rattle.well_typed.specs.Types.{kind_of}
use Rattle.plan_verdict.specs.declared.rule.Rule.TheVariants as rules
use Rattle.plan_verdict.specs.Checking.{Checking, in_order}
use Rattle.plan_verdict.specs.Literals.{constant_in}
use Rattle.plan_verdict.specs.Meaning.{Expression}
use Rattle.plan_verdict.specs.Reads.{no_columns, of_kind, row_in, literal_field, literal_row, expr_row, rows_in, paths_in, table_name_in, source_in}
use Rattle.verdict_nodes.specs.Alike.{IsBlind}
use Rattle.verdict_nodes.proofs.ExprLaws.{IsBlindExpr}
use Rattle.verdict_nodes.proofs.Steps.{then, and_then, accepted, refused, parted, tested, and_next, mapped, each_alike, all_any}

abbrev pub IsBlindTable : (ℕ → List Ty → Checking (List (List Expr))) → Type 0
IsBlindTable table = (number : ℕ) (types : List Ty) → IsBlind (table number types)

abbrev pub IsBlindSource : (ℕ → List Ty → Checking Source) → Type 0
IsBlindSource source = (number : ℕ) (types : List Ty) → IsBlind (source number types)

module _ (number : ℕ) where
  field_alike : (ty : Ty) (field : Checking Expr) → IsBlind field → IsBlind (of_kind (no_columns number) ty field)
  field_alike ty field ok =
      then ok (λ expr.
      and_then (tested number (is_equal (kind_of expr) ty.kind) rules.TypeMismatch) (accepted expr))

  fields_alike : (fields : List (Checking Expr)) (types : List Ty) → AllByRecursion IsBlind fields → IsBlind (in_order (map (λ (field : Checking Expr × Ty). of_kind (no_columns number) field.1 field.0) (zip fields types)))
  fields_alike [] types all = accepted []
  fields_alike (field ∷ fields) [] all = accepted []
  fields_alike (field ∷ fields) (ty ∷ types) all =
      then (field_alike ty field all.0) (λ expr.
      then (fields_alike fields types all.1) (λ exprs. accepted (expr ∷ exprs)))

  row_alike : (types : List Ty) (fields : List (Checking Expr)) → AllByRecursion IsBlind fields → IsBlind (row_in number types fields)
  row_alike types fields all = and_then (tested number (length fields == length types) rules.TypeMismatch) (fields_alike fields types all)

  literal_alike : (raw : RawLiteral) → IsBlind (literal_field number raw)
  literal_alike raw = and_next (parted number (constant_in raw))

  literals_alike : (types : List Ty) (row : LiteralRow) → IsBlind (literal_row number types row)
  literals_alike types row = row_alike types (map (literal_field number) row.fields) (mapped (λ _. Unit {0}) (literal_field number) row.fields (all_any row.fields) (λ raw _. literal_alike raw))

  exprs_alike : (types : List Ty) (fields : List Expression) → AllByRecursion IsBlindExpr fields → IsBlind (expr_row number types fields)
  exprs_alike types fields all =
      row_alike types (map (λ (field : Expression). field.check (no_columns number)) fields)
      (mapped IsBlindExpr (λ (field : Expression). field.check (no_columns number)) fields all (λ field ok. ok (no_columns number)))

-- VirtualTable
pub rows_alike : (literal_rows : List LiteralRow) (expr_rows : List (List Expression)) → AllByRecursion (AllByRecursion IsBlindExpr) expr_rows → IsBlindTable (rows_in literal_rows expr_rows)
rows_alike literal_rows expr_rows all number types =
    then (each_alike (λ _. Unit {0}) (literal_row number types) literal_rows (all_any literal_rows) (λ row _. literals_alike number types row)) (λ literals.
    then (each_alike (AllByRecursion IsBlindExpr) (expr_row number types) expr_rows all (exprs_alike number types)) (λ exprs.
    accepted (literals ++ exprs)))

-- what a read reads, by its member
pub missing_source_alike : IsBlindSource (source_in RawSource-F.«RawSource::Missing»)
missing_source_alike number types = refused number rules.MissingField

pub table_source_alike : (table : ℕ → List Ty → Checking (List (List Expr))) → IsBlindTable table → IsBlindSource (source_in (RawSource-F.VirtualTable table))
table_source_alike table ok number types = then (ok number types) (λ rows. accepted (sources.Rows rows))

pub files_source_alike : (files : LocalFiles) → IsBlindSource (source_in (RawSource-F.LocalFiles files))
files_source_alike files number types = then (parted number (paths_in files)) (λ names. accepted (sources.Named names))

pub named_source_alike : (table : NamedTable) → IsBlindSource (source_in (RawSource-F.NamedTable table))
named_source_alike table number types = then (parted number (table_name_in table)) (λ name. accepted (sources.Named (name ∷ [])))
