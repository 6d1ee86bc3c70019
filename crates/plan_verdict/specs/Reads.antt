-- The checks of what a read relation reads (Substrait `ReadRel`).
use Rattle.std.specs.Prelude.{ℕ, List, [], ◌∷◌, ◌++◌, Option, Some, None, Result, Ok, Err, ◌==◌, map, length, if◌then◌else◌}
use Rattle.std.specs.List.{zip, join_with_byte}
use Rattle.std.specs.Option.{ok_or}
use Rattle.sub_types.specs.declared.kind.Ty.{Ty}
use Rattle.sub_types.specs.ResultSteps.{collect}
use Rattle.plan_leaves.specs.declared.schema.NamedTable.{NamedTable}
use Rattle.plan_leaves.specs.declared.files.FileItem.{FileItem}
use Rattle.plan_leaves.specs.declared.files.ItemPath.{ItemPath}
use Rattle.plan_leaves.specs.declared.files.ItemPath.TheVariants as paths
use Rattle.plan_leaves.specs.declared.files.LocalFiles.{LocalFiles}
use Rattle.plan_leaves.specs.declared.literal.LiteralRow.{LiteralRow}
use Rattle.plan_leaves.specs.declared.literal.RawLiteral.{RawLiteral}
use Rattle.plan_leaves.specs.declared.schema.NamedTable.{NamedTable}
use Rattle.plan_raw.specs.declared.source.RawSource.{RawSource-F}
use Rattle.plan_typed.specs.declared.expr.Expr.{Expr}
use Rattle.plan_typed.specs.declared.rel.Source.{Source}
use Rattle.plan_typed.specs.declared.rel.Source.TheVariants as sources
use Rattle.plan_verdict.specs.declared.rule.Rule.{Rule}
use Rattle.plan_verdict.specs.declared.rule.Rule.TheVariants as rules
use Rattle.plan_verdict.specs.Checking.{Checking, ◌>>=◌, ◌>>◌, accept, refuse, part, must, next_node, in_order}
use Rattle.plan_verdict.specs.Exprs.{must_be}
use Rattle.plan_verdict.specs.Literals.{constant_in}
use Rattle.plan_verdict.specs.Meaning.{Scope, Expression, Checked}
use Rattle.plan_verdict.specs.Lists.{is_empty}

-- expressions of a virtual table stand over no columns
abbrev pub no_columns : ℕ → Scope
no_columns number = record { relation = number; columns = [] }

-- a field of a row, of its column's kind
abbrev pub of_kind : Scope → Ty → Checking Expr → Checking Expr
of_kind scope ty field = do
  expr ← field
  must_be scope ty.kind expr
  accept expr

-- the fields of a row, each of its column's kind
abbrev pub fields_in : ℕ → List Ty → List (Checking Expr) → Checking (List Expr)
fields_in number types fields = in_order (map (λ (field : Checking Expr × Ty). of_kind (no_columns number) field.1 field.0) (zip fields types))

-- a row: as many fields as columns
abbrev pub row_in : ℕ → List Ty → List (Checking Expr) → Checking (List Expr)
row_in number types fields = do
  must number (length fields == length types) rules.TypeMismatch
  fields_in number types fields

-- a literal in a row, which is numbered as any expression
abbrev pub literal_field : ℕ → RawLiteral → Checking Expr
literal_field number raw = do
  next_node
  part number (constant_in raw)

-- a row of literals, and one of expressions
abbrev pub literal_row : ℕ → List Ty → LiteralRow → Checking (List Expr)
literal_row number types row = row_in number types (map (literal_field number) row.fields)

abbrev pub expr_row : ℕ → List Ty → List Expression → Checking (List Expr)
expr_row number types fields = row_in number types (map (λ field. field.check (no_columns number)) fields)

-- VirtualTable: the rows of literals, and then those of expressions
abbrev pub rows_in : List LiteralRow → List (List Expression) → ℕ → List Ty → Checking (List (List Expr))
rows_in literal_rows expr_rows number types = do
  literals ← in_order (map (literal_row number types) literal_rows)
  exprs ← in_order (map (expr_row number types) expr_rows)
  accept (literals ++ exprs)

-- the path of an item
abbrev pub path_of : ItemPath → Option (List ℕ)
path_of (paths.UriPath path) = Some path
path_of (paths.UriFile path) = Some path
path_of paths.Missing = None

-- FileOrFiles: a path, in the Arrow format
abbrev pub item_in : FileItem → Result (List ℕ) Rule
item_in item = ok_or (if item.arrow then path_of item.path else None) rules.UnsupportedForm

-- LocalFiles: the paths of its items
abbrev pub paths_in : LocalFiles → Result (List (List ℕ)) Rule
paths_in files = if is_empty files.items then Err rules.MissingField else collect (map item_in files.items)

-- NamedTable: the table's names, with dots between them
abbrev pub table_name_in : NamedTable → Result (List ℕ) Rule
table_name_in table = if is_empty table.names then Err rules.MissingField else Ok (join_with_byte 46 table.names)

-- what a read reads: the rows of a virtual table, the paths of local files, or a named table
abbrev pub source_in : Checked RawSource-F → ℕ → List Ty → Checking Source
source_in RawSource-F.«RawSource::Missing» number types = refuse number rules.MissingField
source_in (RawSource-F.VirtualTable table) number types = do
  rows ← table number types
  accept (sources.Rows rows)
source_in (RawSource-F.LocalFiles files) number types = do
  names ← part number (paths_in files)
  accept (sources.Named names)
source_in (RawSource-F.NamedTable table) number types = do
  name ← part number (table_name_in table)
  accept (sources.Named (name ∷ []))
