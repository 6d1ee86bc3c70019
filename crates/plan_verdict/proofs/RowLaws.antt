-- The rows and the source of a read are well typed.
use Rattle.std.proofs.Common.{Err, Ok, Result, cond, ◌≡◌, ℕ, List, [], ◌∷◌, ◌++◌, Bool, true, false, map, refl, arith}
use Rattle.std.specs.Prelude.{length, ◌==◌}
use Rattle.std.specs.List.{AllByRecursion, zip}
use Rattle.std.proofs.lemmas.Bool.Decides.{nat_tests}
use Rattle.sub_types.specs.ResultSteps.{collect}
use Rattle.sub_types.specs.declared.kind.Ty.{Ty}
use Rattle.plan_leaves.specs.declared.files.FileItem.{FileItem}
use Rattle.plan_leaves.specs.declared.files.LocalFiles.{LocalFiles}
use Rattle.plan_leaves.specs.declared.literal.LiteralRow.{LiteralRow}
use Rattle.plan_leaves.specs.declared.literal.RawLiteral.{RawLiteral}
use Rattle.plan_leaves.specs.declared.schema.NamedTable.{NamedTable}
use Rattle.plan_raw.specs.declared.source.RawSource.{RawSource-F}
use Rattle.plan_typed.specs.declared.expr.Expr.{Expr}
use Rattle.plan_typed.specs.declared.rel.Source.{Source}
use Rattle.plan_typed.specs.declared.rel.Source.TheVariants as sources
use Rattle.func_table.proofs.KindLaws.{equal_kinds}
use Rattle.func_table.specs.Kinds.{is_equal}
use Rattle.well_typed.specs.ExprTyped.{IsTypedOver, HasOne}
use Rattle.well_typed.specs.Types.{kind_of}
use Rattle.well_typed.specs.WellTyped.{IsRowOf, IsSourceOf}
use Rattle.plan_verdict.specs.declared.rule.Rule.{Rule}
use Rattle.plan_verdict.specs.declared.rule.Rule.TheVariants as rules
use Rattle.plan_verdict.specs.Checking.{Checking, part, in_order}
use Rattle.plan_verdict.specs.Literals.{constant_in}
use Rattle.plan_verdict.specs.Lists.{is_empty}
use Rattle.plan_verdict.specs.Meaning.{Expression}
use Rattle.plan_verdict.specs.Reads.{no_columns, of_kind, row_in, literal_field, literal_row, expr_row, rows_in, item_in, paths_in, table_name_in, source_in}
use Rattle.plan_verdict.proofs.ExprLaws.{IsSoundExpr, constant_sound}
use Rattle.plan_verdict.proofs.RelLaws.{anything_given}
use Rattle.plan_verdict.proofs.Sound.{Quiet, then, and_then, accepted, refused, parted, tested, same_held, mapped, each_sound, next_sound, Given, AllOf, given_collect}

-- rows of these types, and a source of them
abbrev pub IsSoundTable : (ℕ → List Ty → Checking (List (List Expr))) → Type 0
IsSoundTable table = (number : ℕ) (types : List Ty) → Quiet (AllByRecursion (IsRowOf types)) (table number types)

abbrev pub IsSoundSource : (ℕ → List Ty → Checking Source) → Type 0
IsSoundSource source = (number : ℕ) (types : List Ty) → Quiet (IsSourceOf types) (source number types)

all_both : {A : Type 0} (P : A → Type 0) (xs ys : List A) → AllByRecursion P xs → AllByRecursion P ys → AllByRecursion P (xs ++ ys)
all_both P [] ys all others = others
all_both P (x ∷ xs) ys all others = (all.0, all_both P xs ys all.1 others)

nothing_of : {A : Type 0} (xs : List A) → AllByRecursion (λ _. Unit {0}) xs
nothing_of [] = tt
nothing_of (x ∷ xs) = (tt, nothing_of xs)

module _ (number : ℕ) where
  abbrev Is : Expr → Type 0
  Is = IsTypedOver []

  -- a field of its column's kind
  field_sound : (ty : Ty) (field : Checking Expr) → Quiet Is field → Quiet (λ expr. Is expr × (kind_of expr ≡ ty.kind)) (of_kind (no_columns number) ty field)
  field_sound ty field ok extra =
      then (ok extra) (λ expr typed.
      and_then (tested extra number (is_equal (kind_of expr) ty.kind) rules.TypeMismatch) (λ _ test.
      accepted (λ expr. Is expr × (kind_of expr ≡ ty.kind)) (λ _. extra) extra expr (typed, equal_kinds (kind_of expr) ty.kind test) (same_held extra)))

  fields_sound : (types : List Ty) (fields : List (Checking Expr)) → AllByRecursion (Quiet Is) fields → length fields ≡ length types
      → Quiet (IsRowOf types) (in_order (map (λ (field : Checking Expr × Ty). of_kind (no_columns number) field.1 field.0) (zip fields types)))
  fields_sound [] [] all e extra = accepted (IsRowOf []) (λ _. extra) extra [] tt (same_held extra)
  fields_sound [] (field ∷ fields) all e extra = let no : ⊥ = omega (arith, e) in absurd no
  fields_sound (ty ∷ types) [] all e extra = let no : ⊥ = omega (arith, e) in absurd no
  fields_sound (ty ∷ types) (field ∷ fields) all e extra =
      then (field_sound ty field all.0 extra) (λ expr is.
      then (fields_sound types fields all.1 (omega (arith, e)) extra) (λ exprs row.
      accepted (IsRowOf (ty ∷ types)) (λ _. extra) extra (expr ∷ exprs) (is.0, is.1, row) (same_held extra)))

  row_where : (types : List Ty) (fields : List (Checking Expr)) (test : Bool) → (length fields == length types) ≡ test → test ≡ true → length fields ≡ length types
  row_where types fields true e h = grind (arith, nat_tests)
  row_where types fields false e h = absurd cc

  row_sound : (types : List Ty) (fields : List (Checking Expr)) → AllByRecursion (Quiet Is) fields → Quiet (IsRowOf types) (row_in number types fields)
  row_sound types fields all extra =
      and_then (tested extra number (length fields == length types) rules.TypeMismatch) (λ _ test.
      fields_sound types fields all (row_where types fields (length fields == length types) refl test) extra)

  -- a literal in a row
  literal_sound : (raw : RawLiteral) → Quiet Is (literal_field number raw)
  literal_sound raw extra = next_sound Is (λ _. extra) extra (λ _. part number (constant_in raw)) (λ node. parted Is extra number (constant_in raw) (constant_sound (no_columns number) tt raw))

  literals_sound : (types : List Ty) (row : LiteralRow) → Quiet (IsRowOf types) (literal_row number types row)
  literals_sound types row = row_sound types (map (literal_field number) row.fields) (mapped Is (λ _. Unit {0}) (literal_field number) row.fields (nothing_of row.fields) (λ raw _. literal_sound raw))

  exprs_sound : (types : List Ty) (fields : List Expression) → AllByRecursion IsSoundExpr fields → Quiet (IsRowOf types) (expr_row number types fields)
  exprs_sound types fields all =
      row_sound types (map (λ (field : Expression). field.check (no_columns number)) fields) (mapped Is IsSoundExpr (λ (field : Expression). field.check (no_columns number)) fields all (λ field ok. ok (no_columns number) tt))

-- VirtualTable
pub rows_sound : (literal_rows : List LiteralRow) (expr_rows : List (List Expression)) → AllByRecursion (AllByRecursion IsSoundExpr) expr_rows → IsSoundTable (rows_in literal_rows expr_rows)
rows_sound literal_rows expr_rows all number types extra =
    then (each_sound (IsRowOf types) (λ _. Unit {0}) (literal_row number types) literal_rows (nothing_of literal_rows) (λ row _. literals_sound number types row) extra) (λ literals p.
    then (each_sound (IsRowOf types) (AllByRecursion IsSoundExpr) (expr_row number types) expr_rows all (exprs_sound number types) extra) (λ exprs q.
    accepted (AllByRecursion (IsRowOf types)) (λ _. extra) extra (literals ++ exprs) (all_both (IsRowOf types) literals exprs p.0 q.0) (same_held extra)))

-- what a read reads, by its member
pub missing_source_sound : IsSoundSource (source_in RawSource-F.«RawSource::Missing»)
missing_source_sound number types extra = refused (IsSourceOf types) (λ _. extra) extra number rules.MissingField

pub table_source_sound : (table : ℕ → List Ty → Checking (List (List Expr))) → IsSoundTable table → IsSoundSource (source_in (RawSource-F.VirtualTable table))
table_source_sound table ok number types extra =
    then (ok number types extra) (λ rows all. accepted (IsSourceOf types) (λ _. extra) extra (sources.Rows rows) all (same_held extra))

-- there is a path at least
paths_given : (files : LocalFiles) → Given HasOne (paths_in files)
paths_given files = paths_of files.items
  where
    some : (items : List FileItem) (paths : List (List ℕ)) → length paths ≡ length items → HasOne items → HasOne paths
    some [] paths e one = absurd one
    some (item ∷ items) [] e one = let no : ⊥ = omega (arith, e) in absurd no
    some (item ∷ items) (path ∷ paths) e one = tt

    found_known : (items : List FileItem) (r : Result (List (List ℕ)) Rule) → HasOne items → Given (AllOf (λ _. Unit {0}) (length items)) r → Given HasOne r
    found_known items (Ok paths) one p = some items paths p.1 one
    found_known items (Err rule) one p = tt

    paths_of : (items : List FileItem) → Given HasOne (cond (is_empty items) (Err rules.MissingField) (collect (map item_in items)))
    paths_of [] = tt
    paths_of (item ∷ items) = found_known (item ∷ items) (collect (map item_in (item ∷ items))) tt (given_collect (λ _. Unit {0}) item_in (item ∷ items) (λ one. anything_given (item_in one)))

pub files_source_sound : (files : LocalFiles) → IsSoundSource (source_in (RawSource-F.LocalFiles files))
files_source_sound files number types extra =
    then (parted HasOne extra number (paths_in files) (paths_given files)) (λ names one. accepted (IsSourceOf types) (λ _. extra) extra (sources.Named names) one (same_held extra))

pub named_source_sound : (table : NamedTable) → IsSoundSource (source_in (RawSource-F.NamedTable table))
named_source_sound table number types extra =
    then (parted (λ _. Unit {0}) extra number (table_name_in table) (anything_given (table_name_in table))) (λ name _. accepted (IsSourceOf types) (λ _. extra) extra (sources.Named (name ∷ [])) tt (same_held extra))
