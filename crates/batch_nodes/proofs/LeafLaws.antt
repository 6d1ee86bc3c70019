-- Constants and columns at rows of a batch.
use Rattle.std.proofs.Common.{◌≡◌, ◌∙◌, ℕ, zero, suc, ◌<◌, List, [], ◌∷◌, length, map, replicate, get_or, Some, Ok, sym, ap, subst, arith}
use Rattle.std.specs.Prelude.{slice_get}
use Rattle.std.specs.List.{All}
use Rattle.sub_types.specs.Kind.{IsKind}
use Rattle.sub_types.specs.Rows.{picked}
use Rattle.sub_types.specs.Value.{InKind}
use Rattle.sub_types.specs.declared.kind.Kind.{Kind}
use Rattle.sub_types.specs.declared.kind.Ty.{Ty}
use Rattle.sub_types.specs.declared.value.Value.{Value}
use Rattle.sub_types.specs.declared.value.Value.TheVariants.{Null}
use Rattle.plan_typed.specs.declared.expr.Expr.{Expr, Expr-F}
use Rattle.plan_typed.specs.declared.expr.Expr.TheVariants as e
use Rattle.plan_typed.specs.declared.expr.Expr.TheVariants.{rolls-Const, rolls-Column}
use Rattle.plan_typed.specs.Types.{ty_of}
use Rattle.well_typed.specs.ExprTyped.{IsTypedOver}
use Rattle.plan_denote.proofs.EvalLaws.{eval-Const, eval-Column}
use Rattle.batch.specs.BatchRows.{rows_of, types_of, columns_of, column_of}
use Rattle.batch.specs.Column.{column_type}
use Rattle.batch.specs.declared.batch.Batch.{Batch}
use Rattle.batch.proofs.RowLaws.{get_or-transpose, get_or-across}
use Rattle.kernels.specs.declared.selection.Stop.TheVariants.{Never}
use Rattle.batch_nodes.specs.Evaluated.{eval_at, evaluated}
use Rattle.batch_nodes.specs.Found.{IsUntil, IsOfKind, found_values}
use Rattle.batch_nodes.specs.declared.found.Found.{Found}
use Rattle.batch_nodes.specs.declared.found.Found.TheVariants.{Constant}
use Rattle.batch_nodes.proofs.TypedLaws.{node, type_in}
use Rattle.batch_nodes.proofs.UntilLaws.{until-constant, until-values}

-- ---- constants

module _ (batch : Batch) (expr : Expr) (value : Value) (ty : Ty) (is : expr ≡ e.Const value ty) where
  constant_type : ty ≡ ty_of expr
  constant_type = type_in (Expr-F.Const value ty) expr (rolls-Const value ty ∙ sym is)

  pub constant_kind : IsTypedOver (types_of batch) expr → IsKind (ty_of expr).kind
  constant_kind typed = subst (λ (one : Ty). IsKind one.kind) constant_type (node (types_of batch) (Expr-F.Const value ty) expr (rolls-Const value ty ∙ sym is) typed).0

  pub constant_in_kind : IsTypedOver (types_of batch) expr → InKind (ty_of expr).kind value
  constant_in_kind typed = subst (λ (one : Ty). InKind one.kind value) constant_type (node (types_of batch) (Expr-F.Const value ty) expr (rolls-Const value ty ∙ sym is) typed).1.in_kind

  pub constant_rows : (rows : List ℕ) → evaluated expr batch rows ≡ record { values = replicate (length rows) value; stop = Never }
  constant_rows rows = until-constant (eval_at expr batch) value (λ i. ap (λ one. eval_at one batch i) is ∙ eval-Const value ty (get_or (rows_of batch) i [])) rows

-- ---- columns

module _ (batch : Batch) (expr : Expr) (index : ℕ) (ty : Ty) (is : expr ≡ e.Column index ty) where
  column_type_of : ty ≡ ty_of expr
  column_type_of = type_in (Expr-F.Column index ty) expr (rolls-Column index ty ∙ sym is)

  some_below : {X Y : Type 0} (f : X → Y) (xs : List X) (i : ℕ) (y : Y) → slice_get (map f xs) i ≡ Some y → i < length xs
  some_below f [] i y found = absurd (cc)
  some_below f (x ∷ xs) zero y found = omega arith
  some_below f (x ∷ xs) (suc i) y found = omega (arith, some_below f xs i y found)

  pub column_exists : IsTypedOver (types_of batch) expr → index < length batch.columns.items
  column_exists typed =
      let found = node (types_of batch) (Expr-F.Column index ty) expr (rolls-Column index ty ∙ sym is) typed in
      some_below column_type batch.columns.items index found.0 found.1

  pub column_rows : (rows : List ℕ) → All (λ i. i < batch.rows) rows → evaluated expr batch rows ≡ record { values = picked Null rows (column_of index batch); stop = Never }
  column_rows rows exist =
      until-values (λ i. i < batch.rows) (eval_at expr batch) (λ i. get_or (column_of index batch) i Null) each rows exist
    where
      each : (i : ℕ) → i < batch.rows → eval_at expr batch i ≡ Ok (get_or (column_of index batch) i Null)
      each i below =
          ap (λ one. eval_at one batch i) is
          ∙ eval-Column index ty (get_or (rows_of batch) i [])
          ∙ ap Ok (ap (λ row. get_or row index Null) (get_or-transpose Null batch.rows i (columns_of batch) [] below) ∙ get_or-across Null (columns_of batch) i index)

  pub column_until : (rows : List ℕ) (found : Found) → IsTypedOver (types_of batch) expr → All (λ i. i < batch.rows) rows → found_values found ≡ picked Null rows (column_of index batch)
      → ((one : Ty) → slice_get (types_of batch) index ≡ Some one → IsOfKind one.kind found) → IsUntil (eval_at expr batch) rows (ty_of expr).kind found Never
  column_until rows found typed exist values kind =
      let column = node (types_of batch) (Expr-F.Column index ty) expr (rolls-Column index ty ∙ sym is) typed in
      let all = column_rows rows exist in
      let same : column.0.kind ≡ (ty_of expr).kind = sym column.2.kind ∙ ap (λ (one : Ty). one.kind) column_type_of in
      record {
        values = values ∙ sym (ap (λ found. found.values) all);
        stop = sym (ap (λ found. found.stop) all);
        kind = subst (λ (one : Kind). IsOfKind one found) same (kind column.0 column.1);
      }
