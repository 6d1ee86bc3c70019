-- What a step's call gives fits, if it gives a piece.
use Rattle.std.proofs.Common.{◌≡◌, ℕ, List, ◌++◌, Result, Ok, Err, length, map, sym, subst}
use Rattle.std.specs.Prelude.{IfOk}
use Rattle.std.specs.List.{AllByRecursion}
use Rattle.plan_typed.specs.declared.expr.Expr.{Expr}
use Rattle.plan_typed.specs.Types.{ty_of}
use Rattle.well_typed.specs.Columns.{columns_at, join_columns}
use Rattle.well_typed.specs.ExprTyped.{IsTypedOver}
use Rattle.well_typed.specs.WellTyped.{AreBelow}
use Rattle.plan_denote.specs.Eval.{eval}
use Rattle.plan_denote.specs.Filter.{filtered}
use Rattle.plan_denote.specs.Project.{projected, emitted}
use Rattle.batch.specs.declared.batch.Piece.{Piece}
use Rattle.batch.specs.BatchRows.{stream_of_piece, types_of}
use Rattle.join_columns.specs.Sides.{kinds_of}
use Rattle.plan_pipes.specs.Pieces.{probed}
use Rattle.pipe_steps.specs.declared.built.BuiltTable.{BuiltTable}
use Rattle.pipe_steps.specs.Ready.{IsFit}
use Rattle.pipe_steps.specs.Tables.{table_seen}
use Rattle.pipe_steps.proofs.JoinedLaws.{probe_fits}
use Rattle.pipe_steps.proofs.StepLaws.{filter_fits, project_fits, keep_fits}

pub filter_given : {E : Type 0} (number : ℕ) (condition : Expr) (input : Piece) (result : Result Piece E) → IfOk result (λ (out : Piece). types_of out.batch ≡ types_of input.batch)
    → IfOk result (λ (out : Piece). stream_of_piece out ≡ filtered number (eval condition) (stream_of_piece input)) → IsFit input.batch → IfOk result (λ (out : Piece). IsFit out.batch)
filter_given number condition input (Err e) typed stream fit = tt
filter_given number condition input (Ok out) typed stream fit = filter_fits number (eval condition) input out typed stream fit

pub project_given : {E : Type 0} (number : ℕ) (exprs given : List Expr) → given ≡ exprs → (input : Piece) (result : Result Piece E) → AllByRecursion (IsTypedOver (types_of input.batch)) exprs
    → IfOk result (λ (out : Piece). types_of out.batch ≡ types_of input.batch ++ map ty_of given) → IfOk result (λ (out : Piece). stream_of_piece out ≡ projected number (map eval given) (stream_of_piece input))
    → IsFit input.batch → IfOk result (λ (out : Piece). IsFit out.batch)
project_given number exprs given same input (Err e) over typed stream fit = tt
project_given number exprs given same input (Ok out) over typed stream fit =
    project_fits number given input out (subst (AllByRecursion (IsTypedOver (types_of input.batch))) (sym same) over) typed stream fit

pub keep_given : {E : Type 0} (places given : List ℕ) → given ≡ places → (input : Piece) (result : Result Piece E) → AreBelow (length (types_of input.batch)) places
    → IfOk result (λ (out : Piece). types_of out.batch ≡ columns_at (types_of input.batch) given) → IfOk result (λ (out : Piece). stream_of_piece out ≡ emitted given (stream_of_piece input))
    → IsFit input.batch → IfOk result (λ (out : Piece). IsFit out.batch)
keep_given places given same input (Err e) below typed stream fit = tt
keep_given places given same input (Ok out) below typed stream fit = keep_fits given input out (subst (AreBelow (length (types_of input.batch))) (sym same) below) typed stream fit

pub probe_given : {E : Type 0} (built : BuiltTable) (left : Piece) (result : Result Piece E) → kinds_of (types_of left.batch) ≡ kinds_of built.table.spec.left.items
    → IfOk result (λ (out : Piece). types_of out.batch ≡ join_columns built.table.spec.kind (types_of left.batch) built.table.spec.right.items)
    → IfOk result (λ (out : Piece). stream_of_piece out ≡ probed (table_seen built) (stream_of_piece left)) → IsFit left.batch → IfOk result (λ (out : Piece). IsFit out.batch)
probe_given built left (Err e) same typed stream fit = tt
probe_given built left (Ok out) same typed stream fit = probe_fits built left out same typed stream fit
