-- One step over a piece: the rows fit the types of its columns, and a fault that ends the piece stays.
use Rattle.std.proofs.Common.{◌≡◌, ℕ, List, [], ◌∷◌, ◌++◌, Option, Some, None, map, length, sym, ap, subst}
use Rattle.std.specs.Prelude.{slice_index_or}
use Rattle.std.specs.List.{All, AllByRecursion}
use Rattle.std.proofs.lemmas.List.Elements.{All-from_recursion, recursion_from_All}
use Rattle.sub_types.specs.declared.fault.Fault.{Fault}
use Rattle.sub_types.specs.declared.kind.Ty.{Ty}
use Rattle.sub_types.specs.Stream.{Stream, ended, followed_by, glue, each_stream}
use Rattle.sub_types.specs.Value.{Fits}
use Rattle.plan_typed.specs.declared.expr.Expr.{Expr}
use Rattle.plan_typed.specs.Types.{ty_of}
use Rattle.well_typed.specs.Columns.{columns_at}
use Rattle.well_typed.specs.ExprTyped.{IsTypedOver}
use Rattle.well_typed.specs.WellTyped.{AreBelow}
use Rattle.plan_denote.specs.Rows.{Row, Formula, unless_fault}
use Rattle.plan_denote.specs.Eval.{eval}
use Rattle.plan_denote.specs.Filter.{filtered}
use Rattle.plan_denote.specs.Project.{projected, emitted}
use Rattle.plan_denote.specs.Read.{read_rows}
use Rattle.denote_typed.proofs.EachLaws.{filtered_all, projected_fits, emitted_fits}
use Rattle.batch.specs.declared.batch.Batch.{Batch}
use Rattle.batch.specs.declared.batch.Piece.{Piece}
use Rattle.batch.specs.BatchRows.{rows_of, stream_of_piece, types_of}
use Rattle.plan_pipes.specs.declared.pipe.Step.{Step}
use Rattle.plan_pipes.specs.declared.pipe.Step.TheVariants as steps
use Rattle.plan_pipes.specs.Run.{stepped}
use Rattle.plan_pipes.specs.RowMeaning.{Table, no_table}
use Rattle.plan_pipes.specs.Pieces.{piece_steps, probed}
use Rattle.pipe_steps.specs.Ready.{IsFit, IsReady}

-- ---- rows that fit

-- the rows of a batch, as those of a stream
pub fits_in : (types : List Ty) (piece : Piece) (s : Stream Row) → types_of piece.batch ≡ types → stream_of_piece piece ≡ s → AllByRecursion (Fits types) s.rows → IsFit piece.batch
fits_in types piece s typed same all =
    let P : List Row → Type 0 = λ rows. AllByRecursion (Fits types) rows in
    let Q : List Ty → Type 0 = λ ts. All (Fits ts) (rows_of piece.batch) in
    subst Q (sym typed) (All-from_recursion (Fits types) (rows_of piece.batch) (subst P (sym (ap (λ (one : Stream Row). one.rows) same)) all))

pub rows_fit : (batch : Batch) → IsFit batch → AllByRecursion (Fits (types_of batch)) (rows_of batch)
rows_fit batch fit = recursion_from_All (Fits (types_of batch)) (rows_of batch) fit

-- a batch of the types that its rows fit
pub fits_typed : (types : List Ty) (batch : Batch) → types_of batch ≡ types → All (Fits types) (rows_of batch) → IsFit batch
fits_typed types batch typed fit =
    let Q : List Ty → Type 0 = λ ts. All (Fits ts) (rows_of batch) in
    subst Q (sym typed) fit

pub filter_fits : (number : ℕ) (condition : Formula) (input out : Piece) → types_of out.batch ≡ types_of input.batch → stream_of_piece out ≡ filtered number condition (stream_of_piece input) → IsFit input.batch → IsFit out.batch
filter_fits number condition input out typed same fit =
    let types = types_of input.batch in
    fits_in types out (filtered number condition (stream_of_piece input)) typed same
    (filtered_all (Fits types) number condition (stream_of_piece input) (rows_fit input.batch fit))

pub project_fits : (number : ℕ) (exprs : List Expr) (input out : Piece) → AllByRecursion (IsTypedOver (types_of input.batch)) exprs → types_of out.batch ≡ types_of input.batch ++ map ty_of exprs
    → stream_of_piece out ≡ projected number (map eval exprs) (stream_of_piece input) → IsFit input.batch → IsFit out.batch
project_fits number exprs input out over typed same fit =
    let types = types_of input.batch in
    fits_in (types ++ map ty_of exprs) out (projected number (map eval exprs) (stream_of_piece input)) typed same
    (projected_fits types exprs number (stream_of_piece input) over (rows_fit input.batch fit))

pub keep_fits : (places : List ℕ) (input out : Piece) → AreBelow (length (types_of input.batch)) places → types_of out.batch ≡ columns_at (types_of input.batch) places
    → stream_of_piece out ≡ emitted places (stream_of_piece input) → IsFit input.batch → IsFit out.batch
keep_fits places input out below typed same fit =
    let types = types_of input.batch in
    fits_in (columns_at types places) out (emitted places (stream_of_piece input)) typed same
    (emitted_fits types places (stream_of_piece input) below (rows_fit input.batch fit))

-- rows that fit are ready for any step
pub ready_for : (all : List Step) (batch : Batch) → IsFit batch → IsReady all batch
ready_for [] batch fit = fit
ready_for (steps.Read relation names types filter mask ∷ more) batch fit = tt
ready_for (steps.Filter relation condition ∷ more) batch fit = fit
ready_for (steps.Project relation exprs ∷ more) batch fit = fit
ready_for (steps.Keep columns ∷ more) batch fit = fit
ready_for (steps.Probe built ∷ more) batch fit = fit

-- ---- a fault that ends a piece

rest_end : {R : Type 0} (rows : List R) (end : Option Fault) (rest : Stream R) → (followed_by (record { rows = rows; end = end }) rest).end ≡ None → rest.end ≡ None
rest_end rows None rest is = is
rest_end rows (Some fault) rest is = absurd (cc)

each_end : {A B : Type 0} (f : A → Stream B) (s : Stream A) → (each_stream f s).end ≡ None → s.end ≡ None
each_end f s is = let whole = glue (map f s.rows) in rest_end whole.rows whole.end (ended s.end) is

unless_end : {A : Type 0} (fault : Option Fault) (s : Stream A) → (unless_fault fault s).end ≡ None → s.end ≡ None
unless_end None s is = is
unless_end (Some fault) s is = absurd (cc)

probed_end : (table : Table) (s : Stream Row) → (probed table s).end ≡ None → s.end ≡ None
unfolding probed
probed_end table s is = each_end _ s (unless_end table.right.end _ is)

-- where a step gives no fault, there was none before
pub end_before : (tables : List Table) (step : Step) (s : Stream Row) → (stepped piece_steps tables step s).end ≡ None → s.end ≡ None
unfolding read_rows filtered projected emitted
end_before tables (steps.Read relation names types filter mask) s is = each_end _ s is
end_before tables (steps.Filter relation condition) s is = each_end _ s is
end_before tables (steps.Project relation exprs) s is = each_end _ s is
end_before tables (steps.Keep columns) s is = is
end_before tables (steps.Probe built) s is = probed_end (slice_index_or tables built no_table) s is
