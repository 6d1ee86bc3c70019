-- A copy of a piece, and marks of which none was set before.
use Rattle.std.proofs.Common.{◌≡◌, ◌∙◌, ◌-◌, List, [], ◌∷◌, Bool, length, refl, sym, ap, subst, arith}
use Rattle.std.specs.List.{All, slice_range}
use Rattle.std.proofs.lemmas.List.{take_all}
use Rattle.sub_types.specs.Stream.{Stream}
use Rattle.sub_types.specs.Value.{Fits}
use Rattle.sub_types.specs.declared.value.Value.{Value}
use Rattle.sub_types.specs.declared.kind.Ty.{Ty}
use Rattle.plan_denote.specs.Rows.{Row}
use Rattle.batch.specs.declared.batch.Batch.{Batch}
use Rattle.batch.specs.BatchRows.{rows_of, types_of}
use Rattle.plan_pipes.specs.declared.pipe.Step.{Step}
use Rattle.plan_pipes.specs.declared.pipe.Step.TheVariants as steps
use Rattle.plan_pipes.specs.RowMeaning.{Table}
use Rattle.plan_pipes.specs.Pieces.{Agree, marks_through, merged_each}
use Rattle.plan_pipes.proofs.PiecesLaws.{marks_through-append}
use Rattle.table_rows.proofs.FitLaws.{length-rows}
use Rattle.pipe_steps.specs.Marked.{HaveMarks}
use Rattle.pipe_steps.specs.Ready.{IsFit, IsReady}

-- all rows of a batch
pub whole_part : (batch : Batch) → slice_range (rows_of batch) 0 batch.rows ≡ rows_of batch
whole_part batch = take_all (batch.rows - 0) (rows_of batch) (omega (arith, length-rows batch))

fit_copy : (copy batch : Batch) → types_of copy ≡ types_of batch → rows_of copy ≡ rows_of batch → IsFit batch → IsFit copy
fit_copy copy batch types rows fit = subst (λ (q : List Ty × List (List Value)). All (Fits q.0) q.1) (λ i. (sym types i, sym rows i)) fit

-- a copy may go where the batch may
pub ready_copy : (all : List Step) (copy batch : Batch) → types_of copy ≡ types_of batch → rows_of copy ≡ rows_of batch → IsReady all batch → IsReady all copy
ready_copy [] copy batch types rows fit = fit_copy copy batch types rows fit
ready_copy (steps.Read relation names columns filter mask ∷ more) copy batch types rows fit = tt
ready_copy (steps.Filter relation condition ∷ more) copy batch types rows fit = fit_copy copy batch types rows fit
ready_copy (steps.Project relation exprs ∷ more) copy batch types rows fit = fit_copy copy batch types rows fit
ready_copy (steps.Keep columns ∷ more) copy batch types rows fit = fit_copy copy batch types rows fit
ready_copy (steps.Probe built ∷ more) copy batch types rows fit = fit_copy copy batch types rows fit

-- what was marked where no mark was set is what the piece marks
pub marked_alone : (tables : List Table) (all : List Step) (none marks : List (List Bool)) (piece : Stream Row) → none ≡ marks_through tables all []
    → Agree tables all (merged_each none (marks_through tables all (piece ∷ []))) marks → Agree tables all (marks_through tables all (piece ∷ [])) marks
marked_alone tables all none marks piece is agree =
    subst (λ first. Agree tables all first marks)
    (ap (λ first. merged_each first (marks_through tables all (piece ∷ []))) is ∙ sym (marks_through-append tables all [] (piece ∷ []))) agree

-- as many marks as steps
many_marks : (tables : List Table) (all : List Step) (marks : List (List Bool)) → HaveMarks tables all marks → length marks ≡ length all
many_marks tables [] [] have = refl
many_marks tables [] (own ∷ marks) have = absurd have
many_marks tables (step ∷ all) [] have = absurd have
many_marks tables (step ∷ all) (own ∷ marks) have = omega (arith, many_marks tables all marks have.1)

pub same_many : (tables : List Table) (all : List Step) (marks others : List (List Bool)) → HaveMarks tables all marks → HaveMarks tables all others → length marks ≡ length others
same_many tables all marks others have also = many_marks tables all marks have ∙ sym (many_marks tables all others also)
