use Rattle.std.proofs.Common.{◌∙◌, List, All, sym, subst}
use Rattle.std.proofs.lemmas.List.Elements.{All-from_recursion}
use Rattle.sub_types.specs.declared.kind.Ty.{Ty}
use Rattle.sub_types.specs.Kind.{IsKind}
use Rattle.sub_types.specs.Value.{Fits}
use Rattle.aggregate_tests.specs.Typed.{numbers}
use Rattle.aggregate_tests.proofs.rows.batch_of.Goals as goal

pub rows_to_batch-requires-clause-kinds : goal.rows_to_batch-requires-clause-kinds
rows_to_batch-requires-clause-kinds c =
    let all : All (λ (ty : Ty). IsKind ty.kind) numbers = All-from_recursion (λ (ty : Ty). IsKind ty.kind) numbers (tt, (tt, tt)) in
    subst (All (λ (ty : Ty). IsKind ty.kind)) (sym (c.as_slice.ensures.value ∙ c.in_ok-types.ensures)) all

pub rows_to_batch-requires-clause-fit : goal.rows_to_batch-requires-clause-fit
rows_to_batch-requires-clause-fit c =
    subst (λ (own : List Ty). All (Fits own) c.as_slice-2.result.now) (sym (c.as_slice.ensures.value ∙ c.in_ok-types.ensures))
    (subst (All (Fits numbers)) (sym c.as_slice-2.ensures) c.in_ok-rows.ensures)

pub returns-clause-fit : goal.returns-clause-fit
returns-clause-fit c = subst (All (Fits numbers)) (sym (c.in_ok-batch.ensures.rows ∙ c.as_slice-2.ensures)) c.in_ok-rows.ensures
