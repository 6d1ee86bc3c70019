use Rattle.std.proofs.Common.{◌≡◌, ◌∙◌, All, Some, slice_get, ap, sym, subst}
use Rattle.std.specs.List.{flat_map}
use Rattle.std.proofs.lemmas.Result.{IfOk-weaker}
use Rattle.sub_types.specs.Stream.{rows_alone}
use Rattle.batch.specs.declared.batch.Batch.{Batch}
use Rattle.batch.specs.BatchRows.{rows_of, types_of}
use Rattle.batch_places.specs.Places.{first_types}
use Rattle.plan_pipes.specs.RowMeaning.{sorted_by}
use Rattle.sort_merge.proofs.PlaceLaws.{none_sorted, no_first, first_types_are, columns_of_whole}
use Rattle.sort_merge.proofs.runs.interleave.Goals as goal

pub returns-in_default-clause-rows : goal.returns-in_default-clause-rows
returns-in_default-clause-rows c =
    let none = sym c.deref.ensures.value ∙ no_first c.deref.result.now c.in_default.ensures.value in
    none_sorted c.args.keys.now (flat_map rows_of c.args.runs.items) (flat_map rows_of c.new.result.items) (ap (flat_map rows_of) none) (ap (flat_map rows_of) c.new.ensures.items)

pub join_batches-requires-clause-alike : goal.join_batches-requires-clause-alike
join_batches-requires-clause-alike c =
    let runs = c.args.runs.items in
    let first = c.in-Some.first.now in
    let is : Some first ≡ slice_get runs 0 = c.in-Some.ensures.value ∙ ap (λ l. slice_get l 0) c.deref.ensures.value in
    let types : c.deref-3.result.now ≡ first_types runs = c.deref-3.ensures.value ∙ c.in_ok-types.ensures.types ∙ sym (first_types_are runs first is) in
    subst (All (λ (part : Batch). types_of part ≡ c.deref-3.result.now)) (sym c.deref-4.ensures.value) (subst (λ t. All (λ (part : Batch). types_of part ≡ t) runs) (sym types) c.requires.alike)

pub batches_in_order-requires : goal.batches_in_order-requires
batches_in_order-requires c =
    let runs = c.args.runs.items in
    let first = c.in-Some.first.now in
    let is : Some first ≡ slice_get runs 0 = c.in-Some.ensures.value ∙ ap (λ l. slice_get l 0) c.deref.ensures.value in
    record { columns = columns_of_whole c.args.keys.now runs first c.in_ok-whole.whole is c.requires.columns (c.in_ok-whole.ensures.types ∙ c.deref-3.ensures.value ∙ c.in_ok-types.ensures.types) }

pub returns-clause-rows : goal.returns-clause-rows
returns-clause-rows c =
    let keys = c.args.keys.now in
    let runs = c.args.runs.items in
    let whole = c.in_ok-whole.whole in
    IfOk-weaker c.batches_in_order.result (λ batches. rows_alone (flat_map rows_of batches.items) ≡ sorted_by keys (rows_alone (rows_of whole))) (λ batches. rows_alone (flat_map rows_of batches.items) ≡ sorted_by keys (rows_alone (flat_map rows_of runs))) (λ batches given.
    given ∙ ap (λ rows. sorted_by keys (rows_alone rows)) (c.in_ok-whole.ensures.rows ∙ ap (flat_map rows_of) c.deref-4.ensures.value)) c.batches_in_order.ensures.rows

pub returns-clause-types : goal.returns-clause-types
returns-clause-types c =
    let runs = c.args.runs.items in
    let first = c.in-Some.first.now in
    let whole = c.in_ok-whole.whole in
    let is : Some first ≡ slice_get runs 0 = c.in-Some.ensures.value ∙ ap (λ l. slice_get l 0) c.deref.ensures.value in
    let types : types_of whole ≡ first_types runs = c.in_ok-whole.ensures.types ∙ c.deref-3.ensures.value ∙ c.in_ok-types.ensures.types ∙ sym (first_types_are runs first is) in
    IfOk-weaker c.batches_in_order.result (λ batches. All (λ (batch : Batch). types_of batch ≡ types_of whole) batches.items) (λ batches. All (λ (batch : Batch). types_of batch ≡ first_types runs) batches.items) (λ batches all.
    subst (λ t. All (λ (batch : Batch). types_of batch ≡ t) batches.items) types all) c.batches_in_order.ensures.types

pub returns-clause-number : goal.returns-clause-number
returns-clause-number c =
    IfOk-weaker c.batches_in_order.result (λ batches. All (λ (batch : Batch). batch.number ≡ c.in_ok-whole.whole.number) batches.items) (λ batches. All (λ (batch : Batch). batch.number ≡ 0) batches.items) (λ batches all.
    subst (λ n. All (λ (batch : Batch). batch.number ≡ n) batches.items) c.in_ok-whole.ensures.number all) c.batches_in_order.ensures.number
