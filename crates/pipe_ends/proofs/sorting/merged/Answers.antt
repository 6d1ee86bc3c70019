use Rattle.std.proofs.Common.{Vec, Global, ◌≡◌, ◌∙◌, [], sym, ap}
use Rattle.std.specs.List.{flat_map}
use Rattle.std.specs.Prelude.{vec_len}
use Rattle.std.proofs.lemmas.Bool.{eqb-true}
use Rattle.std.proofs.lemmas.Result.{IfOk-weaker}
use Rattle.sub_types.specs.Stream.{rows_alone}
use Rattle.batch.specs.declared.batch.Batch.{Batch}
use Rattle.batch.specs.BatchRows.{rows_of}
use Rattle.plan_pipes.specs.RowMeaning.{sorted_by}
use Rattle.sort_merge.specs.RowOrder.{in_order}
use Rattle.pipe_parts.proofs.RunLaws.{run_is}
use Rattle.pipe_ends.proofs.SortLaws.{columns_of_all, no_items, none_in_order}
use Rattle.pipe_ends.proofs.sorting.merged.Goals as goal

pub returns-then-is_empty-clause-rows : goal.returns-then-is_empty-clause-rows
returns-then-is_empty-clause-rows c =
    let runs = c.args.runs in
    let none : runs.items ≡ [] = no_items runs.items (sym runs.ok.0 ∙ eqb-true (vec_len runs) 0 (sym c.is_empty.ensures ∙ c.if-is_empty.true)) in
    ap (flat_map rows_of) none ∙ none_in_order c.args.keys.now ∙ ap (in_order c.args.keys.now) (sym (ap (flat_map rows_of) none))

pub interleave-requires-clause-columns : goal.interleave-requires-clause-columns
interleave-requires-clause-columns c = columns_of_all c.args.keys.now c.args.types.now c.args.runs.items c.requires.columns c.requires.typed

pub returns-clause-rows : goal.returns-clause-rows
returns-clause-rows c =
    let keys = c.args.keys.now in
    let rows = flat_map rows_of c.args.runs.items in
    IfOk-weaker c.interleave.result (λ (batches : Vec Batch Global). rows_alone (flat_map rows_of batches.items) ≡ sorted_by keys (rows_alone rows)) (λ (batches : Vec Batch Global). flat_map rows_of batches.items ≡ in_order keys rows)
    (λ batches is. run_is keys (flat_map rows_of batches.items) rows is) c.interleave.ensures.rows
