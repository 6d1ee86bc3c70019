use Rattle.std.proofs.Common.{◌∙◌, ◌≤◌, ◌-◌, length, get_or, ap, arith}
use Rattle.std.specs.List.{slice_range}
use Rattle.sub_types.specs.PartLaws.{length-part}
use Rattle.sub_types.specs.declared.value.Value.TheVariants.{Null}
use Rattle.batch.specs.BatchRows.{columns_of}
use Rattle.batch.proofs.Made.{Made-more, Made-values, Made-sized}
use Rattle.sub_types.specs.Rows.{transpose}
use Rattle.batch.proofs.RowLaws.{transpose-part}
use Rattle.batch.proofs.batch.Batch.slice.Goals as goal

pub loop-column-preserved : goal.loop-column-preserved
loop-column-preserved c =
    let old = c.args.self.now.columns.items in
    let lent = c.deref-column-items.ensures.value in
    let from = c.column-item.result in
    let i = c.loop-column.column-index in
    let here = c.column-item.is ∙ ap (λ xs. get_or xs i from) lent in
    rw c.in_ok-push.ensures.items (Made-more (λ column. slice_range column c.args.from c.args.to) old c.loop-column.columns.items i from c.in_ok-part.field-0 (omega (arith, ap length lent)) here c.in_ok-part.ensures.values c.in_ok-part.ensures.ty c.loop-column.invariant)

pub invariant_of-result : goal.invariant_of-result
invariant_of-result c =
    let batch = c.args.self.now in
    let done : length c.args.self.now.columns.items ≤ c.loop-column.column-index = omega (arith, ap length c.deref-column-items.ensures.value) in
    record { sized = Made-sized (λ column. slice_range column c.args.from c.args.to) batch.columns.items c.loop-column.columns.items c.loop-column.column-index batch.rows (c.args.to - c.args.from) done c.loop-column.invariant batch.sized (λ values long. length-part values c.args.from c.args.to (omega (arith, c.requires.within))) }

pub returns-clause-rows : goal.returns-clause-rows
returns-clause-rows c =
    let batch = c.args.self.now in
    let done : length c.args.self.now.columns.items ≤ c.loop-column.column-index = omega (arith, ap length c.deref-column-items.ensures.value) in
    let values = Made-values (λ column. slice_range column c.args.from c.args.to) batch.columns.items c.loop-column.columns.items c.loop-column.column-index done c.loop-column.invariant in
    ap (transpose Null (c.args.to - c.args.from)) values ∙ transpose-part Null batch.rows (columns_of batch) c.args.from c.args.to c.requires.rising c.requires.within
