use Rattle.std.proofs.Common.{◌∙◌, ◌++◌, ◌≤◌, List, length, ap, sym, map, subst}
use Rattle.std.specs.List.{All}
use Rattle.std.specs.Vec.Iter.{into_iter_items}
use Rattle.std.proofs.lemmas.List.Elements.{All-tail}
use Rattle.batch.specs.declared.column.Column.{Column}
use Rattle.batch.specs.ColumnValues.{values_of}
use Rattle.row_ops.specs.Behind.{first_shown}
use Rattle.row_ops.specs.Kept.{shown}
use Rattle.row_ops.proofs.BehindLaws.{first_more}
use Rattle.row_ops.proofs.projecting.first_of_each.Goals as goal

pub loop-column-preserved : goal.loop-column-preserved
loop-column-preserved c =
    let l = c.loop-column in
    let rows = c.args.rows in
    let rest = into_iter_items c.next.new.self in
    let step = c.in-Some.ensures.steps.0 in (
      ap (λ (all : List Column). map shown all ++ map (first_shown rows) rest) c.in_ok-push.ensures.items
          ∙ first_more rows l.first.items c.in_ok-first_rows.field-0 c.in-Some.column rest c.in_ok-first_rows.ensures
          ∙ ap (λ (all : List Column). map shown l.first.items ++ map (first_shown rows) all) (sym step)
          ∙ l.invariant.0,
      All-tail (λ (column : Column). rows ≤ length (values_of column.values)) c.in-Some.column rest (subst (All (λ (column : Column). rows ≤ length (values_of column.values))) step l.invariant.1),
    )
