use Rattle.std.proofs.Common.{map, rules}
use Rattle.plan_denote.specs.GroupSets.{group_over, set_row}
use Rattle.row_groups.proofs.aggregate.group_rows.Goals as goal

pub returns : goal.returns
returns g c =
    let measures = map g.M.AnyMeasure.as_any c.args.measures.now in
    c.each_row.ensures (λ key. set_row measures c.args.last.now (group_over measures c.args.entries.now key)) (λ _ _ post. search rules)
