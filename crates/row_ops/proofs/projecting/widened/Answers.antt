use Rattle.std.proofs.Common.{◌∙◌, ◌++◌, map, ap, arith}
use Rattle.sub_types.specs.declared.value.Value.TheVariants.{Null}
use Rattle.sub_types.specs.Rows.{transpose}
use Rattle.batch.specs.Column.{column_values}
use Rattle.row_ops.proofs.BehindLaws.{both_values, both_types, both_sized, transpose-take}
use Rattle.row_ops.proofs.projecting.widened.Goals as goal

pub invariant_of-result : goal.invariant_of-result
invariant_of-result c =
    let rows = c.args.rows in
    let given = c.args.batch.columns.items in
    let more = c.args.more.items in
    let is = both_values rows given more c.in_ok-columns.columns.items c.in_ok-behind.behind.items c.append.new.self.items c.in_ok-columns.ensures c.in_ok-behind.ensures c.in_ok-append.ensures.items in
    record { sized = both_sized rows given more c.append.new.self.items is (λ k d below. omega (arith, c.requires.few, c.args.batch.sized k d below)) c.requires.long }

pub returns-clause-rows : goal.returns-clause-rows
returns-clause-rows c =
    let rows = c.args.rows in
    let given = c.args.batch.columns.items in
    let more = c.args.more.items in
    ap (transpose Null rows) (both_values rows given more c.in_ok-columns.columns.items c.in_ok-behind.behind.items c.append.new.self.items c.in_ok-columns.ensures c.in_ok-behind.ensures c.in_ok-append.ensures.items)
    ∙ transpose-take Null rows (map column_values given ++ map column_values more)

pub returns-clause-types : goal.returns-clause-types
returns-clause-types c =
    both_types c.args.rows c.args.batch.columns.items c.args.more.items c.in_ok-columns.columns.items c.in_ok-behind.behind.items c.append.new.self.items c.in_ok-columns.ensures c.in_ok-behind.ensures c.in_ok-append.ensures.items
