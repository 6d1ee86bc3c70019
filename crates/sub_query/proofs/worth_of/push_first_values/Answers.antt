-- One row more, and all.
use Rattle.std.proofs.Common.{◌≡◌, ◌∙◌, ◌++◌, ◌∷◌, [], ap, map, take, length, arith, rules}
use Rattle.std.proofs.Math.Seq.{take-length}
use Rattle.batch.specs.BatchRows.{rows_of}
use Rattle.plan_denote.specs.Subqueries.{value_in}
use Rattle.sub_query.proofs.RowLaws.{value_more, rows_long}
use Rattle.sub_query.proofs.worth_of.push_first_values.Goals as goal

pub loop-row-preserved : goal.loop-row-preserved
loop-row-preserved c =
    let new = c.in_ok-first_at.field-0 in
    let pushed : c.push.new.self.items ≡ c.loop-row.values.items ++ new ∷ [] = search rules in
    value_more (rows_of c.args.batch.now) c.loop-row.row c.args.values.now.items c.loop-row.values.items c.push.new.self.items new
    (omega (arith, rows_long c.args.batch.now)) c.loop-row.invariant c.in_ok-first_at.ensures pushed

pub returns : goal.returns
returns c =
    let rows = rows_of c.args.batch.now in
    let end : c.loop-row.row ≡ length rows = omega (arith, rows_long c.args.batch.now) in
    c.loop-row.invariant ∙ ap (λ n. c.args.values.now.items ++ map value_in (take n rows)) end ∙ ap (λ some. c.args.values.now.items ++ map value_in some) (take-length rows)
