-- One row more.
use Rattle.std.proofs.Common.{◌≡◌, ◌+◌, List, [], ◌∷◌, ◌++◌, sym, subst, arith, rules}
use Rattle.plan_typed.specs.declared.expr.Expr.{Expr}
use Rattle.plan_denote.specs.Holes.{all_from, size_of_all}
use Rattle.sub_query.specs.Known.{worths_at}
use Rattle.sub_query.proofs.PartLaws.{AreRows, row_more}
use Rattle.sub_query.proofs.fill_parts.fill_rows.Goals as goal

pub loop-row-preserved : goal.loop-row-preserved
loop-row-preserved c =
    let k = worths_at c.args.worths.now in
    let new = c.in_ok-fill_exprs.field-0 in
    let row = c.row-item.result in
    let pushed : c.push.new.self.items ≡ c.loop-row.made.items ++ new ∷ [] = search rules in
    let made : new ≡ all_from k c.loop-row.next row = search rules in
    let after : c.fill_exprs.new.next ≡ c.loop-row.next + size_of_all k row = search rules in
    subst (λ (made : List (List Expr)). AreRows k c.args.next.now c.args.rows.now (c.loop-row.row-index + 1) made c.fill_exprs.new.next) (sym pushed)
    (row_more k c.args.next.now c.args.rows.now c.loop-row.row-index row row c.loop-row.made.items new c.loop-row.next c.fill_exprs.new.next
    (omega arith) c.row-item.is c.loop-row.invariant made after)
