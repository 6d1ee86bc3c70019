use Rattle.std.proofs.Common.{◌≡◌, ◌∙◌, ◌<◌, map, ap, sym, subst, arith}
use Rattle.std.specs.List.{All}
use Rattle.plan_typed.specs.Types.{ty_of}
use Rattle.batch.specs.Column.{column_type}
use Rattle.row_ops.proofs.BehindLaws.{made_none, made_more, made_few, made_all, types_more}
use Rattle.row_ops.proofs.PlaceLaws.{all_below}
use Rattle.row_ops.proofs.projecting.made_of.Goals as goal

pub loop-expr-init : goal.loop-expr-init
loop-expr-init c = record {
  are = made_none c.args.batch.now c.in_ok-columns.columns.items c.in_ok-columns.ensures.items;
  few = omega arith;
  types = ap (map column_type) c.in_ok-columns.ensures.items;
}

pub eval_rows-requires-clause-exist : goal.eval_rows-requires-clause-exist
eval_rows-requires-clause-exist c = subst (All (λ row. row < c.args.batch.now.rows)) (sym c.all.ensures) (all_below c.loop-expr.rows c.args.batch.now.rows c.loop-expr.invariant.few)

pub loop-expr-preserved : goal.loop-expr-preserved
loop-expr-preserved c =
    let l = c.loop-expr in
    let batch = c.args.batch.now in
    let exprs = c.args.exprs.now in
    let one = c.expr-item.result in
    let found = c.in_ok-found.found in
    let column = c.in_ok-into_column.field-0 in
    let ty : column.ty ≡ ty_of one = c.in_ok-into_column.ensures.ty ∙ c.ty.ensures in
    record {
      are = made_more batch exprs l.expr-index one l.columns.items c.push.new.self.items l.rows l.stop c.all.result found column c.in_ok-found.its_stop c.len-rows.result c.earlier-stop.result
          (omega (arith, c.loop-expr-test.true)) c.expr-item.is l.invariant.are l.invariant.few c.all.ensures c.in_ok-found.ensures c.in_ok-into_column.ensures.values ty
          c.in_ok-push.ensures.items c.len-rows.ensures c.earlier-stop.ensures;
      few = made_few one batch c.all.result (ty_of one).kind found c.in_ok-found.its_stop l.rows c.len-rows.result c.in_ok-found.ensures c.all.ensures l.invariant.few c.len-rows.ensures;
      types = types_more exprs l.expr-index one l.columns.items c.push.new.self.items column (omega (arith, c.loop-expr-test.true)) c.expr-item.is l.invariant.types ty c.in_ok-push.ensures.items;
    }

pub returns : goal.returns
returns c =
    let l = c.loop-expr in
    made_all c.args.exprs.now l.expr-index c.args.batch.now _ (omega (arith, c.loop-expr-test.false)) l.invariant.are l.invariant.few l.invariant.types
