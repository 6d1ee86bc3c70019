use Rattle.std.proofs.Common.{◌≡◌, ◌<◌, ◌≤◌, Some, None, Err, length, refl, subst, arith}
use Rattle.aggregate.specs.Finals.{Makes}
use Rattle.aggregate.proofs.FinalLaws.{first_rows, rows_next}
use Rattle.set_rows.specs.Rows.{row_at}
use Rattle.set_rows.proofs.RowLaws.{rows_fault, rows_done}
use Rattle.set_rows.proofs.rows.group_rows.Goals as goal

pub loop-group-init : goal.loop-group-init
loop-group-init c = first_rows (row_at c.args.measures.now c.args.keys.now c.args.columns.now c.args.numbered.now) (length c.args.keys.now) c.new-rows.result.items c.new-rows.ensures.items

pub loop-group-preserved : goal.loop-group-preserved
loop-group-preserved c =
    let l = c.loop-group in
    let count = length c.args.keys.now in
    let there : l.group < count = omega (arith, c.loop-group-test.true) in
    rows_next (row_at c.args.measures.now c.args.keys.now c.args.columns.now c.args.numbered.now) l.group count l.rows.items c.push.new.self.items c.in-Ok.row there c.in-Ok.ensures c.in_ok-push-in-Ok.ensures.items l.invariant

pub returns-in-Err-Fault : goal.returns-in-Err-Fault
returns-in-Err-Fault c =
    let l = c.loop-group in
    let f = row_at c.args.measures.now c.args.keys.now c.args.columns.now c.args.numbered.now in
    let kind = c.in-Err-Fault.kind in
    let there : l.group < length c.args.keys.now = omega (arith, c.loop-group-test.true) in
    let fault : f l.group ≡ Err kind = subst (λ error. Makes (Err error) (f l.group)) c.in-Err-Fault.field-0-is c.in-Err-Fault.ensures in
    let law = rows_fault c.args.relation f l.group (length c.args.keys.now) (record { rows = l.rows; end = Some (record { relation = c.args.relation; kind = kind }) }) l.rows.items kind there fault refl refl l.invariant in
    cc (c.in-Err-Fault.kind-is, law)

pub returns : goal.returns
returns c =
    let l = c.loop-group in
    let all : length c.args.keys.now ≤ l.group = omega (arith, c.loop-group-test.false) in
    rows_done c.args.relation (row_at c.args.measures.now c.args.keys.now c.args.columns.now c.args.numbered.now) l.group (length c.args.keys.now) (record { rows = l.rows; end = None }) l.rows.items all refl refl l.invariant
