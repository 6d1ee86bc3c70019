use Rattle.std.proofs.Common.{◌≡◌, ◌<◌, ◌≤◌, Some, None, Err, length, refl, subst, arith}
use Rattle.aggregate.specs.Finals.{Makes, row_at}
use Rattle.aggregate.proofs.FinalLaws.{first_rows, rows_next, rows_fault, rows_done}
use Rattle.aggregate.proofs.finals.group_rows.Goals as goal

pub loop-group-init : goal.loop-group-init
loop-group-init c = first_rows (row_at c.args.spec.now c.args.groups.now) (length c.args.groups.now.keys.rows) c.new-rows.result.items c.new-rows.ensures.items

pub loop-group-preserved : goal.loop-group-preserved
loop-group-preserved c =
    let l = c.loop-group in
    let count = length c.args.groups.now.keys.rows in
    let there : l.group < count = omega (arith, c.loop-group-test.true, c.len-group-end.ensures) in
    rows_next (row_at c.args.spec.now c.args.groups.now) l.group count l.rows.items c.push.new.self.items c.in-Ok.row there c.in-Ok.ensures c.in_ok-push-in-Ok.ensures.items l.invariant

pub returns-in-Err-Fault : goal.returns-in-Err-Fault
returns-in-Err-Fault c =
    let l = c.loop-group in
    let spec = c.args.spec.now in
    let groups = c.args.groups.now in
    let kind = c.in-Err-Fault.kind in
    let there : l.group < length groups.keys.rows = omega (arith, c.loop-group-test.true, c.len-group-end.ensures) in
    let fault : row_at spec groups l.group ≡ Err kind = subst (λ error. Makes (Err error) (row_at spec groups l.group)) c.in-Err-Fault.field-0-is c.in-Err-Fault.ensures in
    let law = rows_fault spec groups l.group (record { rows = l.rows; end = Some (record { relation = spec.relation; kind = kind }) }) l.rows.items kind there fault refl refl l.invariant in
    cc (c.in-Err-Fault.kind-is, law)

pub returns : goal.returns
returns c =
    let l = c.loop-group in
    let all : length c.args.groups.now.keys.rows ≤ l.group = omega (arith, c.loop-group-test.false, c.len-group-end.ensures) in
    rows_done c.args.spec.now c.args.groups.now l.group (record { rows = l.rows; end = None }) l.rows.items all refl refl l.invariant
