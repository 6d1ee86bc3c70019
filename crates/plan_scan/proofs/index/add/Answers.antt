use Rattle.std.proofs.Common.{◌∷◌, subst, arith}
use Rattle.pb_wire.specs.Payloads.{Field}
use Rattle.plan_scan.specs.Index.{AreIndexed}
use Rattle.plan_scan.proofs.IndexLaws.{of_no_block, with_block, of_higher, of_field_at}
use Rattle.plan_scan.proofs.index.add.Goals as goal

pub returns-in_default-clause-index : goal.returns-in_default-clause-index
returns-in_default-clause-index c = λ left all before. of_no_block 0 c.args.index.now.items c.args.found.now left all c.in_default.not-Bytes before

pub returns-in_ok-push-clause-index : goal.returns-in_ok-push-clause-index
returns-in_ok-push-clause-index c = λ left all before.
    let P : Field → Type 0 = λ field. AreIndexed 0 c.args.index.now.items (field ∷ left) all in
    of_field_at 0 c.args.found.now.number c.args.found.now.number c.in-Bytes.block c.args.index.now.items c.index_mut.result.now c.push.new.self left all (omega arith) (omega (arith, c.if-number-len.true, c.len.ensures)) c.index_mut.ensures.value c.in_ok-push.ensures.items
    (subst P (with_block c.args.found.now c.in-Bytes.block c.in-Bytes.is) before)

pub returns-else-number-len-clause-index : goal.returns-else-number-len-clause-index
returns-else-number-len-clause-index c = λ left all before.
    let P : Field → Type 0 = λ field. AreIndexed 0 c.args.index.now.items (field ∷ left) all in
    of_higher 0 c.args.found.now.number c.in-Bytes.block.now c.args.index.now.items left all (omega (arith, c.if-number-len.false, c.len.ensures))
    (subst P (with_block c.args.found.now c.in-Bytes.block c.in-Bytes.is) before)
