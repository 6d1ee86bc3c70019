use Rattle.std.proofs.Common.{◌≡◌, ◌≤◌, true, false, length, arith}
use Rattle.set_states.proofs.SetLaws.{plain_more, not_plain, all_plain}
use Rattle.set_states.proofs.start.is_plain.Goals as goal

pub loop-one-preserved : goal.loop-one-preserved
loop-one-preserved c =
    let l = c.loop-one in
    let item = c.one-item.result in
    let plain : item.distinct ≡ false = cc (c.one-item.is, c.if-distinct.false) in
    plain_more c.args.measures.now l.one-index item c.loop-one-test.true c.one-item.is l.invariant plain

pub returns-then-distinct : goal.returns-then-distinct
returns-then-distinct c =
    let l = c.loop-one in
    let item = c.one-item.result in
    let once : item.distinct ≡ true = cc (c.one-item.is, c.if-distinct.true) in
    not_plain c.args.measures.now l.one-index item c.loop-one-test.true c.one-item.is once

pub returns : goal.returns
returns c =
    let l = c.loop-one in
    let all : length c.args.measures.now ≤ l.one-index = omega (arith, c.loop-one-test.false) in
    all_plain c.args.measures.now l.one-index all l.invariant
