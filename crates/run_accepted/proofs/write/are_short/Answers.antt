use Rattle.std.proofs.Common.{◌<◌, ap, sym, length, arith}
use Rattle.std.specs.List.{sum_by}
use Rattle.std.proofs.lemmas.Bool.{lt-leb}
use Rattle.std.proofs.lemmas.List.Sums.{sum_by_more_le}
use Rattle.run_accepted.proofs.write.are_short.Goals as goal

pub returns-then-len-left : goal.returns-then-len-left
returns-then-len-left c =
    let names = c.args.names.now in
    let i = c.loop-name.name-index in
    let name = c.name-item.result in
    let here = ap length c.name-item.is in
    let more = sum_by_more_le length names i name c.loop-name-test.true in
    let long : 16777216 < sum_by length names = omega (arith, c.loop-name.invariant, more, here) in
    sym (lt-leb (sum_by length names) 16777216 long)
