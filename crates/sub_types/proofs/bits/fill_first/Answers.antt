use Rattle.std.proofs.Common.{arith}
use Rattle.sub_types.proofs.StepLaws.{Continues-first}
use Rattle.sub_types.proofs.bits.fill_first.Goals as goal

pub returns-clause-filled : goal.returns-clause-filled
returns-clause-filled c = Continues-first c.args.bytes.now c.args.more.now c.args.len c.args.from c.byte_from.result c.joined.result (omega arith) c.byte_from.ensures c.joined.ensures
