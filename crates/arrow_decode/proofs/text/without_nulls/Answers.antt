use Rattle.std.proofs.Common.{length, arith}
use Rattle.arrow_decode.proofs.TextLaws.{next_end}
use Rattle.arrow_decode.proofs.text.without_nulls.Goals as goal

pub value_between-requires-clause-within : goal.value_between-requires-clause-within
value_between-requires-clause-within c = let next = next_end c.args.ends.now c.loop-i.start c.loop-i.i (length c.args.bytes.now) (omega arith) c.loop-i.invariant.rising in omega (arith, c.get-end.ensures, next)
