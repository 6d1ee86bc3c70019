use Rattle.arrow_decode.proofs.NullLaws.{all_valid}
use Rattle.arrow_decode.proofs.text.nulls_are_empty.Goals as goal

pub returns-then-is_all : goal.returns-then-is_all
returns-then-is_all c = λ yes. all_valid c.args.ends.now c.args.valid.now (c.is_all.ensures.0 c.if-is_all.true)
