use Rattle.spell_leaves.proofs.FrontLaws.{none_put}
use Rattle.spell_leaves.proofs.write.write_uint32.Goals as goal

pub returns-then-value-eq0 : goal.returns-then-value-eq0
returns-then-value-eq0 c = none_put c.args.number c.args.value c.args.out.now c.if-value-eq0.true
