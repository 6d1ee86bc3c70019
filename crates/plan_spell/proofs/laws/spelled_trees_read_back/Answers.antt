use Rattle.plan_spell.proofs.SpellLaws.{read_back}
use Rattle.plan_spell.proofs.laws.spelled_trees_read_back.Goals as goal

pub returns : goal.returns
returns c tree can = read_back tree can
