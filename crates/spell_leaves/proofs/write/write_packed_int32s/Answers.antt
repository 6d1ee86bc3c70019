use Rattle.std.proofs.Common.{◌≡◌, [], arith}
use Rattle.std.proofs.lemmas.Grind.{common_steps}
use Rattle.spell_leaves.proofs.FrontLaws.{int32s_none}
use Rattle.spell_leaves.proofs.write.write_packed_int32s.Goals as goal

pub returns-then-is_empty : goal.returns-then-is_empty
returns-then-is_empty c = let none : c.args.numbers.now ≡ [] = grind (arith, common_steps) in int32s_none c.args.number c.args.numbers.now c.args.out.now none
