use Rattle.std.proofs.Common.{length}
use Rattle.rel_parts.proofs.sets.+some_is_nullable.Given as goal

abbrev pub decreases-some_is_nullable : goal.decreases-some_is_nullable
decreases-some_is_nullable l = length l.others.now
