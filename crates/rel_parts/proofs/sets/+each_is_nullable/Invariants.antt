use Rattle.std.proofs.Common.{length}
use Rattle.rel_parts.proofs.sets.+each_is_nullable.Given as goal

abbrev pub decreases-each_is_nullable : goal.decreases-each_is_nullable
decreases-each_is_nullable l = length l.others.now
