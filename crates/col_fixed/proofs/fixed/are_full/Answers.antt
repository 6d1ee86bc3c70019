use Rattle.std.proofs.Math.Facts.{Fits-lt-pow}
use Rattle.col_fixed.proofs.Cleared.{full-more}
use Rattle.col_fixed.proofs.fixed.are_full.Goals as goal

pub loop-byte-preserved : goal.loop-byte-preserved
loop-byte-preserved c both =
    let i = c.loop-byte.byte-index in
    full-more c.args.bytes.now i c.loop-byte.all c.loop-byte-test.true c.loop-byte.invariant (Fits-lt-pow c.loop-byte.auto.all-fits) (Fits-lt-pow (c.type_inv.bytes i)) both
