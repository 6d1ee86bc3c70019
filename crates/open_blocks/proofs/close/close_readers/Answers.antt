use Rattle.std.proofs.Common.{◌-◌, List, length, sum_by, sym, ap, refl, arith}
use Rattle.open_blocks.proofs.close.close_readers.Goals as goal

pub loop-reader-init : goal.loop-reader-init
loop-reader-init g c =
    let gives = c.into_iter-reader-iterator.ensures.into_iter_gives in
    record {
      never_falls = omega arith;
      faults = λ less. absurd (omega (arith, less, ap (sum_by g.F.R.Reader.faults) gives.0));
      files = refl;
      write_faults = refl;
      lent = ap (λ (left : List g.row.F-R.Denot). g.F.Folder.lent c.args.folder.now - length left) (sym gives.0);
    }
