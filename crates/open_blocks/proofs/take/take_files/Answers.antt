use Rattle.std.proofs.Common.{arith}
use Rattle.open_blocks.proofs.PartLaws.{all_counted}
use Rattle.open_blocks.proofs.take.take_files.Goals as goal

pub returns-in-Ok-clause-lent : goal.returns-in-Ok-clause-lent
returns-in-Ok-clause-lent g c =
    let kept = c.take_each.ensures.kept in
    omega (arith, kept.lent, kept.whole, all_counted g.F.R.Reader.bytes c.args.opened.items c.take_each.new.all.items c.in-Ok.ensures.taken)
