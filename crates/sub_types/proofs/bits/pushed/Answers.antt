use Rattle.sub_types.proofs.StepLaws.{IsPushed-bit}
use Rattle.sub_types.proofs.bits.pushed.Goals as goal

pub returns : goal.returns
returns c = IsPushed-bit c.args.byte c.from.result c.args.bit c.from.ensures
