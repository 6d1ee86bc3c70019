use Rattle.std.proofs.Common.{◌-◌, arith}
use Rattle.sub_types.proofs.StepLaws.{IsJoined-bytes}
use Rattle.sub_types.proofs.bits.joined.Goals as goal

pub returns : goal.returns
returns c = IsJoined-bytes c.args.own c.args.next c.args.used (8 - c.args.used) (omega arith)
