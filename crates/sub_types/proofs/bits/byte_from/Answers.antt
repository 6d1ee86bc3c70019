use Rattle.std.proofs.Common.{◌-◌, ◌%◌, refl, arith}
use Rattle.sub_types.proofs.StepLaws.{HoldsFrom-two}
use Rattle.sub_types.proofs.bits.byte_from.Goals as goal

pub returns : goal.returns
returns c =
    let shift = c.args.at % 8 in
    HoldsFrom-two c.args.bytes.now c.args.at c.byte_or_zero-low.result c.byte_or_zero-high.result shift (8 - shift) refl (omega arith) (omega arith) (omega arith) c.byte_or_zero-low.ensures c.byte_or_zero-high.ensures
