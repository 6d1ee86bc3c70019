-- A constant is the same at each place.
use Rattle.std.proofs.Common.{◌∙◌, replicate, option_copied, sym, ap}
use Rattle.sub_types.specs.Nullable.{bytes_value}
use Rattle.kernels.proofs.ConstantLaws.{map-replicated}
use Rattle.call_kernels.specs.Operand.{values}
use Rattle.call_kernels.specs.declared.operand.Operand.{Operand}
use Rattle.call_kernels.proofs.text_order.bytes_of.Goals as goal

pub returns-in_ok-bytes-in-Constant : goal.returns-in_ok-bytes-in-Constant
returns-in_ok-bytes-in-Constant c = λ n.
    map-replicated bytes_value n (option_copied c.in_ok-bytes-in-Constant.bytes) ∙ ap (replicate n) c.in_ok-bytes-in-Constant.ensures ∙ ap (λ (operand : Operand). values n operand) (sym c.in-Constant.is)
