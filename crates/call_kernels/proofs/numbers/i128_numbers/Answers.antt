-- A number that stands for itself at each place.
use Rattle.std.proofs.Common.{◌∙◌, sym, ap}
use Rattle.call_kernels.specs.Operand.{values}
use Rattle.call_kernels.specs.declared.operand.Operand.{Operand}
use Rattle.call_kernels.proofs.PlaceLaws.{decs_constant}
use Rattle.call_kernels.proofs.numbers.i128_numbers.Goals as goal

pub returns-in_ok-number-in-Constant : goal.returns-in_ok-number-in-Constant
returns-in_ok-number-in-Constant c = λ n. decs_constant c.in_ok-number-in-Constant.number c.in-Constant.value.now n c.in_ok-number-in-Constant.ensures ∙ ap (λ (operand : Operand). values n operand) (sym c.in-Constant.is)
