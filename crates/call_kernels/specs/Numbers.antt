-- The numbers of an argument.
use Rattle.std.specs.Prelude.{ℕ, List, Option, replicate}
use Rattle.call_kernels.specs.declared.numbers.Numbers.{Numbers}
use Rattle.call_kernels.specs.declared.numbers.Numbers.TheVariants.{Column, Constant}

-- those of a column, or so many times a constant
abbrev pub listed : {T : Type 0} → ℕ → Numbers T → List (Option T)
listed n (Column column) = column.now
listed n (Constant value) = replicate n value
