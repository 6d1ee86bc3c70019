use Rattle.std.proofs.Common.{ℤ, Option, subst}
use Rattle.eval_values.specs.Number.{IsNumber}
use Rattle.eval_values.proofs.Exact.{scaled_large}
use Rattle.eval_values.proofs.number.scaled_up.Goals as goal

pub returns-in-None : goal.returns-in-None
returns-in-None c = λ exact h. scaled_large exact c.args.exponent (subst (λ (n : Option ℤ). IsNumber n exact) c.in-None.is h)
