use Rattle.std.proofs.Common.{ℤ, Option, subst, rules}
use Rattle.eval_values.specs.Number.{IsNumber}
use Rattle.group_tallies.proofs.TotalLaws.{in_no_kind}
use Rattle.group_tallies.proofs.finals.in_kind.Goals as goal

pub returns-in_default : goal.returns-in_default
returns-in_default c = λ exact h. in_no_kind c.args.kind exact (subst (λ (n : Option ℤ). IsNumber n exact) c.in_default.is h)

pub returns-in-Decimal : goal.returns-in-Decimal
returns-in-Decimal c = λ exact h. search (rules, c.decimal.ensures c.in-Decimal.scale)
