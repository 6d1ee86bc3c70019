use Rattle.std.proofs.Common.{sym, subst}
use Rattle.aggregate_tests.specs.Typed.{number, IsTyped}
use Rattle.aggregate_tests.proofs.TypedLaws.{quotient_is}
use Rattle.aggregate_tests.proofs.calls.quotient.Goals as goal

pub returns : goal.returns
returns c = subst (IsTyped number) (sym c.in_ok-expr.ensures) (quotient_is c.args.a c.args.b c.requires.a c.requires.b)
