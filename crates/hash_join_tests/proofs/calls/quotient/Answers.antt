use Rattle.std.proofs.Common.{sym, subst}
use Rattle.hash_join_tests.specs.Typed.{number, IsTyped}
use Rattle.hash_join_tests.proofs.TypedLaws.{quotient_is}
use Rattle.hash_join_tests.proofs.calls.quotient.Goals as goal

pub returns : goal.returns
returns c = subst (IsTyped number) (sym c.in_ok-expr.ensures) (quotient_is c.left.result c.right.result c.left.ensures c.right.ensures)
