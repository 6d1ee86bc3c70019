use Rattle.std.proofs.Common.{sym, subst}
use Rattle.hash_join_tests.specs.Typed.{number, IsTyped}
use Rattle.hash_join_tests.proofs.TypedLaws.{right_is}
use Rattle.hash_join_tests.proofs.calls.right.Goals as goal

pub returns : goal.returns
returns c = subst (IsTyped number) (sym c.column.ensures) right_is
