use Rattle.std.proofs.Common.{sym, subst}
use Rattle.hash_join_tests.specs.Typed.{number, IsTyped}
use Rattle.hash_join_tests.proofs.TypedLaws.{left_is}
use Rattle.hash_join_tests.proofs.calls.left.Goals as goal

pub returns : goal.returns
returns c = subst (IsTyped number) (sym c.column.ensures) left_is
