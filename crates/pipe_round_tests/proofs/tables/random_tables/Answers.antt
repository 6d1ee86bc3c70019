use Rattle.std.proofs.Common.{All, sym, subst}
use Rattle.std.proofs.lemmas.List.Elements.{All-push}
use Rattle.pipe_round_tests.specs.Steps.{IsJoinOf}
use Rattle.pipe_round_tests.proofs.tables.random_tables.Goals as goal

pub loop-preserved : goal.loop-preserved
loop-preserved c = subst (All IsJoinOf) (sym c.in_ok-push.ensures.items) (All-push IsJoinOf c.loop.tables.items c.in_ok-table.table c.loop.invariant c.in_ok-table.ensures)
