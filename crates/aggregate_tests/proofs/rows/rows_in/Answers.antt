use Rattle.std.proofs.Common.{All, sym, subst}
use Rattle.std.proofs.lemmas.List.Elements.{All-push}
use Rattle.sub_types.specs.Value.{Fits}
use Rattle.aggregate_tests.specs.Typed.{numbers}
use Rattle.aggregate_tests.proofs.rows.rows_in.Goals as goal

pub loop-pair-preserved : goal.loop-pair-preserved
loop-pair-preserved c =
    subst (All (Fits numbers)) (sym c.in_ok-push.ensures.ok) (All-push (Fits numbers) c.loop-pair.rows c.in_ok-row.row c.loop-pair.invariant c.in_ok-row.ensures)
