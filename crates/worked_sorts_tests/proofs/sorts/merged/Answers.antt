use Rattle.std.proofs.Common.{◌≡◌, ◌∷◌, [], All, sym, subst}
use Rattle.std.proofs.lemmas.List.Elements.{All-push, All-rest}
use Rattle.std.specs.Vec.Iter.{into_iter_items}
use Rattle.batch.specs.declared.batch.Batch.{Batch}
use Rattle.batch.specs.BatchRows.{types_of}
use Rattle.worked_sorts_tests.specs.declared.columns.TheConstants.{NUMBER, BINARY}
use Rattle.worked_sorts_tests.proofs.sorts.merged.Goals as goal

pub loop-batch-preserved : goal.loop-batch-preserved
loop-batch-preserved c =
    let typed = λ (batch : Batch). types_of batch ≡ NUMBER ∷ BINARY ∷ [] in
    record {
      left = All-rest typed c.in-Some.batch (into_iter_items c.next.new.self) _ c.in-Some.ensures.steps.0 c.loop-batch.invariant.left;
      runs = subst (All typed) (sym c.in_ok-push.ensures.items) (All-push typed c.loop-batch.runs.items c.in_ok-sorted_run.field-0 c.loop-batch.invariant.runs c.in_ok-sorted_run.ensures);
    }
