use Rattle.std.proofs.Common.{◌∙◌, sym, ap, [], ◌∷◌, ◌++◌}
use Rattle.run_words.proofs.AloneLaws.{range_more}
use Rattle.run_words.proofs.receipts.worked.Goals as goal

pub loop-number-preserved : goal.loop-number-preserved
loop-number-preserved c =
    let n = c.loop-number.number in record {
      claimed = c.in_ok-push.ensures.items ∙ ap (λ front. front ++ n ∷ []) c.loop-number.invariant.claimed ∙ sym (range_more n);
      finished = c.in_ok-push-2.ensures.items ∙ ap (λ front. front ++ n ∷ []) c.loop-number.invariant.finished ∙ sym (range_more n);
      offered = c.loop-number.invariant.offered;
      taken = c.loop-number.invariant.taken;
    }
