use Rattle.std.proofs.Common.{◌∙◌, ◌≡◌, ◌++◌, ◌∷◌, [], replicate, sym, ap, arith}
use Rattle.kernels.proofs.CompareLaws.{replicate-more}
use Rattle.kernels.proofs.comparison.eight_times.Goals as goal

pub loop-filled-init : goal.loop-filled-init
loop-filled-init g c = c.in_ok-values.ensures.items

pub loop-filled-preserved : goal.loop-filled-preserved
loop-filled-preserved g c =
    c.in_ok-push.ensures.items ∙ ap (λ values. values ++ c.args.value ∷ []) c.loop-filled.invariant ∙ sym (replicate-more c.loop-filled._filled c.args.value)

pub returns : goal.returns
returns g c =
    let end : c.loop-filled._filled ≡ 8 = omega arith in
    c.loop-filled.invariant ∙ ap (λ n. replicate n c.args.value) end
