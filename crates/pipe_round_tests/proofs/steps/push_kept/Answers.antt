use Rattle.std.proofs.Common.{◌∙◌, ◌∷◌, [], ◌++◌, sym, ap, subst}
use Rattle.pipe_steps.specs.Tables.{joins_of}
use Rattle.pipe_round_tests.specs.Steps.{AreSteps}
use Rattle.pipe_round_tests.proofs.StepLaws.{kept_more}
use Rattle.pipe_round_tests.proofs.steps.push_kept.Goals as goal

pub returns : goal.returns
returns c =
    let known = joins_of c.args.tables.now in
    let before = c.args.steps.now.items in
    subst (AreSteps known) (sym (c.in_ok-push.ensures.items ∙ ap (λ step. before ++ step ∷ []) c.in_ok-kept.ensures)) (kept_more known before c.args.first c.args.second c.requires.first c.requires.second c.requires.steps)
