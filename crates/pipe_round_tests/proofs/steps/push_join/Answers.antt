use Rattle.std.proofs.Common.{◌∙◌, ◌∷◌, [], ◌++◌, append_assoc, sym, subst}
use Rattle.plan_pipes.specs.declared.pipe.Step.TheVariants as steps
use Rattle.pipe_steps.specs.Tables.{joins_of}
use Rattle.pipe_round_tests.specs.Steps.{AreSteps}
use Rattle.pipe_round_tests.proofs.StepLaws.{joined_more}
use Rattle.pipe_round_tests.proofs.steps.push_join.Goals as goal

pub returns : goal.returns
returns c =
    let known = joins_of c.args.tables.now in
    let before = c.args.steps.now.items in
    let probe = steps.Probe c.args.built in
    subst (AreSteps known)
    (sym (c.in_ok-push-2.ensures.items ∙ (λ i. c.in_ok-push.ensures.items i ++ c.in_ok-kept.ensures i ∷ []) ∙ append_assoc before (probe ∷ []) (steps.Keep (0 ∷ 1 ∷ []) ∷ [])))
    (joined_more c.args.tables.now before c.args.built c.requires.built c.requires.joins c.requires.steps)
