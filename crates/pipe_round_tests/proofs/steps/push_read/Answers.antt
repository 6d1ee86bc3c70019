use Rattle.std.proofs.Common.{◌∙◌, ◌∷◌, [], ◌++◌, sym, ap, subst}
use Rattle.pipe_steps.specs.Tables.{joins_of}
use Rattle.pipe_round_tests.specs.Steps.{AreSteps}
use Rattle.pipe_round_tests.proofs.StepLaws.{read_steps}
use Rattle.pipe_round_tests.proofs.steps.push_read.Goals as goal

pub returns : goal.returns
returns c =
    let known = joins_of c.args.tables.now in
    subst (AreSteps known) (sym (c.in_ok-push.ensures.items ∙ ap (λ before. before ++ c.in_ok-read.read ∷ []) c.requires)) (read_steps known c.in_ok-read.read c.in_ok-read.ensures)
