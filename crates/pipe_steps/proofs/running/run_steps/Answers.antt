use Rattle.pipe_steps.proofs.running.run_steps.Goals as goal

pub returns-clause-fit : goal.returns-clause-fit
returns-clause-fit c = λ k d below. (c.in_ok-out.ensures.pieces k d below).fit
