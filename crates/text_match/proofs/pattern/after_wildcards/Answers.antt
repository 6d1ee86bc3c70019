use Rattle.std.proofs.Common.{◌∙◌, chars, sym}
use Rattle.text_match.proofs.SignLaws.{after_character-some}
use Rattle.text_match.proofs.StepLaws.{after_leftmost-here, after_leftmost-next, after_leftmost-ended}
use Rattle.text_match.proofs.pattern.after_wildcards.Goals as goal

pub returns-in-Some-clause-value : goal.returns-in-Some-clause-value
returns-in-Some-clause-value c =
    after_leftmost-here (chars c.args.segment.now) (chars c.loop-rest.start.now) (chars c.in-Some.rest.now) c.in-Some.ensures.value ∙ c.loop-rest.invariant.1

pub returns-in_err-start-clause-value : goal.returns-in_err-start-clause-value
returns-in_err-start-clause-value c =
    let ended = after_leftmost-ended (chars c.args.segment.now) c.loop-rest.start.now c.loop-rest.invariant.0 c.in_default.ensures.value c.in_err-start.ensures ∙ c.loop-rest.invariant.1 in
    rw c.from_residual.ensures ended

pub loop-rest-preserved : goal.loop-rest-preserved
loop-rest-preserved c =
    let step = after_character-some c.loop-rest.start.now c.in_ok-start.start.now c.loop-rest.invariant.0 (sym c.in_ok-start.ensures) in
    (step.utf8, sym (after_leftmost-next (chars c.args.segment.now) c.loop-rest.start.now c.in_ok-start.start.now step c.in_default.ensures.value) ∙ c.loop-rest.invariant.1)
