use Rattle.std.proofs.Common.{◌∙◌, ◌==◌, length, ap}
use Rattle.text_match.specs.Segments.{rest_passes}
use Rattle.text_match.proofs.StepLaws.{empty-chars}
use Rattle.text_match.proofs.pattern.is_segment.Goals as goal

pub returns-in-Some : goal.returns-in-Some
returns-in-Some c =
    c.is_empty.ensures ∙ empty-chars c.in-Some.rest.now c.in-Some.ensures.utf8 ∙ ap (rest_passes (λ rest. length rest == 0)) c.in-Some.ensures.value
