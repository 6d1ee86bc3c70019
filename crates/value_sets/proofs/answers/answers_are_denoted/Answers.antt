use Rattle.value_sets.proofs.AnswerLaws.{set_answers}
use Rattle.value_sets.proofs.answers.answers_are_denoted.Goals as goal

pub returns : goal.returns
returns c = set_answers
