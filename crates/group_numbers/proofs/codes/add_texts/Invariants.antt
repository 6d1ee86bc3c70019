use Rattle.group_numbers.proofs.CodeLaws.{AreWithTextsBelow}
use Rattle.group_numbers.proofs.codes.add_texts.Given as goal

-- the texts of the rows so far are behind their codes
abbrev pub invariant-loop-row : goal.invariant-loop-row
invariant-loop-row l = AreWithTextsBelow l.initial.codes l.codes l.column l.row
