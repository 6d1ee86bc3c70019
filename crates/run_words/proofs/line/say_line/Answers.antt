use Rattle.std.proofs.Common.{◌∙◌, sym, ap, codes}
use Rattle.run_words.specs.Lines.{told_text, line_of}
use Rattle.run_words.proofs.SaidLaws.{said_same}
use Rattle.run_words.proofs.line.say_line.Goals as goal

pub returns-in-Usage : goal.returns-in-Usage
unfolding line_of
returns-in-Usage g c = said_same _ (line_of c.args.status.now) c.say_text.ensures (sym (ap line_of c.in-Usage.is))

pub returns-in-PlanUnreadable : goal.returns-in-PlanUnreadable
unfolding line_of
returns-in-PlanUnreadable g c = said_same _ (line_of c.args.status.now) c.say_count-in-PlanUnreadable.ensures (sym (ap line_of c.in-PlanUnreadable.is))

pub returns-in-PlanRefused : goal.returns-in-PlanRefused
unfolding line_of
returns-in-PlanRefused g c = said_same _ (line_of c.args.status.now) c.say_told.ensures (ap (told_text (codes "plan refused: relation ") c.in-PlanRefused.relation (codes ": ")) c.of_rule.ensures ∙ sym (ap line_of c.in-PlanRefused.is))

pub returns-in-DataFault : goal.returns-in-DataFault
unfolding line_of
returns-in-DataFault g c = said_same _ (line_of c.args.status.now) c.say_told-in-DataFault.ensures (ap (told_text (codes "data fault: relation ") c.in-DataFault.fault.relation (codes ": ")) c.of_fault.ensures ∙ sym (ap line_of c.in-DataFault.is))

pub returns-in-ReadFault : goal.returns-in-ReadFault
unfolding line_of
returns-in-ReadFault g c = said_same _ (line_of c.args.status.now) c.say_text-in-ReadFault.ensures (sym (ap line_of c.in-ReadFault.is))

pub returns-in-WriteFault : goal.returns-in-WriteFault
unfolding line_of
returns-in-WriteFault g c = said_same _ (line_of c.args.status.now) c.say_text-in-WriteFault.ensures (sym (ap line_of c.in-WriteFault.is))
