use Rattle.std.proofs.Common.{sym, ap}
use Rattle.run_words.specs.Lines.{check_line_of}
use Rattle.run_words.proofs.SaidLaws.{said_same}
use Rattle.run_words.proofs.line.say_check_line.Goals as goal

pub returns-in-Ok : goal.returns-in-Ok
unfolding check_line_of
returns-in-Ok g c = said_same _ (check_line_of c.args.status.now) c.say_text.ensures (sym (ap check_line_of c.in-Ok.is))
