use Rattle.std.proofs.Common.{rules}
use Rattle.run_words.specs.Words.{demo_of}
use Rattle.run_words.specs.ReadingSeen.{demo_seen}
use Rattle.run_words.proofs.SaidLaws.{said_same}
use Rattle.run_top.proofs.DemoLaws.{summary_text, memory_text, usage_text}
use Rattle.run_top.proofs.demo.demo_main.Goals as goal

pub returns-in_default-clause-notes : goal.returns-in_default-clause-notes
returns-in_default-clause-notes g c = said_same _ _ c.say_line.ensures (usage_text (demo_of c.args.words.now) (search rules))

pub returns-in-Ok-clause-notes : goal.returns-in-Ok-clause-notes
returns-in-Ok-clause-notes g c = said_same _ _ c.say_summary.ensures (summary_text (demo_of c.args.words.now) (demo_seen c.in-Some.reading) c.deref.result.now c.report_of.result (search rules) (search rules))

pub returns-in-Err-clause-notes : goal.returns-in-Err-clause-notes
returns-in-Err-clause-notes g c = said_same _ _ c.say_line-in-Err.ensures (memory_text (demo_of c.args.words.now) c.in-Err.refusal (search rules))
