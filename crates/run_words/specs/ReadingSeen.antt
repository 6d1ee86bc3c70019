-- A reading without references.
use Rattle.run_words.specs.declared.words.Reading as declared
use Rattle.run_words.specs.declared.words.DemoReading as declared_demo
use Rattle.run_words.specs.Words.{Reading, DemoReading}

abbrev pub reading_seen : declared.Reading → Reading
reading_seen r = record { plan = r.plan.now; out = r.out.now; workers = r.workers; bindings = r.bindings.now }

abbrev pub demo_seen : declared_demo.DemoReading → DemoReading
demo_seen r = record { number = r.number; workers = r.workers }
