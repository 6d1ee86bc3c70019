-- What the demo answers and says.
use Rattle.std.specs.Prelude.{◌≡◌, ℕ, List, ◌∷◌, Option, Some, None, IsOkAnd, codes, decimal, length}
use Rattle.run_words.specs.Lines.{line_of}
use Rattle.run_words.specs.Words.{DemoReading}
use Rattle.run_words.specs.declared.status.Report.{Report}
use Rattle.run_words.specs.declared.status.Status.{Status}
use Rattle.run_words.specs.declared.status.Status.TheVariants as status
use Rattle.run_accepted.specs.Fits.{IsReport}
use Rattle.run_accepted.specs.declared.rows.Ran.{Ran}
use Rattle.gen_data.specs.Files.{demo_files, demo_bindings}
use Rattle.gen_data.specs.Summary.{demo_rows, summary_of}
use Rattle.run_top.specs.Answer.{answer}

-- the words of a run of the demo's plan over its tables
abbrev pub demo_command : ℕ → List (List ℕ)
demo_command workers = codes "run" ∷ codes "plan" ∷ codes "out" ∷ decimal workers ∷ demo_bindings

-- a report that this run over the demo's files may have
abbrev pub IsDemoReport : DemoReading → Report → Type 0
IsDemoReport reading report = IsOkAnd (answer (demo_command reading.workers) (demo_files reading.number)) (λ done. IsReport done report)

-- What comes of the demo's run: the rows that its plan denotes over its tables, with receipts for a report of it.
pub record IsDemoRan (number workers : ℕ) (ran : Ran) : Type 0 where
  pub rows : ran.rows.items ≡ demo_rows number
  pub report : IsDemoReport (record { number = number; workers = workers }) (record { rows = length ran.rows.items; receipts = ran.receipts })

-- The answers of the demo by its words: without a reading they are faulty, and else it is done, unless there is no memory.
abbrev pub IsDemoAnswer : Option DemoReading → Status → Type 0
IsDemoAnswer None answered = answered ≡ status.Usage
IsDemoAnswer (Some reading) (status.Ok report) = IsDemoReport reading report
IsDemoAnswer (Some reading) refusal = refusal ≡ status.NoMemory

-- the answers of the demo that can come, whatever the words are
abbrev pub IsDemoNamed : Status → Type 0
IsDemoNamed (status.Ok report) = Unit {0}
IsDemoNamed status.Usage = Unit {0}
IsDemoNamed status.NoMemory = Unit {0}
IsDemoNamed _ = ⊥

-- the summary of a demo that is done, and the line of any other answer
unfoldable pub demo_text_of : Option DemoReading → Status → List ℕ
demo_text_of (Some reading) (status.Ok report) = summary_of reading.number
demo_text_of _ answered = line_of answered
