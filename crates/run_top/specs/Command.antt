-- The answer of a command line, by its command.
use Rattle.std.specs.Prelude.{◌≡◌, ℕ, List, Option, None}
use Rattle.world.specs.Files.{Files}
use Rattle.run_words.specs.declared.status.Status.{Status}
use Rattle.run_words.specs.declared.words.Command.{Command}
use Rattle.run_words.specs.declared.words.Command.TheVariants.{Run, Check, Demo}
use Rattle.run_words.specs.Words.{reading_of, plan_to_check, demo_of}
use Rattle.run_words.specs.Lines.{line_of, check_line_of}
use Rattle.run_accepted.specs.Fits.{FitsFiles}
use Rattle.run_top.specs.Demo.{IsDemoAnswer, IsDemoNamed, demo_text_of}
use Rattle.run_top.specs.Answer.{answer, check_answer, FitsCheck, IsDenoted, IsCheckDenoted, IsNamed, IsCheckNamed}

-- Which status and files fit what the command denotes. The demo leaves all files as they are.
abbrev pub FitsCommand : Command → List (List ℕ) → Files → Option Files → Option Files → Status → Type 0
FitsCommand Run words files before now answered = FitsFiles (answer words files) before now answered
FitsCommand Check words files before now answered = FitsCheck (check_answer words files) before now answered
FitsCommand Demo words files before now answered = IsDemoAnswer (demo_of words) answered × (now ≡ before)

-- the status is the one that the command denotes
abbrev pub IsCommandDenoted : Command → List (List ℕ) → Files → Status → Type 0
IsCommandDenoted Run words files answered = IsDenoted (answer words files) answered
IsCommandDenoted Check words files answered = IsCheckDenoted (check_answer words files) answered
IsCommandDenoted Demo words files answered = IsDemoAnswer (demo_of words) answered

-- the words aren't those of the command
abbrev pub HasNoReading : Command → List (List ℕ) → Type 0
HasNoReading Run words = reading_of words ≡ None
HasNoReading Check words = plan_to_check words ≡ None
HasNoReading Demo words = demo_of words ≡ None

-- the answers of the command that can come, whatever the folder tells
abbrev pub IsCommandNamed : Command → Status → Type 0
IsCommandNamed Run answered = IsNamed answered
IsCommandNamed Check answered = IsCheckNamed answered
IsCommandNamed Demo answered = IsDemoNamed answered

-- what is said of an answer of the command: its line, or the demo's summary
abbrev pub command_text_of : Command → List (List ℕ) → Status → List ℕ
command_text_of Run words answered = line_of answered
command_text_of Check words answered = check_line_of answered
command_text_of Demo words answered = demo_text_of (demo_of words) answered
