-- What is said of an answer.
use Rattle.std.specs.Prelude.{◌≡◌, ◌⊎◌, ℕ, ◌≤◌, List, ◌++◌, Option, take}
use Rattle.std.specs.Option.{option_to_list}
use Rattle.world.specs.Counts.{Rose}
use Rattle.world.specs.Notes.{said}
use Rattle.run_words.specs.Lines.{Named}
use Rattle.run_words.specs.declared.line.Words.{Words}

-- The text is the old one followed by the line; or, only where the notes' failures rose, by a part of it from its start.
pub record IsSaid (before now : Option (List ℕ)) (failures_before failures_now : ℕ) (line : List ℕ) : Type 0 where
  pub never_falls : failures_before ≤ failures_now
  pub text : (now ≡ said before line) ⊎ ((k : ℕ) × (now ≡ said before (take k line)) × Rose failures_before failures_now)

-- a name and its numbers, as the code keeps them
abbrev pub words_seen : Words → Named
words_seen w = record { name = w.name.now; numbers = option_to_list w.first ++ option_to_list w.second }
