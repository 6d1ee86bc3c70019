-- Readers that absorb others.
use Rattle.std.specs.Prelude.{◌≡◌, ℕ, ◌<◌, ◌≤◌, List, Option}
use Rattle.world.specs.Counts.{Rose}
use Rattle.world.specs.Reads.{Reads, joined_reads}
use Rattle.block_source.specs.Told.{told_of}

-- from the file at this place on, each first reader absorbed the second of its file; those before tell what they told
pub record AreJoined (firsts seconds now : List (Option Reads)) (from : ℕ) : Type 0 where
  pub done : (file : ℕ) → from ≤ file → told_of now file ≡ joined_reads (told_of firsts file) (told_of seconds file)
  pub left : (file : ℕ) → file < from → told_of now file ≡ told_of firsts file

-- the count never falls, and where faults were absorbed, so that less than all are left, it rose
pub record IsRaised (before now left all : ℕ) : Type 0 where
  pub never_falls : before ≤ now
  pub rose : left < all → Rose before now
