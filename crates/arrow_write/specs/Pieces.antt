-- The pieces of a file: its end, and what a piece leaves that failed.
use Rattle.std.specs.Prelude.{◌≡◌, ◌⊎◌, ℕ, List, [], ◌++◌, Option, length, replicate, take}
use Rattle.byteorder.specs.Endian.{little_bytes}
use Rattle.arrow_meta.specs.File.{magic}
use Rattle.world.specs.Files.{Files, written, appended}

-- a footer with the end mark before it, its size and the magic behind it
abbrev pub ended : List ℕ → List ℕ
ended footer = replicate 4 255 ++ replicate 4 0 ++ footer ++ little_bytes 4 (length footer) ++ magic

-- the files are as before, or a prefix of the piece stands at the end of the named one
abbrev pub IsPartAppended : Option Files → Option Files → List ℕ → List ℕ → Type 0
IsPartAppended before now name piece = (now ≡ before) ⊎ ((k : ℕ) × (now ≡ appended before name (take k piece)))

-- the files are as before, or the named one is empty
abbrev pub IsPartCreated : Option Files → Option Files → List ℕ → Type 0
IsPartCreated before now name = (now ≡ before) ⊎ (now ≡ written before name [])
