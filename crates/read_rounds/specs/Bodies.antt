-- What was read of the open files of read relations.
use Rattle.std.specs.Prelude.{◌≡◌, ◌≢◌, ℕ, List, [], ◌∷◌, Option, map}
use Rattle.world.specs.Reads.{Reads}
use Rattle.block_source.specs.Bodies.{AreReadOnce}
use Rattle.open_blocks.specs.Files.{FilesSeen}
use Rattle.open_blocks.specs.declared.files.ReadFiles.{ReadFiles}

-- what is told to have been read so far, by the readers of each read relation's files
abbrev pub reads_made : {R : Type 0} → (R → Option Reads) → List (ReadFiles R) → List (List (Option Reads))
reads_made reads all = map (λ one. map reads one.readers.items) all

-- of the files of the read relation with this number, the first if there were several, the body of each good block was read once, and
-- nothing of the others
abbrev pub HaveRead : ℕ → List FilesSeen → List (List (Option Reads)) → List (List (Option Reads)) → Type 0
HaveRead relation (one ∷ all) (start ∷ starts) (now ∷ nows) =
    (one.relation ≡ relation → AreReadOnce one.files start now × (nows ≡ starts)) × (one.relation ≢ relation → (now ≡ start) × HaveRead relation all starts nows)
HaveRead relation _ _ _ = ⊥
