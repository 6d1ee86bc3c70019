-- The places of the blocks of a table, in the order of their numbers.
use Rattle.std.specs.Prelude.{ℕ, ◌+◌, List, [], ◌∷◌, ◌++◌, map, vec_len}
use Rattle.std.specs.List.{range_with_len}
use Rattle.block_source.specs.declared.file.BlockFile.{BlockFile}
use Rattle.block_source.specs.declared.file.BlockPlace.{BlockPlace}

-- the block of a file
abbrev pub place_in : ℕ → ℕ → BlockPlace
place_in file block = record { file = file; block = block }

-- so many blocks of the file, from the first to the last
abbrev pub places_in : ℕ → ℕ → List BlockPlace
places_in file blocks = map (place_in file) (range_with_len 0 blocks)

-- so many blocks of each file, one file after the other, the first of which has this place among the files
abbrev pub places_from : ℕ → List ℕ → List BlockPlace
places_from file [] = []
places_from file (blocks ∷ more) = places_in file blocks ++ places_from (file + 1) more

-- how many blocks each file has
abbrev pub counts_of : List BlockFile → List ℕ
counts_of files = map (λ one. vec_len one.head.blocks) files

-- the blocks of the files, one file after the other
abbrev pub places_of : List BlockFile → List BlockPlace
places_of files = places_from 0 (counts_of files)
