-- What a folder tells of its files: a finite map from the bytes of names to bytes, or nothing.
use Rattle.std.specs.Prelude.{◌≡◌, ◌⊎◌, ℕ, List, [], ◌++◌, Option, Some, None, unwrap_or, take, IfSome, IsSome}
use Rattle.std.specs.Option.{option_map}
use Rattle.std.specs.Ordering.{nat_cmp}
use Rattle.std.specs.Cmp.Lexicographic.{slice_cmp}
use Rattle.std.specs.FinMap.{FinMap, get, insert}
use Rattle.world.specs.declared.error.FolderError.{FolderError}
use Rattle.world.specs.declared.error.FolderError.TheVariants.{Failed, NoMemory}

abbrev pub Files : Type 0
Files = FinMap (slice_cmp nat_cmp) (List ℕ)

-- the named file holds these bytes, and all others stay
unfoldable pub written : Option Files → List ℕ → List ℕ → Option Files
written files name bytes = option_map (λ told. insert told name bytes) files

-- the piece stands at the end of the named file, and all others stay
unfoldable pub appended : Option Files → List ℕ → List ℕ → Option Files
appended files name piece = option_map (λ told. insert told name (unwrap_or (get told name) [] ++ piece)) files

-- the file is there, where files are told
unfoldable pub Has : Option Files → List ℕ → Type 0
Has files name = IfSome files (λ told. IsSome (get told name))

-- the bytes that were found under the name, where files are told: none exactly where it isn't there
unfoldable pub IsLookup : Option Files → List ℕ → Option (Option (List ℕ)) → Type 0
IsLookup files name found = IfSome files (λ told. found ≡ option_map Some (get told name))

-- the files are as before, or the named one holds a prefix of the bytes and all others stay
abbrev pub IsPartWritten : Option Files → Option Files → List ℕ → List ℕ → Type 0
IsPartWritten before now name bytes = (now ≡ before) ⊎ ((k : ℕ) × (now ≡ written before name (take k bytes)))

-- what an error of `create` leaves: the file as before or empty, and as before without memory
abbrev pub CreateLeaves : FolderError → Option Files → Option Files → List ℕ → Type 0
CreateLeaves Failed before now name = (now ≡ before) ⊎ (now ≡ written before name [])
CreateLeaves NoMemory before now name = now ≡ before

-- what an error of `append` leaves: the file followed by a prefix of the piece, and as before without memory
abbrev pub AppendLeaves : FolderError → Option Files → Option Files → List ℕ → List ℕ → Type 0
AppendLeaves Failed before now name piece = (k : ℕ) × (now ≡ appended before name (take k piece))
AppendLeaves NoMemory before now name piece = now ≡ before
