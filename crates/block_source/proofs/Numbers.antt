-- What is read for the number of a block.
use Rattle.std.proofs.Common.{◌≡◌, ◌≢◌, ◌<◌, ℕ, length, eqb, true, false, cond, List, [], Some, None, slice_get, refl, sym, ap, ◌∙◌, ⊎_elim}
use Rattle.std.proofs.lemmas.Bool.Decides.{eqb_tells}
use Rattle.std.proofs.lemmas.Option.{slice_get_within}
use Rattle.block_source.specs.declared.file.BlockFile.{BlockFile}
use Rattle.block_source.specs.declared.file.BlockPlace.{BlockPlace}
use Rattle.block_source.specs.Places.{places_of}
use Rattle.block_source.specs.Bodies.{body_read, read_in, read_at, reading}
use Rattle.block_source.specs.Seen.{IsPlaceIn}

-- of the block's file its body is read
pub reading_here : (files : List BlockFile) (place : BlockPlace) (number : ℕ) (one : BlockFile) → slice_get (places_of files) number ≡ Some place → slice_get files place.file ≡ Some one
    → reading files place.file number ≡ body_read one.head place.block
reading_here files place number one at is =
    ap (read_at files place.file) at
    ∙ ⊎_elim
    (λ (t : (eqb place.file place.file ≡ true) × (place.file ≡ place.file)). ap (λ b. cond b (read_in (slice_get files place.file) place.block) []) t.0)
    (λ (t : (eqb place.file place.file ≡ false) × (place.file ≢ place.file)). absurd (t.1 refl))
    (eqb_tells place.file place.file)
    ∙ ap (λ f. read_in f place.block) is

-- of the other files nothing is read
pub reading_other : (files : List BlockFile) (place : BlockPlace) (number file : ℕ) → slice_get (places_of files) number ≡ Some place → file ≢ place.file → reading files file number ≡ []
reading_other files place number file at other =
    ap (read_at files file) at
    ∙ ⊎_elim
    (λ (t : (eqb place.file file ≡ true) × (place.file ≡ file)). absurd (other (sym t.1)))
    (λ (t : (eqb place.file file ≡ false) × (place.file ≢ file)). ap (λ b. cond b (read_in (slice_get files file) place.block) []) t.0)
    (eqb_tells place.file file)

-- nothing is read for a number past the last block
pub reading_past : (files : List BlockFile) (number file : ℕ) → slice_get (places_of files) number ≡ None → reading files file number ≡ []
reading_past files number file none = ap (read_at files file) none

-- the file of a place is one of the files
pub place_below : (files : List BlockFile) (place : BlockPlace) → IsPlaceIn files place → place.file < length files
place_below files place p = slice_get_within files place.file p.one p.is
