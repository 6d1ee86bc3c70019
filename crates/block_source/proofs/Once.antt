-- Readers that gained the reads for each number once gained those of each of their blocks once.
use Rattle.std.proofs.Common.{◌≡◌, ℕ, List, [], map, sum_by, length, vec_len, Option, Some, slice_get, arith, sym, ap, subst, ◌∙◌}
use Rattle.std.specs.Option.{option_map}
use Rattle.std.specs.List.{range_with_len}
use Rattle.std.proofs.lemmas.Option.{slice_get-map}
use Rattle.std.proofs.lemmas.List.Sums.{sum_by-append}
use Rattle.world.specs.Reads.{Reads}
use Rattle.run_core.specs.Counts.{times, once_below}
use Rattle.hand_off.proofs.Bags.{bag-flat_map}
use Rattle.crew_round.proofs.Counted.{sum_map}
use Rattle.block_source.specs.declared.file.BlockFile.{BlockFile}
use Rattle.block_source.specs.declared.file.BlockPlace.{BlockPlace}
use Rattle.block_source.specs.Places.{places_of, counts_of}
use Rattle.block_source.specs.Told.{AreGained}
use Rattle.block_source.specs.Bodies.{body_read, body_reads, read_in, read_at, reading, AreReadOnce}
use Rattle.block_source.proofs.PlaceSums.{sum_places, sum_file}
use Rattle.block_source.proofs.ReadLaws.{weigh_once}

-- the reads for all numbers are those for all blocks of the file
all_blocks : (files : List BlockFile) (file : ℕ) (one : BlockFile) (f : (ℕ × ℕ) → ℕ) → slice_get files file ≡ Some one
    → sum_by (λ n. sum_by f (reading files file n)) (range_with_len 0 (length (places_of files))) ≡ sum_by f (body_reads one.head)
all_blocks files file one f is =
    let found : ℕ → Reads = λ b. read_in (slice_get files file) b in
    let blocks = vec_len one.head.blocks in
    let at : slice_get (counts_of files) file ≡ Some blocks = slice_get-map (λ o. vec_len o.head.blocks) files file ∙ ap (option_map (λ (o : BlockFile). vec_len o.head.blocks)) is in
    sum_places (λ (o : Option BlockPlace). sum_by f (read_at files file o)) (places_of files)
    ∙ sum_file f file found (counts_of files) 0 file blocks (omega arith) at
    ∙ ap (λ (o : Option BlockFile). sum_by (λ b. sum_by f (read_in o b)) (range_with_len 0 blocks)) is
    ∙ sym (bag-flat_map f (body_read one.head) (range_with_len 0 blocks))

pub read_once : (files : List BlockFile) (start now : List (Option Reads)) (all : List (List ℕ)) (n : ℕ) → n ≡ length (places_of files)
    → ((x : ℕ) → sum_by (λ ns. times x ns) all ≡ once_below x n) → AreGained (reading files) start now [] all → AreReadOnce files start now
read_once files start now all n count once gained file one told is e =
    let g = gained file told e in (
      g.0,
      g.1,
      λ f.
          let w = weigh_once (reading files) f file n all once in
          let r = ap (λ m. sum_by (λ k. sum_by f (reading files file k)) (range_with_len 0 m)) count in
          omega (arith, g.2 f, w, r, all_blocks files file one f is, sum_by-append f g.0 (body_reads one.head)),
    )

-- the same over labours that have read these numbers
pub once_over : {L : Type 0} (loaded : L → List ℕ) (labours : List L) (files : List BlockFile) (start middle now : List (Option Reads)) (n : ℕ) → n ≡ length (places_of files) → middle ≡ start
    → ((x : ℕ) → sum_by (λ l. times x (loaded l)) labours ≡ once_below x n) → AreGained (reading files) middle now [] (map loaded labours) → AreReadOnce files start now
once_over loaded labours files start middle now n count same once gained =
    read_once files start now (map loaded labours) n count (λ x. sum_map loaded (λ (ns : List ℕ). times x ns) labours ∙ once x)
    (subst (λ (s : List (Option Reads)). AreGained (reading files) s now [] (map loaded labours)) same gained)
