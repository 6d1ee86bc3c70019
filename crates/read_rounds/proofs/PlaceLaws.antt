-- The files of a read relation at their place.
use Rattle.std.proofs.Common.{◌≡◌, ◌∙◌, ◌<◌, ◌≤◌, ℕ, zero, suc, ◌+◌, List, [], ◌∷◌, Bool, true, false, Option, Some, length, map, get_or, set, sum_by, ◌==◌, ◌≢◌, true≢false, refl, sym, ap, subst, arith, if◌then◌else◌}
use Rattle.std.specs.Prelude.{Result, position}
use Rattle.std.specs.List.{All}
use Rattle.std.proofs.lemmas.Bool.{eq-eqb, eqb-true}
use Rattle.std.proofs.lemmas.List.Elements.{All-head, All-tail}
use Rattle.std.proofs.lemmas.List.Quantifiers.{position-Some}
use Rattle.std.proofs.lemmas.List.Sums.{sum_by-set}
use Rattle.world.specs.Counts.{HasCause, Rose}
use Rattle.world.specs.Reads.{Reads}
use Rattle.world.specs.declared.error.FolderError.{FolderError}
use Rattle.world.specs.declared.error.FolderError.TheVariants.{Failed}
use Rattle.sub_types.specs.declared.kind.Ty.{Ty}
use Rattle.block_source.specs.Bodies.{AreReadOnce}
use Rattle.block_source.proofs.Rising.{rose_in}
use Rattle.open_blocks.specs.declared.files.ReadFiles.{ReadFiles}
use Rattle.open_blocks.specs.Files.{FilesSeen, AreOpenFor, faults_of, files_at, files_seen}
use Rattle.read_rounds.specs.Bodies.{HaveRead, reads_made}

module _ {R : Type 0} (bytes : R → Option (List ℕ)) (relation : ℕ) where
  abbrev is_of : ReadFiles R → Bool
  is_of one = one.relation == relation

  first_at : (files : List (ReadFiles R)) (at : ℕ) (d : ReadFiles R) → at < length files → is_of (get_or files at d) ≡ true → ((k : ℕ) → k < at → is_of (get_or files k d) ≡ false)
      → files_at relation (map (files_seen bytes) files) ≡ Some (files_seen bytes (get_or files at d))
  first_at [] at d below is before = absurd (omega (arith, below))
  first_at (one ∷ files) zero d below is before = ap (λ (test : Bool). if test then Some (files_seen bytes one) else files_at relation (map (files_seen bytes) files)) is
  first_at (one ∷ files) (suc at) d below is before =
      ap (λ (test : Bool). if test then Some (files_seen bytes one) else files_at relation (map (files_seen bytes) files)) (before 0 (omega arith))
      ∙ first_at files at d (omega (arith, below)) is (λ k less. before (suc k) (omega (arith, less)))

  abbrev Open : List Ty → FilesSeen → Type 0
  Open types one = one.relation ≡ relation → AreOpenFor types one

  open_at : (types : List Ty) (files : List (ReadFiles R)) (k : ℕ) (d : ReadFiles R) → k < length files → (get_or files k d).relation ≡ relation → All (Open types) (map (files_seen bytes) files) → AreOpenFor types (files_seen bytes (get_or files k d))
  open_at types [] k d below own all = absurd (omega (arith, below))
  open_at types (one ∷ files) zero d below own all = All-head (Open types) (files_seen bytes one) (map (files_seen bytes) files) all own
  open_at types (one ∷ files) (suc k) d below own all = open_at types files k d (omega (arith, below)) own (All-tail (Open types) (files_seen bytes one) (map (files_seen bytes) files) all)

  -- the place is within, and there are the files that are found, which are open
  pub record IsPlace (types : List Ty) (files : List (ReadFiles R)) (at : ℕ) (one : ReadFiles R) : Type 0 where
    pub within : at < length files
    pub found : files_at relation (map (files_seen bytes) files) ≡ Some (files_seen bytes one)
    pub opened : AreOpenFor types (files_seen bytes one)

  pub is_place : (types : List Ty) (files : List (ReadFiles R)) (at : ℕ) (one : ReadFiles R) → position is_of files ≡ Some at → one ≡ get_or files at one → All (Open types) (map (files_seen bytes) files) → IsPlace types files at one
  is_place types files at one is there all =
      let some = position-Some is_of files at one is in
      let own : (get_or files at one).relation ≡ relation = eqb-true (get_or files at one).relation relation some.1 in
      record {
        within = some.0;
        found = first_at files at one some.0 some.1 some.2 ∙ ap (λ (x : ReadFiles R). Some (files_seen bytes x)) (sym there);
        opened = subst (λ (x : ReadFiles R). AreOpenFor types (files_seen bytes x)) (sym there) (open_at types files at one some.0 own all);
      }

  -- the bodies of the files at the first place of the relation were read once, and so those of the relation
  first_read : (reads : R → Option Reads) (files : List (ReadFiles R)) (at : ℕ) (d new : ReadFiles R) → at < length files → is_of (get_or files at d) ≡ true → ((k : ℕ) → k < at → is_of (get_or files k d) ≡ false)
      → AreReadOnce (get_or files at d).blocks.files.items (map reads (get_or files at d).readers.items) (map reads new.readers.items)
      → HaveRead relation (map (files_seen bytes) files) (reads_made reads files) (reads_made reads (set files at new))
  first_read reads [] at d new below is before once = absurd (omega (arith, below))
  first_read reads (one ∷ files) zero d new below is before once = (λ own. (once, refl), λ other. absurd (other (eqb-true one.relation relation is)))
  first_read reads (one ∷ files) (suc at) d new below is before once = (
    λ own. absurd (true≢false (sym (eq-eqb one.relation relation own) ∙ before 0 (omega arith))),
    λ other. (refl, first_read reads files at d new (omega (arith, below)) is (λ k less. before (suc k) (omega (arith, less))) once),
  )

  pub have_read : (reads : R → Option Reads) (files : List (ReadFiles R)) (at : ℕ) (one new : ReadFiles R) → position is_of files ≡ Some at → one ≡ get_or files at one
      → AreReadOnce one.blocks.files.items (map reads one.readers.items) (map reads new.readers.items) → HaveRead relation (map (files_seen bytes) files) (reads_made reads files) (reads_made reads (set files at new))
  have_read reads files at one new is there once =
      let some = position-Some is_of files at one is in
      first_read reads files at one new some.0 some.1 some.2 (subst (λ (x : ReadFiles R). AreReadOnce x.blocks.files.items (map reads x.readers.items) (map reads new.readers.items)) there once)

-- the count of failed reads rises as that of the files at a place
summed : (a b s t : ℕ) → t + a ≡ s + b → a ≤ b → s ≤ t
summed a b s t e le = omega (arith, e, le)

pub cause_at : {R T : Type 0} (faults : R → ℕ) (files : List (ReadFiles R)) (at : ℕ) (one new : ReadFiles R) (result : Result T FolderError) → at < length files → one ≡ get_or files at one
    → HasCause Failed (sum_by faults one.readers.items) (sum_by faults new.readers.items) result → HasCause Failed (faults_of faults files) (faults_of faults (set files at new)) result
cause_at {R} faults files at one new result below there cause =
    let count : ReadFiles R → ℕ = λ x. sum_by faults x.readers.items in
    let same : count one ≡ count (get_or files at one) = ap count there in
    record {
      never_falls = summed (count (get_or files at one)) (count new) (faults_of faults files) (faults_of faults (set files at new)) (sum_by-set count files at new one below) (subst (λ (n : ℕ). n ≤ count new) same cause.never_falls);
      failed = λ is. rose_in count files at one new below (subst (λ (n : ℕ). Rose n (count new)) same (cause.failed is));
    }
