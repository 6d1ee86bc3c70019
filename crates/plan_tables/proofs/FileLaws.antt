-- The stream of a read relation's files, file by file.
use Rattle.std.proofs.Common.{◌≡◌, ◌∙◌, sym, ap, refl, subst, ℕ, ◌≤◌, List, [], ◌∷◌, ◌++◌, length, append-nil, append_assoc, Option, Some, None, Result, Ok, Err, IsSome, IfOk, unwrap_or, arith}
use Rattle.std.specs.List.{flat_map}
use Rattle.std.proofs.lemmas.List.Concat.{flat_map-append}
use Rattle.sub_types.specs.declared.fault.Fault.{Fault}
use Rattle.sub_types.specs.declared.kind.Ty.{Ty}
use Rattle.sub_types.specs.declared.value.Value.{Value}
use Rattle.sub_types.specs.Stream.{Stream, followed_by, glue, each, stream_of}
use Rattle.sub_types.proofs.StreamLaws.{glue-append, each_stream-followed_by}
use Rattle.arrow_read.specs.Told.{IfTold}
use Rattle.batch.specs.declared.batch.Batch.{Batch}
use Rattle.batch.specs.BatchRows.{rows_of}
use Rattle.table_open.specs.Files.{TableFile}
use Rattle.table_rows.specs.Read.{read_row}
use Rattle.table_rows.specs.Blocks.{file_stream}
use Rattle.world.specs.Counts.{Rose}
use Rattle.world.specs.declared.error.FolderError.{FolderError}
use Rattle.plan_tables.specs.declared.read.TableEnd.{TableEnd}
use Rattle.plan_tables.specs.declared.read.TableEnd.TheVariants.{Whole}
use Rattle.plan_tables.specs.Read.{files_stream, HasRead, table_end}
use Rattle.plan_tables.specs.Tables.{blocks_of}

-- the rows of a file of a table
abbrev pub stream_in : ℕ → List Ty → TableFile → Stream (List Value)
stream_in relation types file = file_stream relation file.number types file.bytes file.blocks file.wanted

-- one file more
pub files_stream-more : (relation : ℕ) (types : List Ty) (files : List TableFile) (file : TableFile) →
    files_stream relation types (files ++ file ∷ []) ≡ followed_by (files_stream relation types files) (stream_in relation types file)
unfolding files_stream file_stream
files_stream-more relation types files file =
    let before = flat_map (blocks_of relation) files in
    let next = blocks_of relation file in
    let blocks : flat_map (blocks_of relation) (files ++ file ∷ []) ≡ before ++ next =
    flat_map-append (blocks_of relation) files (file ∷ []) ∙ ap (λ more. before ++ more) (append-nil next) in
    ap (λ all. each (read_row relation types) (glue all)) blocks ∙ ap (each (read_row relation types)) (glue-append before next)
    ∙ each_stream-followed_by (λ row. stream_of (read_row relation types row)) (glue before) (glue next)

-- a file behind one that ended the table isn't read
pub ended_more : (relation : ℕ) (types : List Ty) (files : List TableFile) (file : TableFile) (batches : List Batch) (fault : Fault)
    → files_stream relation types files ≡ record { rows = flat_map rows_of batches; end = Some fault }
    → files_stream relation types (files ++ file ∷ []) ≡ record { rows = flat_map rows_of batches; end = Some fault }
ended_more relation types files file batches fault has =
    files_stream-more relation types files file ∙ ap (λ s. followed_by s (stream_in relation types file)) has

-- the rows of a file behind those before it
rows_more : (relation : ℕ) (types : List Ty) (files : List TableFile) (file : TableFile) (old new : List Batch) (end : Option Fault)
    → files_stream relation types files ≡ record { rows = flat_map rows_of old; end = None }
    → flat_map rows_of new ≡ flat_map rows_of old ++ (stream_in relation types file).rows
    → end ≡ (stream_in relation types file).end
    → files_stream relation types (files ++ file ∷ []) ≡ record { rows = flat_map rows_of new; end = end }
rows_more relation types files file old new end has rows ends =
    files_stream-more relation types files file ∙ ap (λ s. followed_by s (stream_in relation types file)) has
    ∙ ap (λ all. record { rows = all; end = (stream_in relation types file).end }) (sym rows) ∙ ap (λ e. record { rows = flat_map rows_of new; end = e }) (sym ends)

ended_read : (relation : ℕ) (types : List Ty) (files : List TableFile) (batches : List Batch) (end : Option Fault)
    → files_stream relation types files ≡ record { rows = flat_map rows_of batches; end = end } → HasRead relation types files batches (table_end (Ok end))
ended_read relation types files batches None has = has
ended_read relation types files batches (Some fault) has = has

-- a file that was read behind others, where its bytes are told
file_read : (relation : ℕ) (types : List Ty) (files : List TableFile) (number blocks : ℕ) (told : Option (List ℕ)) (wanted : List ℕ) (old new : List Batch) (result : Result (Option Fault) FolderError)
    → IsSome told → HasRead relation types files old Whole
    → IfOk result (λ end. IfTold told (λ bytes. flat_map rows_of new ≡ flat_map rows_of old ++ (file_stream relation number types bytes blocks wanted).rows))
    → IfOk result (λ end. IfTold told (λ bytes. end ≡ (file_stream relation number types bytes blocks wanted).end))
    → HasRead relation types (files ++ record { number = number; bytes = unwrap_or told []; blocks = blocks; wanted = wanted } ∷ []) new (table_end result)
file_read relation types files number blocks None wanted old new result some has rows ends = absurd (cc)
file_read relation types files number blocks (Some bytes) wanted old new (Err e) some has rows ends = tt
file_read relation types files number blocks (Some bytes) wanted old new (Ok end) some has rows ends =
    let file : TableFile = record { number = number; bytes = bytes; blocks = blocks; wanted = wanted } in
    ended_read relation types (files ++ file ∷ []) new end
    (rows_more relation types files file old new end has (rows bytes refl) (ends bytes refl))

-- the same, with the number of blocks and the places as they were handed in
pub file_read_as : (relation : ℕ) (types : List Ty) (files : List TableFile) (number blocks len : ℕ) (told : Option (List ℕ)) (wanted lent : List ℕ) (old new : List Batch) (result : Result (Option Fault) FolderError)
    → len ≡ blocks → lent ≡ wanted → IsSome told → HasRead relation types files old Whole
    → IfOk result (λ end. IfTold told (λ bytes. flat_map rows_of new ≡ flat_map rows_of old ++ (file_stream relation number types bytes len lent).rows))
    → IfOk result (λ end. IfTold told (λ bytes. end ≡ (file_stream relation number types bytes len lent).end))
    → HasRead relation types (files ++ record { number = number; bytes = unwrap_or told []; blocks = blocks; wanted = wanted } ∷ []) new (table_end result)
file_read_as relation types files number blocks len told wanted lent old new result counted same some has rows ends =
    subst (λ n. HasRead relation types (files ++ record { number = number; bytes = unwrap_or told []; blocks = n; wanted = wanted } ∷ []) new (table_end result)) counted
    (subst (λ places. HasRead relation types (files ++ record { number = number; bytes = unwrap_or told []; blocks = len; wanted = places } ∷ []) new (table_end result)) same
    (file_read relation types files number len told lent old new result some has rows ends))

-- of these files some were read, and these are left
pub record ReadSoFar (relation : ℕ) (types : List Ty) (all left : List TableFile) (batches : List Batch) (end : TableEnd) : Type 0 where
  pub done : List TableFile
  pub split : all ≡ done ++ left
  pub has : HasRead relation types done batches end

-- none of them was read yet
pub none_read : (relation : ℕ) (types : List Ty) (before left : List TableFile) (batches : List Batch) (end : TableEnd) → HasRead relation types before batches end
    → ReadSoFar relation types (before ++ left) left batches end
none_read relation types before left batches end has = record { done = before; split = refl; has = has }

pub nothing_read : (relation : ℕ) (types : List Ty) (batches : List Batch) → batches ≡ [] → HasRead relation types [] batches Whole
unfolding files_stream
nothing_read relation types batches empty = ap (λ none. record { rows = flat_map rows_of none; end = None }) (sym empty)

-- these more were read
pub more_read : (relation : ℕ) (types : List Ty) (all next left : List TableFile) (old new : List Batch) (end after : TableEnd)
    → ReadSoFar relation types all (next ++ left) old end
    → ((files : List TableFile) → HasRead relation types files old end → HasRead relation types (files ++ next) new after)
    → ReadSoFar relation types all left new after
more_read relation types all next left old new end after so_far more = record {
  done = so_far.done ++ next;
  split = so_far.split ∙ sym (append_assoc so_far.done next left);
  has = more so_far.done so_far.has;
}

-- all were read
pub all_read : (relation : ℕ) (types : List Ty) (all : List TableFile) (batches : List Batch) (end : TableEnd) → ReadSoFar relation types all [] batches end → HasRead relation types all batches end
all_read relation types all batches end so_far =
    subst (λ files. HasRead relation types files batches end) (sym (so_far.split ∙ append-nil so_far.done)) so_far.has

pub none_left : {A : Type 0} (left : List A) → length left ≡ 0 → left ≡ []
none_left [] h = refl
none_left (x ∷ left) h = absurd (omega arith)

-- a count that rose stays above
pub rose_before : (old mid new : ℕ) → Rose old mid → mid ≤ new → Rose old new
rose_before old mid new rose rises = omega arith

pub rose_after : (old mid new : ℕ) → old ≤ mid → Rose mid new → Rose old new
rose_after old mid new rises rose = omega arith
