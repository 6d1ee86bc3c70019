-- A file as its head, its record batch messages and its tail.
use Rattle.std.proofs.Common.{◌≡◌, ◌∙◌, ℕ, List, [], ◌∷◌, ◌++◌, length, take, Option, inr, sym, ap, refl, subst, append_assoc, append-nil}
use Rattle.std.specs.List.{flat_map}
use Rattle.std.proofs.lemmas.List.{take_at}
use Rattle.fb_bytes.specs.Layout.{buffer_of, table_laid, structs_laid, Number, Offset}
use Rattle.world.specs.Files.{Files, written, appended, IsPartWritten}
use Rattle.sub_types.specs.declared.kind.Ty.{Ty}
use Rattle.sub_types.specs.declared.value.Value.{Value}
use Rattle.arrow_meta.specs.Messages.{Place, VERSION, schema_laid, footer_laid, block_bytes}
use Rattle.arrow_meta.specs.File.{batches as cut, batch_message, blocks_from, file_head, file_tail, file_of, footer_of}
use Rattle.arrow_write.specs.Pieces.{ended, IsPartAppended}
use Rattle.arrow_write.proofs.Parts.{part_left, after_append}

-- the messages of all rows
abbrev pub messages : List Ty → List (List Value) → List ℕ
messages types rows = flat_map (batch_message types) (cut rows)

pub file_parts : (names : List (List ℕ)) (types : List Ty) (rows : List (List Value)) → file_head names types ++ messages types rows ++ file_tail names types rows ≡ file_of names types rows
unfolding file_of
file_parts names types rows = refl

-- the end of a file whose footer has the bytes of these blocks
ended_with : List (List ℕ) → List Ty → List ℕ → List ℕ
ended_with names types blocks =
    ended (buffer_of (table_laid (Number 0 2 VERSION ∷ Offset 1 (schema_laid names types) ∷ Offset 2 (structs_laid 24 []) ∷ Offset 3 (structs_laid 24 blocks) ∷ [])))

pub tail_is : (names : List (List ℕ)) (types : List Ty) (rows : List (List Value)) (places : List Place) (start : ℕ) → start ≡ length (file_head names types)
    → flat_map block_bytes places ≡ flat_map block_bytes (blocks_from start types (cut rows)) → ended (buffer_of (footer_laid names types places)) ≡ file_tail names types rows
unfolding file_tail footer_of ended_with
tail_is names types rows places start start_is same =
    ap (ended_with names types) (same ∙ ap (λ n. flat_map block_bytes (blocks_from n types (cut rows))) start_is)

-- what a failure leaves of a file: while its head is appended, while its messages are, before its tail is, and while it is
pub part_of_head : (before mid now : Option Files) (name passed : List ℕ) (names : List (List ℕ)) (types : List Ty) (rows : List (List Value)) → passed ≡ file_head names types → mid ≡ written before name [] → IsPartAppended mid now name passed
    → IsPartWritten before now name (file_of names types rows)
part_of_head before mid now name passed names types rows same e left =
    let head = file_head names types in
    let behind = messages types rows ++ file_tail names types rows in
    subst (IsPartWritten before now name) (sym (append_assoc head (messages types rows) (file_tail names types rows)) ∙ file_parts names types rows) (part_left before mid now name [] head behind passed same e left)

pub part_of_messages : (before mid now : Option Files) (name : List ℕ) (names : List (List ℕ)) (types : List Ty) (rows : List (List Value)) → mid ≡ written before name (file_head names types) → IsPartAppended mid now name (messages types rows)
    → IsPartWritten before now name (file_of names types rows)
part_of_messages before mid now name names types rows e left =
    subst (IsPartWritten before now name) (file_parts names types rows) (part_left before mid now name (file_head names types) (messages types rows) (file_tail names types rows) (messages types rows) refl e left)

pub part_before_tail : (before now : Option Files) (name : List ℕ) (names : List (List ℕ)) (types : List Ty) (rows : List (List Value)) → now ≡ written before name (file_head names types ++ messages types rows) → IsPartWritten before now name (file_of names types rows)
part_before_tail before now name names types rows e =
    let front = file_head names types ++ messages types rows in
    inr (length front, e ∙ ap (written before name) (sym (take_at front (file_tail names types rows) (length front) refl) ∙ ap (take (length front)) (file_parts names types rows)))

pub part_of_tail : (before mid now : Option Files) (name passed : List ℕ) (names : List (List ℕ)) (types : List Ty) (rows : List (List Value)) → passed ≡ file_tail names types rows
    → mid ≡ written before name (file_head names types ++ messages types rows) → IsPartAppended mid now name passed → IsPartWritten before now name (file_of names types rows)
part_of_tail before mid now name passed names types rows same e left =
    let front = file_head names types ++ messages types rows in
    subst (IsPartWritten before now name) (append-nil (front ++ file_tail names types rows) ∙ file_parts names types rows) (part_left before mid now name front (file_tail names types rows) [] passed same e left)

pub whole_file : (before mid now : Option Files) (name passed : List ℕ) (names : List (List ℕ)) (types : List Ty) (rows : List (List Value)) → passed ≡ file_tail names types rows
    → mid ≡ written before name (file_head names types ++ messages types rows) → now ≡ appended mid name passed → now ≡ written before name (file_of names types rows)
whole_file before mid now name passed names types rows same e added =
    after_append before mid now name (file_head names types ++ messages types rows) (file_tail names types rows) passed same e added ∙ ap (written before name) (file_parts names types rows)
