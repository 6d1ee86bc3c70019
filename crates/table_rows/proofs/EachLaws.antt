-- The rows of a batch as they are read.
use Rattle.std.proofs.Common.{◌≡◌, ◌∙◌, ℕ, zero, suc, ◌<◌, List, [], ◌∷◌, length, map, get_or, take, Some, None, refl, ap, arith}
use Rattle.std.proofs.lemmas.List.{append-nil}
use Rattle.sub_types.specs.Stream.{Stream, rows_alone, ended, followed_by, glue, stream_of, each}
use Rattle.sub_types.specs.declared.fault.FaultKind.{FaultKind}
use Rattle.sub_types.specs.declared.kind.Ty.{Ty}
use Rattle.sub_types.specs.declared.value.Value.{Value}
use Rattle.table_rows.specs.Read.{row_fault, read_as, read_row}

abbrev pub read_each : ℕ → List Ty → List (List Value) → Stream (List Value)
read_each relation types rows = glue (map (λ row. stream_of (read_row relation types row)) rows)

glue_clean : (relation : ℕ) (types : List Ty) (rows : List (List Value)) → ((k : ℕ) → k < length rows → row_fault types (get_or rows k []) ≡ None) → read_each relation types rows ≡ rows_alone rows
glue_clean relation types [] clean = refl
glue_clean relation types (row ∷ rows) clean =
    ap (λ fault. followed_by (stream_of (read_as relation row fault)) (read_each relation types rows)) (clean 0 (omega arith))
    ∙ ap (followed_by (rows_alone (row ∷ []))) (glue_clean relation types rows (λ k below. clean (suc k) (omega arith)))

-- rows without a fault
pub each_clean : (relation : ℕ) (types : List Ty) (rows : List (List Value)) → ((k : ℕ) → k < length rows → row_fault types (get_or rows k []) ≡ None)
    → each (read_row relation types) (rows_alone rows) ≡ rows_alone rows
each_clean relation types rows clean =
    ap (λ s. followed_by s (ended None)) (glue_clean relation types rows clean) ∙ ap rows_alone (append-nil rows)

abbrev pub stopped : ℕ → FaultKind → List (List Value) → Stream (List Value)
stopped relation kind rows = record { rows = rows; end = Some (record { relation = relation; kind = kind }) }

glue_first : (relation : ℕ) (types : List Ty) (rows : List (List Value)) (i : ℕ) (kind : FaultKind) → i < length rows → row_fault types (get_or rows i []) ≡ Some kind
    → ((k : ℕ) → k < i → row_fault types (get_or rows k []) ≡ None) → read_each relation types rows ≡ stopped relation kind (take i rows)
glue_first relation types [] i kind below here before = absurd (omega arith)
glue_first relation types (row ∷ rows) zero kind below here before =
    ap (λ fault. followed_by (stream_of (read_as relation row fault)) (read_each relation types rows)) here
glue_first relation types (row ∷ rows) (suc i) kind below here before =
    ap (λ fault. followed_by (stream_of (read_as relation row fault)) (read_each relation types rows)) (before 0 (omega arith))
    ∙ ap (followed_by (rows_alone (row ∷ []))) (glue_first relation types rows i kind (omega arith) here (λ k under. before (suc k) (omega arith)))

-- rows the first fault of which stands in one of them
pub each_first : (relation : ℕ) (types : List Ty) (rows : List (List Value)) (i : ℕ) (kind : FaultKind) → i < length rows → row_fault types (get_or rows i []) ≡ Some kind
    → ((k : ℕ) → k < i → row_fault types (get_or rows k []) ≡ None) → each (read_row relation types) (rows_alone rows) ≡ stopped relation kind (take i rows)
each_first relation types rows i kind below here before =
    ap (λ s. followed_by s (ended None)) (glue_first relation types rows i kind below here before)
