-- A key whose bytes grow by a value.
use Rattle.std.proofs.Common.{◌≡◌, ◌∙◌, ℕ, suc, ◌<◌, ◌+◌, List, [], ◌∷◌, ◌++◌, length, take, get_or, map, refl, ap, sym, subst, arith}
use Rattle.std.specs.List.{All, flat_map}
use Rattle.std.proofs.lemmas.List.{append-nil, append_assoc, map-append}
use Rattle.std.proofs.lemmas.Grind.{flat_map-append}
use Rattle.std.proofs.lemmas.List.Concat.{flat_map-cons}
use Rattle.std.proofs.lemmas.List.Elements.{All-push}
use Rattle.std.proofs.Math.Seq.{take-suc}
use Rattle.sub_types.specs.declared.value.Value.{Value}
use Rattle.batch.specs.declared.batch.Batch.{Batch}
use Rattle.row_keys.specs.Keys.{key_of, value_in}
use Rattle.row_keys.specs.KeyBytes.{value_bytes, bytes_of_key, IsHeld}

-- the first values of a key are written
abbrev pub IsWritten : List ℕ → Batch → ℕ → ℕ → List ℕ → Type 0
IsWritten columns batch row k bytes = (bytes ≡ bytes_of_key (key_of (take k columns) batch row)) × All IsHeld (key_of (take k columns) batch row)

one_more : (columns : List ℕ) (batch : Batch) (row k : ℕ) → k < length columns → key_of (take (suc k) columns) batch row ≡ key_of (take k columns) batch row ++ (value_in batch row (get_or columns k 0) ∷ [])
one_more columns batch row k within =
    ap (λ cs. key_of cs batch row) (take-suc columns k 0 within) ∙ map-append (value_in batch row) (take k columns) (get_or columns k 0 ∷ [])

more_bytes : (key : List Value) (v : Value) → bytes_of_key (key ++ (v ∷ [])) ≡ bytes_of_key key ++ value_bytes v
more_bytes key v = flat_map-append value_bytes key (v ∷ []) ∙ ap (λ bs. flat_map value_bytes key ++ bs) (flat_map-cons value_bytes v [] ∙ append-nil (value_bytes v))

by_one : (columns : List ℕ) (batch : Batch) (row k : ℕ) (old new : List ℕ) → k < length columns → new ≡ old ++ value_bytes (value_in batch row (get_or columns k 0)) → IsHeld (value_in batch row (get_or columns k 0)) → IsWritten columns batch row k old → IsWritten columns batch row (suc k) new
by_one columns batch row k old new within step held so_far =
    let v = value_in batch row (get_or columns k 0) in
    let key = key_of (take k columns) batch row in
    let more = one_more columns batch row k within in (
      step ∙ ap (λ bs. bs ++ value_bytes v) so_far.0 ∙ sym (more_bytes key v) ∙ ap bytes_of_key (sym more),
      subst (All IsHeld) (sym more) (All-push IsHeld key v so_far.1 held),
    )

pub written_more : (columns : List ℕ) (batch : Batch) (row k : ℕ) (old new : List ℕ) → k < length columns → new ≡ old ++ value_bytes (value_in batch row (get_or columns k 0)) → IsHeld (value_in batch row (get_or columns k 0)) → IsWritten columns batch row k old → IsWritten columns batch row (k + 1) new
written_more columns batch row k old new within step held so_far =
    let next_place : suc k ≡ k + 1 = omega arith in
    subst (λ n. IsWritten columns batch row n new) next_place (by_one columns batch row k old new within step held so_far)

-- a first byte is written, and then the others
pub tagged : (old mid new bytes value : List ℕ) (tag : ℕ) → mid ≡ old ++ (tag ∷ []) → new ≡ mid ++ bytes → bytes ≡ value → new ≡ old ++ (tag ∷ value)
tagged old mid new bytes value tag first others same =
    others ∙ ap (λ m. m ++ bytes) first ∙ append_assoc old (tag ∷ []) bytes ∙ ap (λ bs. old ++ (tag ∷ bs)) same
