-- The rows of a batch that are gathered part by part.
use Rattle.std.proofs.Common.{◌≡◌, ◌∙◌, ℕ, ◌<◌, List, [], ◌∷◌, ◌++◌, map, length, take, drop, append-nil, append_assoc, sym, ap, subst}
use Rattle.std.specs.List.{All, flat_map}
use Rattle.std.proofs.lemmas.Grind.{flat_map-append}
use Rattle.std.proofs.lemmas.List.{map-append}
use Rattle.std.proofs.lemmas.List.Elements.{All-take, All-drop}
use Rattle.std.proofs.Math.Seq.{take-append_seam, drop-append_seam}
use Rattle.sub_types.specs.declared.value.Value.{Value}
use Rattle.batch.specs.declared.batch.Batch.{Batch}
use Rattle.batch.specs.BatchRows.{rows_of}
use Rattle.batch_places.specs.BatchRow.{row_at}

-- batches of the rows at the first so many places
pub parts_more : (batch : Batch) (batches more : List Batch) (one : Batch) (part rest all : List ℕ) (rows : List (List Value)) → more ≡ batches ++ one ∷ [] → rows_of one ≡ map (row_at batch) part → all ≡ part ++ rest
    → flat_map rows_of batches ++ map (row_at batch) all ≡ rows → flat_map rows_of more ++ map (row_at batch) rest ≡ rows
parts_more batch batches more one part rest all rows grown here parts so_far =
    ap (λ some. flat_map rows_of some ++ map (row_at batch) rest) grown
    ∙ ap (λ front. front ++ map (row_at batch) rest) (flat_map-append rows_of batches (one ∷ []) ∙ ap (λ back. flat_map rows_of batches ++ back) (append-nil (rows_of one) ∙ here))
    ∙ append_assoc (flat_map rows_of batches) (map (row_at batch) part) (map (row_at batch) rest)
    ∙ ap (λ back. flat_map rows_of batches ++ back) (sym (map-append (row_at batch) part rest) ∙ ap (map (row_at batch)) (sym parts))
    ∙ so_far

-- what holds of the places holds of those in a part and of the rest
pub within_first : (n : ℕ) (part rest all : List ℕ) → all ≡ part ++ rest → All (λ i. i < n) all → All (λ i. i < n) part
within_first n part rest all parts within =
    subst (All (λ i. i < n)) (ap (take (length part)) parts ∙ take-append_seam part rest) (All-take (λ i. i < n) (length part) all within)

pub within_rest : (n : ℕ) (part rest all : List ℕ) → all ≡ part ++ rest → All (λ i. i < n) all → All (λ i. i < n) rest
within_rest n part rest all parts within =
    subst (All (λ i. i < n)) (ap (drop (length part)) parts ∙ drop-append_seam part rest) (All-drop (λ i. i < n) (length part) all within)
