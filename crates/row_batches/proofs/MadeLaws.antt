-- The batches of rows, one more at a time.
use Rattle.std.proofs.Common.{◌≡◌, ◌∙◌, ap, refl, ℕ, ◌+◌, ◌/◌, List, [], ◌∷◌, ◌++◌, length, zero-add, map}
use Rattle.std.specs.Fork.{slice_chunk}
use Rattle.std.specs.List.{All, flat_map, range_with_len}
use Rattle.std.proofs.lemmas.List.{map_push}
use Rattle.std.proofs.lemmas.List.FromFn.{map-range_with_len_more}
use Rattle.std.proofs.lemmas.List.Elements.{All-nil, All-push}
use Rattle.sub_types.specs.declared.kind.Ty.{Ty}
use Rattle.sub_types.specs.declared.value.Value.{Value}
use Rattle.batch.specs.declared.batch.Batch.{Batch}
use Rattle.batch.specs.BatchRows.{rows_of, types_of}
use Rattle.row_batches.specs.Parts.{in_parts, PART_ROWS}
use Rattle.row_batches.proofs.PartLaws.{in_parts-joined}

-- the first so many batches of these rows
pub record MadeBatches (types : List Ty) (rows : List (List Value)) (batches : List Batch) (n : ℕ) : Type 0 where
  pub parts : map rows_of batches ≡ map (slice_chunk rows PART_ROWS) (range_with_len 0 n)
  pub typed : All (λ batch. types_of batch ≡ types) batches

-- none
pub MadeBatches-none : (types : List Ty) (rows : List (List Value)) → MadeBatches types rows [] 0
MadeBatches-none types rows = record { parts = refl; typed = All-nil (λ batch. types_of batch ≡ types) }

-- one more
pub MadeBatches-more : (types : List Ty) (rows : List (List Value)) (batches : List Batch) (n : ℕ) (batch : Batch) → rows_of batch ≡ slice_chunk rows PART_ROWS n → types_of batch ≡ types → MadeBatches types rows batches n → MadeBatches types rows (batches ++ batch ∷ []) (n + 1)
MadeBatches-more types rows batches n batch here typed so_far = record {
  parts = rw (map_push rows_of batches batch, map-range_with_len_more (slice_chunk rows PART_ROWS) 0 n n (zero-add n), so_far.parts, here);
  typed = All-push (λ batch. types_of batch ≡ types) batches batch so_far.typed typed;
}

-- all of them are the parts
pub MadeBatches-parts : (types : List Ty) (rows : List (List Value)) (batches : List Batch) (n : ℕ) → n ≡ (length rows + 1023) / PART_ROWS → MadeBatches types rows batches n → map rows_of batches ≡ in_parts rows
unfolding in_parts
MadeBatches-parts types rows batches n done made = made.parts ∙ ap (λ m. map (slice_chunk rows PART_ROWS) (range_with_len 0 m)) done

-- the rows of all batches
flat-map : (batches : List Batch) → flat_map rows_of batches ≡ flat_map (λ rows. rows) (map rows_of batches)
flat-map [] = refl
flat-map (batch ∷ batches) = ap (λ rest. rows_of batch ++ rest) (flat-map batches)

pub MadeBatches-rows : (types : List Ty) (rows : List (List Value)) (batches : List Batch) (n : ℕ) → n ≡ (length rows + 1023) / PART_ROWS → MadeBatches types rows batches n → flat_map rows_of batches ≡ rows
MadeBatches-rows types rows batches n done made =
    flat-map batches ∙ ap (flat_map (λ rows. rows)) (MadeBatches-parts types rows batches n done made) ∙ in_parts-joined rows
