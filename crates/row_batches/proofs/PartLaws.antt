-- Rows in parts.
use Rattle.std.proofs.Common.{◌≡◌, ◌∙◌, sym, ap, refl, ℕ, zero, suc, ◌+◌, ◌-◌, ◌*◌, ◌/◌, List, [], ◌∷◌, ◌++◌, length, min, take, drop, map, zero-add, arith}
use Rattle.std.specs.Fork.{slice_chunk}
use Rattle.std.specs.List.{flat_map, range_with_len, slice_range}
use Rattle.sub_types.specs.declared.value.Value.{Value}
use Rattle.std.proofs.lemmas.List.{append-nil, take-append-drop, take-take, drop-take, take_all, take_min, length-drop}
use Rattle.std.proofs.lemmas.List.Concat.{flat_map-append}
use Rattle.std.proofs.lemmas.List.FromFn.{map-range_with_len_more}
use Rattle.row_batches.specs.Parts.{in_parts, PART_ROWS}

-- the first so many and the next
take-both : {X : Type 0} (n m : ℕ) (xs : List X) → take (n + m) xs ≡ take n xs ++ take m (drop n xs)
take-both n m xs =
    sym (take-append-drop n (take (n + m) xs)) ∙ ap (λ front. front ++ drop n (take (n + m) xs)) (take-take n (n + m) xs (omega arith)) ∙ ap (λ back. take n xs ++ back) (drop-take n m xs)

-- the parts one behind the other
parts-joined : {X : Type 0} (xs : List X) (n : ℕ) → flat_map (λ chunk. chunk) (map (slice_chunk xs PART_ROWS) (range_with_len 0 n)) ≡ take (n * PART_ROWS) xs
parts-joined xs zero = refl
parts-joined {X} xs (suc n) =
    let whole : List (List X) → List X = flat_map (λ chunk. chunk) in
    let more : suc n ≡ n + 1 = omega arith in
    let size : n * PART_ROWS + PART_ROWS ≡ suc n * PART_ROWS = omega arith in
    ap (λ m. whole (map (slice_chunk xs PART_ROWS) (range_with_len 0 m))) more
    ∙ ap whole (map-range_with_len_more (slice_chunk xs PART_ROWS) 0 n n (zero-add n))
    ∙ flat_map-append (λ chunk. chunk) (map (slice_chunk xs PART_ROWS) (range_with_len 0 n)) (slice_chunk xs PART_ROWS n ∷ [])
    ∙ ap (λ front. front ++ (slice_chunk xs PART_ROWS n ++ [])) (parts-joined xs n)
    ∙ ap (λ back. take (n * PART_ROWS) xs ++ back) (append-nil (slice_chunk xs PART_ROWS n))
    ∙ sym (take-both (n * PART_ROWS) PART_ROWS xs)
    ∙ ap (λ m. take m xs) size

-- the parts are the rows
pub in_parts-joined : (rows : List (List Value)) → flat_map (λ batch. batch) (in_parts rows) ≡ rows
unfolding in_parts
in_parts-joined rows = parts-joined rows ((length rows + 1023) / PART_ROWS) ∙ take_all ((length rows + 1023) / PART_ROWS * PART_ROWS) rows (omega arith)

-- the rows from where a part begins to where it ends
pub part-is : {X : Type 0} (xs : List X) (n : ℕ) → slice_range xs (n * PART_ROWS) (min (length xs) (n * PART_ROWS + PART_ROWS)) ≡ slice_chunk xs PART_ROWS n
part-is xs n =
    let from : ℕ = n * PART_ROWS in
    let cut : min (length xs) (from + PART_ROWS) - from ≡ min PART_ROWS (length (drop from xs)) = omega (arith, length-drop from xs) in
    ap (λ m. take m (drop from xs)) cut ∙ take_min PART_ROWS (drop from xs)
