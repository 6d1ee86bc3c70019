-- Texts and binaries are read back from their offsets and bytes.
use Rattle.std.proofs.Common.{◌≡◌, ◌∙◌, ℕ, zero, suc, ◌+◌, ◌^◌, ◌<◌, ◌≤◌, ◌==◌, pos, List, [], ◌∷◌, ◌++◌, Bool, true, false, Some, length, get_or, map, refl, sym, ap, arith, add-one, nat_le}
use Rattle.std.specs.List.{range_with_len, flat_map, list_all, All, slice_range, slice_index}
use Rattle.std.specs.Option.{option_map}
use Rattle.std.specs.Int.{w32, cast_signed}
use Rattle.std.specs.Str.{IsUtf8}
use Rattle.std.proofs.lemmas.Bool.{le-leb}
use Rattle.std.proofs.lemmas.Bool.Decides.{nat_tests}
use Rattle.std.proofs.lemmas.Int.{to_z_pos}
use Rattle.std.proofs.lemmas.List.{length-map}
use Rattle.std.proofs.lemmas.List.FromFn.{fill_by_all}
use Rattle.std.proofs.lemmas.List.Elements.{All-head, All-tail, All-weaker}
use Rattle.std.proofs.lemmas.Str.{is_utf8-from_IsUtf8}
use Rattle.byteorder.specs.Endian.{little_bytes}
use Rattle.sub_types.specs.Nullable.{bytes_value}
use Rattle.sub_types.specs.Optional.{optional}
use Rattle.sub_types.specs.declared.value.Value.{Value}
use Rattle.sub_types.specs.declared.value.Value.TheVariants as values
use Rattle.arrow_meta.specs.Buffers.{is_valid, text_bytes, text_ends}
use Rattle.arrow_meta.specs.Natural.{natural}
use Rattle.sub_types.specs.OptionSteps.{◌>>=◌, all_of}
use Rattle.arrow_meta.specs.Values.{unsigned_in, offsets_in, are_offsets, pieces_of, pieces_in, texts_in, is_text, binaries_in}
use Rattle.arrow_meta.proofs.BackLaws.{flat_map-map}
use Rattle.arrow_law.proofs.Slots.{unsigned_back}
use Rattle.arrow_law.proofs.Pieces.{joined, bounds, length-bounds, bounds_bytes, bound_low, bound_rises, piece_at}

-- numbers below 2^31 are the same with a sign
signed_pos : (numbers : List ℕ) → ((k : ℕ) → k < length numbers → get_or numbers k 0 < 2 ^ 31) → map (cast_signed w32) numbers ≡ map pos numbers
signed_pos [] low = refl
signed_pos (n ∷ numbers) low =
    ap (λ z. z ∷ map (cast_signed w32) numbers) (to_z_pos w32 n (low 0 (omega arith)))
    ∙ ap (λ rest. pos n ∷ rest) (signed_pos numbers (λ k below. low (suc k) (omega arith)))

naturals : (numbers : List ℕ) → all_of (map natural (map pos numbers)) ≡ Some numbers
naturals [] = refl
naturals (n ∷ numbers) = rw (naturals numbers) refl

some_texts : (n : ℕ) → (suc n == 0) ≡ false
some_texts n = grind (arith, nat_tests)

-- the offsets
offsets_back : (texts : List (List ℕ)) → length (joined texts) < 2 ^ 31 → offsets_in w32 4 (length texts) (little_bytes 4 0 ++ text_ends 0 texts) ≡ Some (bounds 0 texts)
unfolding offsets_in
offsets_back [] short = refl
offsets_back (text ∷ texts) short =
    let all = text ∷ texts in
    let count : length all + 1 ≡ length (bounds 0 all) = omega (arith, length-bounds 0 all) in
    let low : (k : ℕ) → k < length (bounds 0 all) → get_or (bounds 0 all) k 0 < 2 ^ 31 = λ k below.
    let last = bound_low 0 all k (omega (arith, below, length-bounds 0 all)) in omega (arith, last, short) in
    let low_bytes : (k : ℕ) → k < length (bounds 0 all) → get_or (bounds 0 all) k 0 < 256 ^ 4 = λ k below. let h = low k below in omega (arith, h) in
    let read = λ (n : ℕ) (bytes : List ℕ). option_map (map (cast_signed w32)) (unsigned_in 4 n bytes) >>= λ offsets. all_of (map natural offsets) in
    rw (some_texts (length texts)) (
    ap (λ n. read n (little_bytes 4 0 ++ text_ends 0 all)) count
    ∙ ap (read (length (bounds 0 all))) (bounds_bytes 0 all)
    ∙ ap (λ found. option_map (map (cast_signed w32)) found >>= λ offsets. all_of (map natural offsets)) (unsigned_back 4 (bounds 0 all) low_bytes)
    ∙ ap (λ offsets. all_of (map natural offsets)) (signed_pos (bounds 0 all) low)
    ∙ naturals (bounds 0 all))

-- a test of each number of a range
pub list_all_range : (test : ℕ → Bool) (start n : ℕ) → ((k : ℕ) → start ≤ k → k < start + n → test k ≡ true) → list_all test (range_with_len start n) ≡ true
list_all_range test start zero each = refl
list_all_range test start (suc n) each =
    rw (each start (omega arith) (omega arith)) (list_all_range test (start + 1) n (λ k low high. each k (omega arith) (omega arith)))

-- they rise and end within the bytes
are_offsets_back : (texts : List (List ℕ)) → are_offsets (length texts) (bounds 0 texts) (joined texts) ≡ true
are_offsets_back texts =
    let rise : list_all (λ i. nat_le (slice_index (bounds 0 texts) i) (slice_index (bounds 0 texts) (i + 1))) (range_with_len 0 (length texts)) ≡ true =
    list_all_range (λ i. nat_le (slice_index (bounds 0 texts) i) (slice_index (bounds 0 texts) (i + 1))) 0 (length texts) (λ k low high.
    let h = bound_rises 0 texts k (omega arith) in
    le-leb (get_or (bounds 0 texts) k 0) (get_or (bounds 0 texts) (k + 1) 0) (rw (add-one k) h)) in
    let last = bound_low 0 texts (length texts) (omega arith) in
    let within : nat_le (slice_index (bounds 0 texts) (length texts)) (length (joined texts)) ≡ true = le-leb (get_or (bounds 0 texts) (length texts) 0) (length (joined texts)) (omega (arith, last)) in
    rw (rise, within) refl

-- the pieces between them
pieces_of_back : (texts : List (List ℕ)) → pieces_of (length texts) (bounds 0 texts) (joined texts) ≡ texts
pieces_of_back texts =
    sym (fill_by_all (λ i. slice_range (joined texts) (slice_index (bounds 0 texts) i) (slice_index (bounds 0 texts) (i + 1))) texts (length texts) [] refl
    (λ k below. sym (ap (λ n. slice_range (joined texts) (slice_index (bounds 0 texts) k) (slice_index (bounds 0 texts) n)) (add-one k) ∙ piece_at 0 [] texts k [] refl below)))

-- texts or binaries with their validity
pieces_back : (texts : List (List ℕ)) (valid : List Bool) → length (joined texts) < 2 ^ 31
    → pieces_in w32 4 (length texts) valid (little_bytes 4 0 ++ text_ends 0 texts) (joined texts) ≡ Some (optional texts valid)
unfolding pieces_in
pieces_back texts valid short =
    rw (offsets_back texts short, are_offsets_back texts) (ap (λ pieces. Some (optional pieces valid)) (pieces_of_back texts))

-- null, or a text or binary
abbrev pub IsBytes : Value → Type 0
IsBytes values.Null = Unit {0}
IsBytes (values.Bytes bytes) = Unit {0}
IsBytes _ = ⊥

-- null, or a text
abbrev pub IsText : Value → Type 0
IsText values.Null = Unit {0}
IsText (values.Bytes bytes) = IsUtf8 bytes
IsText _ = ⊥

bytes_values : (column : List Value) → All IsBytes column → map bytes_value (optional (map text_bytes column) (map is_valid column)) ≡ column
bytes_values [] each = refl
bytes_values (values.Null ∷ column) each = ap (λ rest. values.Null ∷ rest) (bytes_values column (All-tail IsBytes values.Null column each))
bytes_values (values.Bytes bytes ∷ column) each = ap (λ rest. values.Bytes bytes ∷ rest) (bytes_values column (All-tail IsBytes (values.Bytes bytes) column each))
bytes_values (value ∷ column) each = absurd (All-head IsBytes value column each)

texts_pass : (column : List Value) → All IsText column → list_all is_text (optional (map text_bytes column) (map is_valid column)) ≡ true
texts_pass [] each = refl
texts_pass (values.Null ∷ column) each = texts_pass column (All-tail IsText values.Null column each)
texts_pass (values.Bytes bytes ∷ column) each =
    rw (is_utf8-from_IsUtf8 bytes (All-head IsText (values.Bytes bytes) column each)) (texts_pass column (All-tail IsText (values.Bytes bytes) column each))
texts_pass (value ∷ column) each = absurd (All-head IsText value column each)

-- the buffers of a column of texts or binaries
abbrev pub offset_bytes : List Value → List ℕ
offset_bytes column = little_bytes 4 0 ++ text_ends 0 (map text_bytes column)

pub binaries_in_back : (column : List Value) → length (flat_map text_bytes column) < 2 ^ 31
    → binaries_in false (length column) (map is_valid column) (offset_bytes column) (flat_map text_bytes column) ≡ Some (optional (map text_bytes column) (map is_valid column))
binaries_in_back column short =
    let all : joined (map text_bytes column) ≡ flat_map text_bytes column = flat_map-map (λ text. text) text_bytes column in
    let few : length (joined (map text_bytes column)) < 2 ^ 31 = omega (arith, ap length all, short) in
    let long : length (map text_bytes column) ≡ length column = length-map column text_bytes in
    ap (λ bytes. pieces_in w32 4 (length column) (map is_valid column) (offset_bytes column) bytes) (sym all)
    ∙ ap (λ n. pieces_in w32 4 n (map is_valid column) (offset_bytes column) (joined (map text_bytes column))) (sym long)
    ∙ pieces_back (map text_bytes column) (map is_valid column) few

pub binaries_back : (column : List Value) → length (flat_map text_bytes column) < 2 ^ 31 → All IsBytes column
    → option_map (map bytes_value) (binaries_in false (length column) (map is_valid column) (offset_bytes column) (flat_map text_bytes column)) ≡ Some column
binaries_back column short each = ap (option_map (map bytes_value)) (binaries_in_back column short) ∙ ap (λ xs. Some xs) (bytes_values column each)

texts_are_bytes : (value : Value) → IsText value → IsBytes value
texts_are_bytes values.Null is = tt
texts_are_bytes (values.Bytes bytes) is = tt
texts_are_bytes value is = absurd is

pub texts_back : (column : List Value) → length (flat_map text_bytes column) < 2 ^ 31 → All IsText column
    → option_map (map bytes_value) (texts_in false (length column) (map is_valid column) (offset_bytes column) (flat_map text_bytes column)) ≡ Some column
unfolding texts_in
texts_back column short each =
    rw (binaries_in_back column short, texts_pass column each) (ap (λ xs. Some xs) (bytes_values column (All-weaker IsText IsBytes texts_are_bytes column each)))
