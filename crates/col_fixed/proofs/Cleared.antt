-- A buffer whose nulls are cleared one after the other.
use Rattle.std.proofs.Common.{◌≡◌, ◌≢◌, ◌∙◌, ℕ, zero, suc, ◌+◌, ◌*◌, ◌^◌, ◌/◌, ◌%◌, ◌<◌, ◌≤◌, ◌==◌, List, length, get_or, set, take, bit_and, Bool, true, false, inl, inr, refl, sym, ap, arith, zero-add, below_more, get_or-set_other, get_or-set_same}
use Rattle.std.specs.Int.{bit_at}
use Rattle.std.specs.List.{All}
use Rattle.std.proofs.lemmas.List.Elements.{All-more}
use Rattle.std.proofs.lemmas.Nat.{and_le_l, and_le_r}
use Rattle.std.proofs.lemmas.Bool.{cases_lt}
use Rattle.std.proofs.lemmas.List.{length-set, get_or_past}
use Rattle.std.proofs.lemmas.List.FromFn.{get_or-map-range_with_len}
use Rattle.sub_types.specs.Bits.{bit_of, bits_of}
use Rattle.sub_types.specs.OptionalLaws.{optional-set_null}
use Rattle.col_fixed.specs.Column.{IsColumn, IsClearedBelow}
use Rattle.col_fixed.proofs.ColumnLaws.{slots-optional}

-- a value stays
pub IsClearedBelow-valid : {T : Type 0} (zero : T) (old new : List T) (valid : List Bool) (i : ℕ) → IsClearedBelow zero old new valid i → get_or valid i false ≡ true → IsClearedBelow zero old new valid (i + 1)
IsClearedBelow-valid d old new valid i kept is_valid =
    record { same_length = kept.same_length; same_column = kept.same_column; cleared = below_more _ _ kept.cleared (λ null. absurd (cc)) }

-- a null becomes zero
pub IsClearedBelow-null : {T : Type 0} (zero : T) (old new : List T) (valid : List Bool) (i : ℕ) → IsClearedBelow zero old new valid i → i < length new → get_or valid i false ≡ false → IsClearedBelow zero old (set new i zero) valid (i + 1)
IsClearedBelow-null d old new valid i kept below is_null =
    record {
      same_length = length-set new i d ∙ kept.same_length;
      same_column = optional-set_null new valid i d is_null ∙ kept.same_column;
      cleared = below_more _ _ (λ k lt null. let ne : k ≢ i = omega arith in rw get_or-set_other (kept.cleared k lt null)) (λ null. rw get_or-set_same);
    }

-- past the last slot there is nothing to clear
pub IsClearedBelow-past : {T : Type 0} (zero : T) (old new : List T) (valid : List Bool) (i j : ℕ) → IsClearedBelow zero old new valid i → length valid ≤ i → IsClearedBelow zero old new valid j
IsClearedBelow-past d old new valid i j kept past =
    record {
      same_length = kept.same_length;
      same_column = kept.same_column;
      cleared = λ k lt null. elim (cases_lt k i) [ inl below ↦ kept.cleared k below null | inr above ↦ get_or_past new k d (omega (arith, kept.same_length)) ];
    }

-- nothing is cleared yet
pub IsClearedBelow-none : {T : Type 0} (zero : T) (old : List T) (valid : List Bool) → length old ≡ length valid → IsClearedBelow zero old old valid 0
IsClearedBelow-none d old valid same = record { same_length = same; same_column = refl; cleared = λ k lt null. absurd (omega arith) }

-- each bit of 255 is set
bit_at_255 : (r : ℕ) → r < 8 → (bit_at 255 r == 1) ≡ true
bit_at_255 zero below = refl
bit_at_255 (suc zero) below = refl
bit_at_255 (suc (suc zero)) below = refl
bit_at_255 (suc (suc (suc zero))) below = refl
bit_at_255 (suc (suc (suc (suc zero)))) below = refl
bit_at_255 (suc (suc (suc (suc (suc zero))))) below = refl
bit_at_255 (suc (suc (suc (suc (suc (suc zero)))))) below = refl
bit_at_255 (suc (suc (suc (suc (suc (suc (suc zero))))))) below = refl
bit_at_255 (suc (suc (suc (suc (suc (suc (suc (suc r)))))))) below = absurd (omega arith)

-- whether a slot is valid, by the bit of its byte
pub valid_bit : (valid : List Bool) (bytes : List ℕ) (k : ℕ) → bits_of (length valid) bytes ≡ valid → k < length valid → get_or valid k false ≡ (bit_at (get_or bytes (k / 8) 0) (k % 8) == 1)
valid_bit valid bytes k bits below =
    ap (λ xs. get_or xs k false) (sym bits)
    ∙ get_or-map-range_with_len (bit_of bytes) 0 (length valid) k k false below (zero-add k)

-- under a byte of 255 each slot is valid
valid_255 : (valid : List Bool) (bytes : List ℕ) (place k : ℕ) → bits_of (length valid) bytes ≡ valid → get_or bytes place 0 ≡ 255 → k / 8 ≡ place → k < length valid → get_or valid k false ≡ true
valid_255 valid bytes place k bits full here below =
    valid_bit valid bytes k bits below
    ∙ ap (λ byte. bit_at byte (k % 8) == 1) (ap (λ i. get_or bytes i 0) here ∙ full)
    ∙ bit_at_255 (k % 8) (omega arith)

-- where each byte is 255, there is nothing to clear
pub IsColumn-full : {T : Type 0} (zero : T) (values : List T) (valid : List Bool) (bytes : List ℕ)
    → length values ≡ length valid → bits_of (length valid) bytes ≡ valid → length valid ≤ 8 * length bytes → All (λ byte. byte ≡ 255) bytes → IsColumn zero values valid
IsColumn-full d values valid bytes same bits enough full =
    record {
      same_length = same;
      zeroed = slots-optional d values valid same (λ k below null.
          let byte : get_or bytes (k / 8) 0 ≡ 255 = full (k / 8) 0 (omega (arith, same, enough)) in
          let is : get_or valid k false ≡ true = valid_255 valid bytes (k / 8) k bits byte refl (omega (arith, same)) in
          absurd (cc));
    }

-- one byte more that is 255, where all of them together are
pub full-more : (bytes : List ℕ) (i all : ℕ) → i < length bytes → (all ≡ 255 → All (λ b. b ≡ 255) (take i bytes)) → all < 2 ^ 8 → get_or bytes i 0 < 2 ^ 8 → bit_and all (get_or bytes i 0) ≡ 255 → All (λ b. b ≡ 255) (take (i + 1) bytes)
full-more bytes i all below before few few_more both =
    let left = and_le_l all (get_or bytes i 0) in
    let right = and_le_r all (get_or bytes i 0) in
    All-more (λ b. b ≡ 255) bytes i 0 below (before (omega (arith, left, both))) (omega (arith, right, both))

-- under a byte of 255 there is nothing to clear
pub IsClearedBelow-full : {T : Type 0} (zero : T) (old new : List T) (valid : List Bool) (bytes : List ℕ) (place : ℕ)
    → IsClearedBelow zero old new valid (8 * place) → bits_of (length valid) bytes ≡ valid → get_or bytes place 0 ≡ 255 → IsClearedBelow zero old new valid (8 * place + 8)
IsClearedBelow-full d old new valid bytes place kept bits full =
    record {
      same_length = kept.same_length;
      same_column = kept.same_column;
      cleared = λ k lt null. elim (cases_lt k (8 * place)) [
        | inl below ↦ kept.cleared k below null
        | inr above ↦ elim (cases_lt k (length valid)) [
          | inl within ↦ let is : get_or valid k false ≡ true = valid_255 valid bytes place k bits full (omega arith) within in absurd (cc)
          | inr past ↦ get_or_past new k d (omega (arith, kept.same_length))
        ]
      ];
    }

-- once all are cleared, the buffers are a column's
pub IsColumn-cleared : {T : Type 0} (zero : T) (old new : List T) (valid : List Bool) (i : ℕ) → IsClearedBelow zero old new valid i → length valid ≤ i → IsColumn zero new valid
IsColumn-cleared d old new valid i kept all =
    record { same_length = kept.same_length; zeroed = slots-optional d new valid kept.same_length (λ k below null. kept.cleared k (omega (arith, kept.same_length)) null) }
