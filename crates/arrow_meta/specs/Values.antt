-- The values that the buffers of a column hold (Arrow columnar format, "Physical Memory Layout").
use Rattle.std.specs.Prelude.{ℕ, ◌+◌, ◌*◌, ◌^◌, ℤ, pos, List, [], ◌∷◌, length, map, drop, replicate, Bool, true, false, Option, Some, None, ◌&&◌, nat_le, nat_lt, unsigned_abs, slice_get, slice_index, if◌then◌else◌, ◌==◌}
use Rattle.std.specs.List.{range_with_len, slice_range, list_all}
use Rattle.std.specs.Option.{option_map, option_map_or}
use Rattle.std.specs.Int.{Width, w8, w16, w32, w64, w128, cast_signed}
use Rattle.std.specs.Str.{is_utf8}
use Rattle.byteorder.specs.Endian.{little_number}
use Rattle.sub_types.specs.Bits.{bits_of}
use Rattle.sub_types.specs.Nullable.{bool_value, int_value, dec_value, bytes_value}
use Rattle.sub_types.specs.Optional.{optional}
use Rattle.sub_types.specs.declared.kind.Kind.{Kind}
use Rattle.sub_types.specs.declared.kind.Kind.TheVariants as kinds
use Rattle.sub_types.specs.declared.value.Value.{Value}
use Rattle.arrow_meta.specs.declared.field.Layout.{Layout}
use Rattle.arrow_meta.specs.declared.field.Layout.TheVariants.{Plain, Wide, Index}
use Rattle.arrow_meta.specs.Natural.{natural}
use Rattle.sub_types.specs.OptionSteps.{◌>>=◌, when, all_of}

-- the first so many bits
unfoldable pub bits_in : ℕ → List ℕ → Option (List Bool)
bits_in count buffer = when (nat_le count (8 * length buffer)) (Some (bits_of count buffer))

-- which of so many values are valid: all where the buffer is empty
unfoldable pub validity_in : ℕ → List ℕ → Option (List Bool)
validity_in count buffer = if length buffer == 0 then Some (replicate count true) else bits_in count buffer

-- so many numbers of some bytes each
unfoldable pub unsigned_in : ℕ → ℕ → List ℕ → Option (List ℕ)
unsigned_in size count buffer =
    when (nat_le (size * count) (length buffer)) (Some (map (λ i. little_number size (drop (size * i) buffer)) (range_with_len 0 count)))

-- so many signed numbers of a width
abbrev pub signed_in : Width → ℕ → ℕ → List ℕ → Option (List ℤ)
signed_in width size count buffer = option_map (map (cast_signed width)) (unsigned_in size count buffer)

-- whole numbers, null where they aren't valid
abbrev pub ints_in : Width → ℕ → ℕ → List Bool → List ℕ → Option (List Value)
ints_in width size count valid buffer = option_map (λ numbers. map int_value (optional numbers valid)) (signed_in width size count buffer)

-- truth values
abbrev pub truths_in : ℕ → List Bool → List ℕ → Option (List Value)
truths_in count valid buffer = option_map (λ truths. map bool_value (optional truths valid)) (bits_in count buffer)

-- a valid decimal has no more digits than its precision
abbrev pub has_digits : ℕ → Option ℤ → Bool
has_digits precision number = option_map_or (λ n. nat_lt (unsigned_abs n) (10 ^ precision)) number true

abbrev pub checked_decimals : ℕ → List (Option ℤ) → Option (List Value)
checked_decimals precision numbers = when (list_all (has_digits precision) numbers) (Some (map dec_value numbers))

unfoldable pub decimals_in : ℕ → ℕ → List Bool → List ℕ → Option (List Value)
decimals_in precision count valid buffer = signed_in w128 16 count buffer >>= λ numbers. checked_decimals precision (optional numbers valid)

-- where so many texts begin and end, in offsets of some bytes each; no offsets are needed for none
unfoldable pub offsets_in : Width → ℕ → ℕ → List ℕ → Option (List ℕ)
offsets_in width size count buffer =
    if count == 0 then Some (0 ∷ []) else signed_in width size (count + 1) buffer >>= λ offsets. all_of (map natural offsets)

-- the offsets never fall, and the last is within the bytes
abbrev pub are_offsets : ℕ → List ℕ → List ℕ → Bool
are_offsets count offsets bytes =
    list_all (λ i. nat_le (slice_index offsets i) (slice_index offsets (i + 1))) (range_with_len 0 count) && nat_le (slice_index offsets count) (length bytes)

-- the bytes between each two offsets
abbrev pub pieces_of : ℕ → List ℕ → List ℕ → List (List ℕ)
pieces_of count offsets bytes = map (λ i. slice_range bytes (slice_index offsets i) (slice_index offsets (i + 1))) (range_with_len 0 count)

-- texts or binaries, null where they aren't valid
unfoldable pub pieces_in : Width → ℕ → ℕ → List Bool → List ℕ → List ℕ → Option (List (Option (List ℕ)))
pieces_in width size count valid buffer bytes = do
  offsets ← offsets_in width size count buffer
  when (are_offsets count offsets bytes) (Some (optional (pieces_of count offsets bytes) valid))

-- a valid text is UTF-8
abbrev pub is_text : Option (List ℕ) → Bool
is_text text = option_map_or is_utf8 text true

-- texts or binaries with offsets of 8 bytes where they are wide, and else of 4
abbrev pub binaries_in : Bool → ℕ → List Bool → List ℕ → List ℕ → Option (List (Option (List ℕ)))
binaries_in true count valid offsets bytes = pieces_in w64 8 count valid offsets bytes
binaries_in false count valid offsets bytes = pieces_in w32 4 count valid offsets bytes

unfoldable pub texts_in : Bool → ℕ → List Bool → List ℕ → List ℕ → Option (List (Option (List ℕ)))
texts_in wide count valid offsets bytes = do
  texts ← binaries_in wide count valid offsets bytes
  when (list_all is_text texts) (Some texts)

-- indices of some bytes, with or without a sign
abbrev pub indices_in : ℕ → Bool → ℕ → List ℕ → Option (List ℤ)
indices_in size false count buffer = option_map (map pos) (unsigned_in size count buffer)
indices_in size true count buffer =
    if size == 1 then signed_in w8 1 count buffer
    else if size == 2 then signed_in w16 2 count buffer
    else if size == 4 then signed_in w32 4 count buffer
    else signed_in w64 8 count buffer

-- the value that a valid index names, which must be one of the dictionary's
abbrev pub named_value : List (Option (List ℕ)) → Option ℤ → Option (Option (List ℕ))
named_value dictionary None = Some None
named_value dictionary (Some index) = natural index >>= slice_get dictionary

-- the values that indices name
unfoldable pub encoded_in : ℕ → Bool → ℕ → List Bool → List (Option (List ℕ)) → List ℕ → Option (List (Option (List ℕ)))
encoded_in size signed count valid dictionary buffer = do
  indices ← indices_in size signed count buffer
  all_of (map (named_value dictionary) (optional indices valid))

-- The values of a column from the buffers behind its validity. A column of indices takes its values from its dictionary, which
-- may be bad.
abbrev pub values_in : Kind → Layout → Option (List (Option (List ℕ))) → ℕ → List Bool → List (List ℕ) → Option (List Value)
values_in kind (Index id size signed wide) dictionary count valid (indices ∷ []) =
    dictionary >>= λ texts. option_map (map bytes_value) (encoded_in size signed count valid texts indices)
values_in kinds.Text Plain dictionary count valid (offsets ∷ bytes ∷ []) = option_map (map bytes_value) (texts_in false count valid offsets bytes)
values_in kinds.Text Wide dictionary count valid (offsets ∷ bytes ∷ []) = option_map (map bytes_value) (texts_in true count valid offsets bytes)
values_in kinds.Binary Plain dictionary count valid (offsets ∷ bytes ∷ []) = option_map (map bytes_value) (binaries_in false count valid offsets bytes)
values_in kinds.Binary Wide dictionary count valid (offsets ∷ bytes ∷ []) = option_map (map bytes_value) (binaries_in true count valid offsets bytes)
values_in kinds.Bool layout dictionary count valid (values ∷ []) = truths_in count valid values
values_in kinds.I8 layout dictionary count valid (values ∷ []) = ints_in w8 1 count valid values
values_in kinds.I16 layout dictionary count valid (values ∷ []) = ints_in w16 2 count valid values
values_in kinds.I32 layout dictionary count valid (values ∷ []) = ints_in w32 4 count valid values
values_in kinds.I64 layout dictionary count valid (values ∷ []) = ints_in w64 8 count valid values
values_in kinds.Date layout dictionary count valid (values ∷ []) = ints_in w32 4 count valid values
values_in kinds.Timestamp layout dictionary count valid (values ∷ []) = ints_in w64 8 count valid values
values_in (kinds.Decimal precision scale) layout dictionary count valid (values ∷ []) = decimals_in precision count valid values
values_in kind layout dictionary count valid buffers = None
