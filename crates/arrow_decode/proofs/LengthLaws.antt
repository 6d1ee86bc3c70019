-- As many values are decoded as there are rows.
use Rattle.std.proofs.Common.{◌≡◌, ◌∙◌, ℕ, ◌*◌, ℤ, List, [], ◌∷◌, length, map, drop, Bool, true, false, Option, Some, nat_le, ◌==◌, if◌then◌else◌, pos, sym, ap, arith, rules}
use Rattle.std.specs.Int.{Width, w8, w16, w32, w64, w128, cast_signed}
use Rattle.std.specs.List.{range_with_len, list_all}
use Rattle.std.specs.Option.{option_map}
use Rattle.std.proofs.lemmas.List.{length-map}
use Rattle.std.proofs.lemmas.List.FromFn.{length-map-range_with_len}
use Rattle.byteorder.specs.Endian.{little_number}
use Rattle.sub_types.specs.Bits.{bit_of, bits_of}
use Rattle.sub_types.specs.Nullable.{bool_value, int_value, dec_value, bytes_value}
use Rattle.sub_types.specs.Optional.{optional}
use Rattle.sub_types.specs.OptionalLaws.{length-optional}
use Rattle.sub_types.specs.declared.kind.Kind.{Kind}
use Rattle.sub_types.specs.declared.kind.Kind.TheVariants as kinds
use Rattle.sub_types.specs.declared.value.Value.{Value}
use Rattle.arrow_meta.specs.declared.field.Layout.{Layout}
use Rattle.arrow_meta.specs.declared.field.Layout.TheVariants.{Plain, Wide, Index}
use Rattle.arrow_meta.specs.Known.{IsLayout}
use Rattle.sub_types.specs.OptionSteps.{◌>>=◌, when, all_of}
use Rattle.arrow_meta.specs.Values.{bits_in, unsigned_in, signed_in, ints_in, truths_in, has_digits, checked_decimals, decimals_in, are_offsets, pieces_of, binaries_in, is_text, texts_in, named_value, encoded_in, indices_in, values_in}
use Rattle.arrow_decode.specs.Offsets.{offsets_of}
use Rattle.arrow_decode.proofs.TextLaws.{binaries_in-offsets, length-pieces}
use Rattle.arrow_decode.proofs.InKindLaws.{when_true, mapped, bound}

-- so many numbers
length-unsigned_in : (size count : ℕ) (buffer : List ℕ) (numbers : List ℕ) → unsigned_in size count buffer ≡ Some numbers → length numbers ≡ count
unfolding unsigned_in
length-unsigned_in size count buffer numbers is =
    let good = when_true (nat_le (size * count) (length buffer)) (map (λ i. little_number size (drop (size * i) buffer)) (range_with_len 0 count)) numbers is in
    ap length (sym good.1) ∙ length-map-range_with_len (λ i. little_number size (drop (size * i) buffer)) 0 count

length-signed_in : (width : Width) (size count : ℕ) (buffer : List ℕ) (numbers : List ℤ) → signed_in width size count buffer ≡ Some numbers → length numbers ≡ count
length-signed_in width size count buffer numbers is =
    let read = mapped (map (cast_signed width)) (unsigned_in size count buffer) numbers is in
    ap length (sym read.2) ∙ length-map read.0 (cast_signed width) ∙ length-unsigned_in size count buffer read.0 read.1

-- so many values
length-values : {A : Type 0} (value : Option A → Value) (xs : List A) (valid : List Bool) (count : ℕ) → length xs ≡ count → length valid ≡ count → length (map value (optional xs valid)) ≡ count
length-values value xs valid count xs_long valid_long = length-map (optional xs valid) value ∙ length-optional xs valid (xs_long ∙ sym valid_long) ∙ xs_long

length-ints_in : (width : Width) (size count : ℕ) (valid : List Bool) (buffer : List ℕ) (found : List Value) → length valid ≡ count → ints_in width size count valid buffer ≡ Some found → length found ≡ count
length-ints_in width size count valid buffer found long is =
    let read = mapped (λ numbers. map int_value (optional numbers valid)) (signed_in width size count buffer) found is in
    ap length (sym read.2) ∙ length-values int_value read.0 valid count (length-signed_in width size count buffer read.0 read.1) long

length-truths_in : (count : ℕ) (valid : List Bool) (buffer : List ℕ) (found : List Value) → length valid ≡ count → truths_in count valid buffer ≡ Some found → length found ≡ count
unfolding bits_in
length-truths_in count valid buffer found long is =
    let read = mapped (λ truths. map bool_value (optional truths valid)) (bits_in count buffer) found is in
    let good = when_true (nat_le count (8 * length buffer)) (bits_of count buffer) read.0 read.1 in
    ap length (sym read.2) ∙ length-values bool_value read.0 valid count (ap length (sym good.1) ∙ length-map-range_with_len (bit_of buffer) 0 count) long

length-decimals_in : (precision count : ℕ) (valid : List Bool) (buffer : List ℕ) (found : List Value) → length valid ≡ count → decimals_in precision count valid buffer ≡ Some found → length found ≡ count
unfolding decimals_in
length-decimals_in precision count valid buffer found long is =
    let read = bound (signed_in w128 16 count buffer) (λ numbers. checked_decimals precision (optional numbers valid)) found is in
    let good = when_true (list_all (has_digits precision) (optional read.0 valid)) (map dec_value (optional read.0 valid)) found read.2 in
    ap length (sym good.1) ∙ length-values dec_value read.0 valid count (length-signed_in w128 16 count buffer read.0 read.1) long

-- so many texts
length-binaries_in : (wide : Bool) (count : ℕ) (valid : List Bool) (offsets bytes : List ℕ) (found : List (Option (List ℕ))) → length valid ≡ count → binaries_in wide count valid offsets bytes ≡ Some found → length found ≡ count
length-binaries_in wide count valid offsets bytes found long is =
    let read = bound (offsets_of wide count offsets) (λ places. when (are_offsets count places bytes) (Some (optional (pieces_of count places bytes) valid))) found (sym (binaries_in-offsets wide count valid offsets bytes) ∙ is) in
    let good = when_true (are_offsets count read.0 bytes) (optional (pieces_of count read.0 bytes) valid) found read.2 in
    ap length (sym good.1) ∙ length-pieces count read.0 bytes valid long

length-texts_in : (wide : Bool) (count : ℕ) (valid : List Bool) (offsets bytes : List ℕ) (found : List (Option (List ℕ))) → length valid ≡ count → texts_in wide count valid offsets bytes ≡ Some found → length found ≡ count
unfolding texts_in
length-texts_in wide count valid offsets bytes found long is =
    let read = bound (binaries_in wide count valid offsets bytes) (λ texts. when (list_all is_text texts) (Some texts)) found is in
    let good = when_true (list_all is_text read.0) read.0 found read.2 in
    ap length (sym good.1) ∙ length-binaries_in wide count valid offsets bytes read.0 long read.1

length-all_of : {A : Type 0} (found : List (Option A)) (xs : List A) → all_of found ≡ Some xs → length xs ≡ length found
length-all_of [] xs is = let same : [] ≡ xs = cc in ap length (sym same)
length-all_of (one ∷ found) xs is =
    let first = bound one (λ x. all_of found >>= λ ys. Some (x ∷ ys)) xs is in
    let others = bound (all_of found) (λ ys. Some (first.0 ∷ ys)) xs first.2 in
    let same : first.0 ∷ others.0 ≡ xs = let e = others.2 in cc in
    let rest = length-all_of found others.0 others.1 in
    omega (arith, ap length same, rest)

length-indices_in : (size : ℕ) (signed : Bool) (count : ℕ) (buffer : List ℕ) (found : List ℤ) → indices_in size signed count buffer ≡ Some found → length found ≡ count
length-indices_in size false count buffer found is =
    let read = mapped (map pos) (unsigned_in size count buffer) found is in ap length (sym read.2) ∙ length-map read.0 pos ∙ length-unsigned_in size count buffer read.0 read.1
length-indices_in size true count buffer found is =
    elim (size == 1) as (λ a. (if a then signed_in w8 1 count buffer else if size == 2 then signed_in w16 2 count buffer else if size == 4 then signed_in w32 4 count buffer else signed_in w64 8 count buffer) ≡ Some found → length found ≡ count) [
      | true ↦ length-signed_in w8 1 count buffer found
      | false ↦ elim (size == 2) as (λ b. (if b then signed_in w16 2 count buffer else if size == 4 then signed_in w32 4 count buffer else signed_in w64 8 count buffer) ≡ Some found → length found ≡ count) [
        | true ↦ length-signed_in w16 2 count buffer found
        | false ↦ elim (size == 4) as (λ d. (if d then signed_in w32 4 count buffer else signed_in w64 8 count buffer) ≡ Some found → length found ≡ count) [
          | true ↦ length-signed_in w32 4 count buffer found
          | false ↦ length-signed_in w64 8 count buffer found
        ]
      ]
    ] is

length-encoded_in : (size : ℕ) (signed : Bool) (count : ℕ) (valid : List Bool) (dictionary : List (Option (List ℕ))) (buffer : List ℕ) (found : List (Option (List ℕ))) → length valid ≡ count
    → encoded_in size signed count valid dictionary buffer ≡ Some found → length found ≡ count
unfolding encoded_in
length-encoded_in size signed count valid dictionary buffer found long is =
    let read = bound (indices_in size signed count buffer) (λ indices. all_of (map (named_value dictionary) (optional indices valid))) found is in
    let numbers = length-indices_in size signed count buffer read.0 read.1 in
    length-all_of (map (named_value dictionary) (optional read.0 valid)) found read.2 ∙ length-map (optional read.0 valid) (named_value dictionary) ∙ length-optional read.0 valid (numbers ∙ sym long) ∙ numbers

pub length-values_in : (kind : Kind) (layout : Layout) (dictionary : Option (List (Option (List ℕ)))) (count : ℕ) (valid : List Bool) (first : List ℕ) (others : List (List ℕ)) (found : List Value)
    → length valid ≡ count → IsLayout kind layout → values_in kind layout dictionary count valid (first ∷ others) ≡ Some found → length found ≡ count
length-values_in kinds.Text (Index id size signed wide) dictionary count valid first [] found long layout_is is =
    let step = bound dictionary (λ ts. option_map (map bytes_value) (encoded_in size signed count valid ts first)) found is in
    let read = mapped (map bytes_value) (encoded_in size signed count valid step.0 first) found step.2 in
    ap length (sym read.2) ∙ length-map read.0 bytes_value ∙ length-encoded_in size signed count valid step.0 first read.0 long read.1
length-values_in kinds.Text Plain dictionary count valid offsets (all ∷ []) found long layout_is is =
    let read = mapped (map bytes_value) (texts_in false count valid offsets all) found is in
    ap length (sym read.2) ∙ length-map read.0 bytes_value ∙ length-texts_in false count valid offsets all read.0 long read.1
length-values_in kinds.Text Wide dictionary count valid offsets (all ∷ []) found long layout_is is =
    let read = mapped (map bytes_value) (texts_in true count valid offsets all) found is in
    ap length (sym read.2) ∙ length-map read.0 bytes_value ∙ length-texts_in true count valid offsets all read.0 long read.1
length-values_in kinds.Binary Plain dictionary count valid offsets (all ∷ []) found long layout_is is =
    let read = mapped (map bytes_value) (binaries_in false count valid offsets all) found is in
    ap length (sym read.2) ∙ length-map read.0 bytes_value ∙ length-binaries_in false count valid offsets all read.0 long read.1
length-values_in kinds.Binary Wide dictionary count valid offsets (all ∷ []) found long layout_is is =
    let read = mapped (map bytes_value) (binaries_in true count valid offsets all) found is in
    ap length (sym read.2) ∙ length-map read.0 bytes_value ∙ length-binaries_in true count valid offsets all read.0 long read.1
length-values_in kinds.Bool Plain dictionary count valid first [] found long layout_is is = length-truths_in count valid first found long is
length-values_in kinds.I8 Plain dictionary count valid first [] found long layout_is is = length-ints_in w8 1 count valid first found long is
length-values_in kinds.I16 Plain dictionary count valid first [] found long layout_is is = length-ints_in w16 2 count valid first found long is
length-values_in kinds.I32 Plain dictionary count valid first [] found long layout_is is = length-ints_in w32 4 count valid first found long is
length-values_in kinds.I64 Plain dictionary count valid first [] found long layout_is is = length-ints_in w64 8 count valid first found long is
length-values_in kinds.Date Plain dictionary count valid first [] found long layout_is is = length-ints_in w32 4 count valid first found long is
length-values_in kinds.Timestamp Plain dictionary count valid first [] found long layout_is is = length-ints_in w64 8 count valid first found long is
length-values_in (kinds.Decimal precision scale) Plain dictionary count valid first [] found long layout_is is = length-decimals_in precision count valid first found long is
length-values_in kind layout dictionary count valid first others found long layout_is is = absurd (first_of (cc, search rules))
