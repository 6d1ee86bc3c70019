-- What is decoded is of its kind.
use Rattle.std.proofs.Common.{rules, tests, ◌≡◌, ◌∙◌, ℕ, zero, suc, ◌+◌, ◌*◌, ◌^◌, ◌<◌, ℤ, List, [], ◌∷◌, length, map, drop, get_or, Bool, true, false, Option, Some, None, nat_lt, nat_le, slice_get, unsigned_abs, FitsSigned, Fits, refl, sym, ap, subst, arith}
use Rattle.std.specs.Int.{Width, w8, w16, w32, w64, w128, cast_signed}
use Rattle.std.specs.List.{range_with_len, list_all, All, AllByRecursion}
use Rattle.std.specs.Option.{option_map, ForSome}
use Rattle.std.specs.Str.{is_utf8}
use Rattle.std.proofs.Math.Facts.{sfits_to_z, Fits-of_lt}
use Rattle.std.proofs.lemmas.List.{get_or-drop}
use Rattle.std.proofs.lemmas.List.Elements.{All-from_recursion}
use Rattle.std.proofs.lemmas.Str.{IsUtf8-from_is_utf8}
use Rattle.byteorder.specs.Endian.{little_number}
use Rattle.byteorder.specs.Numbers.{little_from-lt}
use Rattle.sub_types.specs.Value.{InKind}
use Rattle.sub_types.specs.Nullable.{bool_value, int_value, dec_value, bytes_value}
use Rattle.sub_types.specs.Optional.{optional}
use Rattle.sub_types.specs.declared.kind.Kind.{Kind}
use Rattle.sub_types.specs.declared.kind.Kind.TheVariants as kinds
use Rattle.sub_types.specs.declared.value.Value.{Value}
use Rattle.sub_types.specs.declared.value.Value.TheVariants as values
use Rattle.arrow_meta.specs.declared.field.Layout.{Layout}
use Rattle.arrow_meta.specs.declared.field.Layout.TheVariants.{Plain, Wide, Index}
use Rattle.arrow_meta.specs.Known.{IsLayout}
use Rattle.arrow_meta.specs.Natural.{natural}
use Rattle.sub_types.specs.OptionSteps.{◌>>=◌, when, all_of}
use Rattle.arrow_meta.specs.Values.{bits_in, unsigned_in, signed_in, ints_in, truths_in, has_digits, checked_decimals, decimals_in, binaries_in, is_text, texts_in, named_value, encoded_in, indices_in, values_in}
use Rattle.arrow_decode.specs.Dictionary.{AreTexts}
use Rattle.arrow_decode.proofs.ListLaws.{and_left, and_right}
use Rattle.arrow_decode.proofs.NumberLaws.{map-map}

-- the bytes are bytes
abbrev pub AreBytes : List ℕ → Type 0
AreBytes bytes = (i : ℕ) → get_or bytes i 0 < 256

-- numbers of as many bits as they have bytes
fits_all : (width : Width) (size : ℕ) (buffer : List ℕ) (start n : ℕ) → ((n : ℕ) → n < 256 ^ size → Fits width n) → AreBytes buffer
    → AllByRecursion (FitsSigned width) (map (λ i. cast_signed width (little_number size (drop (size * i) buffer))) (range_with_len start n))
fits_all width size buffer start zero same bytes = tt
fits_all width size buffer start (suc n) same bytes =
    let low = little_from-lt 0 size (drop (size * start) buffer) (λ k. let here = get_or-drop (size * start) buffer k 0 in let byte = bytes (size * start + k) in omega (arith, here, byte)) in
    (sfits_to_z (same (little_number size (drop (size * start) buffer)) low), fits_all width size buffer (start + 1) n same bytes)

-- valid values are of a kind where each value is
optional_in_kind : {A : Type 0} (kind : Kind) (value : Option A → Value) (P : A → Type 0) → ((x : A) → P x → InKind kind (value (Some x))) → InKind kind (value None)
    → (xs : List A) (valid : List Bool) → AllByRecursion P xs → AllByRecursion (InKind kind) (map value (optional xs valid))
optional_in_kind kind value P some none [] valid all = tt
optional_in_kind kind value P some none (x ∷ xs) [] all = tt
optional_in_kind kind value P some none (x ∷ xs) (true ∷ valid) all = (some x all.0, optional_in_kind kind value P some none xs valid all.1)
optional_in_kind kind value P some none (x ∷ xs) (false ∷ valid) all = (none, optional_in_kind kind value P some none xs valid all.1)

-- what is there
from_some : {A : Type 0} (P : A → Type 0) (x y : A) → Some x ≡ Some y → P x → P y
from_some P x y e p = let same : x ≡ y = cc in subst P same p

-- whole numbers
ints_in_kind : (kind : Kind) (width : Width) (size count : ℕ) (valid : List Bool) (buffer : List ℕ) (found : List Value)
    → ((n : ℤ) → FitsSigned width n → InKind kind (values.Int n)) → InKind kind values.Null → ((n : ℕ) → n < 256 ^ size → Fits width n) → AreBytes buffer
    → ints_in width size count valid buffer ≡ Some found → AllByRecursion (InKind kind) found
unfolding unsigned_in
ints_in_kind kind width size count valid buffer found some none same bytes is =
    let numbers = map (λ i. little_number size (drop (size * i) buffer)) (range_with_len 0 count) in
    let joined = map-map (cast_signed width) (λ i. little_number size (drop (size * i) buffer)) (range_with_len 0 count) in
    let P : List ℤ → Type 0 = λ xs. AllByRecursion (FitsSigned width) xs in
    let fits = subst P (sym joined) (fits_all width size buffer 0 count same bytes) in
    let all = optional_in_kind kind int_value (FitsSigned width) some none (map (cast_signed width) numbers) valid fits in
    elim (nat_le (size * count) (length buffer)) as (λ b. option_map (λ ns. map int_value (optional ns valid)) (option_map (map (cast_signed width)) (when b (Some numbers))) ≡ Some found → AllByRecursion (InKind kind) found) [
      | true ↦ λ e. from_some (AllByRecursion (InKind kind)) (map int_value (optional (map (cast_signed width) numbers) valid)) found e all
      | false ↦ λ e. absurd (cc)
    ] is

-- nothing is asked of truth values
all_units : (xs : List Bool) → AllByRecursion (λ (b : Bool). Unit {0}) xs
all_units [] = tt
all_units (x ∷ xs) = (tt, all_units xs)

-- truth values
truths_in_kind : (count : ℕ) (valid : List Bool) (buffer : List ℕ) (found : List Value) → truths_in count valid buffer ≡ Some found → AllByRecursion (InKind kinds.Bool) found
truths_in_kind count valid buffer found is =
    elim (bits_in count buffer) as (λ b. option_map (λ truths. map bool_value (optional truths valid)) b ≡ Some found → AllByRecursion (InKind kinds.Bool) found) [
      | Some truths ↦ λ e. from_some (AllByRecursion (InKind kinds.Bool)) (map bool_value (optional truths valid)) found e
          (optional_in_kind kinds.Bool bool_value (λ (b : Bool). Unit {0}) (λ b t. tt) tt truths valid (all_units truths))
      | None ↦ λ e. absurd (cc)
    ] is

-- fewer digits
few_digits : (n : ℤ) (precision : ℕ) → nat_lt (unsigned_abs n) (10 ^ precision) ≡ true → unsigned_abs n < 10 ^ precision
few_digits n precision h = search (rules, tests)

-- decimals
digits_in_kind : (precision scale : ℕ) (numbers : List (Option ℤ)) → list_all (has_digits precision) numbers ≡ true → AllByRecursion (InKind (kinds.Decimal precision scale)) (map dec_value numbers)
digits_in_kind precision scale [] all = tt
digits_in_kind precision scale (Some n ∷ numbers) all =
    let here : nat_lt (unsigned_abs n) (10 ^ precision) ≡ true = and_left (has_digits precision (Some n)) (list_all (has_digits precision) numbers) all in
    (few_digits n precision here, digits_in_kind precision scale numbers (and_right (has_digits precision (Some n)) (list_all (has_digits precision) numbers) all))
digits_in_kind precision scale (None ∷ numbers) all = (tt, digits_in_kind precision scale numbers all)

-- texts and binaries
binaries_in_kind : (found : List (Option (List ℕ))) → AllByRecursion (InKind kinds.Binary) (map bytes_value found)
binaries_in_kind [] = tt
binaries_in_kind (Some bytes ∷ found) = (tt, binaries_in_kind found)
binaries_in_kind (None ∷ found) = (tt, binaries_in_kind found)

texts_in_kind : (found : List (Option (List ℕ))) → list_all is_text found ≡ true → AllByRecursion (InKind kinds.Text) (map bytes_value found)
texts_in_kind [] all = tt
texts_in_kind (Some text ∷ found) all =
    (IsUtf8-from_is_utf8 text (and_left (is_utf8 text) (list_all is_text found) all), texts_in_kind found (and_right (is_utf8 text) (list_all is_text found) all))
texts_in_kind (None ∷ found) all = (tt, texts_in_kind found all)

-- what a step gives is so, if its value is so
pub when_true : {A : Type 0} (b : Bool) (x y : A) → when b (Some x) ≡ Some y → (b ≡ true) × (x ≡ y)
when_true true x y e = (refl, cc)
when_true false x y e = absurd (cc)

pub mapped : {A B : Type 0} (f : A → B) (o : Option A) (y : B) → option_map f o ≡ Some y → (x : A) × (o ≡ Some x) × (f x ≡ y)
mapped f (Some x) y e = (x, refl, cc)
mapped f None y e = absurd (cc)

pub bound : {A B : Type 0} (o : Option A) (f : A → Option B) (y : B) → (o >>= f) ≡ Some y → (x : A) × (o ≡ Some x) × (f x ≡ Some y)
bound (Some x) f y e = (x, refl, e)
bound None f y e = absurd (cc)

-- decoded texts are texts
pub texts_are_texts : (wide : Bool) (count : ℕ) (valid : List Bool) (offsets bytes : List ℕ) (found : List (Option (List ℕ))) → texts_in wide count valid offsets bytes ≡ Some found → AreTexts found
unfolding texts_in
texts_are_texts wide count valid offsets bytes found is =
    let step = bound (binaries_in wide count valid offsets bytes) (λ texts. when (list_all is_text texts) (Some texts)) found is in
    let good = when_true (list_all is_text step.0) step.0 found step.2 in
    let P : List (Option (List ℕ)) → Type 0 = λ texts. AreTexts texts in
    subst P good.1 good.0

-- a value of a dictionary of texts is one
text_at : (texts : List (Option (List ℕ))) (i : ℕ) (text : Option (List ℕ)) → AreTexts texts → slice_get texts i ≡ Some text → is_text text ≡ true
text_at [] i text all is = absurd (cc)
text_at (first ∷ texts) zero text all is = let same : first ≡ text = cc in ap is_text (sym same) ∙ and_left (is_text first) (list_all is_text texts) all
text_at (first ∷ texts) (suc i) text all is = text_at texts i text (and_right (is_text first) (list_all is_text texts) all) is

named_text : (dictionary : List (Option (List ℕ))) (index : Option ℤ) (text : Option (List ℕ)) → AreTexts dictionary → named_value dictionary index ≡ Some text → is_text text ≡ true
named_text dictionary None text all is = let same : None ≡ text = cc in ap is_text (sym same)
named_text dictionary (Some index) text all is =
    let step = bound (natural index) (slice_get dictionary) text is in text_at dictionary step.0 text all step.2

named_texts : (dictionary : List (Option (List ℕ))) (indices : List (Option ℤ)) (texts : List (Option (List ℕ))) → AreTexts dictionary → all_of (map (named_value dictionary) indices) ≡ Some texts → AreTexts texts
named_texts dictionary [] texts all is = let same : [] ≡ texts = cc in ap (list_all is_text) (sym same)
named_texts dictionary (index ∷ indices) texts all is =
    let first = bound (named_value dictionary index) (λ x. all_of (map (named_value dictionary) indices) >>= λ xs. Some (x ∷ xs)) texts is in
    let others = bound (all_of (map (named_value dictionary) indices)) (λ xs. Some (first.0 ∷ xs)) texts first.2 in
    let same : first.0 ∷ others.0 ≡ texts = let e = others.2 in cc in
    let here = named_text dictionary index first.0 all first.1 in
    let rest = named_texts dictionary indices others.0 all others.1 in
    ap (list_all is_text) (sym same) ∙ rw (here, rest) refl

pub encoded_are_texts : (size : ℕ) (signed : Bool) (count : ℕ) (valid : List Bool) (dictionary : List (Option (List ℕ))) (buffer : List ℕ) (texts : List (Option (List ℕ)))
    → AreTexts dictionary → encoded_in size signed count valid dictionary buffer ≡ Some texts → AreTexts texts
unfolding encoded_in
encoded_are_texts size signed count valid dictionary buffer texts all is =
    let step = bound (indices_in size signed count buffer) (λ indices. all_of (map (named_value dictionary) (optional indices valid))) texts is in
    named_texts dictionary (optional step.0 valid) texts all step.2

-- the values of a column are of its kind
in_kind : (kind : Kind) (layout : Layout) (dictionary : Option (List (Option (List ℕ)))) (count : ℕ) (valid : List Bool) (first : List ℕ) (others : List (List ℕ)) (found : List Value)
    → ForSome dictionary AreTexts → AreBytes first → IsLayout kind layout → values_in kind layout dictionary count valid (first ∷ others) ≡ Some found → AllByRecursion (InKind kind) found
unfolding decimals_in
in_kind kinds.Text (Index id size signed wide) dictionary count valid first [] found texts bytes layout_is is =
    let step = bound dictionary (λ ts. option_map (map bytes_value) (encoded_in size signed count valid ts first)) found is in
    let read = mapped (map bytes_value) (encoded_in size signed count valid step.0 first) found step.2 in
    let P : List Value → Type 0 = λ xs. AllByRecursion (InKind kinds.Text) xs in
    subst P read.2 (texts_in_kind read.0 (encoded_are_texts size signed count valid step.0 first read.0 (texts step.0 step.1) read.1))
in_kind kinds.Text Plain dictionary count valid offsets (all ∷ []) found texts bytes layout_is is =
    let read = mapped (map bytes_value) (texts_in false count valid offsets all) found is in
    let P : List Value → Type 0 = λ xs. AllByRecursion (InKind kinds.Text) xs in
    subst P read.2 (texts_in_kind read.0 (texts_are_texts false count valid offsets all read.0 read.1))
in_kind kinds.Text Wide dictionary count valid offsets (all ∷ []) found texts bytes layout_is is =
    let read = mapped (map bytes_value) (texts_in true count valid offsets all) found is in
    let P : List Value → Type 0 = λ xs. AllByRecursion (InKind kinds.Text) xs in
    subst P read.2 (texts_in_kind read.0 (texts_are_texts true count valid offsets all read.0 read.1))
in_kind kinds.Binary Plain dictionary count valid offsets (all ∷ []) found texts bytes layout_is is =
    let read = mapped (map bytes_value) (binaries_in false count valid offsets all) found is in
    let P : List Value → Type 0 = λ xs. AllByRecursion (InKind kinds.Binary) xs in
    subst P read.2 (binaries_in_kind read.0)
in_kind kinds.Binary Wide dictionary count valid offsets (all ∷ []) found texts bytes layout_is is =
    let read = mapped (map bytes_value) (binaries_in true count valid offsets all) found is in
    let P : List Value → Type 0 = λ xs. AllByRecursion (InKind kinds.Binary) xs in
    subst P read.2 (binaries_in_kind read.0)
in_kind kinds.Bool Plain dictionary count valid first [] found texts bytes layout_is is = truths_in_kind count valid first found is
in_kind kinds.I8 Plain dictionary count valid first [] found texts bytes layout_is is = ints_in_kind kinds.I8 w8 1 count valid first found (λ n h. h) tt (λ n h. Fits-of_lt h) bytes is
in_kind kinds.I16 Plain dictionary count valid first [] found texts bytes layout_is is = ints_in_kind kinds.I16 w16 2 count valid first found (λ n h. h) tt (λ n h. Fits-of_lt h) bytes is
in_kind kinds.I32 Plain dictionary count valid first [] found texts bytes layout_is is = ints_in_kind kinds.I32 w32 4 count valid first found (λ n h. h) tt (λ n h. Fits-of_lt h) bytes is
in_kind kinds.I64 Plain dictionary count valid first [] found texts bytes layout_is is = ints_in_kind kinds.I64 w64 8 count valid first found (λ n h. h) tt (λ n h. Fits-of_lt h) bytes is
in_kind kinds.Date Plain dictionary count valid first [] found texts bytes layout_is is = ints_in_kind kinds.Date w32 4 count valid first found (λ n h. h) tt (λ n h. Fits-of_lt h) bytes is
in_kind kinds.Timestamp Plain dictionary count valid first [] found texts bytes layout_is is = ints_in_kind kinds.Timestamp w64 8 count valid first found (λ n h. h) tt (λ n h. Fits-of_lt h) bytes is
in_kind (kinds.Decimal precision scale) Plain dictionary count valid first [] found texts bytes layout_is is =
    let read = bound (signed_in w128 16 count first) (λ numbers. checked_decimals precision (optional numbers valid)) found is in
    let good = when_true (list_all (has_digits precision) (optional read.0 valid)) (map dec_value (optional read.0 valid)) found read.2 in
    let P : List Value → Type 0 = λ xs. AllByRecursion (InKind (kinds.Decimal precision scale)) xs in
    subst P good.1 (digits_in_kind precision scale (optional read.0 valid) good.0)
in_kind kind layout dictionary count valid first others found texts bytes layout_is is = absurd (first_of (cc, search rules))

pub values_in_kind : (kind : Kind) (layout : Layout) (dictionary : Option (List (Option (List ℕ)))) (count : ℕ) (valid : List Bool) (first : List ℕ) (others : List (List ℕ)) (found : List Value)
    → ForSome dictionary AreTexts → AreBytes first → IsLayout kind layout → values_in kind layout dictionary count valid (first ∷ others) ≡ Some found → All (InKind kind) found
values_in_kind kind layout dictionary count valid first others found texts bytes layout_is is =
    All-from_recursion (InKind kind) found (in_kind kind layout dictionary count valid first others found texts bytes layout_is is)
