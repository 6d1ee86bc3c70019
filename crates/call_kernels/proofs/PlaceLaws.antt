-- Numbers, texts and truth values as values at places.
use Rattle.std.proofs.Common.{◌++◌, take, option_copied, ◌≡◌, ◌∙◌, ℕ, zero, suc, ◌+◌, ◌<◌, ◌≤◌, ℤ, pos, negsuc, List, [], ◌∷◌, length, map, get_or, replicate, Bool, Option, Some, None, Result, Ok, Err, IfOk, IfSome, refl, sym, ap, ap₂, subst, arith}
use Rattle.std.specs.Int.{w8, w16, w32, w64}
use Rattle.std.specs.Str.{IsUtf8}
use Rattle.std.proofs.lemmas.Str.{is_utf8-from_IsUtf8}
use Rattle.std.specs.List.{All, range_with_len}
use Rattle.std.specs.Simd.Lanes.{zip2}
use Rattle.std.proofs.lemmas.List.{get_or-replicate, length-map, map-append, take_more, take_all}
use Rattle.std.proofs.lemmas.Simd.{zip2_splat, zip2_splat_left, get_or-zip2, length-zip2}
use Rattle.std.proofs.lemmas.List.Elements.{All-cons, All-nil, All-head, All-tail}
use Rattle.std.proofs.Math.ListN.{get_or-map as get_or-mapped}
use Rattle.sub_types.specs.Value.{InKind}
use Rattle.sub_types.specs.declared.kind.Ty.{Ty}
use Rattle.plan_typed.specs.declared.expr.Overflow.{Overflow}
use Rattle.plan_denote.specs.Calls.{binary}
use Rattle.plan_denote.specs.Texts as texts
use Rattle.batch.specs.ColumnValues.{values_of}
use Rattle.batch.specs.declared.column.Column as batch_column
use Rattle.kernels.specs.declared.op.ArithOp.{ArithOp}
use Rattle.kernels.specs.declared.selection.Stop.{Stop}
use Rattle.sub_types.specs.Nullable.{int_value, dec_value, bytes_value}
use Rattle.sub_types.specs.declared.kind.Kind.{Kind}
use Rattle.sub_types.specs.declared.kind.Kind.TheVariants as kinds
use Rattle.sub_types.specs.declared.value.Value.{Value}
use Rattle.sub_types.specs.declared.value.Value.TheVariants as values
use Rattle.plan_denote.specs.Computed.{Computed}
use Rattle.kernels.specs.Arith.{IsWholeKind, func_of}
use Rattle.kernels.specs.Numbers.{int_of, dec_of, ints, decs}
use Rattle.kernels.specs.Until.{Until, step, until}
use Rattle.kernels.proofs.ConstantLaws.{until-below, map-replicated}
use Rattle.kernels.proofs.UntilLaws.{until-same}
use Rattle.call_kernels.specs.Made.{IsMade, at_places}
use Rattle.call_kernels.specs.Texts.{listed, text_of}
use Rattle.call_kernels.specs.declared.texts.Texts.{Texts}
use Rattle.call_kernels.specs.declared.texts.Texts.TheVariants.{Column, Constant}

-- numbers that stand for themselves
pub ints_as : (numbers : List (Option ℤ)) → ints (λ x. x) numbers ≡ map int_value numbers
ints_as [] = refl
ints_as (Some x ∷ numbers) = ap (λ rest. values.Int x ∷ rest) (ints_as numbers)
ints_as (None ∷ numbers) = ap (λ rest. values.Null ∷ rest) (ints_as numbers)

pub decs_as : (numbers : List (Option ℤ)) → decs (λ x. x) numbers ≡ map dec_value numbers
decs_as [] = refl
decs_as (Some x ∷ numbers) = ap (λ rest. values.Dec x ∷ rest) (decs_as numbers)
decs_as (None ∷ numbers) = ap (λ rest. values.Null ∷ rest) (decs_as numbers)

-- the same number so many times
pub ints_constant : (number : Option ℤ) (value : Value) (n : ℕ) → int_value number ≡ value → ints (λ x. x) (replicate n number) ≡ replicate n value
ints_constant number value n is = ints_as (replicate n number) ∙ map-replicated int_value n number ∙ ap (replicate n) is

pub decs_constant : (number : Option ℤ) (value : Value) (n : ℕ) → dec_value number ≡ value → decs (λ x. x) (replicate n number) ≡ replicate n value
decs_constant number value n is = decs_as (replicate n number) ∙ map-replicated dec_value n number ∙ ap (replicate n) is

-- as many numbers as values
pub long_ints : {T : Type 0} (number : T → ℤ) (numbers : List (Option T)) (all : List Value) (n : ℕ) → ints number numbers ≡ all → length all ≡ n → length numbers ≡ n
long_ints number numbers all n is long = sym (length-map numbers (int_of number)) ∙ ap length is ∙ long

pub long_decs : {T : Type 0} (number : T → ℤ) (numbers : List (Option T)) (all : List Value) (n : ℕ) → decs number numbers ≡ all → length all ≡ n → length numbers ≡ n
long_decs number numbers all n is long = sym (length-map numbers (dec_of number)) ∙ ap length is ∙ long

-- what is said of two lists' values, said of others that are the same
pub zipped_as : {C E : Type 0} (r : Result (Option C) E) (see : C → List Computed) (f : Value → Value → Computed) (x y u v : List Value) → x ≡ u → y ≡ v
    → IfOk r (λ found. IfSome found (λ column. see column ≡ zip2 f x y)) → IfOk r (λ found. IfSome found (λ column. see column ≡ zip2 f u v))
zipped_as r see f x y u v x_is y_is all =
    subst (λ (u : List Value). IfOk r (λ found. IfSome found (λ column. see column ≡ zip2 f u v))) x_is
    (subst (λ (v : List Value). IfOk r (λ found. IfSome found (λ column. see column ≡ zip2 f x v))) y_is all)

-- ---- numbers at places, as values

module _ {T : Type 0} (of : Option T → Value) (none_is : of None ≡ values.Null) (f : Value → Value → Computed) where
  at_number : (numbers : List (Option T)) (i : ℕ) → get_or (map of numbers) i values.Null ≡ of (get_or numbers i None)
  at_number numbers i = ap (get_or (map of numbers) i) (sym none_is) ∙ get_or-mapped of numbers i None

  at_constant : (k : Option T) (n i : ℕ) → i < n → get_or (map of (replicate n k)) i values.Null ≡ of k
  at_constant k n i below = at_number (replicate n k) i ∙ ap of (get_or-replicate n i k None below)

  pub until-columns : (a b : List (Option T)) (n : ℕ) (out : Until Value) → length a ≡ n
      → until (λ i. f (of (get_or a i None)) (of (get_or b i None))) (range_with_len 0 (length a)) ≡ out
      → until (at_places f (map of a) (map of b)) (range_with_len 0 n) ≡ out
  until-columns a b n out long is =
      until-same (at_places f (map of a) (map of b)) (λ i. f (of (get_or a i None)) (of (get_or b i None))) (λ i. ap₂ f (at_number a i) (at_number b i)) (range_with_len 0 n)
      ∙ ap (λ m. until (λ i. f (of (get_or a i None)) (of (get_or b i None))) (range_with_len 0 m)) (sym long)
      ∙ is

  pub until-right : (a : List (Option T)) (k : Option T) (n : ℕ) (out : Until Value) → length a ≡ n
      → until (λ i. f (of (get_or a i None)) (of k)) (range_with_len 0 (length a)) ≡ out
      → until (at_places f (map of a) (map of (replicate n k))) (range_with_len 0 n) ≡ out
  until-right a k n out long is =
      until-below (at_places f (map of a) (map of (replicate n k))) (λ i. f (of (get_or a i None)) (of k)) n (λ i below. ap₂ f (at_number a i) (at_constant k n i below))
      ∙ ap (λ m. until (λ i. f (of (get_or a i None)) (of k)) (range_with_len 0 m)) (sym long)
      ∙ is

  pub until-left : (k : Option T) (b : List (Option T)) (n : ℕ) (out : Until Value) → length b ≡ n
      → until (λ i. f (of k) (of (get_or b i None))) (range_with_len 0 (length b)) ≡ out
      → until (at_places f (map of (replicate n k)) (map of b)) (range_with_len 0 n) ≡ out
  until-left k b n out long is =
      until-below (at_places f (map of (replicate n k)) (map of b)) (λ i. f (of k) (of (get_or b i None))) n (λ i below. ap₂ f (at_constant k n i below) (at_number b i))
      ∙ ap (λ m. until (λ i. f (of k) (of (get_or b i None))) (range_with_len 0 m)) (sym long)
      ∙ is

  -- the same of columns as they are seen
  pub columns_seen : (a b u v : List (Option T)) (n : ℕ) (out : Until Value) → u ≡ a → v ≡ b → length a ≡ n
      → until (λ i. f (of (get_or u i None)) (of (get_or v i None))) (range_with_len 0 (length u)) ≡ out
      → until (at_places f (map of a) (map of b)) (range_with_len 0 n) ≡ out
  columns_seen a b u v n out u_is v_is long is =
      ap₂ (λ (a b : List (Option T)). until (at_places f (map of a) (map of b)) (range_with_len 0 n)) (sym u_is) (sym v_is) ∙ until-columns u v n out (ap length u_is ∙ long) is

  pub right_seen : (a u : List (Option T)) (k : Option T) (n : ℕ) (out : Until Value) → u ≡ a → length a ≡ n
      → until (λ i. f (of (get_or u i None)) (of k)) (range_with_len 0 (length u)) ≡ out
      → until (at_places f (map of a) (map of (replicate n k))) (range_with_len 0 n) ≡ out
  right_seen a u k n out u_is long is = ap (λ (a : List (Option T)). until (at_places f (map of a) (map of (replicate n k))) (range_with_len 0 n)) (sym u_is) ∙ until-right u k n out (ap length u_is ∙ long) is

  pub left_seen : (k : Option T) (b v : List (Option T)) (n : ℕ) (out : Until Value) → v ≡ b → length b ≡ n
      → until (λ i. f (of k) (of (get_or v i None))) (range_with_len 0 (length v)) ≡ out
      → until (at_places f (map of (replicate n k)) (map of b)) (range_with_len 0 n) ≡ out
  left_seen k b v n out v_is long is = ap (λ (b : List (Option T)). until (at_places f (map of (replicate n k)) (map of b)) (range_with_len 0 n)) (sym v_is) ∙ until-left k v n out (ap length v_is ∙ long) is

-- what is made of each value and a constant, as what is made of two lists
module _ {T : Type 0} (of : Option T → Value) (f : Value → Value → Computed) where
  pub right_zipped : (made : List Computed) (a u : List (Option T)) (k : Option T) (n : ℕ) → u ≡ a → length a ≡ n → made ≡ map (λ value. f value (of k)) (map of u) → made ≡ zip2 f (map of a) (map of (replicate n k))
  right_zipped made a u k n u_is long is =
      is ∙ ap (λ (xs : List (Option T)). map (λ value. f value (of k)) (map of xs)) u_is
      ∙ sym (zip2_splat f (map of a) n (of k) (length-map a of ∙ long))
      ∙ ap (zip2 f (map of a)) (sym (map-replicated of n k))

  pub left_zipped : (made : List Computed) (k : Option T) (b v : List (Option T)) (n : ℕ) → v ≡ b → length b ≡ n → made ≡ map (λ value. f (of k) value) (map of v) → made ≡ zip2 f (map of (replicate n k)) (map of b)
  left_zipped made k b v n v_is long is =
      is ∙ ap (λ (xs : List (Option T)). map (λ value. f (of k) value) (map of xs)) v_is
      ∙ sym (zip2_splat_left f (of k) n (map of b) (length-map b of ∙ long))
      ∙ ap (λ xs. zip2 f xs (map of b)) (sym (map-replicated of n k))

-- one more of what two lists give at each place
pub zipped_more : (f : Value → Value → Computed) (a b : List Value) (see : Option Bool → Computed) (made : List (Option Bool)) (i : ℕ) (x : Option Bool) → length a ≡ length b → i < length a
    → map see made ≡ take i (zip2 f a b) → see x ≡ f (get_or a i values.Null) (get_or b i values.Null) → map see (made ++ x ∷ []) ≡ take (i + 1) (zip2 f a b)
zipped_more f a b see made i x same below so_far is =
    let there : i < length (zip2 f a b) = omega (arith, length-zip2 f a b same, below) in
    map-append see made (x ∷ [])
    ∙ ap₂ (λ (xs : List Computed) (y : Computed). xs ++ y ∷ []) so_far (is ∙ sym (get_or-zip2 f a b i values.Null values.Null (see x) below (omega (arith, same, below))))
    ∙ sym (take_more (zip2 f a b) i (see x) there)

pub zipped_all : (f : Value → Value → Computed) (a b : List Value) (n i : ℕ) → length a ≡ n → length b ≡ n → n ≤ i → take i (zip2 f a b) ≡ zip2 f a b
zipped_all f a b n i long_a long_b end = take_all i (zip2 f a b) (omega (arith, length-zip2 f a b (long_a ∙ sym long_b), long_a))

-- the text at a place
pub text_place : (all : Texts) (n i : ℕ) → i < n → bytes_value (text_of all i) ≡ get_or (map bytes_value (listed n all)) i values.Null
text_place (Column column) n i below = sym (get_or-mapped bytes_value column.now i None)
text_place (Constant text) n i below = ap bytes_value (sym (get_or-replicate n i (option_copied text) None below)) ∙ sym (get_or-mapped bytes_value (replicate n (option_copied text)) i None)

-- what holds of each row's value holds of all of them
step_holds : (P : Value → Type 0) (row : ℕ) (r : Computed) (rest : Until Value) → IfOk r P → All P rest.values → All P (step row r rest).values
step_holds P row (Ok x) rest holds all = All-cons P x rest.values holds all
step_holds P row (Err kind) rest holds all = All-nil P

until-holds_from : (P : Value → Type 0) (f : ℕ → Computed) (a n : ℕ) → ((i : ℕ) → i < a + n → IfOk (f i) P) → All P (until f (range_with_len a n)).values
until-holds_from P f a zero holds = All-nil P
until-holds_from P f a (suc n) holds = step_holds P a (f a) (until f (range_with_len (a + 1) n)) (holds a (omega arith)) (until-holds_from P f (a + 1) n (λ i below. holds i (omega arith)))

pub until-holds : (P : Value → Type 0) (f : ℕ → Computed) (n : ℕ) → ((i : ℕ) → i < n → IfOk (f i) P) → All P (until f (range_with_len 0 n)).values
until-holds P f n holds = until-holds_from P f 0 n (λ i below. holds i (omega (arith, below)))

-- ---- texts

abbrev pub IsText : Option (List ℕ) → Type 0
IsText text = IfSome text IsUtf8

pub texts_utf8 : (all : List (Option (List ℕ))) → All (InKind kinds.Text) (map bytes_value all) → All IsText all
texts_utf8 [] fit = All-nil IsText
texts_utf8 (Some bytes ∷ all) fit =
    All-cons IsText (Some bytes) all (All-head (InKind kinds.Text) (values.Bytes bytes) (map bytes_value all) fit) (texts_utf8 all (All-tail (InKind kinds.Text) (values.Bytes bytes) (map bytes_value all) fit))
texts_utf8 (None ∷ all) fit = All-cons IsText None all tt (texts_utf8 all (All-tail (InKind kinds.Text) values.Null (map bytes_value all) fit))

-- a test of two texts that are UTF-8
pub tested_texts : (test : List ℕ → List ℕ → Bool) (text pattern : List ℕ) → IsUtf8 text → IsUtf8 pattern → texts.tested test (values.Bytes text) (values.Bytes pattern) ≡ Ok (values.Bool (test text pattern))
tested_texts test text pattern text_fits pattern_fits = rw (is_utf8-from_IsUtf8 text text_fits, is_utf8-from_IsUtf8 pattern pattern_fits) refl

-- ---- arithmetic of one kind

module _ (op : ArithOp) (mode : Overflow) (ty : Ty) (kind : Kind) (of : ty.kind ≡ kind) (n : ℕ) (first second a b : List Value) (a_is : first ≡ a) (b_is : second ≡ b) (numbers : List (Option ℤ)) (stop : Stop)
    (law : until (at_places (binary (func_of op) kind mode (kind ∷ kind ∷ [])) first second) (range_with_len 0 n) ≡ record { values = ints (λ x. x) numbers; stop = stop }) where
  abbrev wanted : ℕ → Computed
  wanted = at_places (binary (func_of op) ty.kind mode (ty.kind ∷ ty.kind ∷ [])) a b

  results : until wanted (range_with_len 0 n) ≡ record { values = map int_value numbers; stop = stop }
  results =
      ap (λ k. until (at_places (binary (func_of op) k mode (k ∷ k ∷ [])) a b) (range_with_len 0 n)) of
      ∙ ap₂ (λ a b. until (at_places (binary (func_of op) kind mode (kind ∷ kind ∷ [])) a b) (range_with_len 0 n)) (sym a_is) (sym b_is)
      ∙ law
      ∙ ap (λ values. record { values = values; stop = stop }) (ints_as numbers)

  pub results_fit : ((i : ℕ) → i < n → IfOk (wanted i) (InKind ty.kind)) → All (InKind ty.kind) (map int_value numbers)
  results_fit holds = subst (All (InKind ty.kind)) (ap (λ (one : Until Value). one.values) results) (until-holds (InKind ty.kind) wanted n holds)

  pub results_made : (column : batch_column.Column) → values_of column.values ≡ map int_value numbers → column.ty ≡ ty → IsMade wanted n ty column stop
  results_made column values_are ty_is = record {
    values = values_are ∙ ap (λ (one : Until Value). one.values) (sym results);
    stop_is = ap (λ (one : Until Value). one.stop) (sym results);
    ty_is = ty_is;
  }

-- the kinds of the arguments, once they are known
pub in_kind_of : (op : ArithOp) (mode : Overflow) (ty : Ty) (given : List Kind) (a b : List Value) (n : ℕ) → given ≡ ty.kind ∷ ty.kind ∷ []
    → ((i : ℕ) → i < n → IfOk (at_places (binary (func_of op) ty.kind mode given) a b i) (InKind ty.kind))
    → (i : ℕ) → i < n → IfOk (at_places (binary (func_of op) ty.kind mode (ty.kind ∷ ty.kind ∷ [])) a b i) (InKind ty.kind)
in_kind_of op mode ty given a b n is holds i below = subst (λ (given : List Kind). IfOk (at_places (binary (func_of op) ty.kind mode given) a b i) (InKind ty.kind)) is (holds i below)

-- ---- kinds of whole numbers, and their ends

pub is_i8 : IsWholeKind kinds.I8 w8 (negsuc 127) (pos 127)
is_i8 = record { narrow = omega arith; wraps = λ n. refl; is_least = refl; is_greatest = refl }

pub is_i16 : IsWholeKind kinds.I16 w16 (negsuc 32767) (pos 32767)
is_i16 = record { narrow = omega arith; wraps = λ n. refl; is_least = refl; is_greatest = refl }

pub is_i32 : IsWholeKind kinds.I32 w32 (negsuc 2147483647) (pos 2147483647)
is_i32 = record { narrow = omega arith; wraps = λ n. refl; is_least = refl; is_greatest = refl }

pub is_i64 : IsWholeKind kinds.I64 w64 (negsuc 9223372036854775807) (pos 9223372036854775807)
is_i64 = record { narrow = omega arith; wraps = λ n. refl; is_least = refl; is_greatest = refl }
