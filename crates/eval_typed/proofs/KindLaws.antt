-- The values of each kind.
use Rattle.std.proofs.Common.{◌≡◌, ℕ, ℤ, List, Bool, true, false, refl, subst}
use Rattle.sub_types.specs.Value.{InKind}
use Rattle.sub_types.specs.declared.kind.Kind.{Kind}
use Rattle.sub_types.specs.declared.kind.Kind.TheVariants as kinds
use Rattle.sub_types.specs.declared.value.Value.{Value}
use Rattle.sub_types.specs.declared.value.Value.TheVariants as values
use Rattle.well_typed.specs.Casts.{is_whole}

abbrev pub any_kind : Kind → Bool
any_kind kind = true

abbrev pub is_truth : Kind → Bool
is_truth kinds.Bool = true
is_truth _ = false

abbrev pub is_text : Kind → Bool
is_text kinds.Text = true
is_text _ = false

abbrev pub is_decimal : Kind → Bool
is_decimal (kinds.Decimal precision scale) = true
is_decimal _ = false

-- whole numbers, dates and timestamps
abbrev pub is_integer : Kind → Bool
is_integer kinds.Date = true
is_integer kinds.Timestamp = true
is_integer kind = is_whole kind

pub whole_integer : (kind : Kind) → is_whole kind ≡ true → is_integer kind ≡ true
whole_integer kinds.Date is = refl
whole_integer kinds.Timestamp is = refl
whole_integer _ is = is

-- a kind without a decimal's numbers
abbrev pub plain : Kind → Kind
plain (kinds.Decimal precision scale) = kinds.Decimal 0 0
plain kind = kind

pub truth_kind : (kind : Kind) → is_truth (plain kind) ≡ true → kind ≡ kinds.Bool
truth_kind kinds.Bool is = refl
truth_kind _ is = cc

pub text_kind : (kind : Kind) → is_text (plain kind) ≡ true → kind ≡ kinds.Text
text_kind kinds.Text is = refl
text_kind _ is = cc

pub whole_kind : (kind : Kind) → is_whole (plain kind) ≡ true → is_whole kind ≡ true
whole_kind (kinds.Decimal precision scale) is = is
whole_kind _ is = is

pub decimal_kind : (kind : Kind) → is_decimal (plain kind) ≡ true → is_decimal kind ≡ true
decimal_kind (kinds.Decimal precision scale) is = refl
decimal_kind _ is = is

-- what holds of null and of each truth value holds of each value of the kind
truths : (P : Value → Type 0) → P values.Null → ((test : Bool) → P (values.Bool test)) → (value : Value) → InKind kinds.Bool value → P value
truths P null k values.Null is = null
truths P null k (values.Bool test) is = k test
truths P null k (values.Int _) is = absurd is
truths P null k (values.Dec _) is = absurd is
truths P null k (values.Bytes _) is = absurd is

pub by_truth : (P : Value → Type 0) (kind : Kind) → kind ≡ kinds.Bool → P values.Null → ((test : Bool) → P (values.Bool test)) → (value : Value) → InKind kind value → P value
by_truth P kind same null k value is = truths P null k value (subst (λ (one : Kind). InKind one value) same is)

-- and so on for texts, whole numbers and decimals
texts : (P : Value → Type 0) → P values.Null → ((bytes : List ℕ) → InKind kinds.Text (values.Bytes bytes) → P (values.Bytes bytes)) → (value : Value) → InKind kinds.Text value → P value
texts P null k values.Null is = null
texts P null k (values.Bytes bytes) is = k bytes is
texts P null k (values.Bool _) is = absurd is
texts P null k (values.Int _) is = absurd is
texts P null k (values.Dec _) is = absurd is

pub by_text : (P : Value → Type 0) (kind : Kind) → kind ≡ kinds.Text → P values.Null → ((bytes : List ℕ) → InKind kinds.Text (values.Bytes bytes) → P (values.Bytes bytes)) → (value : Value) → InKind kind value → P value
by_text P kind same null k value is = texts P null k value (subst (λ (one : Kind). InKind one value) same is)

integer_truth : (kind : Kind) (test : Bool) → is_integer kind ≡ true → InKind kind (values.Bool test) → ⊥
integer_truth kinds.Bool test integer is = cc
integer_truth _ test integer is = is

integer_decimal : (kind : Kind) (n : ℤ) → is_integer kind ≡ true → InKind kind (values.Dec n) → ⊥
integer_decimal (kinds.Decimal precision scale) n integer is = cc
integer_decimal _ n integer is = is

integer_text : (kind : Kind) (bytes : List ℕ) → is_integer kind ≡ true → InKind kind (values.Bytes bytes) → ⊥
integer_text kinds.Text bytes integer is = cc
integer_text kinds.Binary bytes integer is = cc
integer_text _ bytes integer is = is

pub by_integer : (P : Value → Type 0) (kind : Kind) → is_integer kind ≡ true → P values.Null → ((n : ℤ) → InKind kind (values.Int n) → P (values.Int n)) → (value : Value) → InKind kind value → P value
by_integer P kind integer null k values.Null is = null
by_integer P kind integer null k (values.Int n) is = k n is
by_integer P kind integer null k (values.Bool test) is = absurd (integer_truth kind test integer is)
by_integer P kind integer null k (values.Dec n) is = absurd (integer_decimal kind n integer is)
by_integer P kind integer null k (values.Bytes bytes) is = absurd (integer_text kind bytes integer is)

pub by_whole : (P : Value → Type 0) (kind : Kind) → is_whole kind ≡ true → P values.Null → ((n : ℤ) → InKind kind (values.Int n) → P (values.Int n)) → (value : Value) → InKind kind value → P value
by_whole P kind whole = by_integer P kind (whole_integer kind whole)

decimals : (P : Value → Type 0) (precision scale : ℕ) → P values.Null → ((n : ℤ) → P (values.Dec n)) → (value : Value) → InKind (kinds.Decimal precision scale) value → P value
decimals P precision scale null k values.Null is = null
decimals P precision scale null k (values.Dec n) is = k n
decimals P precision scale null k (values.Bool _) is = absurd is
decimals P precision scale null k (values.Int _) is = absurd is
decimals P precision scale null k (values.Bytes _) is = absurd is

pub by_decimal : (P : Value → Type 0) (kind : Kind) → is_decimal kind ≡ true → P values.Null → ((n : ℤ) → P (values.Dec n)) → (value : Value) → InKind kind value → P value
by_decimal P (kinds.Decimal precision scale) decimal null k value is = decimals P precision scale null k value is
by_decimal P _ decimal null k value is = absurd (cc)
