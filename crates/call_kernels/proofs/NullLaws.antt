-- Which values of a column are there, as truth values.
use Rattle.std.proofs.Common.{◌≡◌, ◌∙◌, ℕ, ◌-◌, ℤ, List, [], ◌∷◌, Bool, true, not, Option, Some, None, Ok, is_some, length, map, replicate, slice_range, take, refl, ap, ap₂, arith}
use Rattle.std.proofs.lemmas.List.{take_all}
use Rattle.sub_types.specs.Nullable.{bool_value, int_value, dec_value, bytes_value}
use Rattle.sub_types.specs.Optional.{optional}
use Rattle.sub_types.specs.declared.value.Value.{Value}
use Rattle.sub_types.specs.declared.value.Value.TheVariants as values
use Rattle.plan_denote.specs.Computed.{Computed, is_null, truth}
use Rattle.plan_denote.specs.Logic.{not_of}
use Rattle.call_kernels.specs.Nulls.{null_test, there_test}

abbrev there : Value → Bool
there value = not (is_null value)

shows : {T : Type 0} (shown : Option T → Value) → ((x : Option T) → is_some x ≡ there (shown x)) → (column : List (Option T)) → map is_some column ≡ map (λ value. not (is_null value)) (map shown column)
shows shown each [] = refl
shows shown each (x ∷ column) = ap₂ (λ (b : Bool) (bs : List Bool). b ∷ bs) (each x) (shows shown each column)

bool_there : (x : Option Bool) → is_some x ≡ there (bool_value x)
bool_there None = refl
bool_there (Some x) = refl

int_there : (x : Option ℤ) → is_some x ≡ there (int_value x)
int_there None = refl
int_there (Some x) = refl

dec_there : (x : Option ℤ) → is_some x ≡ there (dec_value x)
dec_there None = refl
dec_there (Some x) = refl

bytes_there : (x : Option (List ℕ)) → is_some x ≡ there (bytes_value x)
bytes_there None = refl
bytes_there (Some x) = refl

pub bools_there : (column : List (Option Bool)) → map is_some column ≡ map (λ value. not (is_null value)) (map bool_value column)
bools_there column = shows bool_value bool_there column

pub ints_there : (column : List (Option ℤ)) → map is_some column ≡ map (λ value. not (is_null value)) (map int_value column)
ints_there column = shows int_value int_there column

pub decs_there : (column : List (Option ℤ)) → map is_some column ≡ map (λ value. not (is_null value)) (map dec_value column)
decs_there column = shows dec_value dec_there column

pub texts_there : (column : List (Option (List ℕ))) → map is_some column ≡ map (λ value. not (is_null value)) (map bytes_value column)
texts_there column = shows bytes_value bytes_there column

-- all of a list, as a part of it
pub all_range : (bits : List Bool) (n : ℕ) → n ≡ length bits → slice_range bits 0 n ≡ bits
all_range bits n is = let same : n - 0 ≡ n = omega arith in ap (λ m. take m bits) same ∙ take_all n bits (omega (arith, is))

-- bits of which each is there
pub all_there : (bits : List Bool) → map (λ (one : Option Bool). let worth : Computed = Ok (bool_value one) in worth) (optional bits (replicate (length bits) true)) ≡ map truth bits
all_there [] = refl
all_there (bit ∷ bits) = ap (λ (rest : List Computed). truth bit ∷ rest) (all_there bits)

-- the tests of values, by which of them are there
pub truths_there : (all : List Value) → map truth (map (λ value. not (is_null value)) all) ≡ map there_test all
truths_there [] = refl
truths_there (value ∷ all) = ap (λ (rest : List Computed). there_test value ∷ rest) (truths_there all)

null_not : (value : Value) → not_of (values.Bool (not (is_null value))) ≡ null_test value
null_not values.Null = refl
null_not (values.Bool x) = refl
null_not (values.Int x) = refl
null_not (values.Dec x) = refl
null_not (values.Bytes x) = refl

-- what isn't there is null
pub nulls_not : (truths : List (Option Bool)) (all : List Value) → map (λ (one : Option Bool). let worth : Computed = Ok (bool_value one) in worth) truths ≡ map there_test all → map not_of (map bool_value truths) ≡ map null_test all
nulls_not truths all are = from_values truths all (worths truths all are)
  where
    worths : (truths : List (Option Bool)) (all : List Value) → map (λ (one : Option Bool). let worth : Computed = Ok (bool_value one) in worth) truths ≡ map there_test all → map bool_value truths ≡ map (λ value. values.Bool (not (is_null value))) all
    worths [] [] are = refl
    worths [] (value ∷ all) are = absurd (cc)
    worths (one ∷ truths) [] are = absurd (cc)
    worths (one ∷ truths) (value ∷ all) are = ap₂ (λ (x : Value) (xs : List Value). x ∷ xs) (cc) (worths truths all (cc))

    from_values : (truths : List (Option Bool)) (all : List Value) → map bool_value truths ≡ map (λ value. values.Bool (not (is_null value))) all → map not_of (map bool_value truths) ≡ map null_test all
    from_values truths all are = ap (map not_of) are ∙ each all
      where
        each : (all : List Value) → map not_of (map (λ value. values.Bool (not (is_null value))) all) ≡ map null_test all
        each [] = refl
        each (value ∷ all) = ap₂ (λ (x : Computed) (xs : List Computed). x ∷ xs) (null_not value) (each all)
