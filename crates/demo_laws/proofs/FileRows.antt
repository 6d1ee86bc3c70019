-- The rows of the demo's tables fit their columns.
use Rattle.std.proofs.Common.{rules, ◌≡◌, ℕ, zero, suc, pos, ◌+◌, ◌*◌, ◌%◌, ◌<◌, ◌≤◌, ◌^◌, ◌==◌, [], ◌∷◌, ◌++◌, true, false, length, get_or, refl, sym, ap, subst, arith, lit≤, IsTrue, codes, if◌then◌else◌}
use Rattle.std.specs.List.{range_with_len, All}
use Rattle.std.specs.Int.{w64}
use Rattle.std.specs.Str.{is_utf8, chars}
use Rattle.std.specs.Char.{encode_utf8}
use Rattle.std.proofs.lemmas.Fmt.{decimal_digit}
use Rattle.std.proofs.lemmas.Int.{fits_signed_from_abs}
use Rattle.std.proofs.lemmas.Str.{IsUtf8-from_is_utf8}
use Rattle.std.proofs.lemmas.List.Elements.{All-map, All-from_recursion}
use Rattle.std.proofs.lemmas.List.FromFn.{get_or-range_with_len, length-range_with_len, length-map-range_with_len}
use Rattle.sub_types.specs.Kind.{IsKind}
use Rattle.sub_types.specs.Value.{Fits, FitsTy}
use Rattle.sub_types.specs.declared.kind.Ty.{Ty}
use Rattle.sub_types.specs.declared.value.Value.TheVariants as values
use Rattle.gen_data.specs.Rows.{MAX_NUMBER, region_of, order_row, quantity_of, line_row, order_rows, line_rows}
use Rattle.gen_data.specs.Plan.{line_names, order_names}
use Rattle.gen_data.specs.Checked.{whole_type, text_type, line_types, order_types}
use Rattle.demo_laws.proofs.FileSizes.{IsSmall}

-- a number of at most 63 bits is a whole number of 64
whole_fits : (n : ℕ) → n < 2 ^ 63 → FitsTy whole_type (values.Int (pos n))
whole_fits n small = record { in_kind = fits_signed_from_abs w64 (pos n) small; short = tt; allowed = λ null. refl }

null_fits : (ty : Ty) → IsTrue ty.nullable → FitsTy ty values.Null
null_fits ty allowed = record { in_kind = tt; short = tt; allowed = λ null. allowed }

-- a region is a text of two bytes
region_at : (digit : ℕ) → digit < 3 → FitsTy text_type (values.Bytes (114 ∷ (48 + digit) ∷ []))
unfolding is_utf8 chars encode_utf8
region_at zero below = record { in_kind = IsUtf8-from_is_utf8 (114 ∷ 48 ∷ []) refl; short = lit≤ tt; allowed = λ null. refl }
region_at (suc zero) below = record { in_kind = IsUtf8-from_is_utf8 (114 ∷ 49 ∷ []) refl; short = lit≤ tt; allowed = λ null. refl }
region_at (suc (suc zero)) below = record { in_kind = IsUtf8-from_is_utf8 (114 ∷ 50 ∷ []) refl; short = lit≤ tt; allowed = λ null. refl }
region_at (suc (suc (suc n))) below = absurd (omega arith)

region_fits : (order : ℕ) → FitsTy text_type (values.Bytes (region_of order))
region_fits order =
    let below : order % 3 < 3 = omega arith in
    subst (λ text. FitsTy text_type (values.Bytes text)) (sym (ap (λ digits. codes "r" ++ digits) (decimal_digit (order % 3) (omega arith)))) (region_at (order % 3) below)

order_fits : (order : ℕ) → order < 2 ^ 63 → Fits order_types (order_row order)
order_fits order small = (whole_fits order small, (region_fits order, tt))

quantity_fits : (line : ℕ) → FitsTy whole_type (quantity_of line)
quantity_fits line =
    elim (line % 11 == 10) as (λ none. FitsTy whole_type (if none then values.Null else values.Int (pos (line % 10)))) [
      | true ↦ null_fits whole_type refl
      | false ↦ whole_fits (line % 10) (omega arith)
    ]

line_fits : (number line : ℕ) → number ≤ MAX_NUMBER → Fits line_types (line_row number line)
line_fits number line few =
    let below : (7 * line) % suc number < suc number = omega arith in
    (whole_fits ((7 * line) % suc number) (omega (arith, below, few)), (quantity_fits line, tt))

pub orders_fit : (number : ℕ) → number ≤ MAX_NUMBER → All (Fits order_types) (order_rows number)
unfolding order_rows
orders_fit number few =
    All-map (Fits order_types) order_row (range_with_len 0 number) (λ k d below.
    let within : k < number = omega (arith, below, length-range_with_len 0 number) in
    order_fits (get_or (range_with_len 0 number) k d) (omega (arith, get_or-range_with_len 0 number k d within, within, few)))

pub lines_fit : (number : ℕ) → number ≤ MAX_NUMBER → All (Fits line_types) (line_rows number)
unfolding line_rows
lines_fit number few =
    All-map (Fits line_types) (line_row number) (range_with_len 0 (4 * number)) (λ k d below. line_fits number (get_or (range_with_len 0 (4 * number)) k d) few)

count_orders : (number : ℕ) → length (order_rows number) ≡ number
unfolding order_rows
count_orders number = length-map-range_with_len order_row 0 number

count_lines : (number : ℕ) → length (line_rows number) ≡ 4 * number
unfolding line_rows
count_lines number = length-map-range_with_len (line_row number) 0 (4 * number)

-- both tables are small
pub small_orders : (number : ℕ) → number ≤ MAX_NUMBER → IsSmall order_names order_types (order_rows number)
small_orders number few = record {
  same_count = refl;
  kinds = All-from_recursion (λ ty. IsKind ty.kind) order_types (search rules);
  fitting = orders_fit number few;
  narrow = lit≤ tt;
  short_names = lit≤ tt;
  few = omega (arith, count_orders number, few);
}

pub small_lines : (number : ℕ) → number ≤ MAX_NUMBER → IsSmall line_names line_types (line_rows number)
small_lines number few = record {
  same_count = refl;
  kinds = All-from_recursion (λ ty. IsKind ty.kind) line_types (search rules);
  fitting = lines_fit number few;
  narrow = lit≤ tt;
  short_names = lit≤ tt;
  few = omega (arith, count_lines number, few);
}
