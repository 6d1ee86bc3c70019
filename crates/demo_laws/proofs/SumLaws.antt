-- The quantities of a region: what they sum to.
use Rattle.std.proofs.Common.{◌≡◌, ◌∙◌, ℕ, suc, ℤ, pos, negsuc, ◌+◌, ◌*◌, ◌≤◌, ◌^◌, ◌+ℤ◌, List, [], ◌∷◌, Bool, true, false, cond, Option, Some, None, Ok, ◌==◌, nat_lt, if◌then◌else◌, slice_index_or, length, refl, ap, arith}
use Rattle.std.specs.List.{AllByRecursion, filter, filter_map, cons_option}
use Rattle.std.proofs.lemmas.Bool.{lt-ltb}
use Rattle.sub_types.specs.declared.kind.Kind.TheVariants as kinds
use Rattle.sub_types.specs.declared.value.Value.{Value}
use Rattle.sub_types.specs.declared.value.Value.TheVariants as values
use Rattle.plan_typed.specs.declared.expr.Func.TheVariants as funcs
use Rattle.plan_typed.specs.declared.expr.Overflow.TheVariants as modes
use Rattle.plan_denote.specs.Rows.{Row}
use Rattle.plan_denote.specs.Computed.{null}
use Rattle.plan_denote.specs.Distinct.{is_same_row}
use Rattle.plan_denote.specs.Whole.{whole, beyond}
use Rattle.plan_denote.specs.Tally.{not_null, total_of, tally_of, final}
use Rattle.plan_denote.specs.Aggregate.{Entry, members_in}
use Rattle.gen_data.specs.Summary.{IsSum}
use Rattle.demo_laws.proofs.ShapeLaws.{IsQuantity, IsTaken, AreTaken, IsEntry}

-- at most nine for each of so many
record SumsUpTo (many : ℕ) (members : List Value) : Type 0 where
  pub sum : ℕ
  pub is : total_of (not_null members) ≡ pos sum
  pub most : sum ≤ 9 * many

one_more : (many : ℕ) (members : List Value) → SumsUpTo many members → SumsUpTo (suc many) members
one_more many members sums = record { sum = sums.sum; is = sums.is; most = omega (arith, sums.most) }

one_member : (value : Value) (many : ℕ) (members : List Value) → IsQuantity value → SumsUpTo many members → SumsUpTo (suc many) (value ∷ members)
one_member values.Null many members is sums = record { sum = sums.sum; is = sums.is; most = omega (arith, sums.most) }
one_member (values.Int (pos n)) many members is sums = record { sum = n + sums.sum; is = ap (λ (rest : ℤ). pos n +ℤ rest) sums.is; most = omega (arith, sums.most, is) }
one_member (values.Int (negsuc n)) many members is sums = absurd is
one_member _ many members is sums = absurd is

one_taken : (taken : Option Value) (many : ℕ) (members : List Value) → IsTaken taken → SumsUpTo many members → SumsUpTo (suc many) (cons_option taken members)
one_taken None many members is sums = one_more many members sums
one_taken (Some value) many members is sums = one_member value many members is sums

first_taken : (taken : List (Option Value)) → AreTaken taken → IsTaken (slice_index_or taken 0 None)
first_taken (one ∷ other ∷ []) are = are
first_taken _ are = absurd are

one_entry : (test : Bool) (entry : Entry) (many : ℕ) (own : List Entry) → IsEntry entry → SumsUpTo many (filter_map (λ (one : Entry). slice_index_or one.1 0 None) own)
    → SumsUpTo (suc many) (filter_map (λ (one : Entry). slice_index_or one.1 0 None) (cond test (entry ∷ own) own))
one_entry true entry many own is sums = one_taken (slice_index_or entry.1 0 None) many (filter_map (λ (one : Entry). slice_index_or one.1 0 None) own) (first_taken entry.1 is.1) sums
one_entry false entry many own is sums = one_more many (filter_map (λ (one : Entry). slice_index_or one.1 0 None) own) sums

-- what a region's quantities sum to
sums_up : (key : Row) (entries : List Entry) → AllByRecursion IsEntry entries → SumsUpTo (length entries) (members_in entries key 0)
sums_up key [] all = record { sum = 0; is = refl; most = omega arith }
sums_up key (entry ∷ entries) all = one_entry (is_same_row key entry.0) entry (length entries) (filter (λ (one : Entry). is_same_row key one.0) entries) all.0 (sums_up key entries all.1)

in_range : (test : Bool) (n : ℤ) (sum : ℕ) → n ≡ pos sum → nat_lt sum (2 ^ 63) ≡ true → (value : Value) × IsSum value × ((if test then null else whole kinds.I64 modes.Error n) ≡ Ok value)
in_range true n sum is small = (values.Null, tt, refl)
in_range false n sum is small =
    (values.Int (pos sum), tt, ap (λ (one : ℤ). whole kinds.I64 modes.Error one) is ∙ ap (λ (within : Bool). if within then Ok (values.Int (pos sum)) else beyond modes.Error kinds.I64 (pos sum)) small)

-- their sum is a whole number of 64 bits, or null
pub sum_fits : (key : Row) (entries : List Entry) → AllByRecursion IsEntry entries → length entries ≤ 2 ^ 40
    → (value : Value) × IsSum value × (final funcs.Sum kinds.I64 (tally_of (not_null (members_in entries key 0))) ≡ Ok value)
sum_fits key entries all few =
    let sums = sums_up key entries all in
    let tally = tally_of (not_null (members_in entries key 0)) in
    in_range (tally.count == 0) tally.total sums.sum sums.is (lt-ltb sums.sum (2 ^ 63) (omega (arith, sums.most, few)))
