-- The demo's rows: what each is made of.
use Rattle.std.proofs.Common.{◌≡◌, ℕ, zero, suc, pos, ◌+◌, ◌*◌, ◌%◌, ◌<◌, ◌≤◌, ◌==◌, List, [], ◌∷◌, ◌++◌, Bool, true, false, Option, Some, None, inl, inr, map, codes, decimal, if◌then◌else◌, length, length-append, refl, sym, ap, subst, arith}
use Rattle.std.specs.List.{AllByRecursion, range_with_len}
use Rattle.std.proofs.lemmas.Fmt.{length-decimal-le}
use Rattle.std.proofs.lemmas.List.FromFn.{length-map-range_with_len}
use Rattle.std.proofs.lemmas.Cmp.{tied_itself}
use Rattle.std.specs.Ordering.{is_eq}
use Rattle.sub_types.specs.declared.value.Value.{Value}
use Rattle.sub_types.specs.declared.value.Value.TheVariants as values
use Rattle.plan_denote.specs.Rows.{Row}
use Rattle.plan_denote.specs.Aggregate.{Entry}
use Rattle.plan_denote.specs.Order.{is_same}
use Rattle.plan_denote.specs.Distinct.{is_same_row}
use Rattle.plan_denote.proofs.OrderLaws.{value_cmp_total}
use Rattle.gen_data.specs.Rows.{region_of, order_row, line_row, order_rows, line_rows}
use Rattle.demo_laws.proofs.CleanLaws.{Are}
use Rattle.demo_laws.proofs.FewLaws.{IsAmong}

-- the name of a region
pub record IsRegion (region : List ℕ) : Type 0 where
  pub order : ℕ
  pub is : region ≡ region_of order

-- null, or a digit
abbrev pub IsQuantity : Value → Type 0
IsQuantity values.Null = Unit {0}
IsQuantity (values.Int (pos n)) = n ≤ 9
IsQuantity _ = ⊥

abbrev pub IsLine : Row → Type 0
IsLine (values.Int order ∷ quantity ∷ []) = IsQuantity quantity
IsLine _ = ⊥

abbrev pub IsOrder : Row → Type 0
IsOrder (values.Int order ∷ values.Bytes region ∷ []) = IsRegion region
IsOrder _ = ⊥

-- a line and its order
abbrev pub IsOrdered : Row → Type 0
IsOrdered (values.Int a ∷ quantity ∷ values.Int b ∷ values.Bytes region ∷ []) = IsQuantity quantity × IsRegion region
IsOrdered _ = ⊥

-- the key of a region
abbrev pub IsKey : Row → Type 0
IsKey (values.Bytes region ∷ []) = IsRegion region
IsKey _ = ⊥

-- what is taken of a line: a quantity, or nothing
abbrev pub IsTaken : Option Value → Type 0
IsTaken None = Unit {0}
IsTaken (Some value) = IsQuantity value

-- what the measures take of a line
abbrev pub AreTaken : List (Option Value) → Type 0
AreTaken (taken ∷ other ∷ []) = IsTaken taken
AreTaken _ = ⊥

abbrev pub IsEntry : Entry → Type 0
IsEntry entry = IsKey entry.0 × AreTaken entry.1

last_digit : (line : ℕ) (test : Bool) → IsQuantity (if test then values.Null else values.Int (pos (line % 10)))
last_digit line true = tt
last_digit line false = omega arith

each_line : (number : ℕ) (from count : ℕ) → AllByRecursion IsLine (map (line_row number) (range_with_len from count))
each_line number from zero = tt
each_line number from (suc count) = (last_digit from (from % 11 == 10), each_line number (from + 1) count)

each_order : (from count : ℕ) → AllByRecursion IsOrder (map order_row (range_with_len from count))
each_order from zero = tt
each_order from (suc count) = (record { order = from; is = refl }, each_order (from + 1) count)

pub lines_are : (number : ℕ) → Are IsLine (4 * number) (line_rows number)
unfolding line_rows
lines_are number = record { each = each_line number 0 (4 * number); few = omega (arith, length-map-range_with_len (line_row number) 0 (4 * number)) }

pub orders_are : (number : ℕ) → Are IsOrder number (order_rows number)
unfolding order_rows
orders_are number = record { each = each_order 0 number; few = omega (arith, length-map-range_with_len order_row 0 number) }

-- a region's name is short
pub short_region : (region : List ℕ) → IsRegion region → length region ≤ 2
short_region region is =
    subst (λ (name : List ℕ). length name ≤ 2) (sym is.is)
    (omega (arith, length-append (codes "r") (decimal (is.order % 3)), length-decimal-le 1 (is.order % 3) (omega arith) (omega arith) (omega arith)))

-- the keys of the three regions
abbrev key_of : ℕ → Row
key_of digit = values.Bytes (codes "r" ++ decimal digit) ∷ []

abbrev pub three_keys : List Row
three_keys = key_of 0 ∷ key_of 1 ∷ key_of 2 ∷ []

below_three : (n : ℕ) → n < 3 → IsAmong (0 ∷ 1 ∷ 2 ∷ []) n
below_three zero below = inl refl
below_three (suc zero) below = inr (inl refl)
below_three (suc (suc zero)) below = inr (inr (inl refl))
below_three (suc (suc (suc n))) below = absurd (omega arith)

among_keys : (digits : List ℕ) (n : ℕ) → IsAmong digits n → IsAmong (map key_of digits) (key_of n)
among_keys [] n there = absurd there
among_keys (digit ∷ digits) n (inl is) = inl (ap key_of is)
among_keys (digit ∷ digits) n (inr later) = inr (among_keys digits n later)

region_key : (region : List ℕ) → IsRegion region → IsAmong three_keys (values.Bytes region ∷ [])
region_key region is =
    subst (λ (name : List ℕ). IsAmong three_keys (values.Bytes name ∷ [])) (sym is.is) (among_keys (0 ∷ 1 ∷ 2 ∷ []) (is.order % 3) (below_three (is.order % 3) (omega arith)))

pub among_three : (key : Row) → IsKey key → IsAmong three_keys key
among_three (values.Bytes region ∷ []) is = region_key region is
among_three _ is = absurd is

-- a row is the same as itself
same_value : (value : Value) → is_same value value ≡ true
same_value value = ap is_eq (tied_itself value_cmp_total value)

pub same_itself : (row : Row) → is_same_row row row ≡ true
same_itself [] = refl
same_itself (value ∷ row) = rw (same_value value) (same_itself row)
