-- Constants on either side, which may be null.
use Rattle.std.proofs.Common.{◌≡◌, ◌∙◌, ℕ, zero, suc, ◌+◌, ◌<◌, ℤ, false, List, [], ◌∷◌, length, map, get_or, replicate, Option, Some, None, option_map, Result, Ok, Err, IfOk, refl, sym, ap, ap₂, arith}
use Rattle.std.specs.declared.cmp.Ordering.{Ordering}
use Rattle.std.specs.declared.cmp.Ordering.TheVariants.{Less, Equal, Greater}
use Rattle.std.specs.Ordering.{int_cmp, ordering_reverse}
use Rattle.std.specs.Cmp.{int_cmp_total}
use Rattle.std.specs.Int.{Width}
use Rattle.std.proofs.lemmas.List.{get_or-replicate, length-replicate}
use Rattle.std.specs.List.{range_with_len}
use Rattle.sub_types.specs.declared.fault.FaultKind.{FaultKind}
use Rattle.sub_types.specs.declared.kind.Kind.{Kind}
use Rattle.sub_types.specs.declared.kind.Kind.TheVariants as kinds
use Rattle.plan_typed.specs.declared.expr.Overflow.{Overflow}
use Rattle.plan_denote.specs.Calls.{binary}
use Rattle.plan_denote.specs.Logic as logic
use Rattle.kernels.specs.declared.op.ArithOp.{ArithOp}
use Rattle.kernels.specs.declared.op.CompareOp.{CompareOp}
use Rattle.kernels.specs.declared.op.CompareOp.TheVariants.{Eq, Ne, Lt, Le, Gt, Ge}
use Rattle.kernels.specs.declared.selection.Stop.{Stop}
use Rattle.kernels.specs.declared.selection.Stop.TheVariants.{Never}
use Rattle.kernels.specs.Arith.{IsWholeKind, IsDecimalKind, func_of, divides, row}
use Rattle.kernels.specs.Numbers.{int_of, dec_of, ints, decs, test_of, turned, compared}
use Rattle.kernels.specs.Until.{step, until}
use Rattle.kernels.proofs.TruthLaws.{result}
use Rattle.kernels.proofs.ArithLaws.{value, decimal_value, row-whole, row-decimal}
use Rattle.kernels.proofs.CompareLaws.{int_compared, dec_compared}

-- ---- comparisons

test-turned : (op : CompareOp) (r : Ordering) → test_of (turned op) r ≡ test_of op (ordering_reverse r)
test-turned Eq Less = refl
test-turned Eq Equal = refl
test-turned Eq Greater = refl
test-turned Ne Less = refl
test-turned Ne Equal = refl
test-turned Ne Greater = refl
test-turned Lt Less = refl
test-turned Lt Equal = refl
test-turned Lt Greater = refl
test-turned Le Less = refl
test-turned Le Equal = refl
test-turned Le Greater = refl
test-turned Gt Less = refl
test-turned Gt Equal = refl
test-turned Gt Greater = refl
test-turned Ge Less = refl
test-turned Ge Equal = refl
test-turned Ge Greater = refl

module _ {T : Type 0} (number : T → ℤ) (op : CompareOp) where
  turned_compared : (x y : Option T) → compared number (turned op) x y ≡ compared number op y x
  turned_compared (Some x) (Some y) = ap Some (test-turned op (int_cmp (number x) (number y)) ∙ ap (test_of op) (sym (int_cmp_total.antisymm (number y) (number x))))
  turned_compared (Some x) None = refl
  turned_compared None (Some y) = refl
  turned_compared None None = refl

  int_turned : (x y : Option T) → logic.compared (test_of (turned op)) (int_of number x) (int_of number y) ≡ logic.compared (test_of op) (int_of number y) (int_of number x)
  int_turned x y = sym (int_compared number (turned op) x y) ∙ ap result (turned_compared x y) ∙ int_compared number op y x

  dec_turned : (x y : Option T) → logic.compared (test_of (turned op)) (dec_of number x) (dec_of number y) ≡ logic.compared (test_of op) (dec_of number y) (dec_of number x)
  dec_turned x y = sym (dec_compared number (turned op) x y) ∙ ap result (turned_compared x y) ∙ dec_compared number op y x

  pub ints_turned : (y : Option T) (a : List (Option T)) → map (λ value. logic.compared (test_of (turned op)) value (int_of number y)) (ints number a) ≡ map (λ value. logic.compared (test_of op) (int_of number y) value) (ints number a)
  ints_turned y [] = refl
  ints_turned y (x ∷ a) = ap₂ ◌∷◌ (int_turned x y) (ints_turned y a)

  pub decs_turned : (y : Option T) (a : List (Option T)) → map (λ value. logic.compared (test_of (turned op)) value (dec_of number y)) (decs number a) ≡ map (λ value. logic.compared (test_of op) (dec_of number y) value) (decs number a)
  decs_turned y [] = refl
  decs_turned y (x ∷ a) = ap₂ ◌∷◌ (dec_turned x y) (decs_turned y a)

  pub ints_with_null : (a : List (Option T)) → map result (replicate (length a) None) ≡ map (λ value. logic.compared (test_of op) value (int_of number None)) (ints number a)
  ints_with_null [] = refl
  ints_with_null (Some x ∷ a) = ap₂ ◌∷◌ (int_compared number op (Some x) None) (ints_with_null a)
  ints_with_null (None ∷ a) = ap₂ ◌∷◌ (int_compared number op None None) (ints_with_null a)

  pub decs_with_null : (a : List (Option T)) → map result (replicate (length a) None) ≡ map (λ value. logic.compared (test_of op) value (dec_of number None)) (decs number a)
  decs_with_null [] = refl
  decs_with_null (Some x ∷ a) = ap₂ ◌∷◌ (dec_compared number op (Some x) None) (decs_with_null a)
  decs_with_null (None ∷ a) = ap₂ ◌∷◌ (dec_compared number op None None) (decs_with_null a)

-- ---- rows

-- rows that are the same below an end
until-below_from : {X : Type 0} (f g : ℕ → Result X FaultKind) (a n : ℕ) → ((i : ℕ) → i < a + n → f i ≡ g i) → until f (range_with_len a n) ≡ until g (range_with_len a n)
until-below_from f g a zero same = refl
until-below_from f g a (suc n) same = ap₂ (step a) (same a (omega arith)) (until-below_from f g (a + 1) n (λ i lt. same i (omega arith)))

pub until-below : {X : Type 0} (f g : ℕ → Result X FaultKind) (n : ℕ) → ((i : ℕ) → i < n → f i ≡ g i) → until f (range_with_len 0 n) ≡ until g (range_with_len 0 n)
until-below f g n same = until-below_from f g 0 n (λ i lt. same i (omega arith))

-- rows that all have one value
until-each_from : {X : Type 0} (f : ℕ → Result X FaultKind) (x : X) (a n : ℕ) → ((i : ℕ) → f i ≡ Ok x) → until f (range_with_len a n) ≡ record { values = replicate n x; stop = Never }
until-each_from f x a zero each = refl
until-each_from f x a (suc n) each = ap₂ (step a) (each a) (until-each_from f x (a + 1) n each)

pub until-each : {X : Type 0} (f : ℕ → Result X FaultKind) (x : X) (n : ℕ) → ((i : ℕ) → f i ≡ Ok x) → until f (range_with_len 0 n) ≡ record { values = replicate n x; stop = Never }
until-each f x n each = until-each_from f x 0 n each

pub map-replicated : {X Y : Type 0} (g : X → Y) (n : ℕ) (x : X) → map g (replicate n x) ≡ replicate n (g x)
map-replicated g zero x = refl
map-replicated g (suc n) x = ap (λ ys. g x ∷ ys) (map-replicated g n x)

-- a constant on the left, laid out as a column
pub from-left : {T X : Type 0} (f : Option T → Option T → Result X FaultKind) (xs b : List (Option T)) (k : Option T) → xs ≡ replicate (length b) k
    → until (λ i. f k (get_or b i None)) (range_with_len 0 (length b)) ≡ until (λ i. f (get_or xs i None) (get_or b i None)) (range_with_len 0 (length xs))
from-left f xs b k is =
    until-below (λ i. f k (get_or b i None)) (λ i. f (get_or xs i None) (get_or b i None)) (length b) (λ i lt. ap (λ x. f x (get_or b i None)) (sym (get_or-replicate (length b) i k None lt) ∙ ap (λ xs. get_or xs i None) (sym is)))
    ∙ ap (λ n. until (λ i. f (get_or xs i None) (get_or b i None)) (range_with_len 0 n)) (sym (ap length is ∙ length-replicate (length b) k))

null_row : (op : ArithOp) (mode : Overflow) (w : Width) (least greatest : ℤ) (x : Option ℤ) → row op mode w least greatest x None ≡ Ok None
null_row op mode w least greatest (Some x) = refl
null_row op mode w least greatest None = refl

-- a null on the right
module _ {T E : Type 0} (number : T → ℤ) (op : ArithOp) (mode : Overflow) (w : Width) (least greatest : ℤ) (a : List (Option T)) where
  pub nulls-whole : (r : Result (List (Option T) × Stop) E) → IfOk r (λ answer. answer.0 ≡ replicate (length a) None) → IfOk r (λ answer. answer.1 ≡ Never)
      → IfOk r (λ answer. (kind : Kind) → IsWholeKind kind w least greatest → until (λ i. binary (func_of op) kind mode (kind ∷ kind ∷ []) (int_of number (get_or a i None)) (int_of number None)) (range_with_len 0 (length a)) ≡ record { values = ints number answer.0; stop = answer.1 })
  nulls-whole (Err fault) values stop = tt
  nulls-whole (Ok answer) values stop = λ kind is.
      until-each (λ i. binary (func_of op) kind mode (kind ∷ kind ∷ []) (int_of number (get_or a i None)) (int_of number None)) (int_of number None) (length a) (λ i. sym (row-whole kind w least greatest is op mode (option_map number (get_or a i None)) None) ∙ ap value (null_row op mode w least greatest (option_map number (get_or a i None))))
      ∙ ap₂ (λ vs s. record { values = vs; stop = s }) (sym (map-replicated (int_of number) (length a) None) ∙ ap (ints number) (sym values)) (sym stop)

  pub nulls-decimal : (r : Result (List (Option T) × Stop) E) → IfOk r (λ answer. answer.0 ≡ replicate (length a) None) → IfOk r (λ answer. answer.1 ≡ Never)
      → IfOk r (λ answer. (precision scale : ℕ) → IsDecimalKind precision w least greatest → divides op ≡ false → until (λ i. binary (func_of op) (kinds.Decimal precision scale) mode (kinds.Decimal precision scale ∷ kinds.Decimal precision scale ∷ []) (dec_of number (get_or a i None)) (dec_of number None)) (range_with_len 0 (length a)) ≡ record { values = decs number answer.0; stop = answer.1 })
  nulls-decimal (Err fault) values stop = tt
  nulls-decimal (Ok answer) values stop = λ precision scale is exact.
      until-each (λ i. binary (func_of op) (kinds.Decimal precision scale) mode (kinds.Decimal precision scale ∷ kinds.Decimal precision scale ∷ []) (dec_of number (get_or a i None)) (dec_of number None)) (dec_of number None) (length a) (λ i. sym (row-decimal precision scale w least greatest is op mode (option_map number (get_or a i None)) None exact) ∙ ap decimal_value (null_row op mode w least greatest (option_map number (get_or a i None))))
      ∙ ap₂ (λ vs s. record { values = vs; stop = s }) (sym (map-replicated (dec_of number) (length a) None) ∙ ap (decs number) (sym values)) (sym stop)

-- what a function of a result is, said otherwise
pub renamed : {X Y E : Type 0} (g : X → Y) (y y' : Y) (r : Result X E) → IfOk r (λ found. g found ≡ y) → y ≡ y' → IfOk r (λ found. g found ≡ y')
renamed g y y' (Ok found) is e = is ∙ e
renamed g y y' (Err fault) is e = tt
