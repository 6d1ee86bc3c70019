-- A function of whole columns, over the columns of which their first places are meant.
use Rattle.std.proofs.Common.{◌≡◌, ◌∙◌, ℕ, ◌<◌, ◌≤◌, List, [], ◌∷◌, length, map, take, get_or, replicate, Option, Some, None, Result, Ok, Err, IfOk, IfSome, sym, ap, ap₂, subst, arith}
use Rattle.std.proofs.lemmas.List.{get_or-take, length-take, length-take-le, length-replicate, take_all, take-replicate}
use Rattle.sub_types.specs.Rows.{across}
use Rattle.sub_types.specs.declared.kind.Kind.{Kind}
use Rattle.plan_typed.specs.declared.expr.Func.{Func}
use Rattle.plan_typed.specs.declared.expr.Overflow.{Overflow}
use Rattle.plan_denote.specs.Calls.{applied}
use Rattle.batch_nodes.specs.Found.{found_values}
use Rattle.batch_nodes.specs.declared.found.Found.{Found}
use Rattle.sub_types.specs.declared.kind.Ty.{Ty}
use Rattle.sub_types.specs.declared.value.Value.{Value}
use Rattle.sub_types.specs.declared.value.Value.TheVariants.{Null}
use Rattle.plan_denote.specs.Computed.{Computed}
use Rattle.batch.specs.declared.column.Column.{Column}
use Rattle.kernels.specs.declared.selection.Stop.{Stop}
use Rattle.kernels.specs.Until.{Until}
use Rattle.kernels.proofs.ConstantLaws.{until-below}
use Rattle.call_kernels.proofs.MadeLaws.{made_same, made_below_if}
use Rattle.call_kernels.specs.Operand.{values}
use Rattle.call_kernels.specs.declared.operand.Operand.{Operand}
use Rattle.call_kernels.specs.Made.{IsMade, at_places, at_three, applied_one, applied_two, applied_three}

-- two lists with the same values at the first so many places
module _ (f : Value → Value → Computed) (n : ℕ) (a b first second : List Value) (a_is : first ≡ take n a) (b_is : second ≡ take n b) where
  pub same_place : (i : ℕ) → i < n → at_places f first second i ≡ at_places f a b i
  same_place i below = ap₂ f (ap (λ xs. get_or xs i Null) a_is ∙ get_or-take n a i Null below) (ap (λ xs. get_or xs i Null) b_is ∙ get_or-take n b i Null below)

  pub made_first : (ty : Ty) (column : Column) (stop : Stop) → IsMade (at_places f first second) n ty column stop → IsMade (at_places f a b) n ty column stop
  made_first ty column stop made =
      let both = until-below (at_places f first second) (at_places f a b) n same_place in
      record {
        values = made.values ∙ ap (λ (one : Until Value). one.values) both;
        stop_is = made.stop_is ∙ ap (λ (one : Until Value). one.stop) both;
        ty_is = made.ty_is;
      }

  pub kinds_first : (P : Value → Type 0) → ((i : ℕ) → i < n → IfOk (at_places f a b i) P) → (i : ℕ) → i < n → IfOk (at_places f first second i) P
  kinds_first P holds i below = subst (λ found. IfOk found P) (sym (same_place i below)) (holds i below)

  -- the same of what may not be made
  pub made_first_if : {E : Type 0} (ty : Ty) (r : Result (Option (Column × Stop)) E) → IfOk r (λ found. IfSome found (λ out. IsMade (at_places f first second) n ty out.0 out.1))
      → IfOk r (λ found. IfSome found (λ out. IsMade (at_places f a b) n ty out.0 out.1))
  made_first_if ty (Ok (Some out)) made = made_first ty out.0 out.1 made
  made_first_if ty (Ok None) made = tt
  made_first_if ty (Err fault) made = tt

-- ---- what is lent of an argument

-- a column of exactly so many values is the first so many of the first of its values
pub whole_is_first : (all : List Value) (n m : ℕ) → length all ≡ n → n ≤ length (take m all) → all ≡ take n (take m all)
whole_is_first all n m long there =
    let most : length all ≤ m = omega (arith, length-take m all) in
    sym (take_all n all (omega (arith, long))) ∙ ap (take n) (sym (take_all m all most))

pub constant_is_first : (value : Value) (n m : ℕ) → n ≤ length (replicate m value) → replicate n value ≡ take n (replicate m value)
constant_is_first value n m there = sym (take-replicate n m value (omega (arith, length-replicate m value)))

-- as many as are asked for
pub first_long : (n : ℕ) (all values : List Value) → values ≡ take n all → n ≤ length all → length values ≡ n
first_long n all values is there = ap length is ∙ length-take-le n all there

-- ---- one argument, and two

pub list_of_one : {X : Type 0} (xs : List X) (a : X) → length xs ≡ 1 → a ≡ get_or xs 0 a → xs ≡ a ∷ []
list_of_one [] a long is = absurd (omega (arith, long))
list_of_one (x ∷ []) a long is = ap (λ y. y ∷ []) (sym is)
list_of_one (x ∷ y ∷ xs) a long is = absurd (omega (arith, long))

pub list_of_two : {X : Type 0} (xs : List X) (a b : X) → length xs ≡ 2 → a ≡ get_or xs 0 a → b ≡ get_or xs 1 b → xs ≡ a ∷ b ∷ []
list_of_two [] a b long a_is b_is = absurd (omega (arith, long))
list_of_two (x ∷ []) a b long a_is b_is = absurd (omega (arith, long))
list_of_two (x ∷ y ∷ []) a b long a_is b_is = ap₂ (λ x y. x ∷ y ∷ []) (sym a_is) (sym b_is)
list_of_two (x ∷ y ∷ z ∷ xs) a b long a_is b_is = absurd (omega (arith, long))

module _ (func : Func) (kind : Kind) (mode : Overflow) (given : List Kind) (columns : List Found) where
  abbrev pub at_place : ℕ → Computed
  at_place i = applied func kind mode given (across Null (map found_values columns) i)

  pub one_at : (a : Found) → columns ≡ a ∷ [] → (i : ℕ) → at_places (applied_one func kind mode given) (found_values a) (found_values a) i ≡ at_place i
  one_at a is i = ap (λ columns. applied func kind mode given (across Null (map found_values columns) i)) (sym is)

  pub two_at : (a b : Found) → columns ≡ a ∷ b ∷ [] → (i : ℕ) → at_places (applied_two func kind mode given) (found_values a) (found_values b) i ≡ at_place i
  two_at a b is i = ap (λ columns. applied func kind mode given (across Null (map found_values columns) i)) (sym is)

-- what is made, of a function that is the same at each place
pub made_at : {E : Type 0} (f g : ℕ → Computed) (n : ℕ) (ty : Ty) (r : Result (Option (Column × Stop)) E) → ((i : ℕ) → f i ≡ g i) → IfOk r (λ found. IfSome found (λ out. IsMade f n ty out.0 out.1))
    → IfOk r (λ found. IfSome found (λ out. IsMade g n ty out.0 out.1))
made_at f g n ty (Ok (Some out)) same made = made_same f g n ty out.0 out.1 same made
made_at f g n ty (Ok None) same made = tt
made_at f g n ty (Err fault) same made = tt

pub made_first_each : {E : Type 0} (g : Overflow → List Kind → Value → Value → Computed) (n : ℕ) (all firsts : List Value) (ty : Ty) (r : Result (Option (Column × Stop)) E) → firsts ≡ take n all
    → IfOk r (λ found. IfSome found (λ out. (mode : Overflow) (given : List Kind) → IsMade (at_places (g mode given) firsts firsts) n ty out.0 out.1))
    → IfOk r (λ found. IfSome found (λ out. (mode : Overflow) (given : List Kind) → IsMade (at_places (g mode given) all all) n ty out.0 out.1))
made_first_each g n all firsts ty (Ok (Some out)) is made = λ mode given. made_first (g mode given) n all all firsts firsts is is ty out.0 out.1 (made mode given)
made_first_each g n all firsts ty (Ok None) is made = tt
made_first_each g n all firsts ty (Err fault) is made = tt

-- the same for one mode, and of a function that is the same at each place
pub made_one : {E : Type 0} (f : Overflow → List Kind → ℕ → Computed) (g : ℕ → Computed) (mode : Overflow) (given : List Kind) (n : ℕ) (ty : Ty) (r : Result (Option (Column × Stop)) E) → ((i : ℕ) → f mode given i ≡ g i)
    → IfOk r (λ found. IfSome found (λ out. (mode : Overflow) (given : List Kind) → IsMade (f mode given) n ty out.0 out.1)) → IfOk r (λ found. IfSome found (λ out. IsMade g n ty out.0 out.1))
made_one f g mode given n ty (Ok (Some out)) same made = made_same (f mode given) g n ty out.0 out.1 same (made mode given)
made_one f g mode given n ty (Ok None) same made = tt
made_one f g mode given n ty (Err fault) same made = tt

-- a column of so many values, lent
pub whole_made : (r : Option Operand) (all : List Value) (n : ℕ) → IfSome r (λ operand. (length all ≡ n) × (values n operand ≡ all)) → IfSome r (λ operand. values n operand ≡ take n all)
whole_made (Some operand) all n is = is.1 ∙ sym (take_all n all (omega (arith, is.0)))
whole_made None all n is = tt

pub whole_lent : (r : Option Operand) (all : List Value) (n m : ℕ) → n ≤ length (take m all) → IfSome r (λ operand. (length all ≡ n) × (values n operand ≡ all)) → IfSome r (λ operand. values n operand ≡ take n (take m all))
whole_lent (Some operand) all n m there is = is.1 ∙ whole_is_first all n m is.0 there
whole_lent None all n m there is = tt

-- ---- three arguments

pub list_of_three : {X : Type 0} (xs : List X) (a b c : X) → length xs ≡ 3 → a ≡ get_or xs 0 a → b ≡ get_or xs 1 b → c ≡ get_or xs 2 c → xs ≡ a ∷ b ∷ c ∷ []
list_of_three [] a b c long a_is b_is c_is = absurd (omega (arith, long))
list_of_three (x ∷ []) a b c long a_is b_is c_is = absurd (omega (arith, long))
list_of_three (x ∷ y ∷ []) a b c long a_is b_is c_is = absurd (omega (arith, long))
list_of_three (x ∷ y ∷ z ∷ []) a b c long a_is b_is c_is = ap₂ (λ x rest. x ∷ rest) (sym a_is) (ap₂ (λ y z. y ∷ z ∷ []) (sym b_is) (sym c_is))
list_of_three (x ∷ y ∷ z ∷ w ∷ xs) a b c long a_is b_is c_is = absurd (omega (arith, long))

pub three_at : (func : Func) (kind : Kind) (mode : Overflow) (given : List Kind) (columns : List Found) (a b c : Found) → columns ≡ a ∷ b ∷ c ∷ [] → (i : ℕ)
    → at_three (applied_three func kind mode given) (found_values a) (found_values b) (found_values c) i ≡ at_place func kind mode given columns i
three_at func kind mode given columns a b c is i = ap (λ columns. applied func kind mode given (across Null (map found_values columns) i)) (sym is)

-- three lists with the same values at the first so many places
module _ (f : Value → Value → Value → Computed) (n : ℕ) (a b c first second third : List Value) (a_is : first ≡ take n a) (b_is : second ≡ take n b) (c_is : third ≡ take n c) where
  front : (all some : List Value) → some ≡ take n all → (i : ℕ) → i < n → get_or some i Null ≡ get_or all i Null
  front all some is i below = ap (λ xs. get_or xs i Null) is ∙ get_or-take n all i Null below

  same_three : (i : ℕ) → i < n → at_three f first second third i ≡ at_three f a b c i
  same_three i below =
      ap₂ (λ (x y : Value). f x y (get_or third i Null)) (front a first a_is i below) (front b second b_is i below)
      ∙ ap (λ (z : Value). f (get_or a i Null) (get_or b i Null) z) (front c third c_is i below)

  pub kinds_first_three : (P : Value → Type 0) → ((i : ℕ) → i < n → IfOk (at_three f a b c i) P) → (i : ℕ) → i < n → IfOk (at_three f first second third i) P
  kinds_first_three P holds i below = subst (λ found. IfOk found P) (sym (same_three i below)) (holds i below)

  pub made_first_three : {E : Type 0} (ty : Ty) (r : Result (Option (Column × Stop)) E) → IfOk r (λ found. IfSome found (λ out. IsMade (at_three f first second third) n ty out.0 out.1))
      → IfOk r (λ found. IfSome found (λ out. IsMade (at_three f a b c) n ty out.0 out.1))
  made_first_three ty r made = made_below_if (at_three f first second third) (at_three f a b c) n ty r same_three made
