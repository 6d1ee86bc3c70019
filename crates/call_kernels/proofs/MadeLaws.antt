-- Values at places, and columns that were made of them.
use Rattle.std.proofs.Common.{◌≡◌, ◌∙◌, ℕ, ◌<◌, List, [], ◌∷◌, length, map, get_or, replicate, Bool, Option, Some, None, Result, Ok, Err, IfOk, IfSome, refl, sym, ap, ap₂, subst, arith}
use Rattle.std.specs.List.{range_with_len}
use Rattle.std.specs.Simd.Lanes.{zip2}
use Rattle.std.proofs.lemmas.List.{length-map, get_or-map, get_or-replicate}
use Rattle.std.proofs.lemmas.Simd.{get_or-zip2, length-zip2, map-map}
use Rattle.sub_types.specs.Nullable.{bool_value}
use Rattle.sub_types.specs.declared.kind.Kind.{Kind}
use Rattle.sub_types.specs.declared.kind.Ty.{Ty}
use Rattle.sub_types.specs.declared.value.Value.{Value}
use Rattle.sub_types.specs.declared.value.Value.TheVariants.{Null}
use Rattle.plan_typed.specs.declared.expr.Overflow.{Overflow}
use Rattle.plan_denote.specs.Calls.{binary}
use Rattle.plan_denote.specs.Computed.{Computed}
use Rattle.plan_denote.specs.Logic as logic
use Rattle.batch.specs.ColumnValues.{values_of}
use Rattle.batch.specs.declared.column.Column.{Column}
use Rattle.kernels.specs.declared.op.CompareOp.{CompareOp}
use Rattle.kernels.specs.declared.op.CompareOp.TheVariants.{Eq, Ne, Lt, Le, Gt, Ge}
use Rattle.kernels.specs.declared.selection.Stop.{Stop}
use Rattle.kernels.specs.declared.selection.Stop.TheVariants.{Never}
use Rattle.kernels.specs.Numbers.{test_of}
use Rattle.kernels.specs.Until.{Until, until}
use Rattle.kernels.proofs.AllLaws.{until-all}
use Rattle.kernels.proofs.ConstantLaws.{until-below}
use Rattle.kernels.proofs.UntilLaws.{until-same}
use Rattle.kernels.specs.declared.op.ArithOp.{ArithOp}
use Rattle.kernels.specs.declared.op.ArithOp.TheVariants.{Add, Subtract, Multiply, Divide, Modulus}
use Rattle.kernels.specs.Arith.{func_of}
use Rattle.plan_typed.specs.declared.expr.Func.{Func}
use Rattle.plan_denote.specs.Texts as texts
use Rattle.call_kernels.specs.declared.texts.TextTest.{TextTest}
use Rattle.call_kernels.specs.declared.texts.TextTest.TheVariants.{StartsWith, EndsWith, Contains, Like}
use Rattle.call_kernels.specs.Functions.{compare_func, text_func, passes}
use Rattle.call_kernels.specs.Made.{IsMade, at_places, at_three, applied_two}

-- what two lists give at all places
pub until-zipped : (f : Value → Value → Computed) (a b out : List Value) (n : ℕ) → length a ≡ n → length b ≡ n → map Ok out ≡ zip2 f a b → until (at_places f a b) (range_with_len 0 n) ≡ record { values = out; stop = Never }
until-zipped f a b out n long_a long_b is =
    let long : length out ≡ n = sym (length-map out Ok) ∙ ap length is ∙ length-zip2 f a b (long_a ∙ sym long_b) ∙ long_a in
    until-all (at_places f a b) n out Null long (λ k lt.
    sym (get_or-zip2 f a b k Null Null (Ok Null) (omega (arith, lt, long_a)) (omega (arith, lt, long_b)))
    ∙ ap (λ xs. get_or xs k (Ok Null)) (sym is)
    ∙ get_or-map Ok out k Null (Ok Null) (omega (arith, lt, long)))

pub made_truths : (f : Value → Value → Computed) (a b : List Value) (n : ℕ) (ty : Ty) (truths : List (Option Bool)) (column : Column) → length a ≡ n → length b ≡ n
    → map (λ truth. Ok (bool_value truth)) truths ≡ zip2 f a b → values_of column.values ≡ map bool_value truths → column.ty ≡ ty → IsMade (at_places f a b) n ty column Never
made_truths f a b n ty truths column long_a long_b is values_are ty_is =
    let found = until-zipped f a b (map bool_value truths) n long_a long_b (map-map Ok bool_value truths ∙ is) in
    record {
      values = values_are ∙ ap (λ (one : Until Value). one.values) (sym found);
      stop_is = ap (λ (one : Until Value). one.stop) (sym found);
      ty_is = ty_is;
    }

-- a function that gives the same
pub made_same : (f g : ℕ → Computed) (n : ℕ) (ty : Ty) (column : Column) (stop : Stop) → ((i : ℕ) → f i ≡ g i) → IsMade f n ty column stop → IsMade g n ty column stop
made_same f g n ty column stop same made =
    let both = until-same f g same (range_with_len 0 n) in
    record {
      values = made.values ∙ ap (λ (one : Until Value). one.values) both;
      stop_is = made.stop_is ∙ ap (λ (one : Until Value). one.stop) both;
      ty_is = made.ty_is;
    }

-- a function that gives the same at the first so many places
pub made_below : (f g : ℕ → Computed) (n : ℕ) (ty : Ty) (column : Column) (stop : Stop) → ((i : ℕ) → i < n → f i ≡ g i) → IsMade f n ty column stop → IsMade g n ty column stop
made_below f g n ty column stop same made =
    let both = until-below f g n same in
    record {
      values = made.values ∙ ap (λ (one : Until Value). one.values) both;
      stop_is = made.stop_is ∙ ap (λ (one : Until Value). one.stop) both;
      ty_is = made.ty_is;
    }

pub made_below_if : {E : Type 0} (f g : ℕ → Computed) (n : ℕ) (ty : Ty) (r : Result (Option (Column × Stop)) E) → ((i : ℕ) → i < n → f i ≡ g i)
    → IfOk r (λ found. IfSome found (λ out. IsMade f n ty out.0 out.1)) → IfOk r (λ found. IfSome found (λ out. IsMade g n ty out.0 out.1))
made_below_if f g n ty (Ok (Some out)) same made = made_below f g n ty out.0 out.1 same made
made_below_if f g n ty (Ok None) same made = tt
made_below_if f g n ty (Err fault) same made = tt

-- a function of values and two constants
pub made_ranged : (g : Value → Value → Value → Computed) (a : List Value) (low high : Value) (n : ℕ) (ty : Ty) (found : Option (Column × Stop))
    → IfSome found (λ out. IsMade (at_places (λ (x y : Value). g x low high) a a) n ty out.0 out.1) → IfSome found (λ out. IsMade (at_three g a (replicate n low) (replicate n high)) n ty out.0 out.1)
made_ranged g a low high n ty (Some out) made =
    made_below (at_places (λ (x y : Value). g x low high) a a) (at_three g a (replicate n low) (replicate n high)) n ty out.0 out.1
    (λ i below. ap₂ (λ (y z : Value). g (get_or a i Null) y z) (sym (get_or-replicate n i low Null below)) (sym (get_or-replicate n i high Null below))) made
made_ranged g a low high n ty None made = tt

-- the same of what may not be made
pub made_as : (f g : Value → Value → Computed) (a b : List Value) (n : ℕ) (ty : Ty) (found : Option (Column × Stop)) → ((x y : Value) → f x y ≡ g x y)
    → IfSome found (λ out. IsMade (at_places f a b) n ty out.0 out.1) → IfSome found (λ out. IsMade (at_places g a b) n ty out.0 out.1)
made_as f g a b n ty (Some out) same made = made_same (at_places f a b) (at_places g a b) n ty out.0 out.1 (λ i. same (get_or a i Null) (get_or b i Null)) made
made_as f g a b n ty None same made = tt

pub made_as_if : {E : Type 0} (f g : Value → Value → Computed) (a b : List Value) (n : ℕ) (ty : Ty) (r : Result (Option (Column × Stop)) E) → ((x y : Value) → f x y ≡ g x y)
    → IfOk r (λ found. IfSome found (λ out. IsMade (at_places f a b) n ty out.0 out.1)) → IfOk r (λ found. IfSome found (λ out. IsMade (at_places g a b) n ty out.0 out.1))
made_as_if f g a b n ty (Ok found) same made = made_as f g a b n ty found same made
made_as_if f g a b n ty (Err fault) same made = tt

-- the same for each mode and all kinds of arguments
pub made_each : (f : Value → Value → Computed) (g : Overflow → List Kind → Value → Value → Computed) (a b : List Value) (n : ℕ) (ty : Ty) (found : Option (Column × Stop)) → ((mode : Overflow) (given : List Kind) (x y : Value) → f x y ≡ g mode given x y)
    → IfSome found (λ out. IsMade (at_places f a b) n ty out.0 out.1) → IfSome found (λ out. (mode : Overflow) (given : List Kind) → IsMade (at_places (g mode given) a b) n ty out.0 out.1)
made_each f g a b n ty (Some out) same made = λ mode given. made_same (at_places f a b) (at_places (g mode given) a b) n ty out.0 out.1 (λ i. same mode given (get_or a i Null) (get_or b i Null)) made
made_each f g a b n ty None same made = tt

-- each result is of the kind that that of the other function is of
pub holds_as : (P : Value → Type 0) (f g : Value → Value → Computed) (a b : List Value) (n : ℕ) → ((x y : Value) → f x y ≡ g x y)
    → ((i : ℕ) → i < n → IfOk (at_places g a b i) P) → (i : ℕ) → i < n → IfOk (at_places f a b i) P
holds_as P f g a b n same holds i below = subst (λ found. IfOk found P) (sym (same (get_or a i Null) (get_or b i Null))) (holds i below)

-- a function of the first of two equal lists
pub zip2-same : (f : Value → Computed) (xs : List Value) → zip2 (λ a b. f a) xs xs ≡ map f xs
zip2-same f [] = refl
zip2-same f (x ∷ xs) = ap (λ rest. f x ∷ rest) (zip2-same f xs)

pub zipped_same : (found : Option (List (Option Bool))) (f : Value → Computed) (all : ℕ → List Value) (n : ℕ) → IfSome found (λ column. (n : ℕ) → map (λ truth. Ok (bool_value truth)) column ≡ map f (all n))
    → IfSome found (λ column. map (λ truth. Ok (bool_value truth)) column ≡ zip2 (λ a b. f a) (all n) (all n))
zipped_same (Some column) f all n is = is n ∙ sym (zip2-same f (all n))
zipped_same None f all n is = tt

-- ---- operations as functions of the table

pub compared_as : (op : CompareOp) (kind : Kind) (mode : Overflow) (given : List Kind) (a b : Value) → logic.compared (test_of op) a b ≡ applied_two (compare_func op) kind mode given a b
compared_as Eq kind mode given a b = refl
compared_as Ne kind mode given a b = refl
compared_as Lt kind mode given a b = refl
compared_as Le kind mode given a b = refl
compared_as Gt kind mode given a b = refl
compared_as Ge kind mode given a b = refl

pub computed_as : (op : ArithOp) (kind : Kind) (mode : Overflow) (given : List Kind) (a b : Value) → binary (func_of op) kind mode given a b ≡ applied_two (func_of op) kind mode given a b
computed_as Add kind mode given a b = refl
computed_as Subtract kind mode given a b = refl
computed_as Multiply kind mode given a b = refl
computed_as Divide kind mode given a b = refl
computed_as Modulus kind mode given a b = refl

pub tested_as : (test : TextTest) (kind : Kind) (mode : Overflow) (given : List Kind) (a b : Value) → texts.tested (passes test) a b ≡ applied_two (text_func test) kind mode given a b
tested_as StartsWith kind mode given a b = refl
tested_as EndsWith kind mode given a b = refl
tested_as Contains kind mode given a b = refl
tested_as Like kind mode given a b = refl

-- a function that is that of an operation
pub named : {K : Type 0} (of : K → Func) (func : Func) (op : K) (f : Value → Value → Computed) (kind : Kind) (mode : Overflow) (given : List Kind) → func ≡ of op
    → ((a b : Value) → f a b ≡ applied_two (of op) kind mode given a b) → (a b : Value) → f a b ≡ applied_two func kind mode given a b
named of func op f kind mode given is same a b = same a b ∙ ap (λ func. applied_two func kind mode given a b) (sym is)
