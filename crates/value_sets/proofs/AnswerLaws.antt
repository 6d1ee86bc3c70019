-- What is said of a value by constant options, tried one after the other.
use Rattle.std.proofs.Common.{◌≡◌, ◌∙◌, List, [], ◌∷◌, Bool, true, false, not, ◌||◌, ◌&&◌, Ok, map, refl, sym, ap, ap₂, if◌then◌else◌}
use Rattle.std.specs.List.{list_any, AllZip}
use Rattle.std.specs.Ordering.{is_eq}
use Rattle.sub_types.specs.ResultSteps.{◌>>=◌}
use Rattle.sub_types.specs.declared.value.Value.{Value}
use Rattle.sub_types.specs.declared.value.Value.TheVariants as values
use Rattle.plan_typed.specs.declared.expr.Expr.{Expr}
use Rattle.plan_denote.specs.Computed.{Row, Computed, is_null}
use Rattle.plan_denote.specs.Eval.{eval}
use Rattle.plan_denote.specs.Logic.{one_of, or_of, compared, three_valued, is_truth}
use Rattle.plan_denote.specs.Order.{is_same}
use Rattle.plan_denote.proofs.EvalLaws.{eval-Const}
use Rattle.value_sets.specs.declared.set.ValueSet.{ValueSet}
use Rattle.value_sets.specs.Sets.{has, answer_by, IsConstant, IsSetOf}

-- an option is equal, or one of the two values is null
abbrev hits : Value → Value → Bool
hits value option = not (is_null value || is_null option) && is_same value option

abbrev lacks : Value → Value → Bool
lacks value option = is_null value || is_null option

abbrev word : Bool → Bool → Value
word hit lack = if hit then values.Bool true else if lack then values.Null else values.Bool false

abbrev tried : Value → Value → Computed
tried value option = Ok option >>= (λ other. compared is_eq value other)

abbrev after : Computed → Computed → Computed
after test rest = test >>= (λ value. if is_truth true value then Ok (values.Bool true) else (rest >>= (λ one. Ok (three_valued true value one))))

one_more : (lack same hit_rest lack_rest : Bool) → ◌≡◌ {A = Computed} (after (if lack then Ok values.Null else Ok (values.Bool same)) (Ok (word hit_rest lack_rest))) (Ok (word ((not lack && same) || hit_rest) (lack || lack_rest)))
one_more true same true lack_rest = refl
one_more true same false true = refl
one_more true same false false = refl
one_more false true hit_rest lack_rest = refl
one_more false false true lack_rest = refl
one_more false false false true = refl
one_more false false false false = refl

pub one_by_one : (value : Value) (options : List Value) → or_of (map (tried value) options) ≡ Ok (word (list_any (hits value) options) (list_any (lacks value) options))
one_by_one value [] = refl
one_by_one value (option ∷ options) =
    ap (after (compared is_eq value option)) (one_by_one value options)
    ∙ one_more (lacks value option) (is_same value option) (list_any (hits value) options) (list_any (lacks value) options)

-- a null equals nothing
null_same : (option : Value) → is_same values.Null option ≡ is_null option
null_same values.Null = refl
null_same (values.Bool true) = refl
null_same (values.Bool false) = refl
null_same (values.Int n) = refl
null_same (values.Dec n) = refl
null_same (values.Bytes bytes) = refl

any_same : {A : Type 0} (p q : A → Bool) → ((x : A) → p x ≡ q x) → (xs : List A) → list_any p xs ≡ list_any q xs
any_same p q same [] = refl
any_same p q same (x ∷ xs) = ap₂ (λ a b. a || b) (same x) (any_same p q same xs)

hit_there : (value option : Value) → is_null value ≡ false → hits value option ≡ is_same value option
hit_there value (values.Bool b) there = ap (λ lack. not (lack || false) && is_same value (values.Bool b)) there
hit_there value (values.Int n) there = ap (λ lack. not (lack || false) && is_same value (values.Int n)) there
hit_there value (values.Dec n) there = ap (λ lack. not (lack || false) && is_same value (values.Dec n)) there
hit_there value (values.Bytes bytes) there = ap (λ lack. not (lack || false) && is_same value (values.Bytes bytes)) there
hit_there values.Null values.Null there = absurd (cc)
hit_there (values.Bool true) values.Null there = refl
hit_there (values.Bool false) values.Null there = refl
hit_there (values.Int n) values.Null there = refl
hit_there (values.Dec n) values.Null there = refl
hit_there (values.Bytes bytes) values.Null there = refl

-- null equals no option, and each is missing beside it
no_hits : (options : List Value) → list_any (hits values.Null) options ≡ false
no_hits [] = refl
no_hits (option ∷ options) = no_hits options

by_null : (value : Value) (null : Bool) → is_null value ≡ null → (first : Value) (rest : List Value)
    → word (list_any (hits value) (first ∷ rest)) (list_any (lacks value) (first ∷ rest)) ≡ answer_by (λ one. list_any (is_same one) (first ∷ rest)) value
by_null value false there first rest =
    let options = first ∷ rest in
    let hit : list_any (hits value) options ≡ list_any (is_same value) options = any_same (hits value) (is_same value) (λ option. hit_there value option there) options in
    let lack : list_any (lacks value) options ≡ list_any (is_same values.Null) options = any_same (lacks value) (is_same values.Null) (λ option. ap (λ null. null || is_null option) there ∙ sym (null_same option)) options in
    ap₂ word hit lack ∙ sym (ap (λ null. if null then values.Null else word (list_any (is_same value) options) (list_any (is_same values.Null) options)) there)
by_null values.Null true there first rest = ap (λ hit. word hit true) (no_hits (first ∷ rest))
by_null (values.Bool b) true there first rest = absurd (cc)
by_null (values.Int n) true there first rest = absurd (cc)
by_null (values.Dec n) true there first rest = absurd (cc)
by_null (values.Bytes bytes) true there first rest = absurd (cc)

constants_worth : (row : Row) (options : List Expr) (worth : List Value) → AllZip IsConstant options worth → map (λ option. eval option row) options ≡ map (λ (value : Value). Ok value) worth
constants_worth row [] [] are = refl
constants_worth row [] (value ∷ worth) are = absurd are
constants_worth row (option ∷ options) [] are = absurd are
constants_worth row (option ∷ options) (value ∷ worth) are =
    ap₂ (λ (x : Computed) xs. x ∷ xs) (ap (λ one. eval one row) are.0.1 ∙ eval-Const value are.0.0 row) (constants_worth row options worth are.1)

each_tried : (value : Value) (options : List Value) → map (λ option. option >>= (λ other. compared is_eq value other)) (map (λ (one : Value). Ok one) options) ≡ map (tried value) options
each_tried value [] = refl
each_tried value (option ∷ options) = ap (λ rest. tried value option ∷ rest) (each_tried value options)

by_values : (among : Value → Bool) (value : Value) (worth : List Value) (first : Expr) (rest : List Expr) → AllZip IsConstant (first ∷ rest) worth → ((one : Value) → among one ≡ list_any (is_same one) worth)
    → ◌≡◌ {A = Computed} (Ok (word (list_any (hits value) worth) (list_any (lacks value) worth))) (Ok (answer_by among value))
by_values among value [] first rest are is = absurd are
by_values among value (one ∷ worth) first rest are is =
    ap (λ (answer : Value). Ok answer) (by_null value (is_null value) refl one worth
    ∙ ap₂ (λ there null. if is_null value then values.Null else word there null) (sym (is value)) (sym (is values.Null)))

pub set_answers : (set : ValueSet) (first : Expr) (rest : List Expr) → IsSetOf set (first ∷ rest) → (value : Value) (row : Row) → one_of value (map (λ option. eval option row) (first ∷ rest)) ≡ Ok (answer_by (has set) value)
set_answers set first rest of value row =
    ap (one_of value) (constants_worth row (first ∷ rest) of.values of.constants)
    ∙ ap or_of (each_tried value of.values)
    ∙ one_by_one value of.values
    ∙ by_values (has set) value of.values first rest of.constants of.has
