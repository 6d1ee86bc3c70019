-- Expressions pass the test of equal expressions exactly where they are equal.
use Rattle.std.proofs.Common.{◌≡◌, ◌∙◌, sym, ap, refl, subst, Bool, true, false, List, [], ◌∷◌, map, get_or, ◌&&◌, ◌==◌}
use Rattle.std.specs.Cmp.Lexicographic.{pointwise}
use Rattle.std.specs.Cmp.Derive.{both_true}
use Rattle.std.proofs.lemmas.Bool.{and_parts, eqb-true, eq-eqb}
use Rattle.std.proofs.lemmas.Bool.Decides.{Decides-int_eq}
use Rattle.std.proofs.lemmas.Slice.Eq.{bytes_eq-Decides}
use Rattle.sub_types.specs.declared.kind.Ty.{Ty}
use Rattle.sub_types.specs.declared.value.Value.{Value}
use Rattle.sub_types.specs.declared.value.Value.TheVariants as values
use Rattle.plan_typed.specs.declared.expr.Func.{Func}
use Rattle.plan_typed.specs.declared.expr.Func.TheVariants as funcs
use Rattle.plan_typed.specs.declared.expr.Overflow.{Overflow}
use Rattle.plan_typed.specs.declared.expr.Overflow.TheVariants as modes
use Rattle.plan_typed.specs.declared.expr.Expr.{Expr, Expr-F, out-Expr, roll-Expr, map-Expr, roll-out-Expr}
use Rattle.plan_typed.specs.declared.expr.Expr.TheFolds.{ind-Expr}
use Rattle.func_table.specs.Kinds.{is_equal}
use Rattle.func_table.proofs.KindLaws.{equal_kinds, is_equal-same}
use Rattle.plan_verdict.specs.Same.{same_expr, same_level, same_ty, same_value, same_bool, func_number, mode_number, arm_same, choice_same}
use Rattle.plan_rules.proofs.ListLaws.{pointwise-map_left}
use Rattle.plan_rules.proofs.SameLaws.{same_at}

and_three : (a b c : Bool) → (a && b && c) ≡ true → (a ≡ true) × (b ≡ true) × (c ≡ true)
and_three a b c h = let first = and_parts (a && b) c h in let second = and_parts a b first.0 in (second.0, second.1, first.1)

and_four : (a b c d : Bool) → (a && b && c && d) ≡ true → (a ≡ true) × (b ≡ true) × (c ≡ true) × (d ≡ true)
and_four a b c d h = let first = and_parts (a && b && c) d h in let rest = and_three a b c first.0 in (rest.0, rest.1, rest.2, first.1)

bools : (a b : Bool) → same_bool a b ≡ true → a ≡ b
bools true true h = refl
bools true false h = absurd (cc)
bools false true h = absurd (cc)
bools false false h = refl

bool_own : (a : Bool) → same_bool a a ≡ true
bool_own true = refl
bool_own false = refl

types : (a b : Ty) → same_ty a b ≡ true → a ≡ b
types a b h =
    let parts = and_parts (is_equal a.kind b.kind) (same_bool a.nullable b.nullable) h in
    let kinds : a.kind ≡ b.kind = equal_kinds a.kind b.kind parts.0 in
    let nulls : a.nullable ≡ b.nullable = bools a.nullable b.nullable parts.1 in
    λ i. record { kind = kinds i; nullable = nulls i }

type_own : (a : Ty) → same_ty a a ≡ true
type_own a = both_true (is_equal-same a.kind) (bool_own a.nullable)

constants : (a b : Value) → same_value a b ≡ true → a ≡ b
constants values.Null values.Null h = refl
constants (values.Bool a) (values.Bool b) h = ap values.Bool (bools a b h)
constants (values.Int a) (values.Int b) h = ap values.Int ((Decides-int_eq a b).0 h)
constants (values.Dec a) (values.Dec b) h = ap values.Dec ((Decides-int_eq a b).0 h)
constants (values.Bytes a) (values.Bytes b) h = ap values.Bytes ((bytes_eq-Decides a b).0 h)
constants _ _ h = absurd (cc)

constant_own : (a : Value) → same_value a a ≡ true
constant_own values.Null = refl
constant_own (values.Bool a) = bool_own a
constant_own (values.Int a) = (Decides-int_eq a a).1 refl
constant_own (values.Dec a) = (Decides-int_eq a a).1 refl
constant_own (values.Bytes a) = (bytes_eq-Decides a a).1 refl

-- the functions by their numbers
abbrev all_funcs : List Func
all_funcs = funcs.And ∷ funcs.Or ∷ funcs.Not ∷ funcs.Xor ∷ funcs.Equal ∷ funcs.NotEqual ∷ funcs.Lt ∷ funcs.Lte ∷ funcs.Gt ∷ funcs.Gte ∷ funcs.Between ∷ funcs.IsNull ∷ funcs.IsNotNull ∷ funcs.IsNotDistinctFrom ∷ funcs.Coalesce ∷ funcs.Nullif ∷ funcs.Add ∷ funcs.Subtract ∷ funcs.Multiply ∷ funcs.Divide ∷ funcs.Modulus ∷ funcs.Negate ∷ funcs.Abs ∷ funcs.Sum ∷ funcs.Avg ∷ funcs.Min ∷ funcs.Max ∷ funcs.Concat ∷ funcs.Substring ∷ funcs.StartsWith ∷ funcs.EndsWith ∷ funcs.Contains ∷ funcs.Like ∷ funcs.CharLength ∷ funcs.OctetLength ∷ funcs.Count ∷ []

numbered : (func : Func) → get_or all_funcs (func_number func) funcs.And ≡ func
numbered funcs.And = refl
numbered funcs.Or = refl
numbered funcs.Not = refl
numbered funcs.Xor = refl
numbered funcs.Equal = refl
numbered funcs.NotEqual = refl
numbered funcs.Lt = refl
numbered funcs.Lte = refl
numbered funcs.Gt = refl
numbered funcs.Gte = refl
numbered funcs.Between = refl
numbered funcs.IsNull = refl
numbered funcs.IsNotNull = refl
numbered funcs.IsNotDistinctFrom = refl
numbered funcs.Coalesce = refl
numbered funcs.Nullif = refl
numbered funcs.Add = refl
numbered funcs.Subtract = refl
numbered funcs.Multiply = refl
numbered funcs.Divide = refl
numbered funcs.Modulus = refl
numbered funcs.Negate = refl
numbered funcs.Abs = refl
numbered funcs.Sum = refl
numbered funcs.Avg = refl
numbered funcs.Min = refl
numbered funcs.Max = refl
numbered funcs.Concat = refl
numbered funcs.Substring = refl
numbered funcs.StartsWith = refl
numbered funcs.EndsWith = refl
numbered funcs.Contains = refl
numbered funcs.Like = refl
numbered funcs.CharLength = refl
numbered funcs.OctetLength = refl
numbered funcs.Count = refl

functions : (a b : Func) → (func_number a == func_number b) ≡ true → a ≡ b
functions a b h = sym (numbered a) ∙ ap (λ n. get_or all_funcs n funcs.And) (eqb-true (func_number a) (func_number b) h) ∙ numbered b

abbrev all_modes : List Overflow
all_modes = modes.Error ∷ modes.Saturate ∷ modes.Silent ∷ []

mode_numbered : (mode : Overflow) → get_or all_modes (mode_number mode) modes.Error ≡ mode
mode_numbered modes.Error = refl
mode_numbered modes.Saturate = refl
mode_numbered modes.Silent = refl

overflows : (a b : Overflow) → (mode_number a == mode_number b) ≡ true → a ≡ b
overflows a b h = sym (mode_numbered a) ∙ ap (λ n. get_or all_modes n modes.Error) (eqb-true (mode_number a) (mode_number b) h) ∙ mode_numbered b

-- an expression of which it is known
abbrev IsTold : Expr → Type 0
IsTold a = ((b : Expr) → same_expr a b ≡ true → a ≡ b) × (same_expr a a ≡ true)

abbrev Told : Type 0
Told = (a : Expr) × IsTold a

abbrev expr_of : Told → Expr
expr_of a = a.0

abbrev arm_test : Expr × Expr → Expr × Expr → Bool
arm_test arm other = same_expr arm.0 other.0 && same_expr arm.1 other.1

abbrev arm_of : Told × Told → Expr × Expr
arm_of arm = (arm.0.0, arm.1.0)

abbrev choice_test : Value × Expr → Value × Expr → Bool
choice_test choice other = same_value choice.0 other.0 && same_expr choice.1 other.1

abbrev choice_of : Value × Told → Value × Expr
choice_of choice = (choice.0, choice.1.0)

lists : {X Y : Type 0} (p : Y → Y → Bool) (f : X → Y) → ((x : X) (y : Y) → p (f x) y ≡ true → f x ≡ y) → (xs : List X) (ys : List Y) → pointwise p (map f xs) ys ≡ true → map f xs ≡ ys
lists p f each [] [] h = refl
lists p f each [] (y ∷ ys) h = absurd (cc)
lists p f each (x ∷ xs) [] h = absurd (cc)
lists p f each (x ∷ xs) (y ∷ ys) h =
    let parts = and_parts (p (f x) y) (pointwise p (map f xs) ys) h in
    let first = each x y parts.0 in
    let rest = lists p f each xs ys parts.1 in
    λ i. first i ∷ rest i

list_own : {X Y : Type 0} (p : Y → Y → Bool) (f : X → Y) → ((x : X) → p (f x) (f x) ≡ true) → (xs : List X) → pointwise p (map f xs) (map f xs) ≡ true
list_own p f each [] = refl
list_own p f each (x ∷ xs) = both_true (each x) (list_own p f each xs)

exprs : (all : List Told) (others : List Expr) → pointwise (λ (test : Expr → Bool) expr. test expr) (map same_expr (map expr_of all)) others ≡ true → map expr_of all ≡ others
exprs all others h = lists same_expr expr_of (λ x y. x.1.0 y) all others (sym (pointwise-map_left (λ (test : Expr → Bool) expr. test expr) same_expr (map expr_of all) others) ∙ h)

exprs_own : (all : List Told) → pointwise (λ (test : Expr → Bool) expr. test expr) (map same_expr (map expr_of all)) (map expr_of all) ≡ true
exprs_own all = pointwise-map_left (λ (test : Expr → Bool) expr. test expr) same_expr (map expr_of all) (map expr_of all) ∙ list_own same_expr expr_of (λ x. x.1.1) all

one_arm : (x : Told × Told) (y : Expr × Expr) → arm_test (arm_of x) y ≡ true → arm_of x ≡ y
one_arm x y h =
    let parts = and_parts (same_expr x.0.0 y.0) (same_expr x.1.0 y.1) h in
    let first = x.0.1.0 y.0 parts.0 in
    let second = x.1.1.0 y.1 parts.1 in
    λ i. (first i, second i)

one_choice : (x : Value × Told) (y : Value × Expr) → choice_test (choice_of x) y ≡ true → choice_of x ≡ y
one_choice x y h =
    let parts = and_parts (same_value x.0 y.0) (same_expr x.1.0 y.1) h in
    let first = constants x.0 y.0 parts.0 in
    let second = x.1.1.0 y.1 parts.1 in
    λ i. (first i, second i)

abbrev tests_of_arm : Expr × Expr → (Expr → Bool) × (Expr → Bool)
tests_of_arm arm = (same_expr arm.0, same_expr arm.1)

abbrev tests_of_choice : Value × Expr → Value × (Expr → Bool)
tests_of_choice choice = (choice.0, same_expr choice.1)

arms_told : (all : List (Told × Told)) (others : List (Expr × Expr)) → pointwise arm_same (map tests_of_arm (map arm_of all)) others ≡ true → map arm_of all ≡ others
arms_told all others h = lists arm_test arm_of one_arm all others (sym (pointwise-map_left arm_same tests_of_arm (map arm_of all) others) ∙ h)

arms_own : (all : List (Told × Told)) → pointwise arm_same (map tests_of_arm (map arm_of all)) (map arm_of all) ≡ true
arms_own all = pointwise-map_left arm_same tests_of_arm (map arm_of all) (map arm_of all) ∙ list_own arm_test arm_of (λ x. both_true x.0.1.1 x.1.1.1) all

choices_told : (all : List (Value × Told)) (others : List (Value × Expr)) → pointwise choice_same (map tests_of_choice (map choice_of all)) others ≡ true → map choice_of all ≡ others
choices_told all others h = lists choice_test choice_of one_choice all others (sym (pointwise-map_left choice_same tests_of_choice (map choice_of all) others) ∙ h)

choices_own : (all : List (Value × Told)) → pointwise choice_same (map tests_of_choice (map choice_of all)) (map choice_of all) ≡ true
choices_own all = pointwise-map_left choice_same tests_of_choice (map choice_of all) (map choice_of all) ∙ list_own choice_test choice_of (λ x. both_true (constant_own x.0) x.1.1.1) all

abbrev level_of : Expr-F Told → Expr-F Expr
level_of level = map-Expr Told Expr expr_of level

abbrev test_of : Expr-F Told → Expr-F Expr → Bool
test_of level = same_level (map-Expr Expr (Expr → Bool) same_expr (level_of level))

levels : (a : Expr-F Told) (b : Expr-F Expr) → test_of a b ≡ true → level_of a ≡ b
levels (Expr-F.Const value ty) (Expr-F.Const other other_ty) h =
    let parts = and_parts (same_value value other) (same_ty ty other_ty) h in
    let same = constants value other parts.0 in let tys = types ty other_ty parts.1 in λ i. Expr-F.Const (same i) (tys i)
levels (Expr-F.Column index ty) (Expr-F.Column other other_ty) h =
    let parts = and_parts (index == other) (same_ty ty other_ty) h in
    let same = eqb-true index other parts.0 in let tys = types ty other_ty parts.1 in λ i. Expr-F.Column (same i) (tys i)
levels (Expr-F.Call func mode args ty) (Expr-F.Call other other_mode others other_ty) h =
    let parts = and_four (func_number func == func_number other) (mode_number mode == mode_number other_mode) (pointwise (λ (test : Expr → Bool) expr. test expr) (map same_expr (map expr_of args)) others) (same_ty ty other_ty) h in
    let same = functions func other parts.0 in let modes_same = overflows mode other_mode parts.1 in let all = exprs args others parts.2 in let tys = types ty other_ty parts.3 in
    λ i. Expr-F.Call (same i) (modes_same i) (all i) (tys i)
levels (Expr-F.If arms otherwise ty) (Expr-F.If other_arms other other_ty) h =
    let parts = and_three (pointwise arm_same (map tests_of_arm (map arm_of arms)) other_arms) (same_expr otherwise.0 other) (same_ty ty other_ty) h in
    let all = arms_told arms other_arms parts.0 in let last = otherwise.1.0 other parts.1 in let tys = types ty other_ty parts.2 in
    λ i. Expr-F.If (all i) (last i) (tys i)
levels (Expr-F.Switch subject arms otherwise ty) (Expr-F.Switch other_subject other_arms other other_ty) h =
    let parts = and_four (same_expr subject.0 other_subject) (pointwise choice_same (map tests_of_choice (map choice_of arms)) other_arms) (same_expr otherwise.0 other) (same_ty ty other_ty) h in
    let first = subject.1.0 other_subject parts.0 in let all = choices_told arms other_arms parts.1 in let last = otherwise.1.0 other parts.2 in let tys = types ty other_ty parts.3 in
    λ i. Expr-F.Switch (first i) (all i) (last i) (tys i)
levels (Expr-F.OneOf value options ty) (Expr-F.OneOf other others other_ty) h =
    let parts = and_three (same_expr value.0 other) (pointwise (λ (test : Expr → Bool) expr. test expr) (map same_expr (map expr_of options)) others) (same_ty ty other_ty) h in
    let first = value.1.0 other parts.0 in let all = exprs options others parts.1 in let tys = types ty other_ty parts.2 in
    λ i. Expr-F.OneOf (first i) (all i) (tys i)
levels (Expr-F.Cast input null ty) (Expr-F.Cast other other_null other_ty) h =
    let parts = and_three (same_expr input.0 other) (same_bool null other_null) (same_ty ty other_ty) h in
    let first = input.1.0 other parts.0 in let nulls = bools null other_null parts.1 in let tys = types ty other_ty parts.2 in
    λ i. Expr-F.Cast (first i) (nulls i) (tys i)
levels _ _ h = absurd (cc)

level_own : (a : Expr-F Told) → test_of a (level_of a) ≡ true
level_own (Expr-F.Const value ty) = both_true (constant_own value) (type_own ty)
level_own (Expr-F.Column index ty) = both_true (eq-eqb index index refl) (type_own ty)
level_own (Expr-F.Call func mode args ty) = both_true (both_true (both_true (eq-eqb (func_number func) (func_number func) refl) (eq-eqb (mode_number mode) (mode_number mode) refl)) (exprs_own args)) (type_own ty)
level_own (Expr-F.If arms otherwise ty) = both_true (both_true (arms_own arms) otherwise.1.1) (type_own ty)
level_own (Expr-F.Switch subject arms otherwise ty) = both_true (both_true (both_true subject.1.1 (choices_own arms)) otherwise.1.1) (type_own ty)
level_own (Expr-F.OneOf value options ty) = both_true (both_true value.1.1 (exprs_own options)) (type_own ty)
level_own (Expr-F.Cast input null ty) = both_true (both_true input.1.1 (bool_own null)) (type_own ty)

told : (a : Expr-F Told) → IsTold (roll-Expr (level_of a))
told a = (
  λ b h. ap roll-Expr (levels a (out-Expr b) (sym (same_at (roll-Expr (level_of a)) b (level_of a) (out-Expr b) refl (roll-out-Expr b)) ∙ h)) ∙ roll-out-Expr b,
  same_at (roll-Expr (level_of a)) (roll-Expr (level_of a)) (level_of a) (level_of a) refl refl ∙ level_own a,
)

pub is_told : (a : Expr) → IsTold a
is_told = ind-Expr IsTold (λ x y is. subst (λ (level : Expr-F Expr). IsTold (roll-Expr level)) is (told y))
