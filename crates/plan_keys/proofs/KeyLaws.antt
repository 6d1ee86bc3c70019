-- The key of an expression tells which it is, and where it ends.
use Rattle.std.proofs.Common.{◌≡◌, ◌∙◌, sym, ap, refl, subst, ℕ, ℤ, pos, Bool, true, false, List, [], ◌∷◌, ◌++◌, map, length, arith}
use Rattle.std.specs.List.{flat_map}
use Rattle.sub_types.specs.declared.kind.Kind.{Kind}
use Rattle.sub_types.specs.declared.kind.Kind.TheVariants as kinds
use Rattle.sub_types.specs.declared.kind.Ty.{Ty}
use Rattle.sub_types.specs.declared.value.Value.{Value}
use Rattle.sub_types.specs.declared.value.Value.TheVariants as values
use Rattle.plan_typed.specs.declared.expr.Func.{Func}
use Rattle.plan_typed.specs.declared.expr.Overflow.{Overflow}
use Rattle.plan_typed.specs.declared.expr.Expr.{Expr, Expr-F, out-Expr, roll-Expr, map-Expr, roll-out-Expr}
use Rattle.plan_typed.specs.declared.expr.Expr.TheFolds.{ind-Expr}
use Rattle.plan_keys.specs.Keys.{expr_key, level_key, ty_key, kind_key, value_key, call_key, list_key, arm_key, choice_key, truth_number}
use Rattle.plan_keys.proofs.PieceLaws.{heads, tails, split_two, split_three, split_four}
use Rattle.plan_keys.proofs.PackLaws.{tells_bytes, begins_otherwise}
use Rattle.plan_keys.proofs.NumberLaws.{equal_funcs, equal_modes}
use Rattle.plan_keys.proofs.KeyLevels.{key_at}

-- what begins with the key of a begins with no other's
abbrev pub Tells : {X : Type 0} → (X → List ℤ) → X → Type 0
Tells {X} key a = (b : X) (r s : List ℤ) → key a ++ r ≡ key b ++ s → (a ≡ b) × (r ≡ s)

same_numbers : {m n : ℕ} → pos m ≡ pos n → m ≡ n
same_numbers same = cc

truths : (a b : Bool) → truth_number a ≡ truth_number b → a ≡ b
truths true true same = refl
truths false false same = refl
truths true false same = absurd (cc)
truths false true same = absurd (cc)

tells_kind : (a : Kind) → Tells kind_key a
tells_kind kinds.Bool kinds.Bool r s same = (refl, tails same)
tells_kind kinds.I8 kinds.I8 r s same = (refl, tails same)
tells_kind kinds.I16 kinds.I16 r s same = (refl, tails same)
tells_kind kinds.I32 kinds.I32 r s same = (refl, tails same)
tells_kind kinds.I64 kinds.I64 r s same = (refl, tails same)
tells_kind kinds.Text kinds.Text r s same = (refl, tails same)
tells_kind kinds.Binary kinds.Binary r s same = (refl, tails same)
tells_kind kinds.Date kinds.Date r s same = (refl, tails same)
tells_kind kinds.Timestamp kinds.Timestamp r s same = (refl, tails same)
tells_kind (kinds.Decimal p q) (kinds.Decimal m n) r s same =
    let precisions = same_numbers (heads (tails same)) in let scales = same_numbers (heads (tails (tails same))) in
    (λ i. kinds.Decimal (precisions i) (scales i), tails (tails (tails same)))
tells_kind _ _ r s same = absurd (cc)

tells_ty : (a : Ty) → Tells ty_key a
tells_ty a b r s same =
    let nulls = truths a.nullable b.nullable (heads same) in
    let kinds = tells_kind a.kind b.kind r s (tails same) in
    (λ i. record { kind = kinds.0 i; nullable = nulls i }, kinds.1)

tells_value : (a : Value) → Tells value_key a
tells_value values.Null values.Null r s same = (refl, tails same)
tells_value (values.Bool a) (values.Bool b) r s same = (ap values.Bool (truths a b (heads (tails same))), tails (tails same))
tells_value (values.Int a) (values.Int b) r s same = (ap values.Int (heads (tails same)), tails (tails same))
tells_value (values.Dec a) (values.Dec b) r s same = (ap values.Dec (heads (tails same)), tails (tails same))
tells_value (values.Bytes a) (values.Bytes b) r s same = let all = tells_bytes a b r s same in (ap values.Bytes all.0, all.1)
tells_value (values.Bytes a) values.Null r s same = absurd (begins_otherwise 0 a r s (omega arith) (sym same))
tells_value (values.Bytes a) (values.Bool b) r s same = absurd (begins_otherwise 1 a r (truth_number b ∷ s) (omega arith) (sym same))
tells_value (values.Bytes a) (values.Int b) r s same = absurd (begins_otherwise 2 a r (b ∷ s) (omega arith) (sym same))
tells_value (values.Bytes a) (values.Dec b) r s same = absurd (begins_otherwise 3 a r (b ∷ s) (omega arith) (sym same))
tells_value values.Null (values.Bytes b) r s same = absurd (begins_otherwise 0 b s r (omega arith) same)
tells_value (values.Bool a) (values.Bytes b) r s same = absurd (begins_otherwise 1 b s (truth_number a ∷ r) (omega arith) same)
tells_value (values.Int a) (values.Bytes b) r s same = absurd (begins_otherwise 2 b s (a ∷ r) (omega arith) same)
tells_value (values.Dec a) (values.Bytes b) r s same = absurd (begins_otherwise 3 b s (a ∷ r) (omega arith) same)
tells_value _ _ r s same = absurd (cc)

call_parts : (func other : Func) (mode other_mode : Overflow) (r s : List ℤ) → call_key func mode ++ r ≡ call_key other other_mode ++ s → (func ≡ other) × (mode ≡ other_mode) × (r ≡ s)
call_parts func other mode other_mode r s same =
    (equal_funcs func other (same_numbers (heads same)), equal_modes mode other_mode (same_numbers (heads (tails same))), tails (tails same))

-- lists of as many things
each_told : {X Y Z : Type 0} (key : Z → List ℤ) (part : Y → Z) (of : X → Y) → ((x : X) → Tells (λ y. key (part y)) (of x)) → (xs : List X) (ys : List Y) (r s : List ℤ)
    → length (map part (map of xs)) ≡ length (map part ys) → flat_map key (map part (map of xs)) ++ r ≡ flat_map key (map part ys) ++ s → (map of xs ≡ ys) × (r ≡ s)
each_told key part of tell [] [] r s long same = (refl, same)
each_told key part of tell [] (y ∷ ys) r s long same = absurd (omega arith)
each_told key part of tell (x ∷ xs) [] r s long same = absurd (omega arith)
each_told key part of tell (x ∷ xs) (y ∷ ys) r s long same =
    let first = tell x y (flat_map key (map part (map of xs)) ++ r) (flat_map key (map part ys) ++ s)
    (split_two (key (part (of x))) (flat_map key (map part (map of xs))) r (key (part y)) (flat_map key (map part ys)) s same) in
    let rest = each_told key part of tell xs ys r s (omega arith) first.1 in
    (λ i. first.0 i ∷ rest.0 i, rest.1)

list_told : {X Y Z : Type 0} (key : Z → List ℤ) (part : Y → Z) (of : X → Y) → ((x : X) → Tells (λ y. key (part y)) (of x)) → (xs : List X) (ys : List Y) (r s : List ℤ)
    → list_key key (map part (map of xs)) ++ r ≡ list_key key (map part ys) ++ s → (map of xs ≡ ys) × (r ≡ s)
list_told key part of tell xs ys r s same = each_told key part of tell xs ys r s (same_numbers (heads same)) (tails same)

-- an expression of which it is known
abbrev Told : Type 0
Told = (a : Expr) × Tells expr_key a

abbrev expr_of : Told → Expr
expr_of a = a.0

abbrev arm_of : Told × Told → Expr × Expr
arm_of arm = (arm.0.0, arm.1.0)

abbrev choice_of : Value × Told → Value × Expr
choice_of choice = (choice.0, choice.1.0)

abbrev keys_of_arm : Expr × Expr → List ℤ × List ℤ
keys_of_arm arm = (expr_key arm.0, expr_key arm.1)

abbrev keys_of_choice : Value × Expr → Value × List ℤ
keys_of_choice choice = (choice.0, expr_key choice.1)

tells_arm : (arm : Told × Told) → Tells (λ (other : Expr × Expr). arm_key (keys_of_arm other)) (arm_of arm)
tells_arm arm other r s same =
    let first = arm.0.1 other.0 (expr_key arm.1.0 ++ r) (expr_key other.1 ++ s) (split_two (expr_key arm.0.0) (expr_key arm.1.0) r (expr_key other.0) (expr_key other.1) s same) in
    let second = arm.1.1 other.1 r s first.1 in
    (λ i. (first.0 i, second.0 i), second.1)

tells_choice : (choice : Value × Told) → Tells (λ (other : Value × Expr). choice_key (keys_of_choice other)) (choice_of choice)
tells_choice choice other r s same =
    let first = tells_value choice.0 other.0 (expr_key choice.1.0 ++ r) (expr_key other.1 ++ s) (split_two (value_key choice.0) (expr_key choice.1.0) r (value_key other.0) (expr_key other.1) s same) in
    let second = choice.1.1 other.1 r s first.1 in
    (λ i. (first.0 i, second.0 i), second.1)

abbrev args_key : List Expr → List ℤ
args_key args = list_key (λ (key : List ℤ). key) (map expr_key args)

abbrev arms_key : List (Expr × Expr) → List ℤ
arms_key arms = list_key arm_key (map keys_of_arm arms)

abbrev choices_key : List (Value × Expr) → List ℤ
choices_key arms = list_key choice_key (map keys_of_choice arms)

args_told : (args : List Told) (others : List Expr) (r s : List ℤ) → args_key (map expr_of args) ++ r ≡ args_key others ++ s → (map expr_of args ≡ others) × (r ≡ s)
args_told args others r s same = list_told (λ (key : List ℤ). key) expr_key expr_of (λ x. x.1) args others r s same

abbrev level_of : Expr-F Told → Expr-F Expr
level_of level = map-Expr Told Expr expr_of level

abbrev written : Expr-F Expr → List ℤ
written level = level_key (map-Expr Expr (List ℤ) expr_key level)

levels : (a : Expr-F Told) (b : Expr-F Expr) (r s : List ℤ) → written (level_of a) ++ r ≡ written b ++ s → (level_of a ≡ b) × (r ≡ s)
levels (Expr-F.Const value ty) (Expr-F.Const other other_ty) r s same =
    let first = tells_ty ty other_ty (value_key value ++ r) (value_key other ++ s) (split_two (ty_key ty) (value_key value) r (ty_key other_ty) (value_key other) s (tails same)) in
    let second = tells_value value other r s first.1 in
    (λ i. Expr-F.Const (second.0 i) (first.0 i), second.1)
levels (Expr-F.Column index ty) (Expr-F.Column other other_ty) r s same =
    let first = tells_ty ty other_ty (pos index ∷ r) (pos other ∷ s) (split_two (ty_key ty) (pos index ∷ []) r (ty_key other_ty) (pos other ∷ []) s (tails same)) in
    let second = same_numbers (heads first.1) in
    (λ i. Expr-F.Column (second i) (first.0 i), tails first.1)
levels (Expr-F.Call func mode args ty) (Expr-F.Call other other_mode others other_ty) r s same =
    let all = map expr_of args in
    let first = tells_ty ty other_ty (call_key func mode ++ (args_key all ++ r)) (call_key other other_mode ++ (args_key others ++ s))
    (split_three (ty_key ty) (call_key func mode) (args_key all) r (ty_key other_ty) (call_key other other_mode) (args_key others) s (tails same)) in
    let call = call_parts func other mode other_mode (args_key all ++ r) (args_key others ++ s) first.1 in
    let last = args_told args others r s call.2 in
    (λ i. Expr-F.Call (call.0 i) (call.1 i) (last.0 i) (first.0 i), last.1)
levels (Expr-F.If arms otherwise ty) (Expr-F.If other_arms other other_ty) r s same =
    let all = map arm_of arms in
    let first = tells_ty ty other_ty (arms_key all ++ (expr_key otherwise.0 ++ r)) (arms_key other_arms ++ (expr_key other ++ s))
    (split_three (ty_key ty) (arms_key all) (expr_key otherwise.0) r (ty_key other_ty) (arms_key other_arms) (expr_key other) s (tails same)) in
    let second = list_told arm_key keys_of_arm arm_of tells_arm arms other_arms (expr_key otherwise.0 ++ r) (expr_key other ++ s) first.1 in
    let last = otherwise.1 other r s second.1 in
    (λ i. Expr-F.If (second.0 i) (last.0 i) (first.0 i), last.1)
levels (Expr-F.Switch subject arms otherwise ty) (Expr-F.Switch other_subject other_arms other other_ty) r s same =
    let all = map choice_of arms in
    let first = tells_ty ty other_ty (expr_key subject.0 ++ (choices_key all ++ (expr_key otherwise.0 ++ r))) (expr_key other_subject ++ (choices_key other_arms ++ (expr_key other ++ s)))
    (split_four (ty_key ty) (expr_key subject.0) (choices_key all) (expr_key otherwise.0) r (ty_key other_ty) (expr_key other_subject) (choices_key other_arms) (expr_key other) s (tails same)) in
    let second = subject.1 other_subject (choices_key all ++ (expr_key otherwise.0 ++ r)) (choices_key other_arms ++ (expr_key other ++ s)) first.1 in
    let third = list_told choice_key keys_of_choice choice_of tells_choice arms other_arms (expr_key otherwise.0 ++ r) (expr_key other ++ s) second.1 in
    let last = otherwise.1 other r s third.1 in
    (λ i. Expr-F.Switch (second.0 i) (third.0 i) (last.0 i) (first.0 i), last.1)
levels (Expr-F.OneOf value options ty) (Expr-F.OneOf other others other_ty) r s same =
    let all = map expr_of options in
    let first = tells_ty ty other_ty (expr_key value.0 ++ (args_key all ++ r)) (expr_key other ++ (args_key others ++ s))
    (split_three (ty_key ty) (expr_key value.0) (args_key all) r (ty_key other_ty) (expr_key other) (args_key others) s (tails same)) in
    let second = value.1 other (args_key all ++ r) (args_key others ++ s) first.1 in
    let last = args_told options others r s second.1 in
    (λ i. Expr-F.OneOf (second.0 i) (last.0 i) (first.0 i), last.1)
levels (Expr-F.Cast input null ty) (Expr-F.Cast other other_null other_ty) r s same =
    let first = tells_ty ty other_ty (truth_number null ∷ (expr_key input.0 ++ r)) (truth_number other_null ∷ (expr_key other ++ s))
    (split_two (ty_key ty) (truth_number null ∷ expr_key input.0) r (ty_key other_ty) (truth_number other_null ∷ expr_key other) s (tails same)) in
    let nulls = truths null other_null (heads first.1) in
    let last = input.1 other r s (tails first.1) in
    (λ i. Expr-F.Cast (last.0 i) (nulls i) (first.0 i), last.1)
levels _ _ r s same = absurd (cc)

told : (a : Expr-F Told) → Tells expr_key (roll-Expr (level_of a))
told a b r s same =
    let first : expr_key (roll-Expr (level_of a)) ≡ written (level_of a) = key_at (roll-Expr (level_of a)) (level_of a) refl in
    let second : expr_key b ≡ written (out-Expr b) = key_at b (out-Expr b) (roll-out-Expr b) in
    let parts = levels a (out-Expr b) r s (ap (λ key. key ++ r) (sym first) ∙ same ∙ ap (λ key. key ++ s) second) in
    (ap roll-Expr parts.0 ∙ roll-out-Expr b, parts.1)

is_told : (a : Expr) → Tells expr_key a
is_told = ind-Expr (Tells expr_key) (λ x y is. subst (λ (level : Expr-F Expr). Tells expr_key (roll-Expr level)) is (told y))

pub equal_keys : (a b : Expr) → expr_key a ≡ expr_key b → a ≡ b
equal_keys a b same = (is_told a b [] [] (ap (λ key. key ++ []) same)).0
