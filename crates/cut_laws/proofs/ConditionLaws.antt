-- The keys of a well-typed condition have columns on both sides that can be equal, and the rest of it is well typed.
use Rattle.std.proofs.Common.{◌≡◌, ◌∙◌, ℕ, zero, suc, ◌-◌, ◌<◌, ◌≤◌, List, [], ◌∷◌, ◌++◌, Bool, true, false, ◌&&◌, ◌||◌, not, Some, None, Contains, map, length, is_none, nat_lt, nat_le, refl, sym, ap, subst, arith, true≢false, if◌then◌else◌}
use Rattle.std.specs.Prelude.{slice_get}
use Rattle.std.proofs.lemmas.Bool.{ltb-true, leb-true, and_parts, true_from_ne_false, eqb-true, eq-eqb}
use Rattle.std.proofs.lemmas.List.Folds.{list_all_at}
use Rattle.std.specs.List.{AllByRecursion, flat_map, list_all}
use Rattle.sub_types.specs.declared.kind.Kind.{Kind}
use Rattle.sub_types.specs.declared.kind.Kind.TheVariants as kinds
use Rattle.sub_types.specs.declared.kind.Ty.{Ty}
use Rattle.plan_typed.specs.declared.expr.Expr.{Expr, Expr-F, out-Expr, roll-Expr, out-roll-Expr, map-Expr}
use Rattle.plan_typed.specs.declared.expr.Expr.TheFolds.{ind-Expr, every_here-Expr, every_held-Expr}
use Rattle.plan_typed.specs.declared.expr.Func.{Func}
use Rattle.plan_typed.specs.declared.expr.Func.TheVariants as funcs
use Rattle.plan_typed.specs.Types.{ty_in, ty_of}
use Rattle.func_table.specs.declared.row.Class.TheVariants.{Scalar}
use Rattle.func_table.specs.Entry.{Entry, all_agree}
use Rattle.func_table.specs.Kinds.{is_same}
use Rattle.func_table.specs.Table.{table}
use Rattle.well_typed.specs.ExprTyped.{IsCall, IsNode, IsTypedOver}
use Rattle.well_typed.specs.Types.{kind_of}
use Rattle.well_typed.specs.WellTyped.{IsConditionOver, MayBe}
use Rattle.well_typed.proofs.ValidKinds.{With, all_held}
use Rattle.plan_denote.specs.Conjuncts.{is_and, is_equal_func, conjuncts, key_between, key_at, key_in, keys_of, rest_of}
use Rattle.plan_denote.proofs.ConjunctLaws.{conjuncts_in, conjuncts_are}
use Rattle.cut_laws.specs.Keys.{HasColumns}
use Rattle.denote_typed.proofs.RowsLaws.{appended, filtered_all, filter_mapped}
use Rattle.eval_typed.proofs.KindLaws.{is_truth, plain, truth_kind}
use Rattle.eval_typed.proofs.TableLaws.{Known, known, kinds_in, takes_all, is_test, pass_all, all_pass}

-- the arguments of a call
abbrev Args : (Expr → Type 0) → Expr-F Expr → Type 0
Args P (Expr-F.Call func mode args ty) = AllByRecursion P args
Args P _ = Unit {0}

held_args : (P : Expr → Type 0) (z : Expr-F (With P)) → Args P (map-Expr (With P) Expr (λ e. e.0) z)
held_args P (Expr-F.Call func mode args ty) = all_held P args
held_args P (Expr-F.Const value ty) = tt
held_args P (Expr-F.Column index ty) = tt
held_args P (Expr-F.If arms other ty) = tt
held_args P (Expr-F.Switch subject arms other ty) = tt
held_args P (Expr-F.OneOf value options ty) = tt
held_args P (Expr-F.Cast input null_on_fail ty) = tt

func_and : (func : Func) → is_and func ≡ true → func ≡ funcs.And
func_and funcs.And is = refl
func_and _ is = cc

-- the arguments of `and` are truth values
and_passes : (types : List Ty) (ty : Ty) → Known funcs.And types ty → pass_all is_truth (kinds_in types) ≡ true
and_passes types ty call =
    let parts = and_parts (is_test call.rule) (takes_all is_truth call.arguments) call.expects in
    all_pass is_truth call.arguments (kinds_in types) parts.1 call.takes

-- the entries of `equal` ask for the same kinds
abbrev asks_same : Kind → Kind → Entry → Bool
asks_same a b entry = not (is_equal_func entry.row.func) || (not (all_agree entry.alike (a ∷ b ∷ [])) || is_same a b)

by_same : (same : Bool) → ((not (same && true) || same) && true) ≡ true
by_same true = refl
by_same false = refl

all_same : (a b : Kind) → list_all (asks_same a b) table ≡ true
unfolding table
all_same a b = by_same (is_same a b)

entry_same : (a b : Kind) (entry : Entry) → Contains table entry → asks_same a b entry ≡ true
entry_same a b entry there =
    true_from_ne_false (asks_same a b entry) (λ fails. true≢false (sym (all_same a b) ∙ list_all_at (asks_same a b) table there.0 entry there.1 (ap (asks_same a b) there.2 ∙ fails)))

of_same : (found agrees same : Bool) → found ≡ true → agrees ≡ true → (not found || (not agrees || same)) ≡ true → same ≡ true
of_same true true same is asks agrees = agrees
of_same true false same is asks agrees = absurd (true≢false (sym asks))
of_same false agrees same is asks whole = absurd (true≢false (sym is))

equal_same : (func : Func) (a b ty : Ty) (entry : Entry) → is_equal_func func ≡ true → IsCall Scalar func (a ∷ b ∷ []) ty entry → is_same a.kind b.kind ≡ true
equal_same func a b ty entry is call =
    of_same (is_equal_func entry.row.func) (all_agree entry.alike (a.kind ∷ b.kind ∷ [])) (is_same a.kind b.kind) (ap is_equal_func call.function ∙ is) call.takes.alike (entry_same a.kind b.kind entry call.takes.listed)

module _ (columns : List Ty) where
  abbrev Condition : Expr → Type 0
  Condition expr = IsConditionOver columns expr

  abbrev Claim : Expr → Type 0
  Claim expr = Condition expr → AllByRecursion Condition (conjuncts expr)

  args_typed : (args : List Expr) → AllByRecursion (IsTypedOver columns) args → AllByRecursion Claim args → pass_all is_truth (kinds_in (map ty_of args)) ≡ true → AllByRecursion Condition (flat_map conjuncts args)
  args_typed [] typed claims pass = tt
  args_typed (arg ∷ args) typed claims pass =
      let parts = and_parts (is_truth (plain (kind_of arg))) (pass_all is_truth (kinds_in (map ty_of args))) pass in
      appended Condition (conjuncts arg) (flat_map conjuncts args) (claims.0 (typed.0, truth_kind (kind_of arg) parts.0)) (args_typed args typed.1 claims.1 parts.1)

  call_typed : (whole : Expr) (func : Func) (args : List Expr) (ty : Ty) (entry : Entry) → IsCall Scalar func (map ty_of args) ty entry → AllByRecursion (IsTypedOver columns) args → AllByRecursion Claim args → Condition whole
      → (test : Bool) → is_and func ≡ test → AllByRecursion Condition (if test then flat_map conjuncts args else whole ∷ [])
  call_typed whole func args ty entry call typed claims condition true is =
      args_typed args typed claims (and_passes (map ty_of args) ty (subst (λ (one : Func). Known one (map ty_of args) ty) (func_and func is) (known func (map ty_of args) ty entry call)))
  call_typed whole func args ty entry call typed claims condition false is = (condition, tt)

  level_typed : (whole : Expr) (level : Expr-F Expr) → IsNode columns level → Args (IsTypedOver columns) level → Args Claim level → Condition whole → AllByRecursion Condition (conjuncts_in whole level)
  level_typed whole (Expr-F.Call func mode args ty) node typed claims condition = call_typed whole func args ty node.0 node.1 typed claims condition (is_and func) refl
  level_typed whole (Expr-F.Const value ty) node typed claims condition = (condition, tt)
  level_typed whole (Expr-F.Column index ty) node typed claims condition = (condition, tt)
  level_typed whole (Expr-F.If arms other ty) node typed claims condition = (condition, tt)
  level_typed whole (Expr-F.Switch subject arms other ty) node typed claims condition = (condition, tt)
  level_typed whole (Expr-F.OneOf value options ty) node typed claims condition = (condition, tt)
  level_typed whole (Expr-F.Cast input null_on_fail ty) node typed claims condition = (condition, tt)

  -- each conjunct of a condition is one
  conjuncts_typed : (expr : Expr) → Claim expr
  conjuncts_typed = ind-Expr Claim (λ x y is condition.
      let expr = roll-Expr x in
      let held = every_held-Expr (IsNode columns) expr condition.0 in
      let typed = subst (Args (IsTypedOver columns)) held.1 (held_args (IsTypedOver columns) held.0) in
      let claims = subst (Args Claim) (is ∙ sym (out-roll-Expr x)) (held_args Claim y) in
      subst (AllByRecursion Condition) (sym (conjuncts_are expr)) (level_typed expr (out-Expr expr) (every_here-Expr (IsNode columns) expr condition.0) typed claims condition))

-- places on the left and on the right
on_left : (left right : List Ty) (at : ℕ) (ty : Ty) → at < length left → slice_get (left ++ right) at ≡ Some ty → slice_get left at ≡ Some ty
on_left [] right at ty there is = absurd (omega (arith, there))
on_left (first ∷ left) right zero ty there is = is
on_left (first ∷ left) right (suc at) ty there is = on_left left right at ty (omega (arith, there)) is

on_right : (left right : List Ty) (at : ℕ) (ty : Ty) → length left ≤ at → slice_get (left ++ right) at ≡ Some ty → slice_get right (at - length left) ≡ Some ty
on_right [] right at ty past is = let same : at - 0 ≡ at = omega arith in ap (slice_get right) same ∙ is
on_right (first ∷ left) right zero ty past is = absurd (omega (arith, past))
on_right (first ∷ left) right (suc at) ty past is = let same : suc at - suc (length left) ≡ at - length left = omega arith in ap (slice_get right) same ∙ on_right left right at ty (omega (arith, past)) is

same_back : (a b : Kind) → is_same a b ≡ true → is_same b a ≡ true
same_back kinds.Bool kinds.Bool same = refl
same_back kinds.I8 kinds.I8 same = refl
same_back kinds.I16 kinds.I16 same = refl
same_back kinds.I32 kinds.I32 same = refl
same_back kinds.I64 kinds.I64 same = refl
same_back kinds.Text kinds.Text same = refl
same_back kinds.Binary kinds.Binary same = refl
same_back kinds.Date kinds.Date same = refl
same_back kinds.Timestamp kinds.Timestamp same = refl
same_back (kinds.Decimal p s) (kinds.Decimal q t) same = eq-eqb t s (sym (eqb-true s t same))
same_back _ _ same = cc

module _ (left right : List Ty) where
  abbrev width : ℕ
  width = length left

  columns_typed : (a b : ℕ) (s t : Ty) → slice_get (left ++ right) a ≡ Some s → slice_get (left ++ right) b ≡ Some t → is_same s.kind t.kind ≡ true
      → (first second : Bool) → (nat_lt a width && nat_le width b) ≡ first → (nat_lt b width && nat_le width a) ≡ second
      → MayBe (HasColumns left right) (if first then Some (record { left = a; right = b - width }) else if second then Some (record { left = b; right = a - width }) else None)
  columns_typed a b s t at_a at_b same true second is other =
      let parts = and_parts (nat_lt a width) (nat_le width b) is in
      record { first = s; second = t; in_left = on_left left right a s (ltb-true a width parts.0) at_a; in_right = on_right left right b t (leb-true width b parts.1) at_b; equal = same }
  columns_typed a b s t at_a at_b same false true is other =
      let parts = and_parts (nat_lt b width) (nat_le width a) other in
      record { first = t; second = s; in_left = on_left left right b t (ltb-true b width parts.0) at_b; in_right = on_right left right a s (leb-true width a parts.1) at_a; equal = same_back s.kind t.kind same }
  columns_typed a b s t at_a at_b same false false is other = tt

  pair_typed : (x y : Expr-F Expr) → IsNode (left ++ right) x → IsNode (left ++ right) y → is_same (ty_in x).kind (ty_in y).kind ≡ true → MayBe (HasColumns left right) (key_between width x y)
  pair_typed (Expr-F.Column a s) (Expr-F.Column b t) first second same =
      columns_typed a b first.0 second.0 first.1 second.1 (ap (λ kind. is_same kind second.0.kind) (sym first.2.kind) ∙ ap (is_same s.kind) (sym second.2.kind) ∙ same) (nat_lt a width && nat_le width b) (nat_lt b width && nat_le width a) refl refl
  pair_typed _ _ first second same = tt

  by_func : (func : Func) (a b : Expr) (ty : Ty) (entry : Entry) → IsCall Scalar func (ty_of a ∷ ty_of b ∷ []) ty entry → IsTypedOver (left ++ right) a → IsTypedOver (left ++ right) b
      → (test : Bool) → is_equal_func func ≡ test → MayBe (HasColumns left right) (if test then key_between width (out-Expr a) (out-Expr b) else None)
  by_func func a b ty entry call first second true is =
      pair_typed (out-Expr a) (out-Expr b) (every_here-Expr (IsNode (left ++ right)) a first) (every_here-Expr (IsNode (left ++ right)) b second) (equal_same func (ty_of a) (ty_of b) ty entry is call)
  by_func func a b ty entry call first second false is = tt

  key_level : (level : Expr-F Expr) → IsNode (left ++ right) level → Args (IsTypedOver (left ++ right)) level → MayBe (HasColumns left right) (key_at width level)
  key_level (Expr-F.Call func mode (a ∷ b ∷ []) ty) node typed = by_func func a b ty node.0 node.1 typed.0 typed.1.0 (is_equal_func func) refl
  key_level _ node typed = tt

  conjunct_typed : (conjunct : Expr) → IsConditionOver (left ++ right) conjunct → MayBe (HasColumns left right) (key_in width conjunct)
  conjunct_typed conjunct condition =
      let held = every_held-Expr (IsNode (left ++ right)) conjunct condition.0 in
      key_level (out-Expr conjunct) (every_here-Expr (IsNode (left ++ right)) conjunct condition.0) (subst (Args (IsTypedOver (left ++ right))) held.1 (held_args (IsTypedOver (left ++ right)) held.0))

  -- the keys of a condition
  pub keys_typed : (on : Expr) → IsConditionOver (left ++ right) on → AllByRecursion (HasColumns left right) (keys_of width on)
  unfolding keys_of
  keys_typed on condition =
      filter_mapped (IsConditionOver (left ++ right)) (HasColumns left right) (key_in width) (conjuncts on) (conjuncts_typed (left ++ right) on condition) conjunct_typed

  -- the rest of a condition
  pub rest_typed : (on : Expr) → IsConditionOver (left ++ right) on → AllByRecursion (IsConditionOver (left ++ right)) (rest_of width on)
  unfolding rest_of
  rest_typed on condition = filtered_all (IsConditionOver (left ++ right)) (λ one. is_none (key_in width one)) (conjuncts on) (conjuncts_typed (left ++ right) on condition)
