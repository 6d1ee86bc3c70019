-- Expressions with the values of subqueries put in are well typed where these fit their nodes.
use Rattle.std.proofs.Common.{◌≡◌, ◌∙◌, ℕ, ◌+◌, List, [], ◌∷◌, ◌++◌, Bool, Option, Some, None, IsTrue, map, length, refl, sym, ap, subst, arith}
use Rattle.std.specs.List.{AllByRecursion, sum_by}
use Rattle.std.proofs.lemmas.List.{length-append}
use Rattle.std.proofs.lemmas.List.Sums.{sum_by-cons}
use Rattle.sub_types.specs.Kind.{IsKind}
use Rattle.sub_types.specs.Value.{FitsTy}
use Rattle.sub_types.specs.declared.kind.Kind.{Kind}
use Rattle.sub_types.specs.declared.kind.Kind.TheVariants as kinds
use Rattle.sub_types.specs.declared.kind.Ty.{Ty}
use Rattle.sub_types.specs.declared.value.Value.{Value}
use Rattle.plan_typed.specs.declared.expr.Expr.{Expr, Expr-F, out-Expr, roll-Expr, out-roll-Expr, roll-out-Expr, map-Expr}
use Rattle.plan_typed.specs.declared.expr.Expr.TheFolds.{fold-roll-Expr, ind-Expr, every_here-Expr, every_held-Expr}
use Rattle.plan_typed.specs.declared.expr.Expr.TheVariants as exprs
use Rattle.plan_typed.specs.declared.expr.Expr.TheVariants.{rolls-Const, rolls-Column, rolls-Call, rolls-If, rolls-Switch, rolls-OneOf, rolls-Cast}
use Rattle.plan_typed.specs.declared.expr.Func.{Func}
use Rattle.plan_typed.specs.declared.expr.Overflow.{Overflow}
use Rattle.plan_typed.specs.Types.{ty_in, ty_of}
use Rattle.func_table.specs.declared.row.Class.TheVariants.{Scalar}
use Rattle.well_typed.proofs.Made.{const_typed, column_typed, call_typed, if_typed, switch_typed, one_of_typed, cast_typed}
use Rattle.well_typed.proofs.ValidKinds.{With, all_held, all_both}
use Rattle.well_typed.specs.Casts.{can_cast}
use Rattle.well_typed.specs.ExprTyped.{IsAs, IsNode, IsTypedOver, IsCondition, IsCall, IsOfKind, AreAs, HasOne}
use Rattle.well_typed.specs.Types.{kind_of}
use Rattle.plan_denote.specs.Holes.{Worth, Single, Among, put, Filled, size_of, each_from, arms_from, choices_from, filled_level, filled_expr}
use Rattle.denote_typed.specs.Holes.{Slot, OfValue, OfList, Nodes, slots_in, arm_slots, choice_slots, nodes_level, nodes_of, Takes, AreTaken}

-- nodes one after the other
pub parted : (known : ℕ → Option Worth) (number size : ℕ) (a b : List Slot) → size ≡ length a → AreTaken known number (a ++ b) → AreTaken known number a × AreTaken known (number + size) b
parted known number size [] b is all = (tt, subst (λ (at : ℕ). AreTaken known at b) (omega (arith, is)) all)
parted known number size (slot ∷ a) b is all =
    let rest = parted known (number + 1) (length a) a b refl all.1 in
    ((all.0, rest.0), subst (λ (at : ℕ). AreTaken known at b) (omega (arith, is)) rest.1)

-- what is put into a node leaves any but a constant and a list
put_column : (w : Option Worth) (index : ℕ) (ty : Ty) → Expr-F.Column index ty ≡ put w (Expr-F.Column index ty)
put_column None index ty = refl
put_column (Some (Single value)) index ty = refl
put_column (Some (Among column found)) index ty = refl

put_call : (w : Option Worth) (func : Func) (mode : Overflow) (args : List Expr) (ty : Ty) → Expr-F.Call func mode args ty ≡ put w (Expr-F.Call func mode args ty)
put_call None func mode args ty = refl
put_call (Some (Single value)) func mode args ty = refl
put_call (Some (Among column found)) func mode args ty = refl

put_if : (w : Option Worth) (arms : List (Expr × Expr)) (other : Expr) (ty : Ty) → Expr-F.If arms other ty ≡ put w (Expr-F.If arms other ty)
put_if None arms other ty = refl
put_if (Some (Single value)) arms other ty = refl
put_if (Some (Among column found)) arms other ty = refl

put_switch : (w : Option Worth) (subject : Expr) (arms : List (Value × Expr)) (other : Expr) (ty : Ty) → Expr-F.Switch subject arms other ty ≡ put w (Expr-F.Switch subject arms other ty)
put_switch None subject arms other ty = refl
put_switch (Some (Single value)) subject arms other ty = refl
put_switch (Some (Among column found)) subject arms other ty = refl

put_cast : (w : Option Worth) (input : Expr) (null_on_fail : Bool) (ty : Ty) → Expr-F.Cast input null_on_fail ty ≡ put w (Expr-F.Cast input null_on_fail ty)
put_cast None input null_on_fail ty = refl
put_cast (Some (Single value)) input null_on_fail ty = refl
put_cast (Some (Among column found)) input null_on_fail ty = refl

-- the type of a node stays
put_type : (w : Option Worth) (level : Expr-F Expr) → ty_in (put w level) ≡ ty_in level
put_type None level = refl
put_type (Some (Single value)) (Expr-F.Const old ty) = refl
put_type (Some (Single value)) (Expr-F.Column index ty) = refl
put_type (Some (Single value)) (Expr-F.Call func mode args ty) = refl
put_type (Some (Single value)) (Expr-F.If arms other ty) = refl
put_type (Some (Single value)) (Expr-F.Switch subject arms other ty) = refl
put_type (Some (Single value)) (Expr-F.OneOf one options ty) = refl
put_type (Some (Single value)) (Expr-F.Cast input null_on_fail ty) = refl
put_type (Some (Among column found)) (Expr-F.Const old ty) = refl
put_type (Some (Among column found)) (Expr-F.Column index ty) = refl
put_type (Some (Among column found)) (Expr-F.Call func mode args ty) = refl
put_type (Some (Among column found)) (Expr-F.If arms other ty) = refl
put_type (Some (Among column found)) (Expr-F.Switch subject arms other ty) = refl
put_type (Some (Among column found)) (Expr-F.OneOf one options ty) = refl
put_type (Some (Among column found)) (Expr-F.Cast input null_on_fail ty) = refl

rolled_type : (w : Option Worth) (level : Expr-F Expr) → ty_of (roll-Expr (put w level)) ≡ ty_in level
rolled_type w level = ap ty_in (out-roll-Expr (put w level)) ∙ put_type w level

const_type : (value : Value) (ty : Ty) → ty_of (exprs.Const value ty) ≡ ty
const_type value ty = ap ty_of (sym (rolls-Const value ty)) ∙ ap ty_in (out-roll-Expr (Expr-F.Const value ty))

module _ (columns : List Ty) where
  abbrev Typed : Expr → Type 0
  Typed expr = IsTypedOver columns expr

  -- a constant with a value put in, and a list
  const_put : (w : Option Worth) (value : Value) (ty : Ty) → IsNode columns (Expr-F.Const value ty) → Takes w (OfValue ty) → Typed (roll-Expr (put w (Expr-F.Const value ty)))
  const_put None value ty is takes = subst Typed (sym (rolls-Const value ty)) (const_typed columns value ty is)
  const_put (Some (Single found)) value ty is takes = subst Typed (sym (rolls-Const found ty)) (const_typed columns found ty (is.0, takes))
  const_put (Some (Among column found)) value ty is takes = subst Typed (sym (rolls-Const value ty)) (const_typed columns value ty is)

  abbrev constants : Ty → List Value → List Expr
  constants column found = map (λ one. exprs.Const one column) found

  constants_typed : (column : Ty) (found : List Value) → IsKind column.kind → AllByRecursion (FitsTy column) found → AllByRecursion Typed (constants column found)
  constants_typed column [] kind all = tt
  constants_typed column (value ∷ found) kind all = (const_typed columns value column (kind, all.0), constants_typed column found kind all.1)

  constants_kind : (column : Ty) (found : List Value) (kind : Kind) → column.kind ≡ kind → AllByRecursion (λ one. kind_of one ≡ kind) (constants column found)
  constants_kind column [] kind is = tt
  constants_kind column (value ∷ found) kind is = (ap (λ (one : Ty). one.kind) (const_type value column) ∙ is, constants_kind column found kind is)

  constants_null : (column : Ty) (found : List Value) (ty : Ty) → (IsTrue column.nullable → IsTrue ty.nullable) → AllByRecursion (λ one. IsTrue (ty_of one).nullable → IsTrue ty.nullable) (constants column found)
  constants_null column [] ty k = tt
  constants_null column (value ∷ found) ty k = ((λ h. k (subst (λ (one : Ty). IsTrue one.nullable) (const_type value column) h)), constants_null column found ty k)

  list_put : (w : Option Worth) (value : Expr) (options : List Expr) (ty : Ty) → Typed value → AllByRecursion Typed options → IsNode columns (Expr-F.OneOf value options ty) → Takes w (OfList (ty_of value) ty)
      → Typed (roll-Expr (put w (Expr-F.OneOf value options ty)))
  list_put None value options ty first all is takes = subst Typed (sym (rolls-OneOf value options ty)) (one_of_typed columns value options ty first all is)
  list_put (Some (Single found)) value options ty first all is takes = subst Typed (sym (rolls-OneOf value options ty)) (one_of_typed columns value options ty first all is)
  list_put (Some (Among column found)) value options ty first all is takes =
      subst Typed (sym (rolls-OneOf value (constants column found) ty))
      (one_of_typed columns value (constants column found) ty first (constants_typed column found takes.2 takes.3)
      (is.0, constants_kind column found (kind_of value) takes.0, (is.2.0, constants_null column found ty takes.1)))

  module _ (known : ℕ → Option Worth) where
    -- an expression of a type, by its nodes, with the values put in
    pub record IsMade (filled : Filled) (nodes : Nodes) (ty : Ty) : Type 0 where
      pub size : filled.size ≡ length nodes.slots
      pub of : nodes.ty ≡ ty
      pub same : (n : ℕ) → ty_of (filled.at n) ≡ ty
      pub typed : (n : ℕ) → AreTaken known n nodes.slots → Typed (filled.at n)

    abbrev pub IsFilled : Expr → Type 0
    IsFilled expr = IsMade (filled_expr known expr) (nodes_of expr) (ty_of expr)

    abbrev pub fill : List Expr → List Filled
    fill args = map (filled_expr known) args

    -- several
    pub each_size : (args : List Expr) → AllByRecursion IsFilled args → size_of (fill args) ≡ length (slots_in (map nodes_of args))
    each_size [] all = refl
    each_size (arg ∷ args) all =
        sum_by-cons (λ (one : Filled). one.size) (filled_expr known arg) (fill args)
        ∙ omega (arith, all.0.size, each_size args all.1, length-append (nodes_of arg).slots (slots_in (map nodes_of args)))

    pub each_typed : (args : List Expr) (n : ℕ) → AllByRecursion IsFilled args → AreTaken known n (slots_in (map nodes_of args)) → AllByRecursion Typed (each_from n (fill args))
    each_typed [] n all taken = tt
    each_typed (arg ∷ args) n all taken =
        let both = parted known n (filled_expr known arg).size (nodes_of arg).slots (slots_in (map nodes_of args)) all.0.size taken in
        (all.0.typed n both.0, each_typed args (n + (filled_expr known arg).size) all.1 both.1)

    pub each_same : (args : List Expr) (n : ℕ) → AllByRecursion IsFilled args → map ty_of (each_from n (fill args)) ≡ map ty_of args
    each_same [] n all = refl
    each_same (arg ∷ args) n all = λ i. all.0.same n i ∷ each_same args (n + (filled_expr known arg).size) all.1 i

    -- what holds of their types still does
    pub each_still : (P : Ty → Type 0) (args : List Expr) (n : ℕ) → AllByRecursion IsFilled args → AllByRecursion (λ arg. P (ty_of arg)) args → AllByRecursion (λ arg. P (ty_of arg)) (each_from n (fill args))
    each_still P [] n all still = tt
    each_still P (arg ∷ args) n all still = (subst P (sym (all.0.same n)) still.0, each_still P args (n + (filled_expr known arg).size) all.1 still.1)

    -- the arms of an if
    abbrev AreArms : List (Expr × Expr) → Type 0
    AreArms arms = AllByRecursion (λ (arm : Expr × Expr). IsFilled arm.0 × IsFilled arm.1) arms

    abbrev fill_arms : List (Expr × Expr) → List (Filled × Filled)
    fill_arms arms = map (λ (arm : Expr × Expr). (filled_expr known arm.0, filled_expr known arm.1)) arms

    abbrev node_arms : List (Expr × Expr) → List (Nodes × Nodes)
    node_arms arms = map (λ (arm : Expr × Expr). (nodes_of arm.0, nodes_of arm.1)) arms

    abbrev arms_size : List (Filled × Filled) → ℕ
    arms_size arms = sum_by (λ (arm : Filled × Filled). arm.0.size + arm.1.size) arms

    arm_size : (arms : List (Expr × Expr)) → AreArms arms → arms_size (fill_arms arms) ≡ length (arm_slots (node_arms arms))
    arm_size [] all = refl
    arm_size (arm ∷ arms) all =
        sum_by-cons (λ (one : Filled × Filled). one.0.size + one.1.size) (filled_expr known arm.0, filled_expr known arm.1) (fill_arms arms)
        ∙ omega (
          arith,
          all.0.0.size,
          all.0.1.size,
          arm_size arms all.1,
          length-append (nodes_of arm.0).slots (nodes_of arm.1).slots,
          length-append ((nodes_of arm.0).slots ++ (nodes_of arm.1).slots) (arm_slots (node_arms arms)),
        )

    arm_typed : (arms : List (Expr × Expr)) (n : ℕ) → AreArms arms → AreTaken known n (arm_slots (node_arms arms)) → AllByRecursion (λ (arm : Expr × Expr). Typed arm.0 × Typed arm.1) (arms_from n (fill_arms arms))
    arm_typed [] n all taken = tt
    arm_typed (arm ∷ arms) n all taken =
        let first = filled_expr known arm.0 in
        let second = filled_expr known arm.1 in
        let a = (nodes_of arm.0).slots in
        let b = (nodes_of arm.1).slots in
        let whole = parted known n (first.size + second.size) (a ++ b) (arm_slots (node_arms arms)) (omega (arith, all.0.0.size, all.0.1.size, length-append a b)) taken in
        let both = parted known n first.size a b all.0.0.size whole.0 in
        let rest = subst (λ (at : ℕ). AreTaken known at (arm_slots (node_arms arms))) (omega arith) whole.1 in
        ((all.0.0.typed n both.0, all.0.1.typed (n + first.size) both.1), arm_typed arms (n + first.size + second.size) all.1 rest)

    arm_one : (arms : List (Expr × Expr)) (n : ℕ) → HasOne arms → HasOne (arms_from n (fill_arms arms))
    arm_one [] n one = one
    arm_one (arm ∷ arms) n one = tt

    arm_conditions : (arms : List (Expr × Expr)) (n : ℕ) → AreArms arms → AllByRecursion (λ (arm : Expr × Expr). IsCondition arm.0) arms → AllByRecursion (λ (arm : Expr × Expr). IsCondition arm.0) (arms_from n (fill_arms arms))
    arm_conditions [] n all are = tt
    arm_conditions (arm ∷ arms) n all are =
        (subst (λ (ty : Ty). ty.kind ≡ kinds.Bool) (sym (all.0.0.same n)) are.0, arm_conditions arms (n + (filled_expr known arm.0).size + (filled_expr known arm.1).size) all.1 are.1)

    last_as : (ty : Ty) (other new : Expr) → ty_of new ≡ ty_of other → AreAs ty (other ∷ []) → AreAs ty (new ∷ [])
    last_as ty other new same are = (subst (λ (one : Ty). IsAs one ty) (sym same) are.0, tt)

    arm_as : (ty : Ty) (arms : List (Expr × Expr)) (other new : Expr) (n : ℕ) → AreArms arms → ty_of new ≡ ty_of other → AreAs ty (map (λ (arm : Expr × Expr). arm.1) arms ++ other ∷ [])
        → AreAs ty (map (λ (arm : Expr × Expr). arm.1) (arms_from n (fill_arms arms)) ++ new ∷ [])
    arm_as ty [] other new n all same are = last_as ty other new same are
    arm_as ty (arm ∷ arms) other new n all same are =
        let size = (filled_expr known arm.0).size in
        (subst (λ (one : Ty). IsAs one ty) (sym (all.0.1.same (n + size))) are.0, arm_as ty arms other new (n + size + (filled_expr known arm.1).size) all.1 same are.1)

    -- those of a switch
    abbrev AreChoices : List (Value × Expr) → Type 0
    AreChoices arms = AllByRecursion (λ (arm : Value × Expr). IsFilled arm.1) arms

    abbrev fill_choices : List (Value × Expr) → List (Value × Filled)
    fill_choices arms = map (λ (arm : Value × Expr). (arm.0, filled_expr known arm.1)) arms

    abbrev node_choices : List (Value × Expr) → List (Value × Nodes)
    node_choices arms = map (λ (arm : Value × Expr). (arm.0, nodes_of arm.1)) arms

    abbrev choices_size : List (Value × Filled) → ℕ
    choices_size arms = sum_by (λ (choice : Value × Filled). choice.1.size) arms

    choice_size : (arms : List (Value × Expr)) → AreChoices arms → choices_size (fill_choices arms) ≡ length (choice_slots (node_choices arms))
    choice_size [] all = refl
    choice_size (arm ∷ arms) all =
        sum_by-cons (λ (one : Value × Filled). one.1.size) (arm.0, filled_expr known arm.1) (fill_choices arms)
        ∙ omega (arith, all.0.size, choice_size arms all.1, length-append (nodes_of arm.1).slots (choice_slots (node_choices arms)))

    choice_typed : (arms : List (Value × Expr)) (n : ℕ) → AreChoices arms → AreTaken known n (choice_slots (node_choices arms)) → AllByRecursion (λ (arm : Value × Expr). Typed arm.1) (choices_from n (fill_choices arms))
    choice_typed [] n all taken = tt
    choice_typed (arm ∷ arms) n all taken =
        let both = parted known n (filled_expr known arm.1).size (nodes_of arm.1).slots (choice_slots (node_choices arms)) all.0.size taken in
        (all.0.typed n both.0, choice_typed arms (n + (filled_expr known arm.1).size) all.1 both.1)

    choice_one : (arms : List (Value × Expr)) (n : ℕ) → HasOne arms → HasOne (choices_from n (fill_choices arms))
    choice_one [] n one = one
    choice_one (arm ∷ arms) n one = tt

    choice_kinds : (kind new : Kind) (arms : List (Value × Expr)) (n : ℕ) → new ≡ kind → AllByRecursion (λ (arm : Value × Expr). IsOfKind kind arm.0) arms → AllByRecursion (λ (arm : Value × Expr). IsOfKind new arm.0) (choices_from n (fill_choices arms))
    choice_kinds kind new [] n same are = tt
    choice_kinds kind new (arm ∷ arms) n same are =
        (subst (λ (one : Kind). IsOfKind one arm.0) (sym same) are.0, choice_kinds kind new arms (n + (filled_expr known arm.1).size) same are.1)

    choice_as : (ty : Ty) (arms : List (Value × Expr)) (other new : Expr) (n : ℕ) → AreChoices arms → ty_of new ≡ ty_of other → AreAs ty (map (λ (arm : Value × Expr). arm.1) arms ++ other ∷ [])
        → AreAs ty (map (λ (arm : Value × Expr). arm.1) (choices_from n (fill_choices arms)) ++ new ∷ [])
    choice_as ty [] other new n all same are = last_as ty other new same are
    choice_as ty (arm ∷ arms) other new n all same are =
        (subst (λ (one : Ty). IsAs one ty) (sym (all.0.same n)) are.0, choice_as ty arms other new (n + (filled_expr known arm.1).size) all.1 same are.1)

    -- what holds of the parts of an expression
    abbrev Inside : (Expr → Type 0) → Expr-F Expr → Type 0
    Inside P (Expr-F.Const value ty) = Unit {0}
    Inside P (Expr-F.Column index ty) = Unit {0}
    Inside P (Expr-F.Call func mode args ty) = AllByRecursion P args
    Inside P (Expr-F.If arms other ty) = AllByRecursion (λ (arm : Expr × Expr). P arm.0 × P arm.1) arms × P other
    Inside P (Expr-F.Switch subject arms other ty) = P subject × AllByRecursion (λ (arm : Value × Expr). P arm.1) arms × P other
    Inside P (Expr-F.OneOf value options ty) = P value × AllByRecursion P options
    Inside P (Expr-F.Cast input null_on_fail ty) = P input

    abbrev Made : Expr-F Expr → Type 0
    Made level = IsMade (filled_level known (map-Expr Expr Filled (filled_expr known) level)) (nodes_level (map-Expr Expr Nodes nodes_of level)) (ty_in level)

    made : (level : Expr-F Expr) → IsNode columns level → Inside IsFilled level → Made level
    made (Expr-F.Const value ty) is inside = record {
      size = refl;
      of = refl;
      same = λ n. rolled_type (known n) (Expr-F.Const value ty);
      typed = λ n taken. const_put (known n) value ty is taken.0;
    }
    made (Expr-F.Column index ty) is inside = record {
      size = refl;
      of = refl;
      same = λ n. rolled_type (known n) (Expr-F.Column index ty);
      typed = λ n taken. subst (λ (level : Expr-F Expr). Typed (roll-Expr level)) (put_column (known n) index ty) (subst Typed (sym (rolls-Column index ty)) (column_typed columns index ty is));
    }
    made (Expr-F.Call func mode args ty) is inside = record {
      size = omega (arith, each_size args inside);
      of = refl;
      same = λ n. rolled_type (known n) (Expr-F.Call func mode (each_from (n + 1) (fill args)) ty);
      typed = λ n taken.
          let new = each_from (n + 1) (fill args) in
          let types = sym (each_same args (n + 1) inside) in
          subst (λ (level : Expr-F Expr). Typed (roll-Expr level)) (put_call (known n) func mode new ty)
          (subst Typed (sym (rolls-Call func mode new ty))
          (call_typed columns func mode new ty (each_typed args (n + 1) inside taken.1) (is.0, subst (λ (given : List Ty). IsCall Scalar func given ty is.0) types is.1, is.2)));
    }
    made (Expr-F.If arms other ty) is inside =
        let size = arms_size (fill_arms arms) in
        let slots = arm_slots (node_arms arms) in
        let last = filled_expr known other in record {
          size = omega (arith, arm_size arms inside.0, inside.1.size, length-append slots (nodes_of other).slots);
          of = refl;
          same = λ n. rolled_type (known n) (Expr-F.If (arms_from (n + 1) (fill_arms arms)) (last.at (n + 1 + size)) ty);
          typed = λ n taken.
              let new = arms_from (n + 1) (fill_arms arms) in
              let end = last.at (n + 1 + size) in
              let both = parted known (n + 1) size slots (nodes_of other).slots (arm_size arms inside.0) taken.1 in
              subst (λ (level : Expr-F Expr). Typed (roll-Expr level)) (put_if (known n) new end ty)
              (subst Typed (sym (rolls-If new end ty))
              (if_typed columns new end ty (arm_typed arms (n + 1) inside.0 both.0) (inside.1.typed (n + 1 + size) both.1)
              (arm_one arms (n + 1) is.0, arm_conditions arms (n + 1) inside.0 is.1, arm_as ty arms other end (n + 1) inside.0 (inside.1.same (n + 1 + size)) is.2)));
        }
    made (Expr-F.Switch subject arms other ty) is inside =
        let first = filled_expr known subject in
        let size = choices_size (fill_choices arms) in
        let slots = choice_slots (node_choices arms) in
        let last = filled_expr known other in record {
          size = omega (arith, inside.0.size, choice_size arms inside.1, inside.2.size, length-append (nodes_of subject).slots slots, length-append ((nodes_of subject).slots ++ slots) (nodes_of other).slots);
          of = refl;
          same = λ n. rolled_type (known n) (Expr-F.Switch (first.at (n + 1)) (choices_from (n + 1 + first.size) (fill_choices arms)) (last.at (n + 1 + first.size + size)) ty);
          typed = λ n taken.
              let begin = first.at (n + 1) in
              let new = choices_from (n + 1 + first.size) (fill_choices arms) in
              let end = last.at (n + 1 + first.size + size) in
              let whole = parted known (n + 1) (first.size + size) ((nodes_of subject).slots ++ slots) (nodes_of other).slots (omega (arith, inside.0.size, choice_size arms inside.1, length-append (nodes_of subject).slots slots)) taken.1 in
              let both = parted known (n + 1) first.size (nodes_of subject).slots slots inside.0.size whole.0 in
              let rest = subst (λ (at : ℕ). AreTaken known at (nodes_of other).slots) (omega arith) whole.1 in
              subst (λ (level : Expr-F Expr). Typed (roll-Expr level)) (put_switch (known n) begin new end ty)
              (subst Typed (sym (rolls-Switch begin new end ty))
              (switch_typed columns begin new end ty (inside.0.typed (n + 1) both.0) (choice_typed arms (n + 1 + first.size) inside.1 both.1) (inside.2.typed (n + 1 + first.size + size) rest) (
                choice_one arms (n + 1 + first.size) is.0,
                choice_kinds (kind_of subject) (kind_of begin) arms (n + 1 + first.size) (ap (λ (one : Ty). one.kind) (inside.0.same (n + 1))) is.1,
                choice_as ty arms other end (n + 1 + first.size) inside.1 (inside.2.same (n + 1 + first.size + size)) is.2,
              )));
        }
    made (Expr-F.OneOf value options ty) is inside =
        let first = filled_expr known value in record {
          size = omega (arith, inside.0.size, each_size options inside.1, length-append (nodes_of value).slots (slots_in (map nodes_of options)));
          of = refl;
          same = λ n. rolled_type (known n) (Expr-F.OneOf (first.at (n + 1)) (each_from (n + 1 + first.size) (fill options)) ty);
          typed = λ n taken.
              let begin = first.at (n + 1) in
              let new = each_from (n + 1 + first.size) (fill options) in
              let both = parted known (n + 1) first.size (nodes_of value).slots (slots_in (map nodes_of options)) inside.0.size taken.1 in
              let types : (nodes_of value).ty ≡ ty_of begin = inside.0.of ∙ sym (inside.0.same (n + 1)) in
              let kinds_are = each_still (λ (one : Ty). one.kind ≡ kind_of value) options (n + 1 + first.size) inside.1 is.1 in
              list_put (known n) begin new ty (inside.0.typed (n + 1) both.0) (each_typed options (n + 1 + first.size) inside.1 both.1) (
                is.0,
                subst (λ (kind : Kind). AllByRecursion (λ (one : Expr). kind_of one ≡ kind) new) (sym (ap (λ (one : Ty). one.kind) (inside.0.same (n + 1)))) kinds_are,
                (subst (λ (one : Ty). IsTrue one.nullable → IsTrue ty.nullable) (sym (inside.0.same (n + 1))) is.2.0, each_still (λ (one : Ty). IsTrue one.nullable → IsTrue ty.nullable) options (n + 1 + first.size) inside.1 is.2.1),
              )
              (subst (λ (one : Ty). Takes (known n) (OfList one ty)) types taken.0);
        }
    made (Expr-F.Cast input null_on_fail ty) is inside = record {
      size = omega (arith, inside.size);
      of = refl;
      same = λ n. rolled_type (known n) (Expr-F.Cast ((filled_expr known input).at (n + 1)) null_on_fail ty);
      typed = λ n taken.
          let new = (filled_expr known input).at (n + 1) in
          subst (λ (level : Expr-F Expr). Typed (roll-Expr level)) (put_cast (known n) new null_on_fail ty)
          (subst Typed (sym (rolls-Cast new null_on_fail ty))
          (cast_typed columns new null_on_fail ty (inside.typed (n + 1) taken.1)
          (subst (λ (one : Ty). IsTrue (can_cast one.kind ty.kind) × IsKind ty.kind × (IsTrue one.nullable → IsTrue ty.nullable) × (IsTrue null_on_fail → IsTrue ty.nullable)) (sym (inside.same (n + 1))) is)));
    }

    rolled : (level : Expr-F Expr) → Made level → IsFilled (roll-Expr level)
    rolled level is =
        subst (λ (one : Ty). IsMade (filled_expr known (roll-Expr level)) (nodes_of (roll-Expr level)) one) (sym (ap ty_in (out-roll-Expr level)))
        (subst (λ (one : Nodes). IsMade (filled_expr known (roll-Expr level)) one (ty_in level)) (sym (fold-roll-Expr Nodes nodes_level level))
        (subst (λ (one : Filled). IsMade one (nodes_level (map-Expr Expr Nodes nodes_of level)) (ty_in level)) (sym (fold-roll-Expr Filled (filled_level known) level)) is))

    arms_held : (P : Expr → Type 0) (arms : List (With P × With P)) → AllByRecursion (λ (arm : Expr × Expr). P arm.0 × P arm.1) (map (λ arm. (arm.0.0, arm.1.0)) arms)
    arms_held P [] = tt
    arms_held P (arm ∷ arms) = ((arm.0.1, arm.1.1), arms_held P arms)

    choices_held : (P : Expr → Type 0) (arms : List (Value × With P)) → AllByRecursion (λ (arm : Value × Expr). P arm.1) (map (λ arm. (arm.0, arm.1.0)) arms)
    choices_held P [] = tt
    choices_held P (arm ∷ arms) = (arm.1.1, choices_held P arms)

    held_inside : (P : Expr → Type 0) (z : Expr-F (With P)) → Inside P (map-Expr (With P) Expr (λ e. e.0) z)
    held_inside P (Expr-F.Const value ty) = tt
    held_inside P (Expr-F.Column index ty) = tt
    held_inside P (Expr-F.Call func mode args ty) = all_held P args
    held_inside P (Expr-F.If arms other ty) = (arms_held P arms, other.1)
    held_inside P (Expr-F.Switch subject arms other ty) = (subject.1, choices_held P arms, other.1)
    held_inside P (Expr-F.OneOf value options ty) = (value.1, all_held P options)
    held_inside P (Expr-F.Cast input null_on_fail ty) = input.1

    both_inside : (P Q R : Expr → Type 0) (level : Expr-F Expr) → ((one : Expr) → P one → Q one → R one) → Inside P level → Inside Q level → Inside R level
    both_inside P Q R (Expr-F.Const value ty) k first second = tt
    both_inside P Q R (Expr-F.Column index ty) k first second = tt
    both_inside P Q R (Expr-F.Call func mode args ty) k first second = all_both P Q R args k first second
    both_inside P Q R (Expr-F.If arms other ty) k first second = (
      all_both (λ (arm : Expr × Expr). P arm.0 × P arm.1) (λ (arm : Expr × Expr). Q arm.0 × Q arm.1) (λ (arm : Expr × Expr). R arm.0 × R arm.1) arms (λ arm one two. (k arm.0 one.0 two.0, k arm.1 one.1 two.1)) first.0 second.0,
      k other first.1 second.1,
    )
    both_inside P Q R (Expr-F.Switch subject arms other ty) k first second =
        (k subject first.0 second.0, all_both (λ (arm : Value × Expr). P arm.1) (λ (arm : Value × Expr). Q arm.1) (λ (arm : Value × Expr). R arm.1) arms (λ arm. k arm.1) first.1 second.1, k other first.2 second.2)
    both_inside P Q R (Expr-F.OneOf value options ty) k first second = (k value first.0 second.0, all_both P Q R options k first.1 second.1)
    both_inside P Q R (Expr-F.Cast input null_on_fail ty) k first second = k input first second

    abbrev Claim : Expr → Type 0
    Claim expr = Typed expr → IsFilled expr

    -- a well-typed expression with the values put in
    pub filled_is : (expr : Expr) → Typed expr → IsFilled expr
    filled_is = ind-Expr Claim (λ x y is typed.
        let level = out-Expr (roll-Expr x) in
        let held = every_held-Expr (IsNode columns) (roll-Expr x) typed in
        let parts = subst (Inside Typed) held.1 (held_inside Typed held.0) in
        let claims = subst (Inside Claim) (is ∙ sym (out-roll-Expr x)) (held_inside Claim y) in
        let inside = both_inside Claim Typed IsFilled level (λ one claim known. claim known) claims parts in
        subst IsFilled (roll-out-Expr (roll-Expr x)) (rolled level (made level (every_here-Expr (IsNode columns) (roll-Expr x) typed) inside)))
