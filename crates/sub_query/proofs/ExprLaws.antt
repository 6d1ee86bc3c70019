-- An expression with the values put in, by what is inside it.
use Rattle.std.proofs.Common.{◌≡◌, ◌∙◌, ℕ, ◌+◌, ◌<◌, Bool, List, [], ◌∷◌, ◌++◌, Option, Some, None, map, length, get_or, refl, sym, ap, rules, arith}
use Rattle.std.proofs.lemmas.List.Sums.{sum_by-cons}
use Rattle.sub_types.specs.declared.kind.Ty.{Ty}
use Rattle.sub_types.specs.declared.value.Value.{Value}
use Rattle.plan_typed.specs.declared.expr.Expr.{Expr, Expr-F, roll-Expr, the_lemmas}
use Rattle.plan_typed.specs.declared.expr.Expr.TheVariants.{rolls-Const, rolls-Column, rolls-Call, rolls-If, rolls-Switch, rolls-OneOf, rolls-Cast}
use Rattle.plan_typed.specs.declared.expr.Expr.TheVariants as e
use Rattle.plan_typed.specs.declared.expr.Func.{Func}
use Rattle.plan_typed.specs.declared.expr.Overflow.{Overflow}
use Rattle.plan_denote.specs.Holes.{Worth, Single, Among, Filled, put, filled_level, filled_expr, all_from, size_of_all}
use Rattle.sub_query.specs.Parts.{value_with, options_with, arms_with, size_of_arms, choices_with, size_of_choices}
use Rattle.sub_query.proofs.WalkLaws.{IsWalked, walked_more}

-- what is put into a node
put_const : (w : Option Worth) (value : Value) (ty : Ty) → roll-Expr (put w (Expr-F.Const value ty)) ≡ e.Const (value_with w value) ty
put_const None value ty = rolls-Const value ty
put_const (Some (Single found)) value ty = rolls-Const found ty
put_const (Some (Among column found)) value ty = rolls-Const value ty

put_column : (w : Option Worth) (index : ℕ) (ty : Ty) → roll-Expr (put w (Expr-F.Column index ty)) ≡ e.Column index ty
put_column None index ty = rolls-Column index ty
put_column (Some (Single value)) index ty = rolls-Column index ty
put_column (Some (Among column found)) index ty = rolls-Column index ty

put_call : (w : Option Worth) (func : Func) (mode : Overflow) (args : List Expr) (ty : Ty) → roll-Expr (put w (Expr-F.Call func mode args ty)) ≡ e.Call func mode args ty
put_call None func mode args ty = rolls-Call func mode args ty
put_call (Some (Single value)) func mode args ty = rolls-Call func mode args ty
put_call (Some (Among column found)) func mode args ty = rolls-Call func mode args ty

put_if : (w : Option Worth) (arms : List (Expr × Expr)) (other : Expr) (ty : Ty) → roll-Expr (put w (Expr-F.If arms other ty)) ≡ e.If arms other ty
put_if None arms other ty = rolls-If arms other ty
put_if (Some (Single value)) arms other ty = rolls-If arms other ty
put_if (Some (Among column found)) arms other ty = rolls-If arms other ty

put_switch : (w : Option Worth) (subject : Expr) (arms : List (Value × Expr)) (other : Expr) (ty : Ty) → roll-Expr (put w (Expr-F.Switch subject arms other ty)) ≡ e.Switch subject arms other ty
put_switch None subject arms other ty = rolls-Switch subject arms other ty
put_switch (Some (Single value)) subject arms other ty = rolls-Switch subject arms other ty
put_switch (Some (Among column found)) subject arms other ty = rolls-Switch subject arms other ty

put_one_of : (w : Option Worth) (value : Expr) (options : List Expr) (ty : Ty) → roll-Expr (put w (Expr-F.OneOf value options ty)) ≡ e.OneOf value (options_with w options) ty
put_one_of None value options ty = rolls-OneOf value options ty
put_one_of (Some (Single found)) value options ty = rolls-OneOf value options ty
put_one_of (Some (Among column found)) value options ty = rolls-OneOf value (options_with (Some (Among column found)) options) ty

put_cast : (w : Option Worth) (input : Expr) (null_on_fail : Bool) (ty : Ty) → roll-Expr (put w (Expr-F.Cast input null_on_fail ty)) ≡ e.Cast input null_on_fail ty
put_cast None input null_on_fail ty = rolls-Cast input null_on_fail ty
put_cast (Some (Single value)) input null_on_fail ty = rolls-Cast input null_on_fail ty
put_cast (Some (Among column found)) input null_on_fail ty = rolls-Cast input null_on_fail ty

module _ (here : ℕ → Option Worth) where
  abbrev fill : Expr → Filled
  fill = filled_expr here

  filled-Const : (value : Value) (ty : Ty) → fill (e.Const value ty) ≡ filled_level here (Expr-F.Const value ty)
  filled-Const value ty = search (rules, the_lemmas)

  filled-Column : (index : ℕ) (ty : Ty) → fill (e.Column index ty) ≡ filled_level here (Expr-F.Column index ty)
  filled-Column index ty = search (rules, the_lemmas)

  filled-Call : (func : Func) (mode : Overflow) (args : List Expr) (ty : Ty) → fill (e.Call func mode args ty) ≡ filled_level here (Expr-F.Call func mode (map fill args) ty)
  filled-Call func mode args ty = search (rules, the_lemmas)

  filled-If : (arms : List (Expr × Expr)) (other : Expr) (ty : Ty) → fill (e.If arms other ty) ≡ filled_level here (Expr-F.If (map (λ (arm : Expr × Expr). (fill arm.0, fill arm.1)) arms) (fill other) ty)
  filled-If arms other ty = search (rules, the_lemmas)

  filled-Switch : (subject : Expr) (arms : List (Value × Expr)) (other : Expr) (ty : Ty)
      → fill (e.Switch subject arms other ty) ≡ filled_level here (Expr-F.Switch (fill subject) (map (λ (arm : Value × Expr). (arm.0, fill arm.1)) arms) (fill other) ty)
  filled-Switch subject arms other ty = search (rules, the_lemmas)

  filled-OneOf : (value : Expr) (options : List Expr) (ty : Ty) → fill (e.OneOf value options ty) ≡ filled_level here (Expr-F.OneOf (fill value) (map fill options) ty)
  filled-OneOf value options ty = search (rules, the_lemmas)

  filled-Cast : (input : Expr) (null_on_fail : Bool) (ty : Ty) → fill (e.Cast input null_on_fail ty) ≡ filled_level here (Expr-F.Cast (fill input) null_on_fail ty)
  filled-Cast input null_on_fail ty = search (rules, the_lemmas)

  -- the expression that is made from a number on, and how many nodes it has
  pub at-Const : (value : Value) (ty : Ty) (n : ℕ) → (fill (e.Const value ty)).at n ≡ e.Const (value_with (here n) value) ty
  at-Const value ty n = ap (λ (one : Filled). one.at n) (filled-Const value ty) ∙ put_const (here n) value ty

  pub at-Column : (index : ℕ) (ty : Ty) (n : ℕ) → (fill (e.Column index ty)).at n ≡ e.Column index ty
  at-Column index ty n = ap (λ (one : Filled). one.at n) (filled-Column index ty) ∙ put_column (here n) index ty

  pub at-Call : (func : Func) (mode : Overflow) (args : List Expr) (ty : Ty) (n : ℕ) → (fill (e.Call func mode args ty)).at n ≡ e.Call func mode (all_from here (n + 1) args) ty
  at-Call func mode args ty n = ap (λ (one : Filled). one.at n) (filled-Call func mode args ty) ∙ put_call (here n) func mode (all_from here (n + 1) args) ty

  pub at-If : (arms : List (Expr × Expr)) (other : Expr) (ty : Ty) (n : ℕ) → (fill (e.If arms other ty)).at n ≡ e.If (arms_with here (n + 1) arms) ((fill other).at (n + 1 + size_of_arms here arms)) ty
  at-If arms other ty n = ap (λ (one : Filled). one.at n) (filled-If arms other ty) ∙ put_if (here n) (arms_with here (n + 1) arms) ((fill other).at (n + 1 + size_of_arms here arms)) ty

  pub at-Switch : (subject : Expr) (arms : List (Value × Expr)) (other : Expr) (ty : Ty) (n : ℕ)
      → (fill (e.Switch subject arms other ty)).at n
      ≡ e.Switch ((fill subject).at (n + 1)) (choices_with here (n + 1 + (fill subject).size) arms) ((fill other).at (n + 1 + (fill subject).size + size_of_choices here arms)) ty
  at-Switch subject arms other ty n =
      let first = fill subject in
      ap (λ (one : Filled). one.at n) (filled-Switch subject arms other ty)
      ∙ put_switch (here n) (first.at (n + 1)) (choices_with here (n + 1 + first.size) arms) ((fill other).at (n + 1 + first.size + size_of_choices here arms)) ty

  pub at-OneOf : (value : Expr) (options : List Expr) (ty : Ty) (n : ℕ)
      → (fill (e.OneOf value options ty)).at n ≡ e.OneOf ((fill value).at (n + 1)) (options_with (here n) (all_from here (n + 1 + (fill value).size) options)) ty
  at-OneOf value options ty n =
      ap (λ (one : Filled). one.at n) (filled-OneOf value options ty) ∙ put_one_of (here n) ((fill value).at (n + 1)) (all_from here (n + 1 + (fill value).size) options) ty

  pub at-Cast : (input : Expr) (null_on_fail : Bool) (ty : Ty) (n : ℕ) → (fill (e.Cast input null_on_fail ty)).at n ≡ e.Cast ((fill input).at (n + 1)) null_on_fail ty
  at-Cast input null_on_fail ty n = ap (λ (one : Filled). one.at n) (filled-Cast input null_on_fail ty) ∙ put_cast (here n) ((fill input).at (n + 1)) null_on_fail ty

  pub size-Const : (value : Value) (ty : Ty) → (fill (e.Const value ty)).size ≡ 1
  size-Const value ty = ap (λ (one : Filled). one.size) (filled-Const value ty)

  pub size-Column : (index : ℕ) (ty : Ty) → (fill (e.Column index ty)).size ≡ 1
  size-Column index ty = ap (λ (one : Filled). one.size) (filled-Column index ty)

  pub size-Call : (func : Func) (mode : Overflow) (args : List Expr) (ty : Ty) → (fill (e.Call func mode args ty)).size ≡ 1 + size_of_all here args
  size-Call func mode args ty = ap (λ (one : Filled). one.size) (filled-Call func mode args ty)

  pub size-If : (arms : List (Expr × Expr)) (other : Expr) (ty : Ty) → (fill (e.If arms other ty)).size ≡ 1 + (size_of_arms here arms + (fill other).size)
  size-If arms other ty = ap (λ (one : Filled). one.size) (filled-If arms other ty)

  pub size-Switch : (subject : Expr) (arms : List (Value × Expr)) (other : Expr) (ty : Ty)
      → (fill (e.Switch subject arms other ty)).size ≡ 1 + ((fill subject).size + size_of_choices here arms + (fill other).size)
  size-Switch subject arms other ty = ap (λ (one : Filled). one.size) (filled-Switch subject arms other ty)

  pub size-OneOf : (value : Expr) (options : List Expr) (ty : Ty) → (fill (e.OneOf value options ty)).size ≡ 1 + ((fill value).size + size_of_all here options)
  size-OneOf value options ty = ap (λ (one : Filled). one.size) (filled-OneOf value options ty)

  pub size-Cast : (input : Expr) (null_on_fail : Bool) (ty : Ty) → (fill (e.Cast input null_on_fail ty)).size ≡ 1 + (fill input).size
  size-Cast input null_on_fail ty = ap (λ (one : Filled). one.size) (filled-Cast input null_on_fail ty)

  -- walks along expressions, arms and choices
  abbrev pub AreExprs : ℕ → List Expr → ℕ → List Expr → ℕ → Type 0
  AreExprs = IsWalked (all_from here) (size_of_all here)

  abbrev pub AreArms : ℕ → List (Expr × Expr) → ℕ → List (Expr × Expr) → ℕ → Type 0
  AreArms = IsWalked (arms_with here) (size_of_arms here)

  abbrev pub AreChoices : ℕ → List (Value × Expr) → ℕ → List (Value × Expr) → ℕ → Type 0
  AreChoices = IsWalked (choices_with here) (size_of_choices here)

  pub expr_more : (start : ℕ) (items : List Expr) (i : ℕ) (item d : Expr) (made : List Expr) (new : Expr) (next after : ℕ) → i < length items → item ≡ get_or items i d
      → AreExprs start items i made next → new ≡ (fill item).at next → after ≡ next + (fill item).size → AreExprs start items (i + 1) (made ++ new ∷ []) after
  expr_more =
      walked_more (λ n item. (fill item).at n) (λ item. (fill item).size) (all_from here) (size_of_all here) (λ n. refl) (λ n x xs. refl) refl
      (λ x xs. sum_by-cons (λ (one : Filled). one.size) (fill x) (map fill xs))

  abbrev pub arm_at : ℕ → Expr × Expr → Expr × Expr
  arm_at n arm = ((fill arm.0).at n, (fill arm.1).at (n + (fill arm.0).size))

  pub arm_more : (start : ℕ) (items : List (Expr × Expr)) (i : ℕ) (item d : Expr × Expr) (made : List (Expr × Expr)) (new : Expr × Expr) (next after : ℕ) → i < length items → item ≡ get_or items i d
      → AreArms start items i made next → new ≡ arm_at next item → after ≡ next + ((fill item.0).size + (fill item.1).size) → AreArms start items (i + 1) (made ++ new ∷ []) after
  arm_more =
      walked_more arm_at (λ item. (fill item.0).size + (fill item.1).size) (arms_with here) (size_of_arms here) (λ n. refl)
      (λ n x xs. ap (λ (at : ℕ). arm_at n x ∷ arms_with here at xs) (omega arith)) refl
      (λ x xs. sum_by-cons (λ (one : Filled × Filled). one.0.size + one.1.size) (fill x.0, fill x.1) (map (λ (arm : Expr × Expr). (fill arm.0, fill arm.1)) xs))

  pub choice_more : (start : ℕ) (items : List (Value × Expr)) (i : ℕ) (item d : Value × Expr) (made : List (Value × Expr)) (new : Value × Expr) (next after : ℕ) → i < length items → item ≡ get_or items i d
      → AreChoices start items i made next → new ≡ (item.0, (fill item.1).at next) → after ≡ next + (fill item.1).size → AreChoices start items (i + 1) (made ++ new ∷ []) after
  choice_more =
      walked_more (λ n item. (item.0, (fill item.1).at n)) (λ item. (fill item.1).size) (choices_with here) (size_of_choices here) (λ n. refl) (λ n x xs. refl) refl
      (λ x xs. sum_by-cons (λ (one : Value × Filled). one.1.size) (x.0, fill x.1) (map (λ (arm : Value × Expr). (arm.0, fill arm.1)) xs))

  -- an if and a switch of parts that are made one after the other
  pub if_made : (n m : ℕ) (arms : List (Expr × Expr)) (other : Expr) (ty : Ty) (new_arms : List (Expr × Expr)) (new_other : Expr)
      → new_arms ≡ arms_with here (n + 1) arms → m ≡ n + 1 + size_of_arms here arms → new_other ≡ (fill other).at m
      → e.If new_arms new_other ty ≡ (fill (e.If arms other ty)).at n
  if_made n m arms other ty new_arms new_other is_arms is_place is_other =
      ap (λ one. e.If one new_other ty) is_arms ∙ ap (λ one. e.If (arms_with here (n + 1) arms) one ty) (is_other ∙ ap (λ (at : ℕ). (fill other).at at) is_place) ∙ sym (at-If arms other ty n)

  pub switch_made : (n m l : ℕ) (subject : Expr) (arms : List (Value × Expr)) (other : Expr) (ty : Ty) (new_subject : Expr) (new_arms : List (Value × Expr)) (new_other : Expr)
      → new_subject ≡ (fill subject).at (n + 1) → m ≡ n + 1 + (fill subject).size → new_arms ≡ choices_with here m arms → l ≡ m + size_of_choices here arms → new_other ≡ (fill other).at l
      → e.Switch new_subject new_arms new_other ty ≡ (fill (e.Switch subject arms other ty)).at n
  switch_made n m l subject arms other ty new_subject new_arms new_other is_subject is_place is_arms is_end is_other =
      let first = (fill subject).at (n + 1) in
      let place = n + 1 + (fill subject).size in
      ap (λ one. e.Switch one new_arms new_other ty) is_subject ∙ ap (λ one. e.Switch first one new_other ty) (is_arms ∙ ap (λ (at : ℕ). choices_with here at arms) is_place)
      ∙ ap (λ one. e.Switch first (choices_with here place arms) one ty) (is_other ∙ ap (λ (at : ℕ). (fill other).at at) (is_end ∙ ap (λ (at : ℕ). at + size_of_choices here arms) is_place))
      ∙ sym (at-Switch subject arms other ty n)
