-- The nodes of an expression: its own, and then those inside it.
use Rattle.std.proofs.Common.{◌≡◌, ◌∙◌, ℕ, List, [], ◌∷◌, ◌++◌, Bool, refl, sym, ap, subst}
use Rattle.std.specs.List.{flat_map}
use Rattle.std.proofs.lemmas.List.Folds.{flat_map-map}
use Rattle.sub_types.specs.declared.kind.Ty.{Ty}
use Rattle.sub_types.specs.declared.value.Value.{Value}
use Rattle.plan_typed.specs.declared.expr.Expr.{Expr, Expr-F, out-Expr, roll-Expr, roll-out-Expr, map-Expr}
use Rattle.plan_typed.specs.declared.expr.Expr.TheFolds.{fold-roll-Expr}
use Rattle.plan_typed.specs.declared.expr.Expr.TheVariants as exprs
use Rattle.plan_typed.specs.declared.expr.Expr.TheVariants.{rolls-Const, rolls-Column, rolls-Call, rolls-If, rolls-Switch, rolls-OneOf, rolls-Cast}
use Rattle.plan_typed.specs.declared.expr.Func.{Func}
use Rattle.plan_typed.specs.declared.expr.Overflow.{Overflow}
use Rattle.plan_typed.specs.Types.{ty_in, ty_of}
use Rattle.denote_typed.specs.Holes.{Slot, OfValue, OfList, OfNone, Nodes, nodes_level, nodes_of, slots_of, slots_of_all}

-- an expression's own node, and those inside it
abbrev pub first_slot : List Slot → Slot
first_slot [] = OfNone
first_slot (slot ∷ slots) = slot

abbrev pub later_slots : List Slot → List Slot
later_slots [] = []
later_slots (slot ∷ slots) = slots

abbrev pub own_of : Expr → Slot
own_of expr = first_slot (slots_of expr)

abbrev pub rest_of : Expr → List Slot
rest_of expr = later_slots (slots_of expr)

-- the nodes by one level
abbrev level_of : Expr-F Expr → Expr-F Nodes
level_of level = map-Expr Expr Nodes nodes_of level

rolled_nodes : (level : Expr-F Expr) (expr : Expr) → roll-Expr level ≡ expr → nodes_of expr ≡ nodes_level (level_of level)
rolled_nodes level expr rolls = ap nodes_of (sym rolls) ∙ fold-roll-Expr Nodes nodes_level level

split_level : (level : Expr-F Nodes) → (nodes_level level).slots ≡ first_slot (nodes_level level).slots ∷ later_slots (nodes_level level).slots
split_level (Expr-F.Const value ty) = refl
split_level (Expr-F.Column index ty) = refl
split_level (Expr-F.Call func mode args ty) = refl
split_level (Expr-F.If arms other ty) = refl
split_level (Expr-F.Switch subject arms other ty) = refl
split_level (Expr-F.OneOf value options ty) = refl
split_level (Expr-F.Cast input null_on_fail ty) = refl

pub split_slots : (expr : Expr) → slots_of expr ≡ own_of expr ∷ rest_of expr
split_slots expr =
    subst (λ (nodes : Nodes). nodes.slots ≡ first_slot nodes.slots ∷ later_slots nodes.slots)
    (sym (rolled_nodes (out-Expr expr) expr (roll-out-Expr expr))) (split_level (level_of (out-Expr expr)))

-- the type of an expression's nodes is its own
level_type : (level : Expr-F Expr) → (nodes_level (level_of level)).ty ≡ ty_in level
level_type (Expr-F.Const value ty) = refl
level_type (Expr-F.Column index ty) = refl
level_type (Expr-F.Call func mode args ty) = refl
level_type (Expr-F.If arms other ty) = refl
level_type (Expr-F.Switch subject arms other ty) = refl
level_type (Expr-F.OneOf value options ty) = refl
level_type (Expr-F.Cast input null_on_fail ty) = refl

pub nodes_type : (expr : Expr) → (nodes_of expr).ty ≡ ty_of expr
nodes_type expr = ap (λ (nodes : Nodes). nodes.ty) (rolled_nodes (out-Expr expr) expr (roll-out-Expr expr)) ∙ level_type (out-Expr expr)

-- the nodes of several expressions
pub slots_of_each : (exprs : List Expr) → slots_of_all exprs ≡ flat_map slots_of exprs
slots_of_each exprs = flat_map-map (λ (one : Nodes). one.slots) nodes_of exprs

abbrev pub slots_of_arms : List (Expr × Expr) → List Slot
slots_of_arms arms = flat_map (λ (arm : Expr × Expr). slots_of arm.0 ++ slots_of arm.1) arms

abbrev pub slots_of_choices : List (Value × Expr) → List Slot
slots_of_choices arms = flat_map (λ (choice : Value × Expr). slots_of choice.1) arms

-- each kind of expression
slots_by : (level : Expr-F Expr) (expr : Expr) → roll-Expr level ≡ expr → slots_of expr ≡ (nodes_level (level_of level)).slots
slots_by level expr rolls = ap (λ (nodes : Nodes). nodes.slots) (rolled_nodes level expr rolls)

pub slots-Const : (value : Value) (ty : Ty) → slots_of (exprs.Const value ty) ≡ OfValue ty ∷ []
slots-Const value ty = slots_by (Expr-F.Const value ty) (exprs.Const value ty) (rolls-Const value ty)

pub slots-Column : (index : ℕ) (ty : Ty) → slots_of (exprs.Column index ty) ≡ OfNone ∷ []
slots-Column index ty = slots_by (Expr-F.Column index ty) (exprs.Column index ty) (rolls-Column index ty)

pub slots-Call : (func : Func) (mode : Overflow) (args : List Expr) (ty : Ty) → slots_of (exprs.Call func mode args ty) ≡ OfNone ∷ flat_map slots_of args
slots-Call func mode args ty = slots_by (Expr-F.Call func mode args ty) (exprs.Call func mode args ty) (rolls-Call func mode args ty) ∙ ap (λ l. OfNone ∷ l) (slots_of_each args)

pub slots-If : (arms : List (Expr × Expr)) (other : Expr) (ty : Ty) → slots_of (exprs.If arms other ty) ≡ OfNone ∷ (slots_of_arms arms ++ slots_of other)
slots-If arms other ty =
    slots_by (Expr-F.If arms other ty) (exprs.If arms other ty) (rolls-If arms other ty)
    ∙ ap (λ l. OfNone ∷ (l ++ slots_of other)) (flat_map-map (λ (arm : Nodes × Nodes). arm.0.slots ++ arm.1.slots) (λ (arm : Expr × Expr). (nodes_of arm.0, nodes_of arm.1)) arms)

pub slots-Switch : (subject : Expr) (arms : List (Value × Expr)) (other : Expr) (ty : Ty) → slots_of (exprs.Switch subject arms other ty) ≡ OfNone ∷ (slots_of subject ++ slots_of_choices arms ++ slots_of other)
slots-Switch subject arms other ty =
    slots_by (Expr-F.Switch subject arms other ty) (exprs.Switch subject arms other ty) (rolls-Switch subject arms other ty)
    ∙ ap (λ l. OfNone ∷ (slots_of subject ++ l ++ slots_of other)) (flat_map-map (λ (choice : Value × Nodes). choice.1.slots) (λ (choice : Value × Expr). (choice.0, nodes_of choice.1)) arms)

pub slots-OneOf : (value : Expr) (options : List Expr) (ty : Ty) → slots_of (exprs.OneOf value options ty) ≡ OfList (ty_of value) ty ∷ (slots_of value ++ flat_map slots_of options)
slots-OneOf value options ty =
    slots_by (Expr-F.OneOf value options ty) (exprs.OneOf value options ty) (rolls-OneOf value options ty)
    ∙ ap (λ (one : Ty). OfList one ty ∷ (slots_of value ++ slots_of_all options)) (nodes_type value) ∙ ap (λ l. OfList (ty_of value) ty ∷ (slots_of value ++ l)) (slots_of_each options)

pub slots-Cast : (input : Expr) (null_on_fail : Bool) (ty : Ty) → slots_of (exprs.Cast input null_on_fail ty) ≡ OfNone ∷ slots_of input
slots-Cast input null_on_fail ty = slots_by (Expr-F.Cast input null_on_fail ty) (exprs.Cast input null_on_fail ty) (rolls-Cast input null_on_fail ty)
