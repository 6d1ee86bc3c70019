-- A well-typed expression over a batch whose rows fit: its parts are well typed, its kind is valid, and its values are of it.
use Rattle.std.proofs.Common.{◌≡◌, ◌∙◌, ℕ, zero, suc, ◌+◌, ◌<◌, List, [], ◌∷◌, ◌++◌, length, map, get_or, Ok, Err, IfOk, refl, sym, ap, subst, arith}
use Rattle.std.specs.List.{All, AllByRecursion}
use Rattle.std.proofs.lemmas.List.Elements.{All-get_or}
use Rattle.sub_types.specs.Kind.{IsKind}
use Rattle.sub_types.specs.Value.{InKind, Fits, FitsTy}
use Rattle.sub_types.specs.declared.kind.Kind.{Kind}
use Rattle.sub_types.specs.declared.kind.Ty.{Ty}
use Rattle.sub_types.specs.declared.value.Value.{Value}
use Rattle.sub_types.specs.declared.value.Value.TheVariants.{Null}
use Rattle.plan_typed.specs.declared.expr.Expr.{Expr, Expr-F, roll-Expr, out-Expr, out-roll-Expr, map-Expr}
use Rattle.plan_typed.specs.declared.expr.Expr.TheFolds.{every_here-Expr, every_held-Expr}
use Rattle.plan_typed.specs.Types.{ty_in, ty_of}
use Rattle.well_typed.specs.ExprTyped.{IsNode, IsTypedOver}
use Rattle.well_typed.proofs.ValidKinds.{AreKinds, With, all_held, typed_kind}
use Rattle.plan_denote.specs.Computed.{Computed}
use Rattle.eval_typed.proofs.Law.{law_of_types}
use Rattle.batch.specs.BatchRows.{rows_of, types_of, columns_of}
use Rattle.batch.specs.Column.{column_type}
use Rattle.batch.specs.declared.batch.Batch.{Batch}
use Rattle.batch.specs.declared.column.Column.{Column}
use Rattle.batch.proofs.RowLaws.{length-transpose}
use Rattle.kernels.specs.Until.{until}
use Rattle.batch_nodes.specs.Evaluated.{eval_at, evaluated}
use Rattle.batch_nodes.proofs.StrictLaws.{until-all}

-- the topmost node
pub node : (columns : List Ty) (level : Expr-F Expr) (expr : Expr) → roll-Expr level ≡ expr → IsTypedOver columns expr → IsNode columns level
node columns level expr is typed =
    subst (IsNode columns) (out-roll-Expr level) (every_here-Expr (IsNode columns) (roll-Expr level) (subst (IsTypedOver columns) (sym is) typed))

pub type_in : (level : Expr-F Expr) (expr : Expr) → roll-Expr level ≡ expr → ty_in level ≡ ty_of expr
type_in level expr is = ap ty_in (sym (out-roll-Expr level)) ∙ ap ty_of is

-- what holds of the parts of an expression
abbrev pub Inside : (Expr → Type 0) → Expr-F Expr → Type 0
Inside P (Expr-F.Const value ty) = Unit {0}
Inside P (Expr-F.Column index ty) = Unit {0}
Inside P (Expr-F.Call func mode args ty) = AllByRecursion P args
Inside P (Expr-F.If arms other ty) = AllByRecursion (λ (arm : Expr × Expr). P arm.0 × P arm.1) arms × P other
Inside P (Expr-F.Switch subject arms other ty) = P subject × AllByRecursion (λ (arm : Value × Expr). P arm.1) arms × P other
Inside P (Expr-F.OneOf value options ty) = P value × AllByRecursion P options
Inside P (Expr-F.Cast input null_on_fail ty) = P input

both_held : (P : Expr → Type 0) (arms : List (With P × With P)) → AllByRecursion (λ (arm : Expr × Expr). P arm.0 × P arm.1) (map (λ arm. (arm.0.0, arm.1.0)) arms)
both_held P [] = tt
both_held P (arm ∷ arms) = ((arm.0.1, arm.1.1), both_held P arms)

second_held : (P : Expr → Type 0) (arms : List (Value × With P)) → AllByRecursion (λ (arm : Value × Expr). P arm.1) (map (λ arm. (arm.0, arm.1.0)) arms)
second_held P [] = tt
second_held P (arm ∷ arms) = (arm.1.1, second_held P arms)

held_inside : (P : Expr → Type 0) (z : Expr-F (With P)) → Inside P (map-Expr (With P) Expr (λ e. e.0) z)
held_inside P (Expr-F.Const value ty) = tt
held_inside P (Expr-F.Column index ty) = tt
held_inside P (Expr-F.Call func mode args ty) = all_held P args
held_inside P (Expr-F.If arms other ty) = (both_held P arms, other.1)
held_inside P (Expr-F.Switch subject arms other ty) = (subject.1, second_held P arms, other.1)
held_inside P (Expr-F.OneOf value options ty) = (value.1, all_held P options)
held_inside P (Expr-F.Cast input null_on_fail ty) = input.1

pub parts : (columns : List Ty) (level : Expr-F Expr) (expr : Expr) → roll-Expr level ≡ expr → IsTypedOver columns expr → Inside (IsTypedOver columns) level
parts columns level expr is typed =
    let held = every_held-Expr (IsNode columns) (roll-Expr level) (subst (IsTypedOver columns) (sym is) typed) in
    subst (Inside (IsTypedOver columns)) (held.1 ∙ out-roll-Expr level) (held_inside (IsTypedOver columns) held.0)

-- what holds of each, by places
pub by_places : {X : Type 0} (P : X → Type 0) (xs : List X) → AllByRecursion P xs → All P xs
by_places P [] all i d below = absurd (omega (arith, below))
by_places P (x ∷ xs) all zero d below = all.0
by_places P (x ∷ xs) all (suc i) d below = by_places P xs all.1 i d (omega (arith, below))

columns_kinds : (columns : List Column) → AreKinds (map column_type columns)
columns_kinds [] = tt
columns_kinds (column ∷ columns) = (column.valid_kind, columns_kinds columns)

pub kind_valid : (batch : Batch) (e : Expr) → IsTypedOver (types_of batch) e → IsKind (ty_of e).kind
kind_valid batch e typed = typed_kind (types_of batch) (columns_kinds batch.columns.items) e typed

-- a row that the batch has fits
row_fits : (batch : Batch) (row : ℕ) → All (Fits (types_of batch)) (rows_of batch) → row < batch.rows → Fits (types_of batch) (get_or (rows_of batch) row [])
row_fits batch row fit below =
    let long = length-transpose Null batch.rows (columns_of batch) in
    All-get_or (Fits (types_of batch)) (rows_of batch) row [] (omega (arith, long)) fit

pub value_in_kind : (batch : Batch) (e : Expr) (row : ℕ) (value : Value) → IsTypedOver (types_of batch) e → All (Fits (types_of batch)) (rows_of batch) → row < batch.rows → eval_at e batch row ≡ Ok value → InKind (ty_of e).kind value
value_in_kind batch e row value typed fit below is =
    let fits : FitsTy (ty_of e) value = subst (λ (found : Computed). IfOk found (λ value. FitsTy (ty_of e) value)) is (law_of_types (types_of batch) e typed (get_or (rows_of batch) row []) (row_fits batch row fit below)) in
    fits.in_kind

-- what is computed at a row is of the kind, if it is a value
pub computed_in_kind : (batch : Batch) (e : Expr) (row : ℕ) (computed : Computed) → IsTypedOver (types_of batch) e → All (Fits (types_of batch)) (rows_of batch) → row < batch.rows → eval_at e batch row ≡ computed
    → IfOk computed (λ value. InKind (ty_of e).kind value)
computed_in_kind batch e row (Ok value) typed fit below is = value_in_kind batch e row value typed fit below is
computed_in_kind batch e row (Err kind) typed fit below is = tt
