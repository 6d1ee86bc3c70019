-- Measures: what they take of rows fits their arguments' types, and what they give fits their own.
use Rattle.std.proofs.Common.{◌≡◌, ◌∙◌, ℕ, ◌≤◌, ℤ, pos, List, [], ◌∷◌, Bool, true, false, true≢false, not, ◌||◌, ◌==◌, Option, Some, None, Result, Ok, IfOk, IsTrue, Contains, map, length, inl, inr, refl, sym, ap, subst, arith}
use Rattle.std.specs.Prelude.{FitsSigned, int_div, if◌then◌else◌}
use Rattle.std.specs.Int.{w64}
use Rattle.std.specs.List.{AllByRecursion, list_all}
use Rattle.std.specs.Option.{option_map, option_to_list}
use Rattle.std.specs.declared.cmp.Ordering.{Ordering}
use Rattle.std.specs.Ordering.{is_lt, is_gt}
use Rattle.std.proofs.lemmas.Bool.{or_cases, true_from_ne_false}
use Rattle.std.proofs.lemmas.List.Folds.{list_all_at}
use Rattle.sub_types.specs.declared.fault.FaultKind.{FaultKind}
use Rattle.sub_types.specs.declared.fault.FaultKind.TheVariants as faults
use Rattle.sub_types.specs.declared.kind.Kind.{Kind}
use Rattle.sub_types.specs.declared.kind.Kind.TheVariants as kinds
use Rattle.sub_types.specs.declared.kind.Ty.{Ty}
use Rattle.sub_types.specs.declared.value.Value.{Value}
use Rattle.sub_types.specs.declared.value.Value.TheVariants as values
use Rattle.sub_types.specs.Kind.{IsKind}
use Rattle.sub_types.specs.Value.{InKind, FitsTy, Fits}
use Rattle.plan_typed.specs.declared.expr.Expr.{Expr}
use Rattle.plan_typed.specs.declared.expr.Func.{Func}
use Rattle.plan_typed.specs.declared.expr.Func.TheVariants as funcs
use Rattle.plan_typed.specs.declared.expr.Overflow.TheVariants as modes
use Rattle.plan_typed.specs.declared.rel.TypedMeasure.{TypedMeasure}
use Rattle.plan_typed.specs.Types.{ty_of}
use Rattle.func_table.specs.declared.row.Class.TheVariants.{Aggregate}
use Rattle.func_table.specs.declared.row.ResultRule.{ResultRule}
use Rattle.func_table.specs.declared.row.ResultRule.TheVariants as results
use Rattle.func_table.specs.Entry.{Entry, is_class}
use Rattle.func_table.specs.Table.{table}
use Rattle.well_typed.specs.Casts.{is_whole}
use Rattle.well_typed.specs.ExprTyped.{IsCall, IsTypedOver}
use Rattle.well_typed.specs.Results.{first_kind, result_of, is_of_scale, scale_for, is_nullable_call}
use Rattle.well_typed.specs.Types.{type_with}
use Rattle.well_typed.specs.WellTyped.{MayBe, IsMeasureOver}
use Rattle.plan_denote.specs.Rows.{Row, Computed, ◌>>=◌, condition_of, is_true}
use Rattle.plan_denote.specs.Computed.{null}
use Rattle.plan_denote.specs.Eval.{eval}
use Rattle.plan_denote.specs.Order.{value_cmp}
use Rattle.plan_denote.specs.Decimals.{decimal_or}
use Rattle.plan_denote.specs.Whole.{whole}
use Rattle.plan_denote.specs.Tally as aggregate
use Rattle.plan_denote.specs.Aggregate.{MAX_INPUT, argument_of, member_at}
use Rattle.plan_denote.specs.Tally.{Tally, total_of, better_of, best_of, tally_of, if_any, final}
use Rattle.plan_denote.specs.Denote.{measure_of}
use Rattle.eval_typed.proofs.Fit.{IsOf, null_fits, truth_fits, number_fits, moved, either_of}
use Rattle.eval_typed.proofs.KindLaws.{is_decimal}
use Rattle.eval_typed.proofs.Law.{law_of_types}
use Rattle.eval_typed.proofs.NumberLaws.{whole_fits, decimal_or_fits}
use Rattle.eval_typed.proofs.TableLaws.{is_first, is_number, is_declared, kinds_in, IsBy, first_result, number_result, declared_result}
use Rattle.denote_typed.proofs.RowsLaws.{any_result, stepped}

-- the type of what a measure takes: a truth value where it counts rows
abbrev pub argument_type : Option Expr → Ty
argument_type None = type_with kinds.Bool false
argument_type (Some expr) = ty_of expr

-- nothing, or a value of that type
abbrev pub IsTaken : TypedMeasure → Option Value → Type 0
IsTaken measure taken = MayBe (FitsTy (argument_type measure.arg)) taken

argument_fits : (types : List Ty) (arg : Option Expr) (row : Row) → MayBe (IsTypedOver types) arg → Fits types row → IsOf (argument_type arg) (argument_of (option_map eval arg) row)
argument_fits types None row typed fits = truth_fits (type_with kinds.Bool false) true refl
argument_fits types (Some expr) row typed fits = law_of_types types expr typed row fits

taken_where : (P : Option Value → Type 0) (test : Bool) (given : Result (Option Value) FaultKind) → IfOk given P → P None → IfOk (if test then given else Ok None) P
taken_where P true given fits none = fits
taken_where P false given fits none = none

pub member_fits : (types : List Ty) (measure : TypedMeasure) (row : Row) → MayBe (IsTypedOver types) measure.arg → Fits types row → IfOk (member_at row (measure_of measure)) (IsTaken measure)
member_fits types measure row typed fits =
    let argument = argument_of (option_map eval measure.arg) in
    stepped (λ _. Unit {0}) (IsTaken measure) (condition_of (option_map eval measure.filter) row) (λ test. if is_true test then (argument row >>= (λ value. Ok (Some value))) else Ok None)
    (any_result (condition_of (option_map eval measure.filter) row)) (λ test _.
    taken_where (IsTaken measure) (is_true test) (argument row >>= (λ value. Ok (Some value)))
    (stepped (FitsTy (argument_type measure.arg)) (IsTaken measure) (argument row) (λ value. Ok (Some value)) (argument_fits types measure.arg row typed fits) (λ value fit. fit)) tt)

-- how the table has the aggregate functions
abbrev aggregates : Func → ResultRule → Bool
aggregates funcs.Count rule = is_number rule
aggregates funcs.Sum rule = is_number rule || is_declared rule
aggregates funcs.Avg rule = is_declared rule
aggregates funcs.Min rule = is_first rule
aggregates funcs.Max rule = is_first rule
aggregates _ rule = false

abbrev is_as_expected : Entry → Bool
is_as_expected entry = not (is_class entry.class Aggregate) || aggregates entry.row.func entry.row.result

all_expected : list_all is_as_expected table ≡ true
unfolding table
all_expected = refl

held : {X : Type 0} (test : X → Bool) (xs : List X) (x : X) → list_all test xs ≡ true → Contains xs x → test x ≡ true
held test xs x all there =
    true_from_ne_false (test x) (λ fails. true≢false (sym all ∙ list_all_at test xs there.0 x there.1 (ap test there.2 ∙ fails)))

implied : (a b : Bool) → (not a || b) ≡ true → a ≡ true → b ≡ true
implied true b h e = h
implied false b h e = absurd (cc)

abbrev ResultIs : Option Kind → ℕ → Kind → Type 0
ResultIs o scale kind = elim o [ Some result ↦ kind ≡ result | None ↦ IsKind kind × IsTrue (is_of_scale scale kind) ]

scaled : (scale : ℕ) (kind : Kind) → is_of_scale scale kind ≡ true → is_decimal kind ≡ true
scaled scale (kinds.Decimal precision own) is = refl
scaled scale _ is = is

by_rule : (rule : ResultRule) (scale : ℕ) (of : List Kind) (kind : Kind) → ResultIs (result_of rule of) scale kind → IsBy rule of kind
by_rule results.Same scale of kind is = is
by_rule results.Bool scale of kind is = is
by_rule results.I64 scale of kind is = is
by_rule results.DeclaredDecimal scale of kind is = scaled scale kind is.1

-- what is known of a measure
record Known (func : Func) (types : List Ty) (ty : Ty) : Type 0 where
  pub rule : ResultRule
  pub expects : aggregates func rule ≡ true
  pub result : IsBy rule (kinds_in types) ty.kind
  pub nullable : IsTrue (is_nullable_call func types) → IsTrue ty.nullable

known : (func : Func) (types : List Ty) (ty : Ty) (entry : Entry) → IsCall Aggregate func types ty entry → Known func types ty
known func types ty entry call = record {
  rule = entry.row.result;
  expects =
      subst (λ (one : Func). aggregates one entry.row.result ≡ true) call.function
      (implied (is_class entry.class Aggregate) (aggregates entry.row.func entry.row.result) (held is_as_expected table entry all_expected call.takes.listed) call.takes.of_class);
  result = by_rule entry.row.result (scale_for entry.row.func (kinds_in types)) (kinds_in types) ty.kind call.result;
  nullable = call.nullable;
}

-- what is known of the values of a group, by their kind
pub record IsTally (kind : Kind) (tally : Tally) : Type 0 where
  pub few : tally.count ≤ MAX_INPUT
  pub least : FitsTy (type_with kind true) tally.least
  pub greatest : FitsTy (type_with kind true) tally.greatest

better_where : (ty : Ty) (test : Bool) (a b : Value) → FitsTy ty a → FitsTy ty b → FitsTy ty (if test then a else b)
better_where ty true a b fits fit = fits
better_where ty false a b fits fit = fit

better_fits : (ty : Ty) (is_better : Ordering → Bool) (value other : Value) → FitsTy ty value → FitsTy ty other → FitsTy ty (better_of is_better value other)
better_fits ty is_better value values.Null fits fit = fits
better_fits ty is_better value (values.Bool test) fits fit = better_where ty (is_better (value_cmp (values.Bool test) value)) (values.Bool test) value fit fits
better_fits ty is_better value (values.Int n) fits fit = better_where ty (is_better (value_cmp (values.Int n) value)) (values.Int n) value fit fits
better_fits ty is_better value (values.Dec n) fits fit = better_where ty (is_better (value_cmp (values.Dec n) value)) (values.Dec n) value fit fits
better_fits ty is_better value (values.Bytes bytes) fits fit = better_where ty (is_better (value_cmp (values.Bytes bytes) value)) (values.Bytes bytes) value fit fits

best_fits : (ty : Ty) (is_better : Ordering → Bool) (members : List Value) → AllByRecursion (FitsTy ty) members → FitsTy (type_with ty.kind true) (best_of is_better members)
best_fits ty is_better [] all = null_fits (type_with ty.kind true) refl
best_fits ty is_better (value ∷ members) all =
    better_fits (type_with ty.kind true) is_better value (best_of is_better members) (moved ty (type_with ty.kind true) value refl (λ _. refl) all.0) (best_fits ty is_better members all.1)

-- values of a type, of which there are not too many
pub record AreValues (ty : Ty) (members : List Value) : Type 0 where
  pub few : length members ≤ MAX_INPUT
  pub all : AllByRecursion (FitsTy ty) members

pub tally_is : (ty : Ty) (members : List Value) → AreValues ty members → IsTally ty.kind (tally_of members)
tally_is ty members are = record { few = are.few; least = best_fits ty is_lt members are.all; greatest = best_fits ty is_gt members are.all }

-- an exact number in the result's kind
in_whole : (ty : Ty) (n : ℤ) → ty.kind ≡ kinds.I64 → IsOf ty (aggregate.in_kind ty.kind n)
in_whole ty n is = subst (IsOf ty) (ap (λ (kind : Kind). whole kind modes.Error n) is ∙ sym (ap (λ (kind : Kind). aggregate.in_kind kind n) is)) (whole_fits ty modes.Error n (ap is_whole is))

as_decimal : (kind : Kind) (n : ℤ) → is_decimal kind ≡ true → decimal_or faults.Overflow kind n ≡ aggregate.in_kind kind n
as_decimal (kinds.Decimal precision scale) n is = refl
as_decimal _ n is = absurd (cc)

in_decimal : (ty : Ty) (n : ℤ) → is_decimal ty.kind ≡ true → IsOf ty (aggregate.in_kind ty.kind n)
in_decimal ty n is = subst (IsOf ty) (as_decimal ty.kind n is) (decimal_or_fits ty faults.Overflow n is)

if_any_fits : (ty : Ty) (tally : Tally) (computed : Computed) → IsTrue ty.nullable → IsOf ty computed → IsOf ty (if_any tally computed)
if_any_fits ty tally computed nullable fits = either_of (tally.count == 0) null computed ty (λ _. null_fits ty nullable) (λ _. fits)

count_fits : (ty : Ty) (count : ℕ) → ty.kind ≡ kinds.I64 → count ≤ MAX_INPUT → FitsTy ty (values.Int (pos count))
count_fits ty count is few =
    let fits : FitsSigned w64 (pos count) = record { sfits = omega (arith, few) } in
    number_fits ty (pos count) (subst (λ (kind : Kind). InKind kind (values.Int (pos count))) (sym is) fits)

-- a value of the argument's kind, or null
extreme_fits : (arg : Option Expr) (ty : Ty) (value : Value) → ty.kind ≡ first_kind (kinds_in (map ty_of (option_to_list arg))) → IsTrue ty.nullable → FitsTy (type_with (argument_type arg).kind true) value → FitsTy ty value
extreme_fits None ty value is nullable fits = moved (type_with kinds.Bool true) ty value is (λ _. nullable) fits
extreme_fits (Some expr) ty value is nullable fits = moved (type_with (ty_of expr).kind true) ty value is (λ _. nullable) fits

module _ (arg : Option Expr) (ty : Ty) (tally : Tally) (is : IsTally (argument_type arg).kind tally) where
  abbrev types : List Ty
  types = map ty_of (option_to_list arg)

  final_known : (func : Func) → Known func types ty → IsOf ty (final func ty.kind tally)
  final_known funcs.Count call = count_fits ty tally.count (number_result call.rule (kinds_in types) ty.kind call.expects call.result) is.few
  final_known funcs.Sum call =
      if_any_fits ty tally (aggregate.in_kind ty.kind tally.total) (call.nullable refl) (elim (or_cases (is_number call.rule) (is_declared call.rule) call.expects) [
        | inl number ↦ in_whole ty tally.total (number_result call.rule (kinds_in types) ty.kind number call.result)
        | inr declared ↦ in_decimal ty tally.total (declared_result call.rule (kinds_in types) ty.kind declared call.result)
      ])
  final_known funcs.Avg call =
      if_any_fits ty tally (aggregate.in_kind ty.kind (int_div tally.total (pos tally.count))) (call.nullable refl)
      (in_decimal ty (int_div tally.total (pos tally.count)) (declared_result call.rule (kinds_in types) ty.kind call.expects call.result))
  final_known funcs.Min call = extreme_fits arg ty tally.least (first_result call.rule (kinds_in types) ty.kind call.expects call.result) (call.nullable refl) is.least
  final_known funcs.Max call = extreme_fits arg ty tally.greatest (first_result call.rule (kinds_in types) ty.kind call.expects call.result) (call.nullable refl) is.greatest
  final_known _ call = let wrong : false ≡ true = call.expects in absurd (cc)

-- what a well-typed measure gives
pub final_fits : (columns : List Ty) (measure : TypedMeasure) (tally : Tally) → IsMeasureOver columns measure → IsTally (argument_type measure.arg).kind tally → IsOf measure.ty (final measure.func measure.ty.kind tally)
final_fits columns measure tally typed is = final_known measure.arg measure.ty tally is measure.func (known measure.func (map ty_of (option_to_list measure.arg)) measure.ty typed.entry typed.call)
