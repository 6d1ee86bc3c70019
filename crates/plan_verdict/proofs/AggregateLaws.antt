-- The checks of aggregates give well-typed ones.
use Rattle.std.proofs.Common.{◌≡◌, ◌≤◌, ℕ, List, [], ◌∷◌, Bool, true, false, Option, Some, None, IsTrue, map, refl, sym, subst, arith}
use Rattle.std.specs.Prelude.{length, ◌&&◌, ◌||◌, not, is_some, is_none}
use Rattle.std.specs.List.{AllByRecursion, Contains, list_all}
use Rattle.std.specs.Option.{option_to_list}
use Rattle.std.proofs.lemmas.List.Elements.{All-contains}
use Rattle.std.proofs.lemmas.List.Sums.{AllPass-from_list_all}
use Rattle.sub_types.specs.declared.kind.Kind.{Kind}
use Rattle.sub_types.specs.declared.kind.Ty.{Ty}
use Rattle.plan_leaves.specs.declared.options.FunctionOption.{FunctionOption}
use Rattle.plan_leaves.specs.declared.types.RawType.{RawType}
use Rattle.plan_typed.specs.declared.expr.Expr.{Expr}
use Rattle.plan_typed.specs.declared.rel.SetMeasure.{SetMeasure}
use Rattle.plan_typed.specs.Types.{ty_of}
use Rattle.func_table.specs.declared.row.Class.TheVariants.{Aggregate}
use Rattle.func_table.specs.Entry.{Entry, Arguments, Each, AnyNumber, OneOrMore, is_class, takes_kind, takes_kinds}
use Rattle.func_table.specs.Table.{table}
use Rattle.well_typed.specs.ExprTyped.{IsCall, IsTypedOver}
use Rattle.well_typed.specs.WellTyped.{MayBe, IsConditionOver, IsMeasureOver, IsSetMeasureOver}
use Rattle.well_typed.proofs.ValidKinds.{AreKinds}
use Rattle.plan_verdict.specs.declared.call.Call.{Call}
use Rattle.plan_verdict.specs.declared.rule.Rule.TheVariants as rules
use Rattle.plan_verdict.specs.Aggregates.{first_of, measured, measure_in}
use Rattle.plan_verdict.specs.Calls.{named_in, call_in}
use Rattle.plan_verdict.specs.Checking.{Checking}
use Rattle.plan_verdict.specs.Exprs.{Terms}
use Rattle.plan_verdict.specs.Meaning.{Scope, Expression, Aggregation}
use Rattle.plan_verdict.proofs.CallLaws.{call_found, IsCalled}
use Rattle.plan_verdict.proofs.ExprLaws.{IsSoundExpr, arguments_sound}
use Rattle.plan_verdict.proofs.RelLaws.{anything_given, maybe_sound}
use Rattle.plan_verdict.proofs.Sound.{Quiet, then, and_then, accepted, parted, tested, found, same_held, length_mapped}

-- the arguments of a function are one at most
abbrev takes_one : Arguments → Bool
takes_one (Each []) = true
takes_one (Each (name ∷ [])) = true
takes_one _ = false

-- an entry of an aggregate function takes one argument at most
abbrev is_short : Entry → Bool
is_short entry = not (is_class entry.class Aggregate) || takes_one entry.arguments

all_short : list_all is_short table ≡ true
unfolding table
all_short = refl

short_at : (entry : Entry) → Contains table entry → is_short entry ≡ true
short_at entry listed = All-contains (λ one. is_short one ≡ true) table entry (AllPass-from_list_all is_short table all_short) listed

one_where : (aggregate takes : Bool) → aggregate ≡ true → (not aggregate || takes) ≡ true → takes ≡ true
one_where true takes e test = test
one_where false takes e test = absurd cc

one_at_most : (arguments : Arguments) (given : List Kind) → takes_one arguments ≡ true → takes_kinds arguments given ≡ true → length given ≤ 1
one_at_most (Each []) [] one takes = omega arith
one_at_most (Each []) (kind ∷ given) one takes = absurd cc
one_at_most (Each (name ∷ [])) [] one takes = omega arith
one_at_most (Each (name ∷ [])) (kind ∷ []) one takes = omega arith
one_at_most (Each (name ∷ [])) (kind ∷ other ∷ given) one takes = absurd (no (takes_kind name kind) takes)
  where
    no : (test : Bool) → (test && false) ≡ true → ⊥
    no true e = cc
    no false e = cc
one_at_most (Each (name ∷ other ∷ names)) given one takes = absurd cc
one_at_most (AnyNumber name) given one takes = absurd cc
one_at_most (OneOrMore name) given one takes = absurd cc

-- the only argument is the list of arguments
one_argument : (args : List Expr) → length args ≤ 1 → option_to_list (first_of args) ≡ args
one_argument [] few = refl
one_argument (first ∷ []) few = refl
one_argument (first ∷ second ∷ rest) few = absurd (omega (arith, few))

first_known : (P : Expr → Type 0) (args : List Expr) → AllByRecursion P args → MayBe P (first_of args)
first_known P [] all = tt
first_known P (first ∷ rest) all = all.0

-- an aggregate function of arguments over these columns gives a measure over them
abbrev pub IsSoundFunction : Aggregation → Type 0
IsSoundFunction function = (scope : Scope) → AreKinds scope.columns → (kept : Option Expr) → MayBe (IsConditionOver scope.columns) kept → Quiet (IsMeasureOver scope.columns) (function.check scope kept)

-- what gives a measure of a set operation
abbrev pub IsSoundMeasure : (Scope → Checking SetMeasure) → Type 0
IsSoundMeasure one = (scope : Scope) → AreKinds scope.columns → Quiet (IsSetMeasureOver scope.columns) (one scope)

has_argument : {A : Type 0} (distinct : Bool) (arg : Option A) → not (distinct && is_none arg) ≡ true → IsTrue distinct → IsTrue (is_some arg)
has_argument true (Some one) test is = refl
has_argument true None test is = absurd cc
has_argument false arg test is = absurd cc

module _ (scope : Scope) (valid : AreKinds scope.columns) where
  -- a call of an aggregate function has one argument at most
  few_arguments : (args : List Expr) (call : Call) → IsCalled Aggregate (map ty_of args) call → length args ≤ 1
  few_arguments args call called =
      let takes = called.1.takes in
      let types = map ty_of args in
      let one = one_where (is_class called.0.class Aggregate) (takes_one called.0.arguments) takes.of_class (short_at called.0 takes.listed) in
      omega (arith, one_at_most called.0.arguments (map (λ (ty : Ty). ty.kind) types) one takes.kinds, length_mapped (λ (ty : Ty). ty.kind) types, length_mapped ty_of args)

  measure_made : (args : List Expr) (call : Call) (kept : Option Expr) → AllByRecursion (IsTypedOver scope.columns) args → IsCalled Aggregate (map ty_of args) call → MayBe (IsConditionOver scope.columns) kept
      → IsMeasureOver scope.columns (record { func = call.func; arg = first_of args; filter = kept; ty = call.ty })
  measure_made args call kept typed called is = record {
    entry = called.0;
    call = subst (λ l. IsCall Aggregate call.func (map ty_of l) call.ty called.0) (sym (one_argument args (few_arguments args call called))) called.1;
    arg = first_known (IsTypedOver scope.columns) args typed;
    filter = is;
  }

  pub measured_sound : (terms : Terms) (reference : ℕ) (output : Option RawType) (written : List (Option Expression)) (options : List FunctionOption) (kept : Option Expr) → AllByRecursion (MayBe IsSoundExpr) written
      → MayBe (IsConditionOver scope.columns) kept → Quiet (IsMeasureOver scope.columns) (measured terms reference output written options scope kept)
  measured_sound terms reference output written options kept all is extra =
      then (parted (λ _. Unit {0}) extra scope.relation (named_in terms.declared Aggregate reference) (anything_given (named_in terms.declared Aggregate reference))) (λ named _.
      then (arguments_sound scope valid written all extra) (λ args typed.
      then (parted (IsCalled Aggregate (map ty_of args)) extra scope.relation (call_in named Aggregate (map ty_of args) output options) (call_found named Aggregate (map ty_of args) output options)) (λ call called.
      accepted (IsMeasureOver scope.columns) (λ _. extra) extra (record { func = call.func; arg = first_of args; filter = kept; ty = call.ty }) (measure_made args call kept typed called is) (same_held extra))))

  pub measure_sound : (written : Option Aggregation) (filter : Option Expression) → MayBe IsSoundFunction written → MayBe IsSoundExpr filter → Quiet (IsSetMeasureOver scope.columns) (measure_in written filter scope)
  measure_sound written filter s ok extra =
      then (found IsSoundFunction extra scope.relation written s) (λ function sound.
      and_then (tested extra scope.relation function.is_supported rules.UnsupportedForm) (λ _ _.
      then (maybe_sound scope valid filter ok extra) (λ kept is.
      then (sound scope valid kept is extra) (λ measure typed.
      and_then (tested extra scope.relation (not (function.is_distinct && is_none measure.arg)) rules.BadArguments) (λ _ test.
      accepted (IsSetMeasureOver scope.columns) (λ _. extra) extra (record { measure = measure; distinct = function.is_distinct })
      (record { measure = typed; distinct = has_argument function.is_distinct measure.arg test }) (same_held extra))))))
