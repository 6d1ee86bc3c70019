-- What the checks of measures give, by what each step gives.
use Rattle.std.proofs.Common.{◌≡◌, ◌∙◌, ap, sym, refl, ℕ, true, false, Option, Some, List, ◌&&◌, not, map, is_none, subst, Result, Ok, Err}
use Rattle.plan_leaves.specs.declared.options.FunctionOption.{FunctionOption}
use Rattle.plan_leaves.specs.declared.types.RawType.{RawType}
use Rattle.plan_typed.specs.declared.expr.Expr.{Expr}
use Rattle.plan_typed.specs.declared.rel.SetMeasure.{SetMeasure}
use Rattle.plan_typed.specs.declared.rel.TypedMeasure.{TypedMeasure}
use Rattle.plan_typed.specs.Types.{ty_of}
use Rattle.func_table.specs.declared.row.Class.TheVariants as classes
use Rattle.plan_verdict.specs.declared.call.Call.{Call}
use Rattle.plan_verdict.specs.declared.progress.Progress.{Progress}
use Rattle.plan_verdict.specs.declared.rule.Rule.TheVariants as rules
use Rattle.plan_verdict.specs.declared.rule.CheckError.{CheckError}
use Rattle.plan_verdict.specs.declared.rule.CheckError.TheVariants as errors
use Rattle.plan_verdict.specs.Aggregates.{first_of, measure_in, measured}
use Rattle.plan_verdict.specs.Calls.{call_in, named_in}
use Rattle.plan_verdict.specs.Checking.{Comes, Refusal, accept, go_on, part}
use Rattle.plan_verdict.specs.Exprs.{Terms, arguments}
use Rattle.plan_verdict.specs.Meaning.{Scope, Aggregation, Expression}
use Rattle.plan_verdict.specs.Rels.{maybe_condition}
use Rattle.check_exprs.specs.Parts.{called}
use Rattle.check_exprs.proofs.StepLaws.{chained, must_part}
use Rattle.check_groups.specs.Measures.{set_measure}

module _ (scope : Scope) (p0 p1 p2 p3 : Progress) where
  -- a measure of a function that is there
  module _ (function : Aggregation) (filter : Option Expression) where
    pub measure_unsupported : function.is_supported ≡ false → measure_in (Some function) filter scope p0 ≡ Err (record { relation = scope.relation; rule = rules.UnsupportedForm })
    measure_unsupported form = rw form refl

    pub measure_filter_refused : (error : CheckError) → function.is_supported ≡ true → Comes {A = Option Expr} (Err error) (maybe_condition scope filter p0) → Comes {A = SetMeasure} (Err error) (measure_in (Some function) filter scope p0)
    measure_filter_refused (errors.Refused relation rule) form refused = rw (form, refused) refl
    measure_filter_refused errors.NoMemory form refused = tt

    pub measure_call_refused : (kept : Option Expr) (error : CheckError) → function.is_supported ≡ true → maybe_condition scope filter p0 ≡ Ok (kept, p1) → Comes {A = TypedMeasure} (Err error) (function.check scope kept p1)
        → Comes {A = SetMeasure} (Err error) (measure_in (Some function) filter scope p0)
    measure_call_refused kept (errors.Refused relation rule) form first refused = rw (form, first, refused) refl
    measure_call_refused kept errors.NoMemory form first refused = tt

    pub measure_finished : (kept : Option Expr) (measure : TypedMeasure) (result : Result (SetMeasure × Progress) CheckError) → function.is_supported ≡ true → maybe_condition scope filter p0 ≡ Ok (kept, p1)
        → function.check scope kept p1 ≡ Ok (measure, p2) → Comes result (part scope.relation (set_measure measure function.is_distinct) p2) → Comes result (measure_in (Some function) filter scope p0)
    measure_finished kept measure result form first second finished =
        rw (form, first, second) (subst (Comes result) (sym (must_part scope.relation (not (function.is_distinct && is_none measure.arg)) rules.BadArguments (record { measure = measure; distinct = function.is_distinct }) p2)) finished)

-- the measure of a call with its arguments, under this filter
abbrev pub measure_with : Option Expr → Call × List Expr → TypedMeasure
measure_with kept both = record { func = both.0.func; arg = first_of both.1; filter = kept; ty = both.0.ty }

-- a measure by its call
module _ (terms : Terms) (reference : ℕ) (output : Option RawType) (written : List (Option Expression)) (options : List FunctionOption) (scope : Scope) (kept : Option Expr) (p0 p1 : Progress) where
  by_call : measured terms reference output written options scope kept p0 ≡ go_on (called terms scope classes.Aggregate reference output written options p0) (λ both. accept (measure_with kept both))
  by_call =
      chained (part scope.relation (named_in terms.declared classes.Aggregate reference) p0) (λ named. arguments scope written)
      (λ named args. part scope.relation (call_in named classes.Aggregate (map ty_of args) output options)) (λ named args call. (call, args)) (λ both. accept (measure_with kept both))

  pub called_refused : (error : CheckError) → Comes {A = Call × List Expr} (Err error) (called terms scope classes.Aggregate reference output written options p0) → Comes {A = TypedMeasure} (Err error) (measured terms reference output written options scope kept p0)
  called_refused (errors.Refused relation rule) refused = by_call ∙ ap (λ (found : Result ((Call × List Expr) × Progress) Refusal). go_on found (λ both. accept (measure_with kept both))) refused
  called_refused errors.NoMemory refused = tt

  pub called_found : (both : Call × List Expr) → called terms scope classes.Aggregate reference output written options p0 ≡ Ok (both, p1) → measured terms reference output written options scope kept p0 ≡ Ok (measure_with kept both, p1)
  called_found both found = by_call ∙ ap (λ (found : Result ((Call × List Expr) × Progress) Refusal). go_on found (λ both. accept (measure_with kept both))) found
