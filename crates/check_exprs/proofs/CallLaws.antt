-- A call of a scalar function, by the call of what is named.
use Rattle.std.proofs.Common.{◌≡◌, ◌∙◌, ap, ℕ, Option, List, map, Result, Ok, Err}
use Rattle.plan_leaves.specs.declared.options.FunctionOption.{FunctionOption}
use Rattle.plan_leaves.specs.declared.types.RawType.{RawType}
use Rattle.plan_typed.specs.declared.expr.Expr.{Expr}
use Rattle.plan_typed.specs.declared.expr.Expr.TheVariants as exprs
use Rattle.plan_typed.specs.Types.{ty_of}
use Rattle.func_table.specs.declared.row.Class.TheVariants as classes
use Rattle.plan_verdict.specs.declared.call.Call.{Call}
use Rattle.plan_verdict.specs.declared.progress.Progress.{Progress}
use Rattle.plan_verdict.specs.declared.rule.CheckError.{CheckError}
use Rattle.plan_verdict.specs.declared.rule.CheckError.TheVariants as errors
use Rattle.plan_verdict.specs.Calls.{call_in, named_in}
use Rattle.plan_verdict.specs.Checking.{Comes, Refusal, accept, go_on, part}
use Rattle.plan_verdict.specs.Exprs.{Terms, arguments, scalar_function}
use Rattle.plan_verdict.specs.Meaning.{Scope, Expression}
use Rattle.check_exprs.specs.Parts.{called}
use Rattle.check_exprs.proofs.StepLaws.{chained}

-- the expression of a call with its arguments
abbrev pub call_with : Call × List Expr → Expr
call_with both = exprs.Call both.0.func both.0.mode both.1 both.0.ty

module _ (terms : Terms) (scope : Scope) (reference : ℕ) (output : Option RawType) (written : List (Option Expression)) (options : List FunctionOption) (p0 p1 : Progress) where
  by_call : scalar_function terms scope reference output written options p0 ≡ go_on (called terms scope classes.Scalar reference output written options p0) (λ both. accept (call_with both))
  by_call =
      chained (part scope.relation (named_in terms.declared classes.Scalar reference) p0) (λ named. arguments scope written)
      (λ named args. part scope.relation (call_in named classes.Scalar (map ty_of args) output options)) (λ named args call. (call, args)) (λ both. accept (call_with both))

  pub call_refused : (error : CheckError) → Comes {A = Call × List Expr} (Err error) (called terms scope classes.Scalar reference output written options p0) → Comes {A = Expr} (Err error) (scalar_function terms scope reference output written options p0)
  call_refused (errors.Refused relation rule) refused = by_call ∙ ap (λ (found : Result ((Call × List Expr) × Progress) Refusal). go_on found (λ both. accept (call_with both))) refused
  call_refused errors.NoMemory refused = tt

  pub call_found : (both : Call × List Expr) → called terms scope classes.Scalar reference output written options p0 ≡ Ok (both, p1) → scalar_function terms scope reference output written options p0 ≡ Ok (call_with both, p1)
  call_found both found = by_call ∙ ap (λ (found : Result ((Call × List Expr) × Progress) Refusal). go_on found (λ both. accept (call_with both))) found
