-- Parts of the checks of expressions.
use Rattle.std.specs.Prelude.{ℕ, List, Option, map}
use Rattle.sub_types.specs.declared.kind.Kind.{Kind}
use Rattle.plan_leaves.specs.declared.options.FunctionOption.{FunctionOption}
use Rattle.plan_leaves.specs.declared.types.RawType.{RawType}
use Rattle.plan_typed.specs.declared.expr.Expr.{Expr}
use Rattle.plan_typed.specs.Types.{ty_of}
use Rattle.func_table.specs.declared.row.Class.{Class}
use Rattle.func_table.specs.Kinds.{is_equal}
use Rattle.plan_verdict.specs.declared.call.Call.{Call}
use Rattle.plan_verdict.specs.declared.rule.Rule.TheVariants as rules
use Rattle.plan_verdict.specs.Calls.{named_in, call_in}
use Rattle.plan_verdict.specs.Checking.{Checking, ◌>>=◌, ◌>>◌, accept, must, part}
use Rattle.plan_verdict.specs.Exprs.{Terms, arguments, kind_of}
use Rattle.plan_verdict.specs.Meaning.{Scope, Expression}

-- the expression must be of the kind
abbrev pub of_kind : ℕ → Kind → Expr → Checking Expr
of_kind relation kind expr = do
  must relation (is_equal (kind_of expr) kind) rules.TypeMismatch
  accept expr

-- the function that is named, then the arguments, and then the call
abbrev pub called : Terms → Scope → Class → ℕ → Option RawType → List (Option Expression) → List FunctionOption → Checking (Call × List Expr)
called terms scope class reference output written options = do
  named ← part scope.relation (named_in terms.declared class reference)
  args ← arguments scope written
  call ← part scope.relation (call_in named class (map ty_of args) output options)
  accept (call, args)
