-- Which functions the kernels are.
use Rattle.std.specs.Prelude.{ℕ, List, Bool}
use Rattle.plan_typed.specs.declared.expr.Func.{Func}
use Rattle.plan_typed.specs.declared.expr.Func.TheVariants as funcs
use Rattle.plan_denote.specs.Texts as texts
use Rattle.kernels.specs.declared.op.CompareOp.{CompareOp}
use Rattle.kernels.specs.declared.op.CompareOp.TheVariants.{Eq, Ne, Lt, Le, Gt, Ge}
use Rattle.call_kernels.specs.declared.texts.TextTest.{TextTest}
use Rattle.call_kernels.specs.declared.texts.TextTest.TheVariants.{StartsWith, EndsWith, Contains, Like}

-- the function that a comparison is
abbrev pub compare_func : CompareOp → Func
compare_func Eq = funcs.Equal
compare_func Ne = funcs.NotEqual
compare_func Lt = funcs.Lt
compare_func Le = funcs.Lte
compare_func Gt = funcs.Gt
compare_func Ge = funcs.Gte

-- the function that a test of texts is, and the test
abbrev pub text_func : TextTest → Func
text_func StartsWith = funcs.StartsWith
text_func EndsWith = funcs.EndsWith
text_func Contains = funcs.Contains
text_func Like = funcs.Like

abbrev pub passes : TextTest → List ℕ → List ℕ → Bool
passes StartsWith = texts.begins
passes EndsWith = texts.ends
passes Contains = texts.contains
passes Like = texts.like
