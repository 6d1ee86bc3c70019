-- Functions and modes by their numbers.
use Rattle.std.proofs.Common.{◌≡◌, ◌∙◌, sym, ap, refl, List, [], ◌∷◌, get_or}
use Rattle.plan_typed.specs.declared.expr.Func.{Func}
use Rattle.plan_typed.specs.declared.expr.Func.TheVariants as funcs
use Rattle.plan_typed.specs.declared.expr.Overflow.{Overflow}
use Rattle.plan_typed.specs.declared.expr.Overflow.TheVariants as modes
use Rattle.plan_verdict.specs.Same.{func_number, mode_number}

abbrev all_funcs : List Func
all_funcs = funcs.And ∷ funcs.Or ∷ funcs.Not ∷ funcs.Xor ∷ funcs.Equal ∷ funcs.NotEqual ∷ funcs.Lt ∷ funcs.Lte ∷ funcs.Gt ∷ funcs.Gte ∷ funcs.Between ∷ funcs.IsNull ∷ funcs.IsNotNull ∷ funcs.IsNotDistinctFrom ∷ funcs.Coalesce ∷ funcs.Nullif ∷ funcs.Add ∷ funcs.Subtract ∷ funcs.Multiply ∷ funcs.Divide ∷ funcs.Modulus ∷ funcs.Negate ∷ funcs.Abs ∷ funcs.Sum ∷ funcs.Avg ∷ funcs.Min ∷ funcs.Max ∷ funcs.Concat ∷ funcs.Substring ∷ funcs.StartsWith ∷ funcs.EndsWith ∷ funcs.Contains ∷ funcs.Like ∷ funcs.CharLength ∷ funcs.OctetLength ∷ funcs.Count ∷ []

numbered : (func : Func) → get_or all_funcs (func_number func) funcs.And ≡ func
numbered funcs.And = refl
numbered funcs.Or = refl
numbered funcs.Not = refl
numbered funcs.Xor = refl
numbered funcs.Equal = refl
numbered funcs.NotEqual = refl
numbered funcs.Lt = refl
numbered funcs.Lte = refl
numbered funcs.Gt = refl
numbered funcs.Gte = refl
numbered funcs.Between = refl
numbered funcs.IsNull = refl
numbered funcs.IsNotNull = refl
numbered funcs.IsNotDistinctFrom = refl
numbered funcs.Coalesce = refl
numbered funcs.Nullif = refl
numbered funcs.Add = refl
numbered funcs.Subtract = refl
numbered funcs.Multiply = refl
numbered funcs.Divide = refl
numbered funcs.Modulus = refl
numbered funcs.Negate = refl
numbered funcs.Abs = refl
numbered funcs.Sum = refl
numbered funcs.Avg = refl
numbered funcs.Min = refl
numbered funcs.Max = refl
numbered funcs.Concat = refl
numbered funcs.Substring = refl
numbered funcs.StartsWith = refl
numbered funcs.EndsWith = refl
numbered funcs.Contains = refl
numbered funcs.Like = refl
numbered funcs.CharLength = refl
numbered funcs.OctetLength = refl
numbered funcs.Count = refl

pub equal_funcs : (a b : Func) → func_number a ≡ func_number b → a ≡ b
equal_funcs a b same = sym (numbered a) ∙ ap (λ n. get_or all_funcs n funcs.And) same ∙ numbered b

abbrev all_modes : List Overflow
all_modes = modes.Error ∷ modes.Saturate ∷ modes.Silent ∷ []

mode_numbered : (mode : Overflow) → get_or all_modes (mode_number mode) modes.Error ≡ mode
mode_numbered modes.Error = refl
mode_numbered modes.Saturate = refl
mode_numbered modes.Silent = refl

pub equal_modes : (a b : Overflow) → mode_number a ≡ mode_number b → a ≡ b
equal_modes a b same = sym (mode_numbered a) ∙ ap (λ n. get_or all_modes n modes.Error) same ∙ mode_numbered b
