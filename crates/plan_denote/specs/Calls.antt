-- What a call is worth, by what its arguments are worth. The last clauses close the definitions: no well-typed plan reaches them.
use Rattle.std.specs.Prelude.{List, [], ◌∷◌, not}
use Rattle.std.specs.Ordering.{is_eq, is_ne, is_lt, is_le, is_gt, is_ge}
use Rattle.sub_types.specs.declared.kind.Kind.{Kind}
use Rattle.sub_types.specs.declared.value.Value.{Value}
use Rattle.plan_typed.specs.declared.expr.Func.{Func}
use Rattle.plan_typed.specs.declared.expr.Func.TheVariants as funcs
use Rattle.plan_typed.specs.declared.expr.Overflow.{Overflow}
use Rattle.plan_denote.specs.Computed.{Computed, ◌>>=◌, collect, truth, null, is_null}
use Rattle.plan_denote.specs.Order.{is_same}
use Rattle.plan_denote.specs.Logic.{and_of, or_of, not_of, xor_of, compared, between, coalesce, nullif}
use Rattle.plan_denote.specs.Whole.{quotient, modulus, negated, absolute}
use Rattle.plan_denote.specs.Decimals.{added, subtracted, product}
use Rattle.plan_denote.specs.Texts.{concatenated, substring, begins, ends, contains, like, tested, char_length, octet_length}

-- a function of one value
abbrev pub unary : Func → Kind → Overflow → Value → Computed
unary funcs.Not kind mode a = not_of a
unary funcs.IsNull kind mode a = truth (is_null a)
unary funcs.IsNotNull kind mode a = truth (not (is_null a))
unary funcs.Negate kind mode a = negated kind mode a
unary funcs.Abs kind mode a = absolute kind mode a
unary funcs.CharLength kind mode a = char_length a
unary funcs.OctetLength kind mode a = octet_length a
unary _ kind mode a = null

-- a function of two values
abbrev pub binary : Func → Kind → Overflow → List Kind → Value → Value → Computed
binary funcs.Xor kind mode given a b = xor_of a b
binary funcs.Equal kind mode given a b = compared is_eq a b
binary funcs.NotEqual kind mode given a b = compared is_ne a b
binary funcs.Lt kind mode given a b = compared is_lt a b
binary funcs.Lte kind mode given a b = compared is_le a b
binary funcs.Gt kind mode given a b = compared is_gt a b
binary funcs.Gte kind mode given a b = compared is_ge a b
binary funcs.IsNotDistinctFrom kind mode given a b = truth (is_same a b)
binary funcs.Nullif kind mode given a b = nullif a b
binary funcs.Add kind mode given a b = added kind mode given a b
binary funcs.Subtract kind mode given a b = subtracted kind mode given a b
binary funcs.Multiply kind mode given a b = product kind mode a b
binary funcs.Divide kind mode given a b = quotient kind mode a b
binary funcs.Modulus kind mode given a b = modulus kind mode a b
binary funcs.StartsWith kind mode given a b = tested begins a b
binary funcs.EndsWith kind mode given a b = tested ends a b
binary funcs.Contains kind mode given a b = tested contains a b
binary funcs.Like kind mode given a b = tested like a b
binary _ kind mode given a b = null

-- a function of all its arguments' values: this kind is its result's, these are the arguments'
abbrev pub applied : Func → Kind → Overflow → List Kind → List Value → Computed
applied funcs.Concat kind mode given args = concatenated args
applied funcs.Substring kind mode given args = substring args
applied func kind mode given (a ∷ []) = unary func kind mode a
applied func kind mode given (a ∷ b ∷ []) = binary func kind mode given a b
applied funcs.Between kind mode given (a ∷ b ∷ c ∷ []) = between a b c
applied _ kind mode given args = null

-- a call: `and`, `or` and `coalesce` end early; each other function has all its arguments evaluated, and the first fault is the answer
abbrev pub called : Func → Kind → Overflow → List Kind → List Computed → Computed
called funcs.And kind mode given args = and_of args
called funcs.Or kind mode given args = or_of args
called funcs.Coalesce kind mode given args = coalesce args
called func kind mode given args = collect args >>= (λ row. applied func kind mode given row)
