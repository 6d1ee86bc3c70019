-- What the table of functions says of a call: how many arguments it has, of which kinds, and the kind of its result.
use Rattle.std.proofs.Common.{◌≡◌, ◌∙◌, ℕ, Bool, true, false, true≢false, not, ◌&&◌, ◌||◌, List, [], ◌∷◌, Option, Some, None, IsTrue, Contains, ◌==◌, eqb-true, get_or, map, length, refl, sym, ap, subst, arith}
use Rattle.std.specs.Cmp.Lexicographic.{pointwise}
use Rattle.std.specs.List.{list_all}
use Rattle.std.proofs.lemmas.Bool.{and_parts, and_from, true_from_ne_false, agree_below, agree_below_at}
use Rattle.std.proofs.lemmas.List.Folds.{list_all_at}
use Rattle.sub_types.specs.Kind.{IsKind}
use Rattle.sub_types.specs.declared.kind.Kind.{Kind}
use Rattle.sub_types.specs.declared.kind.Kind.TheVariants as kinds
use Rattle.sub_types.specs.declared.kind.Ty.{Ty}
use Rattle.plan_typed.specs.declared.expr.Func.{Func}
use Rattle.plan_typed.specs.declared.expr.Func.TheVariants as funcs
use Rattle.func_table.specs.declared.row.Class.TheVariants.{Scalar}
use Rattle.func_table.specs.declared.row.ResultRule.{ResultRule}
use Rattle.func_table.specs.declared.row.ResultRule.TheVariants as results
use Rattle.func_table.specs.Entry.{Entry, Arguments, Each, AnyNumber, OneOrMore, takes_kind, takes_kinds, all_agree, is_class}
use Rattle.func_table.specs.Kinds.{is_equal}
use Rattle.func_table.specs.Table.{table}
use Rattle.well_typed.specs.Casts.{is_whole}
use Rattle.well_typed.specs.ExprTyped.{IsCall}
use Rattle.well_typed.specs.Results.{first_kind, result_of, is_of_scale, scale_for, is_nullable_call}
use Rattle.eval_typed.proofs.KindLaws.{any_kind, is_truth, is_text, is_decimal, plain}

-- one of each kind
abbrev samples : List Kind
samples = kinds.Bool ∷ kinds.I8 ∷ kinds.I16 ∷ kinds.I32 ∷ kinds.I64 ∷ kinds.Text ∷ kinds.Binary ∷ kinds.Date ∷ kinds.Timestamp ∷ kinds.Decimal 0 0 ∷ []

-- the name stands only for kinds that pass the test
abbrev pub takes_only : (Kind → Bool) → List ℕ → Bool
takes_only test name = list_all (λ kind. not (takes_kind name kind) || test kind) samples

-- so many arguments, each of kinds that pass its test
abbrev pub takes_each : List (Kind → Bool) → Arguments → Bool
takes_each tests (Each names) = pointwise takes_only tests names
takes_each tests _ = false

-- any number of arguments, and one or more, all of kinds that pass the test
abbrev pub takes_all : (Kind → Bool) → Arguments → Bool
takes_all test (AnyNumber name) = takes_only test name
takes_all test _ = false

abbrev pub takes_some : (Kind → Bool) → Arguments → Bool
takes_some test (OneOrMore name) = takes_only test name
takes_some test _ = false

-- the rules of results
abbrev pub is_first : ResultRule → Bool
is_first results.Same = true
is_first _ = false

abbrev pub is_test : ResultRule → Bool
is_test results.Bool = true
is_test _ = false

abbrev pub is_number : ResultRule → Bool
is_number results.I64 = true
is_number _ = false

abbrev pub is_declared : ResultRule → Bool
is_declared results.DeclaredDecimal = true
is_declared _ = false

-- a test of so many arguments
abbrev tests : List (Kind → Bool) → ResultRule → Arguments → Bool
tests given rule arguments = is_test rule && takes_each given arguments

-- whole numbers give one of the first's kind, and two decimals one that is declared
abbrev wholes : List (Kind → Bool) → ResultRule → Arguments → Bool
wholes given rule arguments = is_first rule && takes_each given arguments

abbrev pub two_whole : List (Kind → Bool)
two_whole = is_whole ∷ is_whole ∷ []

abbrev pub two_decimal : List (Kind → Bool)
two_decimal = is_decimal ∷ is_decimal ∷ []

abbrev numbers : ResultRule → Arguments → Bool
numbers rule arguments = wholes two_whole rule arguments || (is_declared rule && takes_each two_decimal arguments)

-- how the table has each function that is no aggregate
abbrev pub expected : Func → ResultRule → Arguments → Bool
expected funcs.And rule arguments = is_test rule && takes_all is_truth arguments
expected funcs.Or rule arguments = is_test rule && takes_all is_truth arguments
expected funcs.Not rule arguments = tests (is_truth ∷ []) rule arguments
expected funcs.Xor rule arguments = tests (is_truth ∷ is_truth ∷ []) rule arguments
expected funcs.Equal rule arguments = tests (any_kind ∷ any_kind ∷ []) rule arguments
expected funcs.NotEqual rule arguments = tests (any_kind ∷ any_kind ∷ []) rule arguments
expected funcs.Lt rule arguments = tests (any_kind ∷ any_kind ∷ []) rule arguments
expected funcs.Lte rule arguments = tests (any_kind ∷ any_kind ∷ []) rule arguments
expected funcs.Gt rule arguments = tests (any_kind ∷ any_kind ∷ []) rule arguments
expected funcs.Gte rule arguments = tests (any_kind ∷ any_kind ∷ []) rule arguments
expected funcs.Between rule arguments = tests (any_kind ∷ any_kind ∷ any_kind ∷ []) rule arguments
expected funcs.IsNull rule arguments = tests (any_kind ∷ []) rule arguments
expected funcs.IsNotNull rule arguments = tests (any_kind ∷ []) rule arguments
expected funcs.IsNotDistinctFrom rule arguments = tests (any_kind ∷ any_kind ∷ []) rule arguments
expected funcs.Coalesce rule arguments = is_first rule
expected funcs.Nullif rule arguments = is_first rule && takes_each (any_kind ∷ any_kind ∷ []) arguments
expected funcs.Add rule arguments = numbers rule arguments
expected funcs.Subtract rule arguments = numbers rule arguments
expected funcs.Multiply rule arguments = numbers rule arguments
expected funcs.Divide rule arguments = wholes two_whole rule arguments
expected funcs.Modulus rule arguments = wholes two_whole rule arguments
expected funcs.Negate rule arguments = wholes (is_whole ∷ []) rule arguments
expected funcs.Abs rule arguments = wholes (is_whole ∷ []) rule arguments
expected funcs.Concat rule arguments = is_first rule && takes_some is_text arguments
expected funcs.Substring rule arguments = is_first rule && (takes_each (is_text ∷ is_whole ∷ []) arguments || takes_each (is_text ∷ is_whole ∷ is_whole ∷ []) arguments)
expected funcs.StartsWith rule arguments = tests (is_text ∷ is_text ∷ []) rule arguments
expected funcs.EndsWith rule arguments = tests (is_text ∷ is_text ∷ []) rule arguments
expected funcs.Contains rule arguments = tests (is_text ∷ is_text ∷ []) rule arguments
expected funcs.Like rule arguments = tests (is_text ∷ is_text ∷ []) rule arguments
expected funcs.CharLength rule arguments = is_number rule && takes_each (is_text ∷ []) arguments
expected funcs.OctetLength rule arguments = is_number rule && takes_each (is_text ∷ []) arguments
expected _ rule arguments = false

abbrev is_as_expected : Entry → Bool
is_as_expected entry = not (is_class entry.class Scalar) || expected entry.row.func entry.row.result entry.arguments

all_expected : list_all is_as_expected table ≡ true
unfolding table
all_expected = refl

-- what a test of all gives of one
held : {X : Type 0} (test : X → Bool) (xs : List X) (x : X) → list_all test xs ≡ true → Contains xs x → test x ≡ true
held test xs x all there =
    true_from_ne_false (test x) (λ fails. true≢false (sym all ∙ list_all_at test xs there.0 x there.1 (ap test there.2 ∙ fails)))

implied : (a b : Bool) → (not a || b) ≡ true → a ≡ true → b ≡ true
implied true b h e = h
implied false b h e = absurd (cc)

entry_expected : (entry : Entry) → Contains table entry → IsTrue (is_class entry.class Scalar) → expected entry.row.func entry.row.result entry.arguments ≡ true
entry_expected entry there scalar =
    implied (is_class entry.class Scalar) (expected entry.row.func entry.row.result entry.arguments) (held is_as_expected table entry all_expected there) scalar

-- a name stands for a kind by its plain form
stands : (kind : Kind) → Contains samples (plain kind)
stands kinds.Bool = (0, omega arith, refl)
stands kinds.I8 = (1, omega arith, refl)
stands kinds.I16 = (2, omega arith, refl)
stands kinds.I32 = (3, omega arith, refl)
stands kinds.I64 = (4, omega arith, refl)
stands kinds.Text = (5, omega arith, refl)
stands kinds.Binary = (6, omega arith, refl)
stands kinds.Date = (7, omega arith, refl)
stands kinds.Timestamp = (8, omega arith, refl)
stands (kinds.Decimal precision scale) = (9, omega arith, refl)

named : (name : List ℕ) (kind : Kind) → takes_kind name (plain kind) ≡ takes_kind name kind
named name (kinds.Decimal precision scale) = refl
named name _ = refl

only : (test : Kind → Bool) (name : List ℕ) (kind : Kind) → takes_only test name ≡ true → takes_kind name kind ≡ true → test (plain kind) ≡ true
only test name kind all takes =
    implied (takes_kind name (plain kind)) (test (plain kind)) (held (λ one. not (takes_kind name one) || test one) samples (plain kind) all (stands kind)) (named name kind ∙ takes)

-- the kinds pass the tests
abbrev pub pass_each : List (Kind → Bool) → List Kind → Bool
pass_each given of = pointwise (λ test kind. test (plain kind)) given of

abbrev pub pass_all : (Kind → Bool) → List Kind → Bool
pass_all test of = list_all (λ kind. test (plain kind)) of

each_named : (given : List (Kind → Bool)) (names : List (List ℕ)) (of : List Kind) → pointwise takes_only given names ≡ true → pointwise takes_kind names of ≡ true → pass_each given of ≡ true
each_named [] [] [] all takes = refl
each_named [] [] (kind ∷ of) all takes = absurd (cc)
each_named [] (name ∷ names) of all takes = absurd (cc)
each_named (test ∷ given) [] of all takes = absurd (cc)
each_named (test ∷ given) (name ∷ names) [] all takes = absurd (cc)
each_named (test ∷ given) (name ∷ names) (kind ∷ of) all takes =
    let tested = and_parts (takes_only test name) (pointwise takes_only given names) all in
    let taken = and_parts (takes_kind name kind) (pointwise takes_kind names of) takes in
    and_from (test (plain kind)) (pass_each given of) (only test name kind tested.0 taken.0) (each_named given names of tested.1 taken.1)

pub each_pass : (given : List (Kind → Bool)) (arguments : Arguments) (of : List Kind) → takes_each given arguments ≡ true → takes_kinds arguments of ≡ true → pass_each given of ≡ true
each_pass given (Each names) of all takes = each_named given names of all takes
each_pass given (AnyNumber name) of all takes = absurd (cc)
each_pass given (OneOrMore name) of all takes = absurd (cc)

all_named : (test : Kind → Bool) (name : List ℕ) (of : List Kind) → takes_only test name ≡ true → list_all (takes_kind name) of ≡ true → pass_all test of ≡ true
all_named test name [] all takes = refl
all_named test name (kind ∷ of) all takes =
    let taken = and_parts (takes_kind name kind) (list_all (takes_kind name) of) takes in
    and_from (test (plain kind)) (pass_all test of) (only test name kind all taken.0) (all_named test name of all taken.1)

pub all_pass : (test : Kind → Bool) (arguments : Arguments) (of : List Kind) → takes_all test arguments ≡ true → takes_kinds arguments of ≡ true → pass_all test of ≡ true
all_pass test (AnyNumber name) of all takes = all_named test name of all takes
all_pass test (Each names) of all takes = absurd (cc)
all_pass test (OneOrMore name) of all takes = absurd (cc)

-- one or more, of which there is a first
pub some_pass : (test : Kind → Bool) (arguments : Arguments) (kind : Kind) (of : List Kind) → takes_some test arguments ≡ true → takes_kinds arguments (kind ∷ of) ≡ true → pass_all test (kind ∷ of) ≡ true
some_pass test (OneOrMore name) kind of all takes = all_named test name (kind ∷ of) all takes
some_pass test (Each names) kind of all takes = absurd (cc)
some_pass test (AnyNumber name) kind of all takes = absurd (cc)

pub some_first : (test : Kind → Bool) (arguments : Arguments) → takes_some test arguments ≡ true → takes_kinds arguments [] ≡ true → ⊥
some_first test (OneOrMore name) all takes = cc
some_first test (Each names) all takes = cc
some_first test (AnyNumber name) all takes = cc

abbrev pub kinds_in : List Ty → List Kind
kinds_in types = map (λ (one : Ty). one.kind) types

-- a result is of the kind that its rule says
abbrev pub IsBy : ResultRule → List Kind → Kind → Type 0
IsBy results.Same of kind = kind ≡ first_kind of
IsBy results.Bool of kind = kind ≡ kinds.Bool
IsBy results.I64 of kind = kind ≡ kinds.I64
IsBy results.DeclaredDecimal of kind = is_decimal kind ≡ true

pub first_result : (rule : ResultRule) (of : List Kind) (kind : Kind) → is_first rule ≡ true → IsBy rule of kind → kind ≡ first_kind of
first_result results.Same of kind is by = by
first_result _ of kind is by = cc

pub test_result : (rule : ResultRule) (of : List Kind) (kind : Kind) → is_test rule ≡ true → IsBy rule of kind → kind ≡ kinds.Bool
test_result results.Bool of kind is by = by
test_result _ of kind is by = cc

pub number_result : (rule : ResultRule) (of : List Kind) (kind : Kind) → is_number rule ≡ true → IsBy rule of kind → kind ≡ kinds.I64
number_result results.I64 of kind is by = by
number_result _ of kind is by = cc

pub declared_result : (rule : ResultRule) (of : List Kind) (kind : Kind) → is_declared rule ≡ true → IsBy rule of kind → is_decimal kind ≡ true
declared_result results.DeclaredDecimal of kind is by = by
declared_result _ of kind is by = cc

abbrev ResultIs : Option Kind → ℕ → Kind → Type 0
ResultIs o scale kind = elim o [ Some result ↦ kind ≡ result | None ↦ IsKind kind × IsTrue (is_of_scale scale kind) ]

scaled : (scale : ℕ) (kind : Kind) → is_of_scale scale kind ≡ true → is_decimal kind ≡ true
scaled scale (kinds.Decimal precision own) is = refl
scaled scale _ is = is

by_rule : (rule : ResultRule) (scale : ℕ) (of : List Kind) (kind : Kind) → ResultIs (result_of rule of) scale kind → IsBy rule of kind
by_rule results.Same scale of kind is = is
by_rule results.Bool scale of kind is = is
by_rule results.I64 scale of kind is = is
by_rule results.DeclaredDecimal scale of kind is = scaled scale kind is.1

-- kinds that are equal to the first
abbrev pub are_equal : List Kind → Bool
are_equal [] = true
are_equal (kind ∷ others) = list_all (is_equal kind) others

-- the place of `coalesce` in the table, at which the kinds must be equal
abbrev is_coalesce : Func → Bool
is_coalesce funcs.Coalesce = true
is_coalesce _ = false

only_place : (d : Entry) → agree_below (λ k. is_coalesce (get_or table k d).row.func) (λ k. k == 14) (length table) ≡ true
unfolding table
only_place d = refl

there_equal : (d : Entry) (of : List Kind) → all_agree (get_or table 14 d).alike of ≡ true → are_equal of ≡ true
unfolding table
there_equal d [] agrees = refl
there_equal d (kind ∷ others) agrees = agrees

all_equal : (entry : Entry) (of : List Kind) → Contains table entry → entry.row.func ≡ funcs.Coalesce → all_agree entry.alike of ≡ true → are_equal of ≡ true
all_equal entry of there is agrees =
    let found : is_coalesce (get_or table there.0 entry).row.func ≡ true = ap (λ (one : Entry). is_coalesce one.row.func) there.2 ∙ ap is_coalesce is in
    let at = agree_below_at (λ k. is_coalesce (get_or table k entry).row.func) (λ k. k == 14) (length table) there.0 (only_place entry) there.1 in
    let place : there.0 ≡ 14 = eqb-true there.0 14 (sym at ∙ found) in
    let same : get_or table 14 entry ≡ entry = subst (λ (k : ℕ). get_or table k entry ≡ entry) place there.2 in
    there_equal entry of (subst (λ (one : Entry). all_agree one.alike of ≡ true) (sym same) agrees)

-- what is known of a call
pub record Known (func : Func) (types : List Ty) (ty : Ty) : Type 0 where
  pub rule : ResultRule
  pub arguments : Arguments
  pub expects : expected func rule arguments ≡ true
  pub takes : takes_kinds arguments (kinds_in types) ≡ true
  pub agrees : func ≡ funcs.Coalesce → are_equal (kinds_in types) ≡ true
  pub result : IsBy rule (kinds_in types) ty.kind
  pub nullable : IsTrue (is_nullable_call func types) → IsTrue ty.nullable

pub known : (func : Func) (types : List Ty) (ty : Ty) (entry : Entry) → IsCall Scalar func types ty entry → Known func types ty
known func types ty entry call = record {
  rule = entry.row.result;
  arguments = entry.arguments;
  expects = subst (λ (one : Func). expected one entry.row.result entry.arguments ≡ true) call.function (entry_expected entry call.takes.listed call.takes.of_class);
  takes = call.takes.kinds;
  agrees = λ is. all_equal entry (kinds_in types) call.takes.listed (call.function ∙ is) call.takes.alike;
  result = by_rule entry.row.result (scale_for entry.row.func (kinds_in types)) (kinds_in types) ty.kind call.result;
  nullable = call.nullable;
}
