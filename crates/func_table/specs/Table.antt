-- The table of functions, with a list for each of Substrait's extension files.
use Rattle.std.specs.Prelude.{ℕ, List, [], ◌∷◌, ◌++◌, codes, map, replicate}
use Rattle.plan_typed.specs.declared.expr.Func.{Func}
use Rattle.plan_typed.specs.declared.expr.Func.TheVariants as funcs
use Rattle.func_table.specs.declared.row.Class.{Class}
use Rattle.func_table.specs.declared.row.Class.TheVariants.{Scalar, Aggregate}
use Rattle.func_table.specs.declared.row.ResultRule.{ResultRule}
use Rattle.func_table.specs.declared.row.ResultRule.TheVariants as results
use Rattle.func_table.specs.declared.line.Alike.{Alike}
use Rattle.func_table.specs.declared.line.Alike.TheVariants as alike
use Rattle.func_table.specs.Entry.{Entry, Arguments, Each, AnyNumber, OneOrMore, any, entry_of}

-- the short names of arguments that stand more than once
abbrev pub bool : List ℕ
bool = codes "bool"

abbrev pub str : List ℕ
str = codes "str"

abbrev pub i32 : List ℕ
i32 = codes "i32"

-- the entries of a function of so many arguments of one kind, one entry for each of these kinds
abbrev pub for_each : List (List ℕ) → List ℕ → Class → List ℕ → ℕ → Func → ResultRule → List Entry
for_each kinds file class name count func result = map (λ kind. entry_of file class name (Each (replicate count kind)) alike.Free func result) kinds

-- a function of truth values
abbrev pub boolean : List ℕ → Arguments → Func → Entry
boolean name arguments func = entry_of (codes "functions_boolean.yaml") Scalar name arguments alike.Free func results.Bool

abbrev pub boolean_entries : List Entry
boolean_entries =
    boolean (codes "and") (AnyNumber bool) funcs.And
    ∷ boolean (codes "or") (AnyNumber bool) funcs.Or
    ∷ boolean (codes "not") (Each (bool ∷ [])) funcs.Not
    ∷ boolean (codes "xor") (Each (bool ∷ bool ∷ [])) funcs.Xor
    ∷ []

-- a function of values of any kind
abbrev pub comparison : List ℕ → Arguments → Alike → Func → ResultRule → Entry
comparison name arguments = entry_of (codes "functions_comparison.yaml") Scalar name arguments

-- a test of so many arguments of the same kind
abbrev pub test : List ℕ → ℕ → Func → Entry
test name count func = comparison name (Each (replicate count any)) alike.Same func results.Bool

abbrev pub comparison_entries : List Entry
comparison_entries =
    test (codes "equal") 2 funcs.Equal
    ∷ test (codes "not_equal") 2 funcs.NotEqual
    ∷ test (codes "lt") 2 funcs.Lt
    ∷ test (codes "lte") 2 funcs.Lte
    ∷ test (codes "gt") 2 funcs.Gt
    ∷ test (codes "gte") 2 funcs.Gte
    ∷ test (codes "between") 3 funcs.Between
    ∷ test (codes "is_null") 1 funcs.IsNull
    ∷ test (codes "is_not_null") 1 funcs.IsNotNull
    ∷ test (codes "is_not_distinct_from") 2 funcs.IsNotDistinctFrom
    ∷ comparison (codes "coalesce") (OneOrMore any) alike.Equal funcs.Coalesce results.Same
    ∷ comparison (codes "nullif") (Each (any ∷ any ∷ [])) alike.Equal funcs.Nullif results.Same
    ∷ []

-- a function of integers, for each of their four kinds
abbrev pub arithmetic : Class → List ℕ → ℕ → Func → ResultRule → List Entry
arithmetic = for_each (codes "i8" ∷ codes "i16" ∷ codes "i32" ∷ codes "i64" ∷ []) (codes "functions_arithmetic.yaml")

abbrev pub arithmetic_entries : List Entry
arithmetic_entries =
    arithmetic Scalar (codes "add") 2 funcs.Add results.Same
    ++ arithmetic Scalar (codes "subtract") 2 funcs.Subtract results.Same
    ++ arithmetic Scalar (codes "multiply") 2 funcs.Multiply results.Same
    ++ arithmetic Scalar (codes "divide") 2 funcs.Divide results.Same
    ++ arithmetic Scalar (codes "modulus") 2 funcs.Modulus results.Same
    ++ arithmetic Scalar (codes "negate") 1 funcs.Negate results.Same
    ++ arithmetic Scalar (codes "abs") 1 funcs.Abs results.Same
    ++ arithmetic Aggregate (codes "sum") 1 funcs.Sum results.I64
    ++ arithmetic Aggregate (codes "min") 1 funcs.Min results.Same
    ++ arithmetic Aggregate (codes "max") 1 funcs.Max results.Same

-- a function of decimals
abbrev pub decimal : Class → List ℕ → ℕ → Func → ResultRule → List Entry
decimal = for_each (codes "dec" ∷ []) (codes "functions_arithmetic_decimal.yaml")

abbrev pub decimal_entries : List Entry
decimal_entries =
    decimal Scalar (codes "add") 2 funcs.Add results.DeclaredDecimal
    ++ decimal Scalar (codes "subtract") 2 funcs.Subtract results.DeclaredDecimal
    ++ decimal Scalar (codes "multiply") 2 funcs.Multiply results.DeclaredDecimal
    ++ decimal Aggregate (codes "sum") 1 funcs.Sum results.DeclaredDecimal
    ++ decimal Aggregate (codes "avg") 1 funcs.Avg results.DeclaredDecimal
    ++ decimal Aggregate (codes "min") 1 funcs.Min results.Same
    ++ decimal Aggregate (codes "max") 1 funcs.Max results.Same

-- a function of texts
abbrev pub string : List ℕ → Arguments → Func → ResultRule → Entry
string name arguments func result = entry_of (codes "functions_string.yaml") Scalar name arguments alike.Free func result

abbrev pub string_entries : List Entry
string_entries =
    string (codes "concat") (OneOrMore str) funcs.Concat results.Same
    ∷ string (codes "substring") (Each (str ∷ i32 ∷ [])) funcs.Substring results.Same
    ∷ string (codes "substring") (Each (str ∷ i32 ∷ i32 ∷ [])) funcs.Substring results.Same
    ∷ string (codes "starts_with") (Each (str ∷ str ∷ [])) funcs.StartsWith results.Bool
    ∷ string (codes "ends_with") (Each (str ∷ str ∷ [])) funcs.EndsWith results.Bool
    ∷ string (codes "contains") (Each (str ∷ str ∷ [])) funcs.Contains results.Bool
    ∷ string (codes "like") (Each (str ∷ str ∷ [])) funcs.Like results.Bool
    ∷ string (codes "char_length") (Each (str ∷ [])) funcs.CharLength results.I64
    ∷ string (codes "octet_length") (Each (str ∷ [])) funcs.OctetLength results.I64
    ∷ []

-- a function of dates, and of timestamps
abbrev pub datetime : Class → List ℕ → ℕ → Func → ResultRule → List Entry
datetime = for_each (codes "date" ∷ codes "ts" ∷ []) (codes "functions_datetime.yaml")

abbrev pub datetime_entries : List Entry
datetime_entries =
    datetime Scalar (codes "lt") 2 funcs.Lt results.Bool
    ++ datetime Scalar (codes "lte") 2 funcs.Lte results.Bool
    ++ datetime Scalar (codes "gt") 2 funcs.Gt results.Bool
    ++ datetime Scalar (codes "gte") 2 funcs.Gte results.Bool
    ++ datetime Aggregate (codes "min") 1 funcs.Min results.Same
    ++ datetime Aggregate (codes "max") 1 funcs.Max results.Same

-- an aggregate function of any rows
abbrev pub generic : List ℕ → Arguments → Func → ResultRule → Entry
generic name arguments func result = entry_of (codes "functions_aggregate_generic.yaml") Aggregate name arguments alike.Free func result

abbrev pub generic_entries : List Entry
generic_entries =
    generic (codes "count") (Each []) funcs.Count results.I64
    ∷ generic (codes "count") (Each (any ∷ [])) funcs.Count results.I64
    ∷ []

-- all entries, in the order of the files
unfoldable pub table : List Entry
table = boolean_entries ++ comparison_entries ++ arithmetic_entries ++ decimal_entries ++ string_entries ++ datetime_entries ++ generic_entries
