-- The options of the functions. Of an option some values are honoured; every other one is refused.
use Rattle.std.specs.Prelude.{ℕ, Bool, true, false, List, [], ◌∷◌, ◌++◌, Option, codes, nat_eq}
use Rattle.std.specs.List.{find, list_any, ends_with}
use Rattle.std.specs.Option.{option_map}
use Rattle.std.specs.Str.{bytes_eq}
use Rattle.plan_typed.specs.declared.expr.Func.{Func}
use Rattle.plan_typed.specs.declared.expr.Func.TheVariants.{Add, Subtract, Multiply, Divide, Modulus, Negate, Abs, Sum, Concat, Substring, StartsWith, EndsWith, Contains, Like}
use Rattle.func_table.specs.Entry.{Signature}

-- an option, and the values of it that are honoured
pub record Choice : Type 0 where
  pub option : List ℕ
  pub values : List (List ℕ)

-- an option of which one value is honoured
abbrev pub only : List ℕ → List ℕ → Choice
only option value = record { option = option; values = value ∷ [] }

-- a result outside its type is a fault, or the nearest value of the type, or it wraps
abbrev pub overflow_modes : Choice
overflow_modes = record { option = codes "overflow"; values = codes "ERROR" ∷ codes "SATURATE" ∷ codes "SILENT" ∷ [] }

-- a result outside its type is a fault
abbrev pub overflow_fault : Choice
overflow_fault = only (codes "overflow") (codes "ERROR")

-- the options of a division
abbrev pub division_options : List Choice
division_options = overflow_modes ∷ only (codes "on_division_by_zero") (codes "ERROR") ∷ only (codes "on_domain_error") (codes "ERROR") ∷ []

-- capital and small letters differ
abbrev pub case_sensitive : Choice
case_sensitive = only (codes "case_sensitivity") (codes "CASE_SENSITIVE")

-- the options of a function, of rows without decimals
abbrev pub function_options : Func → List Choice
function_options Add = overflow_modes ∷ []
function_options Subtract = overflow_modes ∷ []
function_options Multiply = overflow_modes ∷ []
function_options Divide = division_options
function_options Modulus = division_options ++ only (codes "division_type") (codes "TRUNCATE") ∷ []
function_options Negate = overflow_modes ∷ []
function_options Abs = overflow_modes ∷ []
function_options Sum = overflow_fault ∷ []
function_options Concat = only (codes "null_handling") (codes "ACCEPT_NULLS") ∷ []
function_options Substring = only (codes "negative_start") (codes "ERROR") ∷ []
function_options StartsWith = case_sensitive ∷ []
function_options EndsWith = case_sensitive ∷ []
function_options Contains = case_sensitive ∷ []
function_options Like = case_sensitive ∷ []
function_options _ = []

-- all rows of decimals have the same
abbrev pub options_at : Bool → Func → List Choice
options_at true func = overflow_fault ∷ []
options_at false func = function_options func

-- a row of decimals is one whose last argument is a decimal
abbrev pub is_of_decimals : Signature → Bool
is_of_decimals row = ends_with nat_eq row.key (codes "dec")

-- the options of a row
abbrev pub options_of : Signature → List Choice
options_of row = options_at (is_of_decimals row) row.func

-- the option of this name that a row has
abbrev pub choice_of : Signature → List ℕ → Option Choice
choice_of row name = find (λ choice. bytes_eq choice.option name) (options_of row)

-- the value is one of those that are honoured
abbrev pub is_honoured : List ℕ → Choice → Bool
is_honoured value choice = list_any (λ one. bytes_eq one value) choice.values

-- whether a row honours a value of an option, where it has the option
abbrev pub honoured : Signature → List ℕ → List ℕ → Option Bool
honoured row option value = option_map (is_honoured value) (choice_of row option)
