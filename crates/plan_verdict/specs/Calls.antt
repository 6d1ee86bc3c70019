-- The functions that calls name (Substrait's simple extensions and its function files): the row of the table, the mode of
-- overflow, and the type of the result.
use Rattle.std.specs.Prelude.{ℕ, List, [], ◌∷◌, Bool, true, false, Option, Some, None, Result, Ok, Err, ◌||◌, not, ◌==◌, codes, map, if◌then◌else◌}
use Rattle.std.specs.List.{find, list_any, before_first, after_last}
use Rattle.std.specs.Option.{ok_or, option_map}
use Rattle.std.specs.Str.{bytes_eq}
use Rattle.sub_types.specs.ResultSteps.{◌>>=◌}
use Rattle.sub_types.specs.declared.kind.Kind.{Kind}
use Rattle.sub_types.specs.declared.kind.Ty.{Ty}
use Rattle.plan_leaves.specs.declared.extensions.FunDecl.{FunDecl}
use Rattle.plan_leaves.specs.declared.extensions.UriDecl.{UriDecl}
use Rattle.plan_leaves.specs.declared.options.FunctionOption.{FunctionOption}
use Rattle.plan_leaves.specs.declared.types.RawType.{RawType}
use Rattle.plan_typed.specs.declared.expr.Func.{Func}
use Rattle.plan_typed.specs.declared.expr.Func.TheVariants as funcs
use Rattle.plan_typed.specs.declared.expr.Overflow.{Overflow}
use Rattle.plan_typed.specs.declared.expr.Overflow.TheVariants as modes
use Rattle.func_table.specs.declared.row.Class.{Class}
use Rattle.func_table.specs.Entry.{Signature}
use Rattle.func_table.specs.Find.{row_for, is_known}
use Rattle.func_table.specs.Kinds.{key_of_kinds}
use Rattle.func_table.specs.Options.{honoured}
pub use Rattle.well_typed.specs.Results.{scale_for, is_of_scale, first_kind, result_of, is_result, is_nullable_call}
use Rattle.plan_verdict.specs.declared.call.Call.{Call}
use Rattle.plan_verdict.specs.declared.rule.Rule.{Rule}
use Rattle.plan_verdict.specs.declared.rule.Rule.TheVariants as rules
use Rattle.plan_verdict.specs.Types.{type_in}

-- what a plan declares: files of functions, and functions
pub record Declared : Type 0 where
  pub uris : List UriDecl
  pub functions : List FunDecl

-- a function as a call names it: its file, its name, and the whole name under which it is declared
pub record Named : Type 0 where
  pub file : List ℕ
  pub name : List ℕ
  pub declared : List ℕ

abbrev pub is_slash : ℕ → Bool
is_slash byte = byte == 47

abbrev pub is_colon : ℕ → Bool
is_colon byte = byte == 58

-- the first declaration with this anchor
abbrev pub function_at : Declared → ℕ → Option FunDecl
function_at declared anchor = find (λ function. function.anchor == anchor) declared.functions

-- the first file with this anchor
abbrev pub uri_at : Declared → ℕ → Option UriDecl
uri_at declared anchor = find (λ uri. uri.anchor == anchor) declared.uris

-- the function of a declaration in a file, whose name is what stands behind the last slash; a colon ends the function's name
abbrev pub named_as : List ℕ → List ℕ → Named
named_as uri declared = record { file = after_last is_slash uri; name = before_first is_colon declared; declared = declared }

-- the function that a call refers to
abbrev pub declared_at : Declared → ℕ → Option Named
declared_at declared reference = elim (function_at declared reference) [
  | None ↦ None
  | Some function ↦ option_map (λ uri. named_as uri.uri function.name) (uri_at declared function.uri)
]

-- the same where the table has functions of this file, name and class
abbrev pub known : Class → Named → Result Named Rule
known class named = if is_known named.file named.name class then Ok named else Err rules.UnknownFunction

abbrev pub named_in : Declared → Class → ℕ → Result Named Rule
named_in declared class reference = do
  named ← ok_or (declared_at declared reference) rules.UnknownFunction
  known class named

-- the keys under which `count` may be declared, whatever its arguments are
abbrev pub is_key_of_count : Func → List ℕ → Bool
is_key_of_count funcs.Count declared = bytes_eq declared (codes "count:") || bytes_eq declared (codes "count:any")
is_key_of_count _ declared = false

-- a declared name without a colon declares no key; else the key is the row's, or that of the arguments' kinds
abbrev pub is_key_of : Named → List Kind → Signature → Bool
is_key_of named given row =
    not (list_any is_colon named.declared) || bytes_eq named.declared row.key || bytes_eq named.declared (key_of_kinds named.name given)
    || is_key_of_count row.func named.declared

-- the row that takes the call
abbrev pub row_in : Named → Class → List Kind → Result Signature Rule
row_in named class given = do
  row ← ok_or (row_for named.file named.name given class) rules.BadArguments
  if is_key_of named given row then Ok row else Err rules.BadArguments

-- the first preference that is honoured
abbrev pub is_preferred : Signature → List ℕ → List ℕ → Bool
is_preferred row option preference = elim (honoured row option preference) [ Some b ↦ b | None ↦ false ]

-- the value of an option: none where it has no preferences, and then it is the default
abbrev pub preferred : Signature → FunctionOption → Result (Option (List ℕ)) Rule
preferred row option = elim option.preference [
  | [] ↦ Ok None
  | _ ∷ _ ↦ elim (find (is_preferred row option.name) option.preference) [ Some value ↦ Ok (Some value) | None ↦ Err rules.UnsupportedOption ]
]

-- the row has an option of this name
abbrev pub has_option : Signature → List ℕ → Bool
has_option row name = elim (honoured row name []) [ Some b ↦ true | None ↦ false ]

-- the mode that a value of the option `overflow` names
abbrev pub mode_of : Option (List ℕ) → Overflow
mode_of None = modes.Error
mode_of (Some value) = if bytes_eq value (codes "SATURATE") then modes.Saturate else if bytes_eq value (codes "SILENT") then modes.Silent else modes.Error

-- the mode after one more option; only `overflow` changes it
abbrev pub mode_after : Overflow → List ℕ → Option (List ℕ) → Overflow
mode_after mode name value = if bytes_eq name (codes "overflow") then mode_of value else mode

-- the mode after one more option, which has a name of the row's and a value that is honoured
abbrev pub mode_with : Overflow → Signature → FunctionOption → Result Overflow Rule
mode_with mode row option = do
  value ← if has_option row option.name then preferred row option else Err rules.UnsupportedOption
  Ok (mode_after mode option.name value)

-- the mode after these options, in order: the last of a name counts
abbrev pub mode_from : Overflow → Signature → List FunctionOption → Result Overflow Rule
mode_from mode row [] = Ok mode
mode_from mode row (option ∷ options) = do
  after ← mode_with mode row option
  mode_from after row options

-- the mode of a call with these options
abbrev pub mode_in : Signature → List FunctionOption → Result Overflow Rule
mode_in row options = mode_from modes.Error row options

-- the kind of the result: the row's, which a declared type must agree with, or the declared decimal
abbrev pub result_in : Signature → List Kind → Option RawType → Result Kind Rule
result_in row given None = ok_or (result_of row.result given) rules.MissingField
result_in row given (Some raw) = do
  ty ← type_in raw
  if is_result row given ty.kind then Ok ty.kind else Err rules.BadArguments

-- the call of a named function with arguments of these types: its row, then its options, then its result
abbrev pub call_in : Named → Class → List Ty → Option RawType → List FunctionOption → Result Call Rule
call_in named class types output options = do
  row ← row_in named class (map (λ ty. ty.kind) types)
  mode ← mode_in row options
  kind ← result_in row (map (λ ty. ty.kind) types) output
  Ok (record { func = row.func; mode = mode; ty = record { kind = kind; nullable = is_nullable_call row.func types } })
