-- Which values are in a set, and what is said of a value by a set of options.
use Rattle.std.specs.Prelude.{◌≡◌, ℕ, List, Bool, true, false, if◌then◌else◌}
use Rattle.std.specs.List.{list_any, AllZip}
use Rattle.std.specs.Ordering.{int_eq}
use Rattle.std.specs.Str.{bytes_eq}
use Rattle.std.specs.Global.{Global}
use Rattle.std.specs.Prelude.{Vec}
use Rattle.sub_types.specs.declared.kind.Ty.{Ty}
use Rattle.sub_types.specs.declared.value.Value.{Value}
use Rattle.sub_types.specs.declared.value.Value.TheVariants as values
use Rattle.plan_typed.specs.declared.expr.Expr.{Expr}
use Rattle.plan_typed.specs.declared.expr.Expr.TheVariants as exprs
use Rattle.plan_denote.specs.Computed.{is_null}
use Rattle.plan_denote.specs.Order.{is_same}
use Rattle.value_sets.specs.declared.set.ValueSet.{ValueSet}

abbrev pub has_text : List (Vec ℕ Global) → List ℕ → Bool
has_text texts bytes = list_any (λ text. bytes_eq bytes text.items) texts

abbrev pub has : ValueSet → Value → Bool
has set values.Null = set.has_null
has set (values.Bool test) = if test then set.has_true else set.has_false
has set (values.Int number) = list_any (int_eq number) set.ints.keys
has set (values.Dec number) = list_any (int_eq number) set.decimals.keys
has set (values.Bytes bytes) = has_text set.texts.keys bytes

-- whether a value is among options: null where it is null, or where it isn't there and null is among them
abbrev pub answer_by : (Value → Bool) → Value → Value
answer_by among value = if is_null value then values.Null else if among value then values.Bool true else if among values.Null then values.Null else values.Bool false

abbrev pub IsConstant : Expr → Value → Type 0
IsConstant expr value = (ty : Ty) × (expr ≡ exprs.Const value ty)

-- the expressions are constants, and the set has their values
pub record IsSetOf (set : ValueSet) (options : List Expr) : Type 0 where
  pub values : List Value
  pub constants : AllZip IsConstant options values
  pub has : (value : Value) → has set value ≡ list_any (is_same value) values
