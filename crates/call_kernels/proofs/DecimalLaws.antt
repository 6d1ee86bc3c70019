-- Decimals whose numbers are put together as they are: a function of theirs, and the columns that it makes.
use Rattle.std.proofs.Common.{◌≡◌, ◌∙◌, ℕ, ◌≤◌, ◌<◌, ◌^◌, ℤ, ◌+ℤ◌, ◌-ℤ◌, List, [], ◌∷◌, map, false, Option, IfOk, refl, sym, ap, ap₂, subst, lit<}
use Rattle.std.proofs.Math.Nat.{pow-le-pow_right}
use Rattle.std.specs.List.{All, range_with_len}
use Rattle.sub_types.specs.Nullable.{dec_value}
use Rattle.sub_types.specs.Value.{InKind}
use Rattle.sub_types.specs.declared.fault.FaultKind.TheVariants as faults
use Rattle.sub_types.specs.declared.kind.Kind.{Kind}
use Rattle.sub_types.specs.declared.kind.Kind.TheVariants as kinds
use Rattle.sub_types.specs.declared.kind.Ty.{Ty}
use Rattle.sub_types.specs.declared.value.Value.{Value}
use Rattle.sub_types.specs.declared.value.Value.TheVariants as values
use Rattle.func_table.specs.Kinds.{scale_of}
use Rattle.plan_typed.specs.declared.expr.Overflow.{Overflow}
use Rattle.plan_denote.specs.Calls.{binary}
use Rattle.plan_denote.specs.Computed.{Computed}
use Rattle.plan_denote.specs.Decimals.{combined, decimal_or, rescaled}
use Rattle.batch.specs.ColumnValues.{values_of}
use Rattle.batch.specs.declared.column.Column as batch_column
use Rattle.kernels.specs.Arith.{divides, func_of}
use Rattle.kernels.specs.Numbers.{decs}
use Rattle.kernels.specs.Until.{Until, until}
use Rattle.kernels.specs.declared.op.ArithOp.{ArithOp}
use Rattle.kernels.specs.declared.op.ArithOp.TheVariants.{Add, Subtract, Multiply, Divide, Modulus}
use Rattle.kernels.specs.declared.selection.Stop.{Stop}
use Rattle.kernels.proofs.UntilLaws.{until-same}
use Rattle.call_kernels.specs.Decimals.{ArePlain, HaveScale}
use Rattle.call_kernels.specs.Made.{IsMade, at_places}
use Rattle.call_kernels.proofs.PlaceLaws.{decs_as, until-holds}

pub power_small : (e : ℕ) → e ≤ 38 → 10 ^ e ≤ 10 ^ 38
power_small e l = pow-le-pow_right (lit< tt) l

-- ---- the function

module _ (operation : ℤ → ℤ → ℤ) (precision scale : ℕ) (mode : Overflow) (first second : Kind) where
  abbrev kind : Kind
  kind = kinds.Decimal precision scale

  of_same : scale_of first ≡ scale → scale_of second ≡ scale → (x y : Value) → combined operation kind mode (first ∷ second ∷ []) x y ≡ combined operation kind mode (kind ∷ kind ∷ []) x y
  of_same a_is b_is (values.Dec a) (values.Dec b) = ap₂ (λ m n. decimal_or faults.Overflow kind (operation (rescaled m scale a) (rescaled n scale b))) a_is b_is
  of_same a_is b_is (values.Dec a) values.Null = refl
  of_same a_is b_is (values.Dec a) (values.Bool b) = refl
  of_same a_is b_is (values.Dec a) (values.Int b) = refl
  of_same a_is b_is (values.Dec a) (values.Bytes b) = refl
  of_same a_is b_is (values.Int a) values.Null = refl
  of_same a_is b_is (values.Int a) (values.Bool b) = refl
  of_same a_is b_is (values.Int a) (values.Int b) = refl
  of_same a_is b_is (values.Int a) (values.Dec b) = refl
  of_same a_is b_is (values.Int a) (values.Bytes b) = refl
  of_same a_is b_is values.Null y = refl
  of_same a_is b_is (values.Bool a) y = refl
  of_same a_is b_is (values.Bytes a) y = refl

combined_same : (operation : ℤ → ℤ → ℤ) (precision scale : ℕ) (mode : Overflow) (given : List Kind) → HaveScale scale given → (x y : Value)
    → combined operation (kinds.Decimal precision scale) mode given x y ≡ combined operation (kinds.Decimal precision scale) mode (kinds.Decimal precision scale ∷ kinds.Decimal precision scale ∷ []) x y
combined_same operation precision scale mode [] have x y = elim have [ ]
combined_same operation precision scale mode (first ∷ []) have x y = elim have [ ]
combined_same operation precision scale mode (first ∷ (second ∷ (_ ∷ _))) have x y = elim have [ ]
combined_same operation precision scale mode (first ∷ second ∷ []) have x y = of_same operation precision scale mode first second have.0 have.1 x y

pub plain_same : (op : ArithOp) (precision scale : ℕ) (mode : Overflow) (given : List Kind) → ArePlain op scale given → (x y : Value)
    → binary (func_of op) (kinds.Decimal precision scale) mode given x y ≡ binary (func_of op) (kinds.Decimal precision scale) mode (kinds.Decimal precision scale ∷ kinds.Decimal precision scale ∷ []) x y
plain_same Add precision scale mode given plain x y = combined_same ◌+ℤ◌ precision scale mode given plain x y
plain_same Subtract precision scale mode given plain x y = combined_same ◌-ℤ◌ precision scale mode given plain x y
plain_same Multiply precision scale mode given plain x y = refl
plain_same Divide precision scale mode given plain x y = absurd plain
plain_same Modulus precision scale mode given plain x y = absurd plain

pub plain_divides : (op : ArithOp) (scale : ℕ) (given : List Kind) → ArePlain op scale given → divides op ≡ false
plain_divides Add scale given plain = refl
plain_divides Subtract scale given plain = refl
plain_divides Multiply scale given plain = refl
plain_divides Divide scale given plain = absurd plain
plain_divides Modulus scale given plain = absurd plain

-- ---- the columns

module _ (op : ArithOp) (mode : Overflow) (ty : Ty) (precision scale : ℕ) (of : ty.kind ≡ kinds.Decimal precision scale) (given : List Kind) (plain : ArePlain op scale given) (n : ℕ) (first second a b : List Value) (a_is : first ≡ a) (b_is : second ≡ b)
    (numbers : List (Option ℤ)) (stop : Stop)
    (law : until (at_places (binary (func_of op) (kinds.Decimal precision scale) mode (kinds.Decimal precision scale ∷ kinds.Decimal precision scale ∷ [])) first second) (range_with_len 0 n) ≡ record { values = decs (λ x. x) numbers; stop = stop }) where
  abbrev its_kind : Kind
  its_kind = kinds.Decimal precision scale

  abbrev wanted : ℕ → Computed
  wanted = at_places (binary (func_of op) ty.kind mode given) a b

  results : until wanted (range_with_len 0 n) ≡ record { values = map dec_value numbers; stop = stop }
  results =
      ap (λ k. until (at_places (binary (func_of op) k mode given) a b) (range_with_len 0 n)) of
      ∙ until-same (at_places (binary (func_of op) its_kind mode given) a b) (at_places (binary (func_of op) its_kind mode (its_kind ∷ its_kind ∷ [])) a b) (λ i. plain_same op precision scale mode given plain _ _) (range_with_len 0 n)
      ∙ ap₂ (λ a b. until (at_places (binary (func_of op) its_kind mode (its_kind ∷ its_kind ∷ [])) a b) (range_with_len 0 n)) (sym a_is) (sym b_is)
      ∙ law
      ∙ ap (λ values. record { values = values; stop = stop }) (decs_as numbers)

  pub decimals_fit : ((i : ℕ) → i < n → IfOk (wanted i) (InKind ty.kind)) → All (InKind ty.kind) (map dec_value numbers)
  decimals_fit holds = subst (All (InKind ty.kind)) (ap (λ (one : Until Value). one.values) results) (until-holds (InKind ty.kind) wanted n holds)

  pub decimals_made : (column : batch_column.Column) → values_of column.values ≡ map dec_value numbers → column.ty ≡ ty → IsMade wanted n ty column stop
  decimals_made column values_are ty_is = record {
    values = values_are ∙ ap (λ (one : Until Value). one.values) (sym results);
    stop_is = ap (λ (one : Until Value). one.stop) (sym results);
    ty_is = ty_is;
  }
