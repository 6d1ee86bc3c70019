-- The types that a plan writes (Substrait `Type`).
use Rattle.std.specs.Prelude.{ℕ, ℤ, pos, Option, Some, None, Result, ◌&&◌, not, ◌==◌, nat_le}
use Rattle.std.specs.Option.{ok_or}
use Rattle.sub_types.specs.OptionSteps.{◌>>=◌, when}
use Rattle.sub_types.specs.declared.kind.Kind.{Kind}
use Rattle.sub_types.specs.declared.kind.Kind.TheVariants as kinds
use Rattle.sub_types.specs.declared.kind.Ty.{Ty}
use Rattle.plan_leaves.specs.declared.types.RawType.{RawType}
use Rattle.plan_leaves.specs.declared.types.RawType.TheVariants as types
use Rattle.plan_verdict.specs.declared.rule.Rule.{Rule}
use Rattle.plan_verdict.specs.declared.rule.Rule.TheVariants as rules

-- a type of this kind: nullability 2 is required, every other number nullable
abbrev pub type_as : Kind → ℕ → Ty
type_as kind nullability = record { kind = kind; nullable = not (nullability == 2) }

-- a decimal of 1 to 38 digits, of which at most all stand behind the point
abbrev pub decimal_of : ℤ → ℤ → Option Kind
decimal_of (pos precision) (pos scale) = when (nat_le 1 precision && nat_le precision 38 && nat_le scale precision) (Some (kinds.Decimal precision scale))
decimal_of _ _ = None

-- a type of the ten kinds
abbrev pub type_of : RawType → Option Ty
type_of (types.Bool nullability) = Some (type_as kinds.Bool nullability)
type_of (types.I8 nullability) = Some (type_as kinds.I8 nullability)
type_of (types.I16 nullability) = Some (type_as kinds.I16 nullability)
type_of (types.I32 nullability) = Some (type_as kinds.I32 nullability)
type_of (types.I64 nullability) = Some (type_as kinds.I64 nullability)
type_of (types.String nullability) = Some (type_as kinds.Text nullability)
type_of (types.Binary nullability) = Some (type_as kinds.Binary nullability)
type_of (types.Timestamp nullability) = Some (type_as kinds.Timestamp nullability)
type_of (types.Date nullability) = Some (type_as kinds.Date nullability)
type_of (types.Decimal scale precision nullability) = do
  kind ← decimal_of precision scale
  Some (type_as kind nullability)
type_of _ = None

-- the type, or that it isn't supported
abbrev pub type_in : RawType → Result Ty Rule
type_in raw = ok_or (type_of raw) rules.UnsupportedType
