-- The kinds that a plan or a file may name.
use Rattle.std.specs.Prelude.{ℕ, ◌≤◌}
use Rattle.sub_types.specs.declared.kind.Kind.{Kind}
use Rattle.sub_types.specs.declared.kind.Kind.TheVariants.{Decimal}

-- a decimal of 1 to 38 digits, of which at most all stand behind the point
pub record IsDecimal (precision scale : ℕ) : Type 0 where
  pub one_digit : 1 ≤ precision
  pub within : precision ≤ 38
  pub scaled : scale ≤ precision

-- every kind but a decimal stands for itself
abbrev pub IsKind : Kind → Type 0
IsKind (Decimal precision scale) = IsDecimal precision scale
IsKind _ = Unit {0}
