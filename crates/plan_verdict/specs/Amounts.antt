-- The numbers of rows of a fetch (Substrait `FetchRel`).
use Rattle.std.specs.Prelude.{ℕ, zero, suc, ℤ, pos, negsuc, Option, Some, None, Result, Ok}
use Rattle.std.specs.Option.{ok_or}
use Rattle.sub_types.specs.ResultSteps.{◌>>=◌}
use Rattle.plan_leaves.specs.declared.literal.RawLiteral.{RawLiteral}
use Rattle.plan_leaves.specs.declared.literal.RawLiteral.TheVariants as literals
use Rattle.plan_verdict.specs.declared.rule.Rule.{Rule}
use Rattle.plan_verdict.specs.declared.rule.Rule.TheVariants as rules

-- a whole-number literal or null, as a number if it is one
abbrev pub amount_of : Option RawLiteral → Option (Option ℤ)
amount_of (Some (literals.I8 value nullable)) = Some (Some value)
amount_of (Some (literals.I16 value nullable)) = Some (Some value)
amount_of (Some (literals.I32 value nullable)) = Some (Some value)
amount_of (Some (literals.I64 value nullable)) = Some (Some value)
amount_of (Some (literals.Null type nullable)) = Some None
amount_of _ = None

-- no offset is 0
abbrev pub rows_skipped : Option ℤ → Option ℕ
rows_skipped None = Some 0
rows_skipped (Some (pos rows)) = Some rows
rows_skipped (Some (negsuc _)) = None

-- no count and -1 are all rows
abbrev pub rows_taken : Option ℤ → Option (Option ℕ)
rows_taken None = Some None
rows_taken (Some (pos rows)) = Some (Some rows)
rows_taken (Some (negsuc zero)) = Some None
rows_taken (Some (negsuc (suc _))) = None

-- the rows that are skipped and taken, of an offset and a count that are supported
abbrev pub amounts_in : Option (Option ℤ) → Option (Option ℤ) → Result (ℕ × Option ℕ) Rule
amounts_in from many = do
  first ← ok_or from rules.UnsupportedForm
  most ← ok_or many rules.UnsupportedForm
  skipped ← ok_or (rows_skipped first) rules.BadArguments
  taken ← ok_or (rows_taken most) rules.BadArguments
  Ok (skipped, taken)
