-- Measures over distinct values.
use Rattle.std.specs.Prelude.{Bool, Result, Ok, Err, ◌&&◌, not, is_none, if◌then◌else◌}
use Rattle.plan_typed.specs.declared.rel.SetMeasure.{SetMeasure}
use Rattle.plan_typed.specs.declared.rel.TypedMeasure.{TypedMeasure}
use Rattle.plan_verdict.specs.declared.rule.Rule.{Rule}
use Rattle.plan_verdict.specs.declared.rule.Rule.TheVariants as rules

-- a measure that may be over distinct values, which has an argument then
abbrev pub set_measure : TypedMeasure → Bool → Result SetMeasure Rule
set_measure measure distinct = if not (distinct && is_none measure.arg) then Ok (record { measure = measure; distinct = distinct }) else Err rules.BadArguments
