use Rattle.std.proofs.Common.{◌≡◌, true, take}
use Rattle.std.specs.List.{list_all}
use Rattle.std.specs.Str.Parse.{digits_value}
use Rattle.plan_denote.specs.Casts.{is_digit}
use Rattle.eval_values.proofs.digits.unsigned_of.Given as goal

abbrev pub invariant-loop-digit : goal.invariant-loop-digit
invariant-loop-digit l = (list_all is_digit (take l.digit-index l.digits) ≡ true) × (l.n ≡ digits_value 10 (take l.digit-index l.digits))
