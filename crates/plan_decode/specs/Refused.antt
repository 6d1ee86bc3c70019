-- The answer that a flaw of a plan's bytes gives.
use Rattle.plan_scan.specs.declared.flaw.Flaw.{Flaw}
use Rattle.plan_scan.specs.declared.flaw.Flaw.TheVariants as flaws
use Rattle.plan_decode.specs.declared.decode.DecodeError.{DecodeError}
use Rattle.plan_decode.specs.declared.decode.DecodeError.TheVariants.{Unreadable, TooDeep}

-- the same flaw
abbrev pub refused : Flaw → DecodeError
refused (flaws.Unreadable place) = Unreadable place
refused (flaws.TooDeep place) = TooDeep place
