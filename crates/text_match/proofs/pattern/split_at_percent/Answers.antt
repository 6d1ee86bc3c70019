use Rattle.std.proofs.Common.{◌+◌, refl, arith}
use Rattle.std.proofs.lemmas.List.{take_rest}
use Rattle.plan_denote.specs.Texts.{PERCENT}
use Rattle.text_match.proofs.SignLaws.{Lacks-chars, SplitsAtPercent-first}
use Rattle.text_match.proofs.pattern.split_at_percent.Goals as goal

pub returns-in_err-percent : goal.returns-in_err-percent
returns-in_err-percent c = rw c.from_residual.ensures (Lacks-chars PERCENT c.args.pattern.now (omega arith) c.requires c.in_err-percent.ensures)

pub returns : goal.returns
returns c =
    SplitsAtPercent-first c.args.pattern.now _ _ c.in_ok-percent.percent c.requires c.in_ok-percent.ensures refl (take_rest c.args.pattern.now (c.in_ok-percent.percent + 1))
