use Rattle.std.proofs.Common.{subst}
use Rattle.std.specs.Str.{IsAscii, IsNotAscii}
use Rattle.std.proofs.lemmas.Bool.{MatchBool-at_true}
use Rattle.call_kernels.proofs.parts.are_ascii.Goals as goal

pub returns : goal.returns
returns c = λ yes. subst IsAscii c.bytes.ensures (MatchBool-at_true (IsAscii c.bytes.result.now) (IsNotAscii c.bytes.result.now) yes c.is_ascii.ensures.cases)
