use Rattle.std.proofs.Common.{length, refl}
use Rattle.cut_laws.proofs.StreamLaws.{join_is, cross_is}
use Rattle.cut_laws.proofs.join_by_parts.Goals as goal

pub returns : goal.returns
returns c = record {
  join = λ number kind left right on spec is. join_is number kind left right on spec (length left) (length right) is refl refl;
  cross = λ number left right spec lefts rights is. cross_is number left right spec (length left) (length right) lefts rights is refl refl;
}
