use Rattle.col_fixed.proofs.GatherLaws.{IsColumn-both, optional-both}
use Rattle.col_fixed.proofs.bools.BoolCol.from_parts.Goals as goal

pub invariant_of-result : goal.invariant_of-result
invariant_of-result c = rw c.mask.ensures (IsColumn-both c.args.values c.args.valid c.requires)

pub returns : goal.returns
returns c = rw c.mask.ensures (optional-both c.args.values c.args.valid c.requires)
