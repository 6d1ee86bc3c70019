use Rattle.col_text.proofs.PartsLaws.{HoldsTexts-parts}
use Rattle.col_text.proofs.column.TextCol.from_ends.Goals as goal

pub invariant_of-result : goal.invariant_of-result
invariant_of-result c = HoldsTexts-parts c.args.ends c.args.bytes.items c.args.valid c.requires
