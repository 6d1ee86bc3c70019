use Rattle.fb_bytes.specs.Object.{buffer}
use Rattle.arrow_meta.proofs.Lengths.{small_vec}
use Rattle.arrow_meta.proofs.write.message.root_bytes.Goals as goal

pub returns-clause-small : goal.returns-clause-small
returns-clause-small c = small_vec c.fb_write.result (buffer c.args.root.now) c.fb_write.ensures.laid c.requires.short
