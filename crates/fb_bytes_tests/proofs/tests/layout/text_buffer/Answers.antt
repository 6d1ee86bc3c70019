use Rattle.fb_bytes_tests.proofs.Sizes.{small, one_text_small}
use Rattle.fb_bytes_tests.proofs.tests.layout.text_buffer.Goals as goal

pub fb_write-requires-clause-small : goal.fb_write-requires-clause-small
fb_write-requires-clause-small c = small c.in_ok-root.root _ c.in_ok-root.ensures.laid (one_text_small c.args.text.now c.requires)
