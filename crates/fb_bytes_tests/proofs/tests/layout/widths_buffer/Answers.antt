use Rattle.fb_bytes_tests.proofs.Sizes.{small, widths_small}
use Rattle.fb_bytes_tests.proofs.tests.layout.widths_buffer.Goals as goal

pub fb_write-requires-clause-small : goal.fb_write-requires-clause-small
fb_write-requires-clause-small c = small c.in_ok-root.root _ c.in_ok-root.ensures.laid widths_small
