use Rattle.std.proofs.Common.{refl}
use Rattle.plan_denote.specs.Fetch.{fetched}
use Rattle.row_steps.proofs.fetch.fetched.Goals as goal

pub returns : goal.returns
unfolding fetched
returns c = rw (c.window.ensures, c.window_end-end.ensures, c.len.ensures) refl
