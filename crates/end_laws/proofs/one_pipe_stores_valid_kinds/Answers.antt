use Rattle.end_laws.proofs.KindLaws.{after_valid}
use Rattle.end_laws.proofs.one_pipe_stores_valid_kinds.Goals as goal

pub returns : goal.returns
returns c columns past pipe valid kept feed steps breaker = after_valid columns valid past pipe kept feed steps breaker
