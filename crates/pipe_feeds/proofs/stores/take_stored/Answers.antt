use Rattle.std.proofs.Common.{Option, List, slice_set, sym, subst}
use Rattle.batch.specs.declared.batch.Piece.{Piece}
use Rattle.pipe_feeds.specs.Kept.{IsLeft}
use Rattle.pipe_feeds.proofs.KeptLaws.{left_same, left_set}
use Rattle.pipe_feeds.proofs.stores.take_stored.Goals as goal

pub returns-then-at-len-clause-left : goal.returns-then-at-len-clause-left
returns-then-at-len-clause-left c =
    let all = c.args.streams.now.items in
    subst (λ (one : Option (List Piece)). IsLeft all (slice_set all c.args.at one)) (sym c.replace.ensures.after) (left_set all c.args.at)

pub returns-else-at-len-clause-left : goal.returns-else-at-len-clause-left
returns-else-at-len-clause-left c = left_same _
