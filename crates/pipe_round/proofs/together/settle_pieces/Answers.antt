use Rattle.std.proofs.Common.{map}
use Rattle.std.proofs.lemmas.List.Elements.{All-map}
use Rattle.pipe_labour.specs.declared.item.Item.{Item}
use Rattle.round_end.specs.declared.outcome.Outcome.{Outcome}
use Rattle.round_end.specs.Decided.{settled_seen}
use Rattle.pipe_work.specs.declared.kept.Kept.{Kept}
use Rattle.pipe_round.specs.Settled.{HasMarks}
use Rattle.pipe_round.proofs.SettledLaws.{put_of, marks_put}
use Rattle.pipe_round.proofs.together.settle_pieces.Goals as goal

pub put_together-requires : goal.put_together-requires
put_together-requires c =
    let value = λ (out : Item (Outcome Kept)). out.value in
    record {
      marks = marks_put c.args.pipe.now (map value c.args.outs.items) (settled_seen c.in_ok-settled.settled) (All-map (HasMarks c.args.pipe.now) value c.args.outs.items c.requires.marks) c.in_ok-settled.ensures.settled;
    }

pub returns-clause-parts : goal.returns-clause-parts
returns-clause-parts c = λ input settled.
    let value = λ (out : Item (Outcome Kept)). out.value in
    c.in_ok-parts.ensures input (put_of c.args.pipe.now input (map value c.args.outs.items) (settled_seen c.in_ok-settled.settled) settled c.in_ok-settled.ensures.settled)
