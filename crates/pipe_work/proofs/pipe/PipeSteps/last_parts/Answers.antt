use Rattle.pipe_work.proofs.pipe.PipeSteps.last_parts.Goals as goal

pub parts_of-requires : goal.parts_of-requires
parts_of-requires c = record { stored = c.in_ok-last.ensures.stored }

pub returns : goal.returns
returns c = record { pieces = c.in_ok-last.last.items; kept = c.in_ok-parts.ensures; stored = c.in_ok-last.ensures.stored; rows_are = c.in_ok-last.ensures.stream }
