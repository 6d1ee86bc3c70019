use Rattle.std.proofs.Common.{refl, subst}
use Rattle.pipe_parts.specs.Parts.{IsPart}
use Rattle.pipe_work.specs.Pipe.{StepsSeen}
use Rattle.pipe_work.proofs.KeptLaws.{over_piece}
use Rattle.pipe_work.proofs.keeping.kept_of.Goals as goal

pub part_of-requires : goal.part_of-requires
part_of-requires c = record {
  over = over_piece _ c.args.pipe.now c.args.passed.piece c.pipe.view_is c.pipe.invariant.1 c.requires.stored;
  fit = c.requires.stored.fit;
}

pub returns : goal.returns
returns c = (subst (λ (way : StepsSeen). IsPart way.breaker c.args.passed.piece c.in_ok-part.part) c.pipe.view_is c.in_ok-part.ensures, refl)
