use Rattle.read_rounds.proofs.files.read_parts.Goals as goal

pub invariant_of-steps : goal.invariant_of-steps
invariant_of-steps g c = record { count = c.requires.numbers; reads = c.requires.reads }
