use Rattle.cut_laws.proofs.ReadLaws.{inputs_are_given, columns_are_had}
use Rattle.cut_laws.proofs.reads_are_found.Goals as goal

pub returns : goal.returns
returns c = record { rows = inputs_are_given; columns = columns_are_had }
