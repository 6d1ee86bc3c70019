use Rattle.read_laws.proofs.TypedLaws.{typed_reads}
use Rattle.read_laws.proofs.reads_are_typed.Goals as goal

pub returns : goal.returns
returns c = typed_reads
