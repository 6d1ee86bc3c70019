use Rattle.file_kinds.proofs.Law.{law_of_files}
use Rattle.file_kinds.proofs.blocks_are_well_kinded.Goals as goal

pub returns : goal.returns
returns c = law_of_files
