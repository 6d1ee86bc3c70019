use Rattle.cut_laws.proofs.SortLaw as law
use Rattle.cut_laws.proofs.sort_by_columns.Goals as goal

pub returns : goal.returns
returns c = law.sort_by_columns
