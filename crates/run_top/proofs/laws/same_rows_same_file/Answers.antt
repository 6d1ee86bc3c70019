use Rattle.run_top.proofs.CutLaws as laws
use Rattle.run_top.proofs.laws.same_rows_same_file.Goals as goal

pub returns : goal.returns
returns c = laws.same_rows_same_file
