use Rattle.std.proofs.Common.{rules}
use Rattle.plan_denote.specs.Sets.{set_rows}
use Rattle.row_sorts.proofs.SetLaws.{of_whole}
use Rattle.row_sorts.proofs.sets.set_rows.Goals as goal

pub returns-in-UnionAll : goal.returns-in-UnionAll
unfolding set_rows
returns-in-UnionAll c = search rules

pub returns-in_default : goal.returns-in_default
returns-in_default c = search (rules, of_whole)
