use Rattle.std.proofs.Common.{◌≡◌, None, map, rules}
use Rattle.plan_denote.specs.Sets.{first_fault}
use Rattle.row_steps.specs.Seen.{seen}
use Rattle.row_sorts.proofs.SetLaws.{no_fault}
use Rattle.row_sorts.proofs.sets.whole_rows.Goals as goal

pub returns : goal.returns
returns c =
    let none : None ≡ first_fault (map seen c.args.inputs) = search rules in
    no_fault c.args.op c.args.inputs c.in_ok-rows_of.field-0 c.in_ok-set_in.field-0 none c.in_ok-rows_of.ensures c.in_ok-set_in.ensures
