use Rattle.std.proofs.Common.{◌≤◌, ◌<◌, rules as given, subst, length, arith}
use Rattle.plan_verdict.specs.Checking.{Comes}
use Rattle.plan_verdict.specs.Rels.{over}
use Rattle.plan_verdict.specs.Verdict.{checked_grouping}
use Rattle.check_groups.proofs.GroupLaws.{single, several}
use Rattle.check_groups.proofs.groups.written_out.Goals as goal

pub returns-in_default : goal.returns-in_default
returns-in_default g c =
    let long : 2 ≤ length c.args.groupings.now = search (given, arith) in
    subst (Comes c.several_written_out.result) (several (over c.args.number c.args.columns.now) (checked_grouping c.args.terms.now) c.args.groupings.now c.args.progress long) c.several_written_out.ensures

pub returns-in-len1 : goal.returns-in-len1
returns-in-len1 g c =
    let some : 1 ≤ length c.args.groupings.now = search (given, arith) in
    let few : length c.args.groupings.now < 2 = search (given, arith) in
    subst (Comes c.one_written_out.result)
    (single (over c.args.number c.args.columns.now) (checked_grouping c.args.terms.now) c.args.groupings.now c.one-item.result c.args.progress some few c.one-item.is) c.one_written_out.ensures
