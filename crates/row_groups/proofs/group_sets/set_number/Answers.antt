use Rattle.std.proofs.Common.{◌∙◌, rules}
use Rattle.row_groups.proofs.GroupSetLaws.{numbered, unnumbered}
use Rattle.row_groups.proofs.group_sets.set_number.Goals as goal

pub returns-then-sets-le1 : goal.returns-then-sets-le1
returns-then-sets-le1 c = c.new-last.ensures ∙ unnumbered c.args.sets.now c.args.place c.if-sets-le1.true

pub returns : goal.returns
returns c = search (rules, numbered c.args.sets.now c.args.place c.if-sets-le1.false)
