use Rattle.std.proofs.Common.{◌∙◌, ◌++◌, List, ap, sym}
use Rattle.std.proofs.lemmas.List.{append-nil}
use Rattle.sub_types.specs.declared.kind.Ty.{Ty}
use Rattle.group_sets.proofs.ColumnLaws.{number_none, number_some}
use Rattle.group_sets.proofs.types.add_number.Goals as goal

pub returns-then-sets-le1 : goal.returns-then-sets-le1
returns-then-sets-le1 c =
    let old = c.args.types.now.items in
    sym (append-nil old) ∙ ap (λ (l : List Ty). old ++ l) (number_none c.args.sets.now c.if-sets-le1.true)

pub returns : goal.returns
returns c = c.in_ok-push.ensures.items ∙ ap (λ (l : List Ty). c.args.types.now.items ++ l) (number_some c.args.sets.now c.if-sets-le1.false)
