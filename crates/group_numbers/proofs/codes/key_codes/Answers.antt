use Rattle.std.proofs.Common.{sym, subst, take}
use Rattle.group_numbers.specs.Codes.{AreCodes}
use Rattle.group_numbers.proofs.CodeLaws.{no_codes}
use Rattle.group_numbers.proofs.codes.key_codes.Goals as goal

pub loop-column-init : goal.loop-column-init
loop-column-init c = subst (AreCodes (take 0 c.args.columns.now) c.args.batch.now) (sym (c.in_ok-codes.ensures.items_if_clones_equal (λ y e. e))) (no_codes c.args.columns.now c.args.batch.now)
