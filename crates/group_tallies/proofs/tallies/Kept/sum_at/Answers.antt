use Rattle.std.proofs.Common.{◌≤◌, ◌^◌, ◌∙◌, sym, ap, subst}
use Rattle.plan_typed.specs.declared.expr.Func.TheVariants as funcs
use Rattle.plan_denote.specs.Tally.{Tally, final}
use Rattle.group_tallies.proofs.tallies.Kept.sum_at.Goals as goal

pub sum_of-requires : goal.sum_of-requires
sum_of-requires c = subst (λ (t : Tally). t.count ≤ 2 ^ 62) (sym c.running_at.ensures) c.requires.few

pub returns : goal.returns
returns c = c.sum_of.ensures ∙ ap (final funcs.Sum c.args.kind) c.running_at.ensures
