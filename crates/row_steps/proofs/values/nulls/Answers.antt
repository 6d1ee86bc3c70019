use Rattle.std.proofs.Common.{◌∙◌, ◌++◌, ◌-◌, ◌+◌, replicate, ap}
use Rattle.sub_types.specs.declared.value.Value.TheVariants.{Null}
use Rattle.row_steps.proofs.NullLaws.{one_more}
use Rattle.row_steps.proofs.values.nulls.Goals as goal

pub loop-preserved : goal.loop-preserved
loop-preserved c =
    ap (λ row. row ++ replicate (c.args.width - (c.loop.counter + 1)) Null) c.in_ok-push.ensures.ok
    ∙ one_more Null c.loop.row c.args.width c.loop.counter c.loop-test.true ∙ c.loop.invariant
