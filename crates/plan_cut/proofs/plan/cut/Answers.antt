use Rattle.std.proofs.Common.{◌∙◌}
use Rattle.plan_cut.proofs.CutLaws.{whole_plan}
use Rattle.plan_cut.proofs.plan.cut.Goals as goal

pub returns : goal.returns
returns c =
    let found = whole_plan c.args.typed.now.rel c.new-pipes.result c.cut_rel.new.pipes c.into_vec.result.items c.in_ok-flow.flow c.new-pipes.ensures (c.into_vec.ensures ∙ c.in_ok-close.ensures.grown) c.in_ok-flow.ensures in
    record { some = found.some; last = found.last; rows = found.rows; reads = found.reads; typed = found.typed; met = found.met; columns = found.columns }
