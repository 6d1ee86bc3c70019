use Rattle.std.proofs.Common.{◌∙◌, ◌+◌, List, sym, ap}
use Rattle.plan_pipes.specs.declared.pipe.Pipe.{Pipe}
use Rattle.cut_flows.specs.Tables.{tables_of, tables_in}
use Rattle.cut_flows.proofs.FlowLaws.{tables_in-last}
use Rattle.cut_flows.proofs.pipes.Pipes.push.Goals as goal

pub invariant_of-self-2 : goal.invariant_of-self-2
invariant_of-self-2 c =
    c.in_ok-tables.ensures
    ∙ ap (λ tables. tables + tables_of c.args.pipe.breaker) c.self.invariant
    ∙ sym (tables_in-last c.self.inside.pipes c.args.pipe)
    ∙ ap (λ (pipes : List Pipe). tables_in pipes) (sym c.in_ok-push.ensures.ok)
