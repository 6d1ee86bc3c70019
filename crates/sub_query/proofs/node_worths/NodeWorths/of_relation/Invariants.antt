use Rattle.std.proofs.Common.{drop}
use Rattle.sub_query.specs.Known.{IsOfRelation}
use Rattle.sub_query.proofs.node_worths.NodeWorths.of_relation.Given as goal

-- the worths so far from the end
abbrev pub invariant-loop-i : goal.invariant-loop-i
invariant-loop-i l = IsOfRelation (drop l.i l.known) l.relation l.by_node
