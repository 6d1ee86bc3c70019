-- Each relation: what its operator gives of what its inputs give.
use Rattle.std.proofs.Common.{◌∙◌, ap, rules}
use Rattle.plan_denote.specs.Denote.{denote}
use Rattle.row_steps.specs.Seen.{seen}
use Rattle.row_engine.specs.Tables.{tables_seen}
use Rattle.row_engine.proofs.MoreLaws.{one_more}
use Rattle.plan_denote.proofs.DenoteLaws.{direct-Read, direct-Filter, direct-Project, direct-Fetch, direct-Sort, direct-Aggregate, direct-GroupSets, direct-Join, direct-Cross, direct-Set, denotes, width_is}
use Rattle.row_engine.proofs.run.+run.Goals as goal

pub run_op-returns-in_ok-rows-in-Read : goal.run_op-returns-in_ok-rows-in-Read
run_op-returns-in_ok-rows-in-Read t c = search (rules, direct-Read)

pub run_op-returns-in_ok-rows-in-Filter : goal.run_op-returns-in_ok-rows-in-Filter
run_op-returns-in_ok-rows-in-Filter t c = search (rules, direct-Filter)

pub run_op-returns-in_ok-rows-in-Project : goal.run_op-returns-in_ok-rows-in-Project
run_op-returns-in_ok-rows-in-Project t c = search (rules, direct-Project)

pub run_op-returns-in_ok-rows-in-Fetch : goal.run_op-returns-in_ok-rows-in-Fetch
run_op-returns-in_ok-rows-in-Fetch t c = search (rules, direct-Fetch)

pub run_op-returns-in_ok-rows-in-Sort : goal.run_op-returns-in_ok-rows-in-Sort
run_op-returns-in_ok-rows-in-Sort t c = search (rules, direct-Sort)

pub run_op-returns-in_ok-rows-in-Aggregate : goal.run_op-returns-in_ok-rows-in-Aggregate
run_op-returns-in_ok-rows-in-Aggregate t c = search (rules, direct-Aggregate)

pub run_op-returns-in_ok-rows-in-GroupSets : goal.run_op-returns-in_ok-rows-in-GroupSets
run_op-returns-in_ok-rows-in-GroupSets t c = search (rules, direct-GroupSets)

pub run_op-returns-in_ok-rows-in-Join : goal.run_op-returns-in_ok-rows-in-Join
run_op-returns-in_ok-rows-in-Join t c = search (rules, direct-Join, width_is)

pub run_op-returns-in_ok-rights-in-Cross : goal.run_op-returns-in_ok-rights-in-Cross
run_op-returns-in_ok-rights-in-Cross t c = search (rules, direct-Cross, width_is)

pub run_op-returns-in_ok-streams-in-Set : goal.run_op-returns-in_ok-streams-in-Set
run_op-returns-in_ok-streams-in-Set t c = search (rules, direct-Set)

pub run_rows-returns : goal.run_rows-returns
run_rows-returns t c = search (rules, denotes)

pub run_all-loop-rel-preserved : goal.run_all-loop-rel-preserved
run_all-loop-rel-preserved t c =
    let tables = tables_seen c.args.tables.now in
    rw c.in_ok-push.ensures.ok (one_more seen (denote tables) c.loop-rel.streams c.args.rels.now c.loop-rel.rel-index c.rel-item.result c.in_ok-run_rows.field-0 c.loop-rel-test.true c.loop-rel.invariant (c.in_ok-run_rows.ensures ∙ ap (denote tables) c.rel-item.is))
