-- What each relation does, by its inputs and its expressions.
use Rattle.std.proofs.Common.{◌≡◌, rules}
use Rattle.plan_typed.specs.declared.rel.Rel.{out-Rel}
use Rattle.sub_query.specs.Known.{known_seen, worths_at}
use Rattle.sub_query.specs.Parts.{op_with}
use Rattle.sub_query.proofs.RelLaws.{rel_made, op-Read, op-Filter, op-Project, op-Fetch, op-Sort, op-Aggregate, op-GroupSets, op-Join, op-Cross, op-Set}
use Rattle.sub_query.proofs.fill_rel.+fill_rel.Goals as goal

pub fill_op-returns-in_ok-names-in-Read : goal.fill_op-returns-in_ok-names-in-Read
fill_op-returns-in_ok-names-in-Read t c = search (rules, op-Read)

pub fill_op-returns-in_ok-input-in-Filter : goal.fill_op-returns-in_ok-input-in-Filter
fill_op-returns-in_ok-input-in-Filter t c = search (rules, op-Filter)

pub fill_op-returns-in_ok-input-in-Project : goal.fill_op-returns-in_ok-input-in-Project
fill_op-returns-in_ok-input-in-Project t c = search (rules, op-Project)

pub fill_op-returns-in_ok-fill_boxed-in-Fetch : goal.fill_op-returns-in_ok-fill_boxed-in-Fetch
fill_op-returns-in_ok-fill_boxed-in-Fetch t c = search (rules, op-Fetch)

pub fill_op-returns-in_ok-input-in-Sort : goal.fill_op-returns-in_ok-input-in-Sort
fill_op-returns-in_ok-input-in-Sort t c = search (rules, op-Sort)

pub fill_op-returns-in_ok-input-in-Aggregate : goal.fill_op-returns-in_ok-input-in-Aggregate
fill_op-returns-in_ok-input-in-Aggregate t c = search (rules, op-Aggregate)

pub fill_op-returns-in_ok-input-in-GroupSets : goal.fill_op-returns-in_ok-input-in-GroupSets
fill_op-returns-in_ok-input-in-GroupSets t c = search (rules, op-GroupSets)

pub fill_op-returns-in_ok-left-in-Join : goal.fill_op-returns-in_ok-left-in-Join
fill_op-returns-in_ok-left-in-Join t c = search (rules, op-Join)

pub fill_op-returns-in_ok-left-in-Cross : goal.fill_op-returns-in_ok-left-in-Cross
fill_op-returns-in_ok-left-in-Cross t c = search (rules, op-Cross)

pub fill_op-returns-in_ok-fill_rels-in-Set : goal.fill_op-returns-in_ok-fill_rels-in-Set
fill_op-returns-in_ok-fill_rels-in-Set t c = search (rules, op-Set)

pub fill_rel-returns : goal.fill_rel-returns
fill_rel-returns t c =
    let known = known_seen c.args.known.now in
    let here = worths_at c.in_ok-worths.worths in
    let rel = c.args.rel.now in
    let op : c.in_ok-op.op ≡ op_with known here (out-Rel rel).op = search rules in
    let emit : c.in_ok-op.emit ≡ (out-Rel rel).emit = search rules in
    let columns : c.in_ok-op.columns ≡ (out-Rel rel).columns = search rules in
    rel_made known rel here c.in_ok-op.op c.in_ok-op.emit c.in_ok-op.columns c.in_ok-worths.ensures op emit columns
