use Rattle.std.proofs.Common.{length, sym, subst}
use Rattle.plan_typed.specs.declared.rel.Op.TheVariants as ops
use Rattle.plan_pipes.specs.declared.pipe.Breaker.TheVariants as breakers
use Rattle.cut_flows.specs.Flows.{flow_from, feed_of, pipe_of, read_flow, filter_flow, post_flow, project_flow, set_flow, sort_of, sorted_flow}
use Rattle.plan_cut.specs.Cut.{IsCut}
use Rattle.plan_cut.proofs.CutLaws.{rel_cut, read_cut, filter_cut, project_cut, fetch_cut, aggregate_cut, grouping_cut, sort_by_width, probed_cut, join_by_inputs, cross_by_inputs, next_at, set_cut, by_op, by_step, by_pipe}
use Rattle.plan_cut.proofs.plan.+cut.Goals as goal

pub cut_rel-returns : goal.cut_rel-returns
cut_rel-returns t c =
    subst (IsCut c.args.rel.now c.args.pipes.now c.cut_op.new.pipes) (sym c.in_ok-flow.ensures)
    (rel_cut c.args.rel.now c.args.pipes.now c.cut_op.new.pipes c.in_ok-direct.direct c.in_ok-direct.ensures)

pub cut_filter-returns : goal.cut_filter-returns
cut_filter-returns t c =
    let given = c.in_ok-flow.flow in
    by_step c.args.number (ops.Filter c.args.input.now c.args.condition.now) c.args.pipes.now c.cut_rel.new.pipes (filter_flow given c.args.number c.args.condition.now) c.in_ok-longer.longer c.in_ok-longer.ensures
    (filter_cut c.args.number c.args.input.now c.args.condition.now c.args.pipes.now c.cut_rel.new.pipes given c.in_ok-flow.ensures)

pub cut_project-returns : goal.cut_project-returns
cut_project-returns t c =
    let given = c.in_ok-flow.flow in
    by_step c.args.number (ops.Project c.args.input.now c.args.exprs.now) c.args.pipes.now c.cut_rel.new.pipes (project_flow given c.args.number c.args.exprs.now) c.in_ok-longer.longer c.in_ok-longer.ensures
    (project_cut c.args.number c.args.input.now c.args.exprs.now c.args.pipes.now c.cut_rel.new.pipes given c.in_ok-flow.ensures)

pub cut_fetch-returns : goal.cut_fetch-returns
cut_fetch-returns t c =
    let given = c.in_ok-flow.flow in
    let middle = c.cut_rel.new.pipes in
    by_pipe c.args.number (ops.Fetch c.args.input.now c.args.offset c.args.count) c.args.pipes.now middle c.through.new.self (pipe_of given (breakers.Fetch c.args.offset c.args.count)) (flow_from (feed_of (length middle))) c.in_ok-fetched.fetched
    c.in_ok-fetched.ensures.next c.in_ok-fetched.ensures.grown
    (fetch_cut c.args.number c.args.input.now c.args.offset c.args.count c.args.pipes.now middle given c.in_ok-flow.ensures)

pub cut_sort-returns : goal.cut_sort-returns
cut_sort-returns t c =
    let given = c.in_ok-flow.flow in
    let middle = c.cut_rel.new.pipes in
    by_pipe c.args.number (ops.Sort c.args.input.now c.args.keys.now) c.args.pipes.now middle c.sort_flow.new.pipes (sort_of given c.args.number c.len-width.result c.args.keys.now) (sorted_flow (length middle) c.len-width.result) c.in_ok-sorted.sorted
    c.in_ok-sorted.ensures.next c.in_ok-sorted.ensures.grown
    (sort_by_width c.args.number c.len-width.result c.args.input.now c.args.keys.now c.args.pipes.now middle given c.len-width.ensures c.in_ok-flow.ensures)

pub cut_aggregate-returns : goal.cut_aggregate-returns
cut_aggregate-returns t c =
    let given = c.in_ok-flow.flow in
    let middle = c.cut_rel.new.pipes in
    let spec = c.in_ok-spec.spec in
    let parts = c.in_ok-spec.ensures in
    by_pipe c.args.number (ops.Aggregate c.args.input.now c.args.groups.now c.args.measures.now) c.args.pipes.now middle c.through.new.self (pipe_of given (breakers.Aggregate spec)) (flow_from (feed_of (length middle))) c.in_ok-grouped.grouped
    c.in_ok-grouped.ensures.next c.in_ok-grouped.ensures.grown
    (aggregate_cut c.args.number c.args.input.now c.args.groups.now c.args.measures.now spec parts.relation parts.groups parts.measures c.args.pipes.now middle given c.in_ok-flow.ensures)

pub cut_groupings-returns : goal.cut_groupings-returns
cut_groupings-returns t c =
    let given = c.in_ok-flow.flow in
    let middle = c.cut_rel.new.pipes in
    let spec = c.in_ok-spec.spec in
    let parts = c.in_ok-spec.ensures in
    by_pipe c.args.number (ops.GroupSets c.args.input.now c.args.groups.now c.args.sets.now c.args.measures.now) c.args.pipes.now middle c.through.new.self (pipe_of given (breakers.GroupSets spec)) (flow_from (feed_of (length middle))) c.in_ok-grouped.grouped
    c.in_ok-grouped.ensures.next c.in_ok-grouped.ensures.grown
    (grouping_cut c.args.number c.args.input.now c.args.groups.now c.args.sets.now c.args.measures.now spec parts.relation parts.groups parts.sets parts.measures c.args.pipes.now middle given c.in_ok-flow.ensures)

pub cut_built-returns : goal.cut_built-returns
cut_built-returns t c = record {
  middle = c.cut_rel.new.pipes;
  rights = c.in_ok-rights.rights;
  cut = c.in_ok-rights.ensures;
  grown = c.in_ok-built.ensures.grown;
  at = c.in_ok-built.ensures.index;
}

pub cut_probed-returns : goal.cut_probed-returns
cut_probed-returns t c = record { lefts = c.in_ok-lefts.lefts; cut = c.in_ok-lefts.ensures; is = c.in_ok-joined.ensures }

pub cut_op-returns-in_ok-flow-in-Read : goal.cut_op-returns-in_ok-flow-in-Read
cut_op-returns-in_ok-flow-in-Read t c =
    let number = c.args.number in
    let pipes = c.args.pipes.now in
    let read = c.in-Read in
    let op = ops.Read read.source read.names read.types read.filter read.mask in
    let flow = c.in_ok-flow-in-Read.flow in
    by_op number c.args.op.now op pipes pipes flow read.is
    (by_step number op pipes pipes (read_flow number read.names read.types read.filter read.mask) flow c.in_ok-flow-in-Read.ensures (read_cut number read.source read.names read.types read.filter read.mask pipes))

pub cut_op-returns-in_ok-flow-in-Join : goal.cut_op-returns-in_ok-flow-in-Join
cut_op-returns-in_ok-flow-in-Join t c =
    let number = c.args.number in
    let before = c.args.pipes.now in
    let now = c.cut_probed.new.pipes in
    let join = c.in-Join in
    let left = c.get-left.result.now in
    let right = c.get-right.result.now in
    let spec = c.in_ok-spec-in-Join.spec in
    let op = ops.Join join.left join.right join.kind join.on join.post in
    let given = c.in_ok-joined-in-Join.joined in
    let flow = c.in_ok-flow-in-Join.flow in
    by_op number c.args.op.now op before now flow join.is
    (by_step number op before now (post_flow given number join.post) flow c.in_ok-flow-in-Join.ensures
    (join_by_inputs number join.left join.right left right join.kind join.on join.post spec before now given c.get-left.ensures c.get-right.ensures c.in_ok-spec-in-Join.ensures
    (probed_cut left right spec before c.cut_built.new.pipes now c.in_ok-built-in-Join.built given c.in_ok-built-in-Join.ensures c.in_ok-joined-in-Join.ensures)))

pub cut_op-returns-in_ok-flow-in-Cross : goal.cut_op-returns-in_ok-flow-in-Cross
cut_op-returns-in_ok-flow-in-Cross t c =
    let number = c.args.number in
    let before = c.args.pipes.now in
    let now = c.cut_probed-in-Cross.new.pipes in
    let cross = c.in-Cross in
    let left = c.get-left-in-Cross.result.now in
    let right = c.get-right-in-Cross.result.now in
    let spec = c.in_ok-spec-in-Cross.spec in
    let flow = c.in_ok-flow-in-Cross.flow in
    by_op number c.args.op.now (ops.Cross cross.left cross.right) before now flow cross.is
    (cross_by_inputs number cross.left cross.right left right spec before now flow c.get-left-in-Cross.ensures c.get-right-in-Cross.ensures c.in_ok-spec-in-Cross.ensures
    (probed_cut left right spec before c.cut_built-in-Cross.new.pipes now c.in_ok-built-in-Cross.built flow c.in_ok-built-in-Cross.ensures c.in_ok-flow-in-Cross.ensures))

pub cut_set-returns : goal.cut_set-returns
cut_set-returns t c =
    let number = c.args.number in
    let before = c.args.pipes.now in
    let now = c.cut_inputs.new.pipes in
    let inputs = c.args.inputs.now in
    let op = c.args.op in
    let places = c.in_ok-places.places in
    let types = c.in_ok-types.types in
    by_step number (ops.Set inputs op) before now (set_flow op places types) c.set_flow.result c.set_flow.ensures
    (set_cut number inputs op types before now places c.in_ok-types.ensures c.in_ok-places.ensures)

pub cut_inputs-loop-input-preserved : goal.cut_inputs-loop-input-preserved
cut_inputs-loop-input-preserved t c =
    let now = c.loop-input in
    next_at c.args.inputs.now now.input-index c.input-item.result c.args.pipes.now now.pipes c.cut_rel.new.pipes c.close.new.self now.places.items c.push.new.self.items c.in_ok-place.place c.in_ok-flow.flow
    c.loop-input-test.true c.input-item.is c.in_ok-place.ensures.index c.in_ok-place.ensures.grown c.in_ok-push.ensures.items now.invariant c.in_ok-flow.ensures
