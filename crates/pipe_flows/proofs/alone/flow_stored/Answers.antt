use Rattle.std.proofs.Common.{◌≡◌, ◌∙◌, [], slice_index_or, subst}
use Rattle.sub_types.specs.Stream.{Stream, rows_alone}
use Rattle.plan_denote.specs.Rows.{Row}
use Rattle.plan_pipes.specs.Run.{through}
use Rattle.plan_pipes.specs.RowMeaning.{row_steps}
use Rattle.pipe_steps.specs.Tables.{tables_seen}
use Rattle.read_rounds.specs.Given.{ArePartsOf}
use Rattle.set_rels.specs.Inputs.{stream_of}
use Rattle.pipe_flows.proofs.FlowLaws.{breaker_as, over_as, rows_as, types_as}
use Rattle.pipe_flows.proofs.alone.flow_stored.Goals as goal

pub pass_fed-requires-clause-over : goal.pass_fed-requires-clause-over
pass_fed-requires-clause-over g c κs within =
    let tables : c.deref.result.now ≡ c.args.stores.now.tables.items = c.deref.ensures.value ∙ c.in_ok-fed.ensures.tables in
    over_as c.args.steps.now c.deref.result.now c.args.stores.now.tables.items c.in_ok-fed.fed.types.items (slice_index_or c.args.stores.now.types.items c.args.at []) tables c.in_ok-fed.ensures.stored c.requires.over

pub pass_fed-requires-clause-breaker : goal.pass_fed-requires-clause-breaker
pass_fed-requires-clause-breaker g c κs within =
    let tables : c.deref.result.now ≡ c.args.stores.now.tables.items = c.deref.ensures.value ∙ c.in_ok-fed.ensures.tables in
    breaker_as c.args.steps.now c.deref.result.now c.args.stores.now.tables.items c.in_ok-fed.fed.types.items (slice_index_or c.args.stores.now.types.items c.args.at []) tables c.args.breaker.now c.in_ok-fed.ensures.stored c.requires.breaker

pub returns-clause-stored : goal.returns-clause-stored
returns-clause-stored g c =
    let tables : c.deref.result.now ≡ c.args.stores.now.tables.items = c.deref.ensures.value ∙ c.in_ok-fed.ensures.tables in
    c.in_ok-given.ensures.stored ∙ types_as c.args.steps.now c.deref.result.now c.args.stores.now.tables.items c.in_ok-fed.fed.types.items (slice_index_or c.args.stores.now.types.items c.args.at []) tables c.in_ok-fed.ensures.stored

pub returns-clause-parts : goal.returns-clause-parts
returns-clause-parts g c = (through row_steps (tables_seen c.deref.result.now) c.args.steps.now (stream_of c.in_ok-fed.fed.pieces.items), c.in_ok-given.ensures.parts)

pub returns-clause-rows : goal.returns-clause-rows
returns-clause-rows g c = λ streams are.
    let tables : c.deref.result.now ≡ c.args.stores.now.tables.items = c.deref.ensures.value ∙ c.in_ok-fed.ensures.tables in
    let given = c.in_ok-given.given in
    subst (λ (rows : Stream Row). ArePartsOf c.args.breaker.now given.types.items rows given.parts.items)
    (rows_as c.args.steps.now c.deref.result.now c.args.stores.now.tables.items c.in_ok-fed.fed.types.items (slice_index_or c.args.stores.now.types.items c.args.at []) tables (stream_of c.in_ok-fed.fed.pieces.items) (slice_index_or streams c.args.at (rows_alone [])) (c.in_ok-fed.ensures.rows streams are))
    c.in_ok-given.ensures.parts
