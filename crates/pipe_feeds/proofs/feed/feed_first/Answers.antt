use Rattle.std.proofs.Common.{◌∙◌, map}
use Rattle.plan_denote.specs.Eval.{eval}
use Rattle.plan_denote.specs.Read.{virtual_rows}
use Rattle.pipe_steps.specs.Tables.{joins_of}
use Rattle.pipe_feeds.proofs.FirstLaws.{has_passed, held_input, source_as}
use Rattle.pipe_feeds.proofs.feed.feed_first.Goals as goal

pub read_virtual-requires-clause-kinds : goal.read_virtual-requires-clause-kinds
read_virtual-requires-clause-kinds c = c.requires.first.kinds

pub read_virtual-requires-clause-mask : goal.read_virtual-requires-clause-mask
read_virtual-requires-clause-mask c = c.requires.first.below

pub read_virtual-requires-clause-source : goal.read_virtual-requires-clause-source
read_virtual-requires-clause-source c = source_as c.args.given.now c.args.reading.types.now c.args.rows.now c.requires.first.same c.requires.source

pub read_virtual-requires-clause-columns : goal.read_virtual-requires-clause-columns
read_virtual-requires-clause-columns c = c.deref.ensures.value ∙ c.in_ok-columns.ensures ∙ c.requires.first.stored

pub returns-clause-passed : goal.returns-clause-passed
returns-clause-passed c =
    let r = c.args.reading in
    let columns = c.in_ok-columns.columns in
    let pieces = c.in_ok-pieces.pieces in
    has_passed (joins_of c.args.built.now) c.args.given.now r.types.now r.relation r.filter.now r.mask.now c.args.steps.now (virtual_rows c.args.relation (map (map eval) c.args.rows.now)) (record { pieces = pieces; types = columns }) c.requires.first
    c.in_ok-columns.ensures (held_input columns.items c.deref.result.now pieces.items c.deref.ensures.value c.in_ok-pieces.ensures.held) c.in_ok-pieces.ensures.rows
