use Rattle.std.proofs.Common.{◌≡◌, ◌∙◌, ◌+◌, ◌*◌, ◌/◌, length, min, arith}
use Rattle.plan_denote.specs.Denote.{maybe_condition}
use Rattle.virtual_pieces.proofs.PartLaws.{parts_begin, parts_next, parts_end, rows_between}
use Rattle.virtual_pieces.proofs.virtual_rows.read_virtual.Goals as goal

pub loop-part-init : goal.loop-part-init
loop-part-init c =
    let r = c.args.reading in
    parts_begin c.args.number r.relation r.types.now (maybe_condition r.filter.now) r.mask.now c.args.rows.now c.args.columns.now c.new-pieces.result.items c.new-pieces.ensures.items

pub read_part-requires-clause-source : goal.read_part-requires-clause-source
read_part-requires-clause-source c = rows_between c.args.reading.types.now (c.loop-part.part * 1024) c.min-to.result c.args.rows.now c.requires.source

pub loop-part-preserved : goal.loop-part-preserved
loop-part-preserved c =
    let r = c.args.reading in
    let rows = c.args.rows.now in
    let part = c.loop-part.part in
    let cut : c.min-to.result ≡ min (length rows) (part * 1024 + 1024) = omega (arith, c.min-to.ensures) in
    parts_next c.args.number r.relation r.types.now (maybe_condition r.filter.now) r.mask.now rows c.args.columns.now part c.min-to.result c.loop-part.pieces.items c.push.new.self.items c.in_ok-piece.piece cut c.in_ok-push.ensures.items
    c.loop-part.invariant c.in_ok-piece.ensures.rows c.in_ok-piece.ensures.held

pub returns-clause-rows : goal.returns-clause-rows
returns-clause-rows c =
    let r = c.args.reading in
    let done : c.loop-part.part ≡ (length c.args.rows.now + 1023) / 1024 = omega arith in
    parts_end c.args.number r.relation r.types.now (maybe_condition r.filter.now) r.mask.now c.args.rows.now c.args.columns.now c.loop-part.part c.loop-part.pieces.items done c.loop-part.invariant

pub returns-clause-held : goal.returns-clause-held
returns-clause-held c = c.loop-part.invariant.held

pub returns-clause-count : goal.returns-clause-count
returns-clause-count c =
    let done : c.loop-part.part ≡ (length c.args.rows.now + 1023) / 1024 = omega arith in
    c.loop-part.pieces.ok.0 ∙ c.loop-part.invariant.count ∙ done
