use Rattle.plan_denote.specs.Denote.{maybe_condition}
use Rattle.virtual_pieces.proofs.PartLaws.{AreParts}
use Rattle.virtual_pieces.proofs.virtual_rows.read_virtual.Given as goal

-- the pieces so far
abbrev pub invariant-loop-part : goal.invariant-loop-part
invariant-loop-part l = AreParts l.number l.reading.relation l.reading.types.now (maybe_condition l.reading.filter.now) l.reading.mask.now l.rows l.columns l.part l.pieces.items
