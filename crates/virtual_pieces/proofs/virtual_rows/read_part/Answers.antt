use Rattle.row_steps.specs.Seen.{seen}
use Rattle.batch.specs.BatchRows.{stream_of_piece}
use Rattle.virtual_pieces.proofs.ReadLaws.{read_as, read_held, read_kinds}
use Rattle.virtual_pieces.proofs.virtual_rows.read_part.Goals as goal

pub piece_of-requires-clause-kinds : goal.piece_of-requires-clause-kinds
piece_of-requires-clause-kinds c = read_kinds c.args.reading.types.now c.args.reading.mask.now c.args.columns.now c.requires.columns c.requires.kinds

pub piece_of-requires-clause-fit : goal.piece_of-requires-clause-fit
piece_of-requires-clause-fit c =
    let r = c.args.reading in
    read_held c.args.number r.relation r.types.now r.filter.now r.mask.now c.args.rows.now c.args.columns.now (seen c.in_ok-given.given) (seen c.in_ok-read.read) c.in_ok-given.ensures c.in_ok-read.ensures c.requires.columns c.requires.mask c.requires.source

pub returns-clause-rows : goal.returns-clause-rows
returns-clause-rows c =
    let r = c.args.reading in
    read_as c.args.number r.relation r.types.now r.filter.now r.mask.now c.args.rows.now (stream_of_piece c.in_ok-piece.piece) (seen c.in_ok-given.given) (seen c.in_ok-read.read) c.in_ok-piece.ensures.rows c.in_ok-read.ensures c.in_ok-given.ensures
