use Rattle.std.proofs.Common.{arith}
use Rattle.std.proofs.lemmas.Option.{slice_get_within}
use Rattle.block_work.proofs.pieces.bad_piece.Goals as goal

pub bounds-steps-place : goal.bounds-steps-place
bounds-steps-place c =
    let steps = c.args.steps.now in
    omega (arith, slice_get_within steps.table.now.files.items c.args.place.file c.requires.place.one c.requires.place.is, steps.count, steps.table.now.files.ok.0)
