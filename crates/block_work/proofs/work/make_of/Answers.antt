use Rattle.std.proofs.Common.{sym}
use Rattle.block_source.proofs.InPlaces.{place_is_in}
use Rattle.block_work.proofs.work.make_of.Goals as goal

pub whole_piece-requires : goal.whole_piece-requires
whole_piece-requires c = record { place = place_is_in c.args.steps.now.table.now.files.items c.args.number c.in-Some.place (sym c.in-Some.ensures) }

pub bad_piece-requires : goal.bad_piece-requires
bad_piece-requires c = record { place = place_is_in c.args.steps.now.table.now.files.items c.args.number c.in-Some.place (sym c.in-Some.ensures) }
