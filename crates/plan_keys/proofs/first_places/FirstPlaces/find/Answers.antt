use Rattle.std.proofs.Common.{sym}
use Rattle.plan_keys.proofs.PlaceLaws.{no_place}
use Rattle.plan_keys.proofs.first_places.FirstPlaces.find.Goals as goal

pub returns-then-group : goal.returns-then-group
returns-then-group c = (sym (no_place c.args.groups.now c.args.group.now c.if-group.true), c.if-group.true)
