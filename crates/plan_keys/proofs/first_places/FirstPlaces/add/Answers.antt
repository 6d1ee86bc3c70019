use Rattle.std.proofs.Common.{sym, subst, take}
use Rattle.plan_keys.specs.Places.{KeepsAt}
use Rattle.plan_keys.proofs.PlaceLaws.{index-again, index-kept, taken-index, on_ok}
use Rattle.plan_keys.proofs.first_places.FirstPlaces.add.Goals as goal

pub returns-in-At-clause-ok : goal.returns-in-At-clause-ok
returns-in-At-clause-ok c =
    let before = take c.args.place c.args.groups.now in
    let group = c.index-groups-place.result in
    taken-index c.args.groups.now c.args.self.now c.args.place group c.requires.place (sym c.index-groups-place.is)
    (index-again before c.args.self.now group c.in-At.field-0 (rw c.in-At.is at c.in_ok-find.ensures) c.requires.index)

pub returns-in_ok-place_behind-in-New-clause-ok : goal.returns-in_ok-place_behind-in-New-clause-ok
returns-in_ok-place_behind-in-New-clause-ok c =
    let before = take c.args.place c.args.groups.now in
    let group = c.index-groups-place.result in
    let found = rw c.in-New.is at c.in_ok-find.ensures in
    on_ok c.keep.result
    (λ keeps. taken-index c.args.groups.now c.keep.new.self c.args.place group c.requires.place (sym c.index-groups-place.is)
    (index-kept before c.args.self.now c.keep.new.self group c.in-New.spot c.requires.index c.requires.slots found.0 found.1
    (subst (λ n. KeepsAt c.args.self.now c.keep.new.self n c.in-New.spot) c.in_ok-place_behind-in-New.ensures keeps)))
    c.keep.ensures.ok
