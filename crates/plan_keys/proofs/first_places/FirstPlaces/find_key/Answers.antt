use Rattle.std.proofs.Common.{◌≡◌, ◌∙◌, sym, ap, Some, None, is_some, position}
use Rattle.plan_keys.specs.Places.{first_at, has_key, later_at, slot_count, slot_in}
use Rattle.plan_keys.proofs.PlaceLaws.{place-of, none_there, found_first, found_later}
use Rattle.plan_keys.proofs.first_places.FirstPlaces.find_key.Goals as goal

pub returns-in_default : goal.returns-in_default
returns-in_default c =
    let groups = c.args.groups.now in
    let places = c.args.self.now in
    let group = c.args.group.now in
    let key = c.args.key.items in
    let slot : slot_in (slot_count places) key ≡ c.slot_of-slot.result = sym (c.slot_of-slot.ensures.value ∙ ap (slot_in (slot_count places)) c.deref.ensures.value) in
    let empty : first_at places c.slot_of-slot.result ≡ None = sym c.first_at.ensures ∙ c.in_default.is in (
      sym (place-of groups group c.requires.alone) ∙ ap (λ k. position (has_key k) groups) (sym c.requires.key)
          ∙ sym (none_there groups places group.expr key c.requires.index c.requires.key (ap (first_at places) slot ∙ empty)),
      (c.requires.alone, sym slot ∙ ap (slot_in (slot_count places)) c.requires.key, empty),
    )

pub returns-then-is_same : goal.returns-then-is_same
returns-then-is_same c =
    let groups = c.args.groups.now in
    let places = c.args.self.now in
    let group = c.args.group.now in
    let key = c.args.key.items in
    let slot : slot_in (slot_count places) key ≡ c.slot_of-slot.result = sym (c.slot_of-slot.ensures.value ∙ ap (slot_in (slot_count places)) c.deref.ensures.value) in
    sym (place-of groups group c.requires.alone) ∙ ap (λ k. position (has_key k) groups) (sym c.requires.key)
    ∙ sym (found_first groups places group.expr key c.requires.index c.requires.key c.in-Some.first c.index-groups-first.result
    (ap (first_at places) slot ∙ sym c.first_at.ensures ∙ c.in-Some.is) (sym c.is_same.ensures ∙ c.if-is_same.true))

pub returns-in-Some-get : goal.returns-in-Some-get
returns-in-Some-get c =
    let groups = c.args.groups.now in
    let places = c.args.self.now in
    let group = c.args.group.now in
    let key = c.args.key.items in
    let slot : slot_in (slot_count places) key ≡ c.slot_of-slot.result = sym (c.slot_of-slot.ensures.value ∙ ap (slot_in (slot_count places)) c.deref.ensures.value) in
    sym (place-of groups group c.requires.alone) ∙ ap (λ k. position (has_key k) groups) (sym c.requires.key)
    ∙ sym (found_later groups places group.expr key c.requires.index c.requires.key c.in-Some.first c.index-groups-first.result
    (ap (first_at places) slot ∙ sym c.first_at.ensures ∙ c.in-Some.is) (sym c.is_same.ensures ∙ c.if-is_same.false))
    ∙ ap (later_at places) (sym c.as_slice.ensures.value) ∙ sym c.in-Some-get.ensures.value

pub returns-in-None : goal.returns-in-None
returns-in-None c =
    let groups = c.args.groups.now in
    let places = c.args.self.now in
    let group = c.args.group.now in
    let key = c.args.key.items in
    let slot : slot_in (slot_count places) key ≡ c.slot_of-slot.result = sym (c.slot_of-slot.ensures.value ∙ ap (slot_in (slot_count places)) c.deref.ensures.value) in
    let first : first_at places (slot_in (slot_count places) key) ≡ Some c.in-Some.first = ap (first_at places) slot ∙ sym c.first_at.ensures ∙ c.in-Some.is in (
      sym (place-of groups group c.requires.alone) ∙ ap (λ k. position (has_key k) groups) (sym c.requires.key)
          ∙ sym (found_later groups places group.expr key c.requires.index c.requires.key c.in-Some.first c.index-groups-first.result first (sym c.is_same.ensures ∙ c.if-is_same.false))
          ∙ ap (later_at places) (sym c.as_slice.ensures.value) ∙ sym c.in-None.ensures.value,
      (c.requires.alone, c.requires.key, ap (λ k. is_some (first_at places (slot_in (slot_count places) k))) (sym c.requires.key) ∙ ap is_some first),
    )
