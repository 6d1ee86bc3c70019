use Rattle.std.proofs.Common.{◌≡◌, ◌∙◌, sym, ap, subst, ◌++◌, ◌∷◌, [], length}
use Rattle.plan_rules.proofs.HeldLaws.{if_found, if_no_error}
use Rattle.plan_keys.specs.Places.{IsIndex, KeepsAt}
use Rattle.plan_keys.proofs.PlaceLaws.{index-kept}
use Rattle.plan_keys.proofs.first_places.FirstPlaces.push.Goals as goal

pub returns-clause-index : goal.returns-clause-index
returns-clause-index c =
    let groups = c.args.groups.now in
    let after = c.keep.new.self in
    let place : c.in_ok-group.place ≡ length groups = if_found (λ place. place ≡ length c.as_slice.result.now) c.place_behind.result _ c.in_ok-group.ensures.found c.place_behind.ensures ∙ ap length c.as_slice.ensures in
    let keeps = if_no_error c.keep.result (sym c.is_err.ensures.value ∙ c.if-is_err.false) c.keep.ensures.ok in
    subst (λ all. IsIndex all after) (sym (c.in_ok-push.ensures.ok ∙ ap (λ one. groups ++ one ∷ []) c.in_ok-group.ensures.value))
    (index-kept groups c.args.self.now after c.args.group c.args.spot c.requires.index c.requires.slots c.requires.new c.requires.spot
    (subst (λ n. KeepsAt c.args.self.now after n c.args.spot) place keeps))
