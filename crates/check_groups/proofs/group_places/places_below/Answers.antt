use Rattle.std.proofs.Common.{◌∙◌, [], ◌∷◌, ◌++◌, sym, ap}
use Rattle.plan_rules.proofs.ListLaws.{range_with_len-more}
use Rattle.check_groups.proofs.group_places.places_below.Goals as goal

pub loop-place-preserved : goal.loop-place-preserved
loop-place-preserved c =
    c.in_ok-push.ensures.ok ∙ ap (λ places. places ++ c.loop-place.place ∷ []) c.loop-place.invariant ∙ sym (range_with_len-more c.loop-place.place)
