use Rattle.std.proofs.Common.{◌∙◌, ap, false, get_or}
use Rattle.std.specs.List.{list_all, range_with_len}
use Rattle.std.proofs.lemmas.List.{take_all}
use Rattle.plan_verdict.specs.Aggregates.{is_referred_to}
use Rattle.plan_rules.proofs.MarkLaws.{list_all-below}
use Rattle.plan_rules.proofs.places.is_each_referred_to.Goals as goal

pub returns : goal.returns
returns c =
    c.are_all_set.ensures
    ∙ ap (λ n. list_all (λ k. get_or c.loop-set.referred k false) (range_with_len 0 n)) c.loop-set.invariant.len
    ∙ list_all-below (λ k. get_or c.loop-set.referred k false) (is_referred_to c.args.sets.now) c.args.count
    (λ k below. c.loop-set.invariant.marked k below ∙ ap (λ sets. is_referred_to sets k) (take_all c.loop-set.set-index c.args.sets.now c.loop-set-test.false))
