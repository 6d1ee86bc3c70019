use Rattle.std.proofs.Common.{All, sym, subst}
use Rattle.std.proofs.lemmas.List.Elements.{All-push}
use Rattle.well_typed.specs.WellTyped.{IsConditionOver}
use Rattle.hash_join_tests.specs.Typed.{sides}
use Rattle.hash_join_tests.proofs.rests.both.Goals as goal

pub returns : goal.returns
returns c =
    subst (All (IsConditionOver sides)) (sym c.in_ok-push.ensures.items)
    (All-push (IsConditionOver sides) c.in_ok-parts.parts.items c.args.second c.in_ok-parts.ensures c.requires.second)
