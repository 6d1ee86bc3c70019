use Rattle.std.proofs.Common.{◌∙◌, [], ◌∷◌, ◌++◌, ap, sym, subst}
use Rattle.std.specs.List.{AllByRecursion}
use Rattle.plan_pipes.specs.TypeMeaning.{IsKeyOver}
use Rattle.pipe_round_tests.proofs.SpecLaws.{number, key_fits}
use Rattle.pipe_round_tests.proofs.joins.one_key.Goals as goal

pub returns : goal.returns
returns c =
    subst (λ keys. AllByRecursion (IsKeyOver (number ∷ number ∷ []) (number ∷ number ∷ [])) keys) (sym (c.in_ok-push.ensures.items ∙ ap (λ keys. keys ++ (0, 0) ∷ []) c.new-keys.ensures.items)) (key_fits, tt)
