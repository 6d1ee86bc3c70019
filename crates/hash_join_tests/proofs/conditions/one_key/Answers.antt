use Rattle.std.proofs.Common.{◌∙◌, [], ◌∷◌, ◌++◌, ap, sym, subst}
use Rattle.std.specs.List.{AllByRecursion}
use Rattle.plan_pipes.specs.TypeMeaning.{IsKeyOver}
use Rattle.hash_join_tests.specs.Typed.{numbers}
use Rattle.hash_join_tests.proofs.SpecLaws.{key_fits}
use Rattle.hash_join_tests.proofs.conditions.one_key.Goals as goal

pub returns : goal.returns
returns c =
    subst (λ keys. AllByRecursion (IsKeyOver numbers numbers) keys) (sym (c.in_ok-push.ensures.items ∙ ap (λ keys. keys ++ (0, 0) ∷ []) c.new-keys.ensures.items)) (key_fits, tt)
