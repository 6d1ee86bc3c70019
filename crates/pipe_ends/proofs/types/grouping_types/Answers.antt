use Rattle.std.proofs.Common.{Vec, Global, ◌∙◌, ℕ, map, ap}
use Rattle.pipe_ends.proofs.TypeLaws.{types_are}
use Rattle.pipe_ends.proofs.types.grouping_types.Goals as goal

pub returns : goal.returns
returns c =
    types_are c.args.spec.now c.deref-2.result.now c.deref-3.result.now c.deref-4.result.now c.in_ok-given.given.items c.deref-2.ensures.value
    (c.deref-3.ensures.value ∙ c.in_ok-sets.ensures ∙ ap (map (λ (set : Vec ℕ Global). set.items)) c.deref.ensures.value) c.deref-4.ensures.value c.in_ok-given.ensures
