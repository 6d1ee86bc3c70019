use Rattle.std.proofs.Common.{◌≡◌, map, take}
use Rattle.std.specs.Prelude.{slice_get}
use Rattle.pipe_feeds.specs.Kept.{IsLeft, whole}
use Rattle.pipe_feeds.proofs.stores.take_each.Given as goal

-- what was taken so far, and what is left
abbrev pub invariant-loop-at : goal.invariant-loop-at
invariant-loop-at l = record {
  taken : map (λ at. slice_get l.initial.streams.items at) (take l.at-index l.pipes) ≡ map (λ input. whole input.items) l.inputs.items;
  left : IsLeft l.initial.streams.items l.streams.items;
}
