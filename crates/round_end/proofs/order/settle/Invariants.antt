use Rattle.std.proofs.Common.{◌≡◌, map}
use Rattle.std.specs.Option.{option_map}
use Rattle.std.specs.Vec.Iter.{into_iter_items}
use Rattle.round_end.specs.Decided.{decided, made_before}
use Rattle.round_end.proofs.order.settle.Given as goal

abbrev pub invariant-loop-out : goal.invariant-loop-out
invariant-loop-out g l = option_map (made_before l.made.items) (decided (map (λ out. out.value) (into_iter_items l.out-iterator))) ≡ decided (map (λ out. out.value) l.fn.outs.items)
