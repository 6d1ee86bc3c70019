use Rattle.std.proofs.Common.{◌≡◌, map, take}
use Rattle.std.specs.List.{concat}
use Rattle.plan_denote.specs.Order.{bytes_in}
use Rattle.eval_values.proofs.texts.joined.Given as goal

abbrev pub invariant-loop-text : goal.invariant-loop-text
invariant-loop-text l = l.bytes.items ≡ concat (map bytes_in (take l.text-index l.texts))
