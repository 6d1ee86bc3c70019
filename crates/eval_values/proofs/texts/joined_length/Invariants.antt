use Rattle.std.proofs.Common.{◌≡◌, ◌≤◌, length, map, take}
use Rattle.std.specs.List.{concat}
use Rattle.plan_denote.specs.Order.{bytes_in}
use Rattle.eval_values.proofs.texts.joined_length.Given as goal

abbrev pub invariant-loop-text : goal.invariant-loop-text
invariant-loop-text l = (l.length ≡ length (concat (map bytes_in (take l.text-index l.texts)))) × (l.length ≤ 1048576)
