use Rattle.std.proofs.Common.{◌≡◌, ◌+◌, take}
use Rattle.std.specs.List.{join_with_byte}
use Rattle.plan_rules.proofs.sources.joined.Given as goal

-- the names so far
abbrev pub invariant-loop-name : goal.invariant-loop-name
invariant-loop-name l = l.bytes.items ≡ join_with_byte 46 (take (l.name-index + 1) l.names)
