use Rattle.std.proofs.Common.{◌≡◌, take}
use Rattle.std.specs.List.{fold}
use Rattle.plan_keys.specs.Digests.{with_number}
use Rattle.plan_keys.proofs.digests.digest_of.Given as goal

-- the first so many numbers are in the digest
abbrev pub invariant-loop-number : goal.invariant-loop-number
invariant-loop-number l = l.digest ≡ fold with_number 0 (take l.number-index l.key)
