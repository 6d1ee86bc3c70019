use Rattle.std.proofs.Common.{◌≡◌, drop}
use Rattle.group_numbers.specs.Codes as spec
use Rattle.group_numbers.proofs.codes.with_bytes.Given as goal

-- the bytes that are left end in the code of all
abbrev pub invariant-loop-byte : goal.invariant-loop-byte
invariant-loop-byte l = spec.with_bytes l.code (drop l.byte-index l.bytes) ≡ spec.with_bytes l.fn.code l.fn.bytes
