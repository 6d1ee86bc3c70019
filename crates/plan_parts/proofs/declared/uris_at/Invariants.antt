use Rattle.std.proofs.Common.{◌≡◌, ◌++◌, length, map}
use Rattle.pb_wire.specs.Payloads.{fields_of}
use Rattle.plan_parts.specs.Words.{parts}
use Rattle.plan_parts.specs.Parts.{uri_of}
use Rattle.plan_parts.proofs.declared.uris_at.Given as goal

-- what is read and what is left make the whole list
abbrev pub invariant-loop-uri : goal.invariant-loop-uri
invariant-loop-uri l = l.uris.items ++ map (λ bytes. uri_of (fields_of bytes)) l.left.blocks ≡ parts uri_of l.number (fields_of l.message.bytes)

abbrev pub decreases-loop-uri : goal.decreases-loop-uri
decreases-loop-uri l = length l.left.blocks
