use Rattle.std.proofs.Common.{◌≡◌, ◌++◌, length, map}
use Rattle.pb_wire.specs.Payloads.{fields_of}
use Rattle.plan_parts.specs.Words.{parts}
use Rattle.plan_parts.specs.Parts.{option_of}
use Rattle.plan_parts.proofs.options.options_at.Given as goal

-- what is read and what is left make the whole list
abbrev pub invariant-loop-option : goal.invariant-loop-option
invariant-loop-option l = l.options.items ++ map (λ bytes. option_of (fields_of bytes)) l.left.blocks ≡ parts option_of l.number (fields_of l.message.bytes)

abbrev pub decreases-loop-option : goal.decreases-loop-option
decreases-loop-option l = length l.left.blocks
