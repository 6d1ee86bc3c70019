use Rattle.std.proofs.Common.{◌≡◌, ◌++◌, length}
use Rattle.std.specs.List.{filter_map}
use Rattle.pb_wire.specs.Payloads.{fields_of}
use Rattle.plan_scan.specs.declared.shape.Shape.TheVariants.{ExtensionDeclaration}
use Rattle.plan_parts.specs.Words.{part}
use Rattle.plan_parts.specs.Parts.{function_of, functions_of}
use Rattle.plan_parts.proofs.declared.functions_at.Given as goal

-- what is read and what is left make the whole list
abbrev pub invariant-loop-declaration : goal.invariant-loop-declaration
invariant-loop-declaration l = record {
  shape : l.left.shape ≡ ExtensionDeclaration;
  whole : l.functions.items ++ filter_map (λ bytes. part function_of 3 (fields_of bytes)) l.left.blocks ≡ functions_of l.number (fields_of l.message.bytes);
}

abbrev pub decreases-loop-declaration : goal.decreases-loop-declaration
decreases-loop-declaration l = length l.left.blocks
