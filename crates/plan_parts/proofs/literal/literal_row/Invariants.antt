use Rattle.std.proofs.Common.{◌≡◌, ◌++◌, length}
use Rattle.std.specs.List.{filter_map}
use Rattle.pb_wire.specs.Payloads.{fields_of}
use Rattle.plan_scan.specs.declared.shape.Shape.TheVariants as s
use Rattle.plan_parts.specs.Shapes.{children}
use Rattle.plan_parts.specs.Reader.{reader}
use Rattle.plan_parts.proofs.literal.literal_row.Given as goal

-- what is read and what is left make the whole list
abbrev pub invariant-loop-field : goal.invariant-loop-field
invariant-loop-field l = record {
  shape : l.left.shape ≡ s.Literal;
  above : l.left.above ≡ l.message.below;
  whole : l.fields.items ++ filter_map (λ bytes. reader l.message.below s.Literal (fields_of bytes)) l.left.blocks ≡ children (reader l.message.below) s.Literal 1 (fields_of l.message.bytes);
}

abbrev pub decreases-loop-field : goal.decreases-loop-field
decreases-loop-field l = length l.left.blocks
