use Rattle.std.proofs.Common.{◌≡◌, ◌++◌, length}
use Rattle.std.specs.List.{filter_map}
use Rattle.pb_wire.specs.Payloads.{fields_of}
use Rattle.plan_scan.specs.declared.shape.Shape.TheVariants as s
use Rattle.plan_parts.specs.Shapes.{children}
use Rattle.plan_parts.specs.Reader.{reader}
use Rattle.plan_parts.proofs.literal.literal_rows_at.Given as goal

-- what is read and what is left make the whole list
abbrev pub invariant-loop-row : goal.invariant-loop-row
invariant-loop-row l = record {
  shape : l.left.shape ≡ s.LiteralRow;
  above : l.left.above ≡ l.message.below;
  whole : l.rows.items ++ filter_map (λ bytes. reader l.message.below s.LiteralRow (fields_of bytes)) l.left.blocks ≡ children (reader l.message.below) s.LiteralRow l.number (fields_of l.message.bytes);
}

abbrev pub decreases-loop-row : goal.decreases-loop-row
decreases-loop-row l = length l.left.blocks
