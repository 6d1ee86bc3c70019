use Rattle.std.proofs.Common.{◌≡◌, ◌++◌, length}
use Rattle.std.specs.List.{filter_map}
use Rattle.pb_wire.specs.Payloads.{fields_of}
use Rattle.plan_scan.specs.declared.shape.Shape.TheVariants as s
use Rattle.plan_parts.specs.Shapes.{children}
use Rattle.plan_parts.specs.Reader.{reader}
use Rattle.plan_rels.proofs.aggregate.sort_fields_at.Given as goal

-- what is read and what is left make the whole list
abbrev pub invariant-loop-found : goal.invariant-loop-found
invariant-loop-found g l = record {
  shape : l.left.shape ≡ s.SortField;
  above : l.left.above ≡ l.message.below;
  whole : l.sorts.items ++ filter_map (λ bytes. reader l.message.below s.SortField (fields_of bytes)) l.left.blocks ≡ children (reader l.message.below) s.SortField l.number (fields_of l.message.bytes);
}

abbrev pub decreases-loop-found : goal.decreases-loop-found
decreases-loop-found g l = length l.left.blocks
