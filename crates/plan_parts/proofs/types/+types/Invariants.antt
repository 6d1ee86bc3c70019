use Rattle.std.proofs.Common.{◌≡◌, ◌+◌, ◌*◌, ◌++◌, length}
use Rattle.std.specs.List.{filter_map}
use Rattle.pb_wire.specs.Payloads.{fields_of}
use Rattle.plan_scan.specs.declared.shape.Shape.TheVariants as s
use Rattle.plan_parts.specs.Shapes.{children}
use Rattle.plan_parts.specs.Reader.{reader}
use Rattle.plan_parts.proofs.types.+types.Given as goal

-- what is read and what is left make the whole list
abbrev pub invariant-struct_type-loop-ty : goal.invariant-struct_type-loop-ty
invariant-struct_type-loop-ty l = record {
  shape : l.left.shape ≡ s.DataType;
  above : l.left.above ≡ l.message.below;
  whole : l.types.items ++ filter_map (λ bytes. reader l.message.below s.DataType (fields_of bytes)) l.left.blocks ≡ children (reader l.message.below) s.DataType 1 (fields_of l.message.bytes);
}

abbrev pub decreases-struct_type-loop-ty : goal.decreases-struct_type-loop-ty
decreases-struct_type-loop-ty l = length l.left.blocks

-- the levels below, and within a message the type before its member
abbrev pub decreases-data_type : goal.decreases-data_type
decreases-data_type l = 3 * l.message.now.below + 2

abbrev pub decreases-member : goal.decreases-member
decreases-member l = 3 * l.won.now.below + 1

abbrev pub decreases-struct_type : goal.decreases-struct_type
decreases-struct_type l = 3 * l.message.now.below
