-- The members of the oneofs of a plan's messages.
use Rattle.std.specs.Prelude.{ℕ, Bool, true, false, Option, Some, None, ◌&&◌, ◌||◌, not, ◌==◌}
use Rattle.pb_wire.specs.Records.{Content, Varint, Eight, Bytes, Four}
use Rattle.pb_wire.specs.Payloads.{Field}
use Rattle.plan_scan.specs.declared.shape.Shape.{Shape}
use Rattle.plan_scan.specs.declared.shape.Shape.TheVariants as shapes
use Rattle.plan_scan.specs.declared.shape.Use.{Use}
use Rattle.plan_scan.specs.declared.shape.Use.TheVariants as uses
use Rattle.plan_scan.specs.declared.oneof.OneOf.{OneOf}
use Rattle.plan_scan.specs.declared.oneof.OneOf.TheVariants.{PlanRelType, EmitKind, ReadType, PathType, OffsetMode, CountMode, RelType, ArgumentType, RexType, LiteralType, TypeKind, SubqueryType}
use Rattle.plan_scan.specs.Table.{use_of}

-- the message that has the oneof
abbrev pub owner : OneOf → Shape
owner PlanRelType = shapes.PlanRel
owner EmitKind = shapes.RelCommon
owner ReadType = shapes.ReadRel
owner PathType = shapes.FileItem
owner OffsetMode = shapes.FetchRel
owner CountMode = shapes.FetchRel
owner RelType = shapes.Rel
owner ArgumentType = shapes.FunctionArgument
owner RexType = shapes.Expression
owner LiteralType = shapes.Literal
owner TypeKind = shapes.DataType
owner SubqueryType = shapes.Subquery

-- which numbers are those of its members; where new members may come, every number is
abbrev pub has_number : OneOf → ℕ → Bool
has_number PlanRelType number = number == 1 || number == 2
has_number EmitKind number = number == 1 || number == 2
has_number ReadType number = number == 5 || number == 6 || number == 7
has_number PathType number = number == 1 || number == 3
has_number OffsetMode number = number == 3 || number == 5
has_number CountMode number = number == 4 || number == 6
has_number RelType number = true
has_number ArgumentType number = number == 1 || number == 2 || number == 3
has_number RexType number = true
has_number LiteralType number = not (number == 50 || number == 51)
has_number TypeKind number = true
has_number SubqueryType number = true

abbrev pub is_varint : Content → Bool
is_varint (Varint value) = true
is_varint (Eight value) = false
is_varint (Bytes bytes) = false
is_varint (Four value) = false

abbrev pub is_block : Content → Bool
is_block (Varint value) = false
is_block (Eight value) = false
is_block (Bytes bytes) = true
is_block (Four value) = false

-- the record has the wire type of its field; one that isn't named has none of its own
abbrev pub has_wire_type : Use → Content → Bool
has_wire_type uses.Unnamed content = true
has_wire_type uses.Number content = is_varint content
has_wire_type uses.Numbers content = is_varint content || is_block content
has_wire_type uses.Text content = is_block content
has_wire_type uses.Bytes content = is_block content
has_wire_type (uses.Message shape) content = is_block content

-- a record of a member: one of a named field with another wire type is skipped
abbrev pub is_member : OneOf → Field → Bool
is_member oneof field = has_number oneof field.number && has_wire_type (use_of (owner oneof) field.number) field.content

-- the last member so far has this number
abbrev pub is_last : Option ℕ → ℕ → Bool
is_last None number = false
is_last (Some last) number = last == number
