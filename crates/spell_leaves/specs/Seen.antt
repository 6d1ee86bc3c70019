-- What stands in a plan's tree, as the tables of written messages see it.
use Rattle.std.specs.Prelude.{ℕ, List, [], ◌∷◌, map, if◌then◌else◌}
use Rattle.std.specs.List.{flat_map}
use Rattle.std.specs.Option.{option_to_list}
use Rattle.pb_wire.specs.Records.{Varint, Bytes}
use Rattle.pb_write.specs.Write.{record_bytes}
use Rattle.plan_scan.specs.declared.shape.Shape.{Shape}
use Rattle.plan_scan.specs.declared.shape.Shape.TheVariants as s
use Rattle.plan_spell.specs.Nodes.{Node}
use Rattle.plan_spell.specs.Held.{Int32s, Int64s, Truths, PackedUint32s, PackedInt32s, Messages, Part, uint32, int32, truth, block, blocks, presence}
use Rattle.spell_leaves.specs.declared.part.MessagesRef.{MessagesRef}
use Rattle.spell_leaves.specs.declared.part.MessagesRef.TheVariants as m
use Rattle.spell_leaves.specs.declared.part.HeldRef.{HeldRef}
use Rattle.spell_leaves.specs.declared.part.HeldRef.TheVariants as h
use Rattle.spell_leaves.specs.declared.part.PartRef.{PartRef}

-- messages of a shape
pub record Group : Type 0 where
  pub shape : Shape
  pub nodes : List (Node shape)

-- the messages of a field
abbrev pub messages_seen : MessagesRef → Group
messages_seen (m.ExtensionUri uris) = record { shape = s.ExtensionUri; nodes = uris.now }
messages_seen (m.ExtensionDeclaration functions) = record { shape = s.ExtensionDeclaration; nodes = functions.now }
messages_seen (m.ExtensionFunction function) = record { shape = s.ExtensionFunction; nodes = function.now ∷ [] }
messages_seen (m.RelCommon commons) = record { shape = s.RelCommon; nodes = commons.now }
messages_seen (m.Emit mapping) = record { shape = s.Emit; nodes = mapping.now ∷ [] }
messages_seen (m.NamedStruct schemas) = record { shape = s.NamedStruct; nodes = schemas.now }
messages_seen (m.StructType structs) = record { shape = s.StructType; nodes = structs.now }
messages_seen (m.TypeStruct types) = record { shape = s.StructType; nodes = record { types = types.now } ∷ [] }
messages_seen (m.NamedTable tables) = record { shape = s.NamedTable; nodes = tables.now }
messages_seen (m.LiteralRow rows) = record { shape = s.LiteralRow; nodes = rows.now }
messages_seen (m.LocalFiles files) = record { shape = s.LocalFiles; nodes = files.now }
messages_seen (m.FileItem items) = record { shape = s.FileItem; nodes = items.now }
messages_seen (m.MaskExpression masks) = record { shape = s.MaskExpression; nodes = masks.now }
messages_seen (m.StructSelect selects) = record { shape = s.StructSelect; nodes = selects.now }
messages_seen (m.StructItem items) = record { shape = s.StructItem; nodes = items.now }
messages_seen (m.FunctionOption options) = record { shape = s.FunctionOption; nodes = options.now }
messages_seen (m.ReferenceSegment segments) = record { shape = s.ReferenceSegment; nodes = segments.now }
messages_seen (m.StructField fields) = record { shape = s.StructField; nodes = fields.now }
messages_seen (m.Literal literals) = record { shape = s.Literal; nodes = literals.now }
messages_seen (m.DecimalLiteral literal) = record { shape = s.DecimalLiteral; nodes = literal.now ∷ [] }
messages_seen (m.DataType types) = record { shape = s.DataType; nodes = types.now }
messages_seen (m.PlainType nullability) = record { shape = s.PlainType; nodes = nullability ∷ [] }
messages_seen (m.DecimalType ty) = record { shape = s.DecimalType; nodes = ty.now ∷ [] }

-- a field
abbrev pub held_seen : ℕ → HeldRef → Part
held_seen number (h.Uint32 value) = uint32 number value
held_seen number (h.Int32 value) = int32 number value.now
held_seen number (h.Truth value) = truth number value
held_seen number (h.Block bytes) = block number bytes.now
held_seen number (h.Int32Member value) = record { number = number; held = Int32s (value.now ∷ []) }
held_seen number (h.Int64Member value) = record { number = number; held = Int64s (option_to_list value) }
held_seen number (h.TruthMember value) = record { number = number; held = Truths (value ∷ []) }
held_seen number (h.BlockMember bytes) = blocks number (bytes.now ∷ [])
held_seen number (h.EmptyBlock is_there) = blocks number (if is_there then [] ∷ [] else [])
held_seen number (h.PackedUint32s numbers) = record { number = number; held = PackedUint32s numbers.now }
held_seen number (h.PackedInt32s numbers) = record { number = number; held = PackedInt32s numbers.now }
held_seen number (h.Blocks values) = blocks number values.now
held_seen number (h.Presence is_there) = presence number is_there
held_seen number (h.Messages messages) = record { number = number; held = Messages (messages_seen messages).shape (messages_seen messages).nodes }

abbrev pub part_seen : PartRef → Part
part_seen part = held_seen part.number part.held

-- the fields of a message
abbrev pub parts_seen : List PartRef → List Part
parts_seen parts = map part_seen parts

-- the bytes of the records of a field that holds numbers
unfoldable pub varint_records : ℕ → List ℕ → List ℕ
varint_records number values = flat_map (λ value. record_bytes (record { number = number; content = Varint value })) values

-- the bytes of the records of a field that holds blocks
unfoldable pub block_records : ℕ → List (List ℕ) → List ℕ
block_records number blocks = flat_map (λ block. record_bytes (record { number = number; content = Bytes block })) blocks
