-- What a message holds, field by field, and the records that are written of it (Protocol Buffers encoding, "More Value Types").
use Rattle.std.specs.Prelude.{ℕ, zero, suc, ℤ, pos, negsuc, List, [], ◌∷◌, Bool, true, false, Option, map, if◌then◌else◌}
use Rattle.std.specs.Int.{w64, cast_unsigned}
use Rattle.std.specs.List.{flat_map}
use Rattle.std.specs.Option.{option_to_list}
use Rattle.pb_wire.specs.Records.{Content, Varint, Bytes}
use Rattle.pb_wire.specs.Payloads.{Field}
use Rattle.pb_write.specs.Write.{packed_bytes}
use Rattle.plan_scan.specs.declared.shape.Shape.{Shape}
use Rattle.plan_scan.specs.declared.shape.Shape.TheVariants.{Empty}
use Rattle.plan_spell.specs.Nodes.{Node}

-- The payloads of a field in order: numbers by their types, repeated numbers that are packed, texts or bytes, and messages of a
-- shape.
pub data Held : Type 0 where
  Uint32s : List ℕ → Held
  Int32s : List ℤ → Held
  Int64s : List ℤ → Held
  Truths : List Bool → Held
  PackedUint32s : List ℕ → Held
  PackedInt32s : List ℤ → Held
  Blocks : List (List ℕ) → Held
  Messages : (shape : Shape) → List (Node shape) → Held

-- a field's number and what it holds
pub record Part : Type 0 where
  pub number : ℕ
  pub held : Held

-- A whole number as a varint: 64 bits in two's complement, which a number of 32 bits is widened to.
abbrev pub whole_varint : ℤ → ℕ
whole_varint number = cast_unsigned w64 number

abbrev pub truth_varint : Bool → ℕ
truth_varint true = 1
truth_varint false = 0

-- one packed payload, or none without numbers
abbrev pub packed : List ℕ → List (List ℕ)
packed [] = []
packed (number ∷ numbers) = packed_bytes (number ∷ numbers) ∷ []

-- the varints of a field
abbrev pub varints : Held → List ℕ
varints (Uint32s numbers) = numbers
varints (Int32s numbers) = map whole_varint numbers
varints (Int64s numbers) = map whole_varint numbers
varints (Truths truths) = map truth_varint truths
varints _ = []

-- how a message of a shape is written
abbrev pub Writer : Type 0
Writer = (shape : Shape) → Node shape → List ℕ

-- the blocks of a field
abbrev pub held_blocks : Writer → Held → List (List ℕ)
held_blocks write (PackedUint32s numbers) = packed numbers
held_blocks write (PackedInt32s numbers) = packed (map whole_varint numbers)
held_blocks write (Blocks blocks) = blocks
held_blocks write (Messages shape nodes) = map (write shape) nodes
held_blocks write _ = []

-- the payloads of a field
abbrev pub contents : Writer → Held → List Content
contents write (Uint32s numbers) = map Varint numbers
contents write (Int32s numbers) = map Varint (map whole_varint numbers)
contents write (Int64s numbers) = map Varint (map whole_varint numbers)
contents write (Truths truths) = map Varint (map truth_varint truths)
contents write held = map Bytes (held_blocks write held)

-- the records of a field
abbrev pub part_fields : Writer → Part → List Field
part_fields write part = map (λ content. record { number = part.number; content = content }) (contents write part.held)

-- the records of a message, field by field
abbrev pub fields_by : Writer → List Part → List Field
fields_by write parts = flat_map (part_fields write) parts

-- Nothing is written of a number that is 0, of false, and of an empty text: they count so where they are absent.
abbrev pub unless_none : ℕ → List ℕ
unless_none zero = []
unless_none (suc value) = suc value ∷ []

abbrev pub unless_zero : ℤ → List ℤ
unless_zero (pos zero) = []
unless_zero (pos (suc value)) = pos (suc value) ∷ []
unless_zero (negsuc value) = negsuc value ∷ []

abbrev pub unless_false : Bool → List Bool
unless_false true = true ∷ []
unless_false false = []

abbrev pub unless_empty : List ℕ → List (List ℕ)
unless_empty [] = []
unless_empty (byte ∷ bytes) = (byte ∷ bytes) ∷ []

-- a field that is no member of a oneof
abbrev pub uint32 : ℕ → ℕ → Part
uint32 number value = record { number = number; held = Uint32s (unless_none value) }

abbrev pub int32 : ℕ → ℤ → Part
int32 number value = record { number = number; held = Int32s (unless_zero value) }

abbrev pub truth : ℕ → Bool → Part
truth number value = record { number = number; held = Truths (unless_false value) }

abbrev pub block : ℕ → List ℕ → Part
block number bytes = record { number = number; held = Blocks (unless_empty bytes) }

-- the texts of a repeated field, or a text that is a member
abbrev pub blocks : ℕ → List (List ℕ) → Part
blocks number values = record { number = number; held = Blocks values }

-- the messages of a repeated field
abbrev pub messages : ℕ → (shape : Shape) → List (Node shape) → Part
messages number shape nodes = record { number = number; held = Messages shape nodes }

-- a message that may be absent
abbrev pub message : ℕ → (shape : Shape) → Option (Node shape) → Part
message number shape node = messages number shape (option_to_list node)

-- a message that is a member
abbrev pub member : ℕ → (shape : Shape) → Node shape → Part
member number shape node = messages number shape (node ∷ [])

-- a message of which only the presence is read
abbrev pub presence : ℕ → Bool → Part
presence number is_there = messages number Empty (if is_there then tt ∷ [] else [])
