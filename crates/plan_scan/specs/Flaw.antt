-- Which bytes of a plan are readable: the first flaw in the order of the bytes.
use Rattle.std.specs.Prelude.{ℕ, zero, suc, ◌+◌, ◌-◌, List, [], ◌∷◌, Bool, Option, Some, None, if◌then◌else◌, length, is_some}
use Rattle.std.specs.Option.{option_map, option_or}
use Rattle.std.specs.Str.{is_utf8}
use Rattle.pb_wire.specs.Records.{Varint, Eight, Bytes, Four, Placed, records_of}
use Rattle.pb_wire.specs.Payloads.{packed_numbers}
use Rattle.plan_scan.specs.declared.shape.Shape.{Shape}
use Rattle.plan_scan.specs.declared.shape.Shape.TheVariants.{Plan}
use Rattle.plan_scan.specs.declared.shape.Use.{Use}
use Rattle.plan_scan.specs.declared.shape.Use.TheVariants as uses
use Rattle.plan_scan.specs.declared.flaw.Flaw.{Flaw}
use Rattle.plan_scan.specs.declared.flaw.Flaw.TheVariants.{Unreadable, TooDeep}
use Rattle.plan_scan.specs.Table.{use_of}

-- how the flaw of a message is found: by its shape, and the places of its record and of its bytes
abbrev pub MessageFlaw : Type 0
MessageFlaw = Shape → ℕ → ℕ → List ℕ → Option Flaw

-- a flaw at this place, unless all is well there
abbrev pub flaw_unless : Bool → ℕ → Option Flaw
flaw_unless well place = if well then None else Some (Unreadable place)

-- the flaw of a block of this use: its record's place, its own, and its bytes
abbrev pub block_flaw : MessageFlaw → Use → ℕ → ℕ → List ℕ → Option Flaw
block_flaw message uses.Unnamed place start bytes = None
block_flaw message uses.Number place start bytes = None
block_flaw message uses.Numbers place start bytes = flaw_unless (is_some (packed_numbers bytes)) place
block_flaw message uses.Text place start bytes = flaw_unless (is_utf8 bytes) place
block_flaw message uses.Bytes place start bytes = None
block_flaw message (uses.Message shape) place start bytes = message shape place start bytes

-- the flaw of a record of a message whose bytes start at this place; a block ends its record
abbrev pub record_flaw : MessageFlaw → Shape → ℕ → Placed → Option Flaw
record_flaw message shape start placed = elim placed.entry.content [
  | Varint value ↦ None
  | Eight value ↦ None
  | Bytes bytes ↦ block_flaw message (use_of shape placed.entry.number) (start + placed.place) (start + (placed.place + placed.entry.size) - length bytes) bytes
  | Four value ↦ None
]

-- the first flaw of the records, or else the place where none stands
abbrev pub first_flaw : (Placed → Option Flaw) → ℕ → List Placed → Option ℕ → Option Flaw
first_flaw flaw_of start [] broken = option_map (λ place. Unreadable (start + place)) broken
first_flaw flaw_of start (placed ∷ records) broken = option_or (flaw_of placed) (first_flaw flaw_of start records broken)

-- the first flaw of a message, where so many levels are left to it and the messages in it
unfoldable pub message_flaw : ℕ → MessageFlaw
message_flaw zero shape place start bytes = Some (TooDeep place)
message_flaw (suc levels) shape place start bytes =
    let scan = records_of bytes in first_flaw (record_flaw (message_flaw levels) shape start) start scan.records scan.broken

-- the first flaw of a plan, whose messages are at most 100 deep
unfoldable pub flaw : List ℕ → Option Flaw
flaw bytes = message_flaw 100 Plan 0 0 bytes
