-- The flaw of a record as the scanner sees it.
use Rattle.std.specs.Prelude.{ℕ, ◌+◌, ◌-◌, Option, None, length}
use Rattle.pb_wire.specs.declared.record.Payload.TheVariants as payloads
use Rattle.pb_wire.specs.declared.record.Record.{Record}
use Rattle.plan_scan.specs.declared.shape.Shape.{Shape}
use Rattle.plan_scan.specs.declared.flaw.Flaw.{Flaw}
use Rattle.plan_scan.specs.Table.{use_of}
use Rattle.plan_scan.specs.Flaw.{MessageFlaw, block_flaw}

-- the flaw of a record that ends before this place of a message whose bytes start at that one
abbrev pub found_flaw : MessageFlaw → Shape → ℕ → ℕ → Record → Option Flaw
found_flaw message shape start behind found = elim found.payload [
  | payloads.Varint value ↦ None
  | payloads.Eight value ↦ None
  | payloads.Bytes bytes ↦ block_flaw message (use_of shape found.number) (start + found.place) (start + behind - length bytes.now) bytes.now
  | payloads.Four value ↦ None
]
