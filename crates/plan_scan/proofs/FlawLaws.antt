-- The first flaw of a message, record by record.
use Rattle.std.proofs.Common.{◌≡◌, ◌∙◌, sym, ap, refl, ℕ, zero, suc, ◌+◌, ◌-◌, ◌<◌, List, [], Option, Some, None, is_some, true, false, arith}
use Rattle.std.specs.Option.{option_or}
use Rattle.pb_wire.specs.Records.{Scan, records_of}
use Rattle.pb_wire.specs.Seen.{Rest, IsBehind, scan_of, entry_of}
use Rattle.pb_wire.specs.declared.record.Payload.{Payload}
use Rattle.pb_wire.specs.declared.record.Payload.TheVariants as payloads
use Rattle.pb_wire.specs.declared.record.Record.{Record}
use Rattle.plan_scan.specs.declared.shape.Shape.{Shape}
use Rattle.plan_scan.specs.declared.flaw.Flaw.{Flaw}
use Rattle.plan_scan.specs.declared.flaw.Flaw.TheVariants.{Unreadable, TooDeep}
use Rattle.plan_scan.specs.Flaw.{MessageFlaw, message_flaw, record_flaw, first_flaw}
use Rattle.plan_scan.specs.Seen.{found_flaw}

-- the first flaw of the records that are left
abbrev pub flaw_left : MessageFlaw → Shape → ℕ → Scan → Option Flaw
flaw_left message shape start scan = first_flaw (record_flaw message shape start) start scan.records scan.broken

pub too_deep : (shape : Shape) (place start : ℕ) (bytes : List ℕ) → message_flaw 0 shape place start bytes ≡ Some (TooDeep place)
unfolding message_flaw
too_deep shape place start bytes = refl

-- the record as the scanner sees it has the flaw of the record in the list
seen : (message : MessageFlaw) (shape : Shape) (start behind size place number : ℕ) (payload : Payload) → behind ≡ place + size →
    let found : Record = record { place = place; number = number; payload = payload } in
    record_flaw message shape start (record { place = place; entry = entry_of found size }) ≡ found_flaw message shape start behind found
seen message shape start behind size place number (payloads.Varint value) e = refl
seen message shape start behind size place number (payloads.Eight value) e = refl
seen message shape start behind size place number (payloads.Bytes bytes) e = rw e refl
seen message shape start behind size place number (payloads.Four value) e = refl

-- the first flaw is that of the record that was read, or else that of the records that are left
pub flaw_next : (message : MessageFlaw) (shape : Shape) (start : ℕ) (old new : Rest) (found : Record) → IsBehind found old new →
    flaw_left message shape start (scan_of old) ≡ option_or (found_flaw message shape start new.place found) (flaw_left message shape start (scan_of new))
flaw_next message shape start old new found next =
    let behind : new.place ≡ found.place + (new.place - found.place) = omega (arith, next.before) in
    ap (flaw_left message shape start) next.first
    ∙ ap (λ flaw. option_or flaw (flaw_left message shape start (scan_of new))) (seen message shape start new.place (new.place - found.place) found.place found.number found.payload behind)

pub flaw_some : (message : MessageFlaw) (shape : Shape) (start : ℕ) (old new : Rest) (found : Record) (flaw : Option Flaw) → IsBehind found old new → flaw ≡ found_flaw message shape start new.place found → is_some flaw ≡ true →
    flaw ≡ flaw_left message shape start (scan_of old)
flaw_some message shape start old new found None next e some = cc
flaw_some message shape start old new found (Some flaw) next e some = sym (flaw_next message shape start old new found next ∙ ap (λ f. option_or f (flaw_left message shape start (scan_of new))) (sym e))

pub flaw_none : (message : MessageFlaw) (shape : Shape) (start : ℕ) (old new : Rest) (found : Record) (flaw : Option Flaw) → IsBehind found old new → flaw ≡ found_flaw message shape start new.place found → is_some flaw ≡ false →
    flaw_left message shape start (scan_of new) ≡ flaw_left message shape start (scan_of old)
flaw_none message shape start old new found (Some flaw) next e none = cc
flaw_none message shape start old new found None next e none = sym (flaw_next message shape start old new found next ∙ ap (λ f. option_or f (flaw_left message shape start (scan_of new))) (sym e))

pub flaw_end : (message : MessageFlaw) (shape : Shape) (start : ℕ) (rest : Rest) → scan_of rest ≡ record { records = []; broken = None } → flaw_left message shape start (scan_of rest) ≡ None
flaw_end message shape start rest end = ap (flaw_left message shape start) end

pub flaw_broken : (message : MessageFlaw) (shape : Shape) (start place : ℕ) (rest : Rest) → scan_of rest ≡ record { records = []; broken = Some place } → flaw_left message shape start (scan_of rest) ≡ Some (Unreadable (start + place))
flaw_broken message shape start place rest broken = ap (flaw_left message shape start) broken

-- the scan that begins a message
pub flaw_begun : (levels : ℕ) (shape : Shape) (place start : ℕ) (bytes : List ℕ) → 0 < levels → flaw_left (message_flaw (levels - 1)) shape start (scan_of (record { place = 0; bytes = bytes })) ≡ message_flaw levels shape place start bytes
unfolding scan_of records_of message_flaw
flaw_begun zero shape place start bytes h = absurd (omega arith)
flaw_begun (suc levels) shape place start bytes h =
    let less : suc levels - 1 ≡ levels = omega arith in
    ap (λ n. flaw_left (message_flaw n) shape start (scan_of (record { place = 0; bytes = bytes }))) less
