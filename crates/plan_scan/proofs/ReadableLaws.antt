-- What a message without a flaw gives: of its records, of its pieces, and of the messages in it.
use Rattle.std.proofs.Common.{◌≡◌, refl, ℕ, zero, suc, List, [], ◌∷◌, map, Bool, true, false, Option, Some, None, is_some, is_none}
use Rattle.std.specs.List.{list_all}
use Rattle.std.specs.Option.{option_or}
use Rattle.std.specs.Str.{is_utf8}
use Rattle.std.proofs.lemmas.Bool.{and_from}
use Rattle.pb_wire.specs.Records.{Content, Varint, Eight, Bytes, Four, Placed, records_of}
use Rattle.pb_wire.specs.Payloads.{field_of, fields_of, is_whole, packed_numbers}
use Rattle.plan_scan.specs.declared.shape.Shape.{Shape}
use Rattle.plan_scan.specs.declared.shape.Shape.TheVariants.{Plan}
use Rattle.plan_scan.specs.declared.shape.Use.{Use}
use Rattle.plan_scan.specs.declared.shape.Use.TheVariants as uses
use Rattle.plan_scan.specs.Table.{use_of}
use Rattle.plan_scan.specs.Flaw.{MessageFlaw, message_flaw, block_flaw, record_flaw, first_flaw, flaw_unless, flaw}
use Rattle.plan_scan.specs.Scanned.{block_well, field_well, is_readable}

-- the message has no flaw wherever it stands
abbrev Agrees : MessageFlaw → (Shape → List ℕ → Bool) → Type 0
Agrees flaw well = (shape : Shape) (place start : ℕ) (bytes : List ℕ) → flaw shape place start bytes ≡ None → well shape bytes ≡ true

flaw_unless_none : (well : Bool) (place : ℕ) → flaw_unless well place ≡ None → well ≡ true
flaw_unless_none true place e = refl
flaw_unless_none false place e = cc

block_none : (flaw : MessageFlaw) (well : Shape → List ℕ → Bool) → Agrees flaw well → (holds : Use) (place start : ℕ) (bytes : List ℕ) → block_flaw flaw holds place start bytes ≡ None → block_well well holds bytes ≡ true
block_none flaw well agrees uses.Unnamed place start bytes e = refl
block_none flaw well agrees uses.Number place start bytes e = refl
block_none flaw well agrees uses.Numbers place start bytes e = flaw_unless_none (is_some (packed_numbers bytes)) place e
block_none flaw well agrees uses.Text place start bytes e = flaw_unless_none (is_utf8 bytes) place e
block_none flaw well agrees uses.Bytes place start bytes e = refl
block_none flaw well agrees (uses.Message shape) place start bytes e = agrees shape place start bytes e

content_none : (flaw : MessageFlaw) (well : Shape → List ℕ → Bool) → Agrees flaw well → (shape : Shape) (start place number size : ℕ) (content : Content) →
    record_flaw flaw shape start (record { place = place; entry = record { number = number; content = content; size = size } }) ≡ None → field_well well shape (record { number = number; content = content }) ≡ true
content_none flaw well agrees shape start place number size (Varint value) e = refl
content_none flaw well agrees shape start place number size (Eight value) e = refl
content_none flaw well agrees shape start place number size (Bytes bytes) e = block_none flaw well agrees (use_of shape number) _ _ bytes e
content_none flaw well agrees shape start place number size (Four value) e = refl

record_none : (flaw : MessageFlaw) (well : Shape → List ℕ → Bool) → Agrees flaw well → (shape : Shape) (start : ℕ) (placed : Placed) → record_flaw flaw shape start placed ≡ None → field_well well shape (field_of placed) ≡ true
record_none flaw well agrees shape start placed e = content_none flaw well agrees shape start placed.place placed.entry.number placed.entry.size placed.entry.content e

either_none : {A : Type 0} (x y : Option A) → option_or x y ≡ None → (x ≡ None) × (y ≡ None)
either_none None y e = (refl, e)
either_none (Some a) y e = cc

no_flaw_along : (flaw : MessageFlaw) (well : Shape → List ℕ → Bool) → Agrees flaw well → (shape : Shape) (start : ℕ) (records : List Placed) (broken : Option ℕ) → first_flaw (record_flaw flaw shape start) start records broken ≡ None →
    (is_none broken ≡ true) × (list_all (field_well well shape) (map field_of records) ≡ true)
no_flaw_along flaw well agrees shape start [] None e = (refl, refl)
no_flaw_along flaw well agrees shape start [] (Some place) e = cc
no_flaw_along flaw well agrees shape start (placed ∷ records) broken e =
    let both = either_none (record_flaw flaw shape start placed) (first_flaw (record_flaw flaw shape start) start records broken) e in
    let rest = no_flaw_along flaw well agrees shape start records broken both.1 in
    (rest.0, and_from _ _ (record_none flaw well agrees shape start placed both.0) rest.1)

-- a message without a flaw is readable
pub readable : (levels : ℕ) (shape : Shape) (place start : ℕ) (bytes : List ℕ) → message_flaw levels shape place start bytes ≡ None → is_readable levels shape bytes ≡ true
unfolding message_flaw is_readable fields_of is_whole
readable zero shape place start bytes e = cc
readable (suc levels) shape place start bytes e =
    let all = no_flaw_along (message_flaw levels) (is_readable levels) (readable levels) shape start (records_of bytes).records (records_of bytes).broken e in
    and_from _ _ all.0 all.1

-- a plan without a flaw is readable
pub plan_readable : (bytes : List ℕ) → flaw bytes ≡ None → is_readable 100 Plan bytes ≡ true
unfolding flaw
plan_readable bytes e = readable 100 Plan 0 0 bytes e
