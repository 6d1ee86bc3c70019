-- A message that was written is readable, where the messages in it are, and it holds what the table of messages says.
use Rattle.std.proofs.Common.{◌≡◌, ◌∙◌, sym, ap, refl, subst, ℕ, zero, suc, ◌+◌, ◌^◌, ◌<◌, ◌≤◌, ℤ, pos, negsuc, List, [], ◌∷◌, ◌++◌, map, Bool, true, false, cond, not, ◌&&◌, nat_eq, nat_lt, nat_le, Option, Some, None, is_some, is_none, arith, length, length-append}
use Rattle.std.specs.Prelude.{FitsSigned}
use Rattle.std.specs.Int.{w32, w64}
use Rattle.std.specs.List.{All, AllByRecursion, flat_map, list_all}
use Rattle.std.specs.Option.{option_map, option_or}
use Rattle.std.specs.Str.{is_utf8}
use Rattle.std.proofs.lemmas.Bool.{eqb-true, and_parts, and_from, ltb-true, leb-true}
use Rattle.std.proofs.lemmas.List.Elements.{All-head, All-tail, All-nil, All-cons, All-from_recursion}
use Rattle.std.proofs.lemmas.List.Folds.{list_all-append}
use Rattle.pb_wire.specs.Records.{Content, Varint, Eight, Bytes, Four, Placed, records_of}
use Rattle.pb_wire.specs.Payloads.{Field, field_of, fields_of, is_whole, packed_numbers}
use Rattle.pb_write.specs.Write.{varint_bytes, key_bytes, record_bytes, message_bytes, packed_bytes, IsLong, HasPayload, IsWritable}
use Rattle.pb_write.proofs.WriteLaws.{packed_read}
use Rattle.plan_scan.specs.declared.shape.Shape.{Shape}
use Rattle.plan_scan.specs.declared.shape.Shape.TheVariants as s
use Rattle.plan_scan.specs.declared.shape.Use.{Use}
use Rattle.plan_scan.specs.declared.shape.Use.TheVariants as uses
use Rattle.plan_scan.specs.declared.flaw.Flaw.{Flaw}
use Rattle.plan_scan.specs.Table.{use_of}
use Rattle.plan_scan.specs.Flaw.{MessageFlaw, message_flaw, block_flaw, record_flaw, first_flaw, flaw_unless, flaw}
use Rattle.plan_scan.specs.Scanned.{block_well, field_well, is_readable}
use Rattle.plan_spell.specs.Nodes.{Node}
use Rattle.plan_spell.specs.Held.{Held, Uint32s, Int32s, Int64s, Truths, PackedUint32s, PackedInt32s, Blocks, Messages, Part, Writer, whole_varint, truth_varint, packed, held_blocks, contents, part_fields, fields_by}
use Rattle.plan_spell.specs.Spelled.{IsOfUse, IsFitting, HasFitting}
use Rattle.plan_spell.proofs.HeldLaws.{held_at, are_numbered, field_with}
use Rattle.plan_spell.proofs.WrittenLaws.{All_map, whole_long}

-- ---- readable bytes have no flaw
abbrev Agrees : (Shape → List ℕ → Bool) → MessageFlaw → Type 0
Agrees well flaw = (shape : Shape) (place start : ℕ) (bytes : List ℕ) → well shape bytes ≡ true → flaw shape place start bytes ≡ None

no_flaw_unless : (well : Bool) (place : ℕ) → well ≡ true → flaw_unless well place ≡ None
no_flaw_unless true place e = refl
no_flaw_unless false place e = absurd (cc)

block_flawless : (well : Shape → List ℕ → Bool) (flaw : MessageFlaw) → Agrees well flaw → (holds : Use) (place start : ℕ) (bytes : List ℕ) → block_well well holds bytes ≡ true → block_flaw flaw holds place start bytes ≡ None
block_flawless well flaw agrees uses.Unnamed place start bytes e = refl
block_flawless well flaw agrees uses.Number place start bytes e = refl
block_flawless well flaw agrees uses.Numbers place start bytes e = no_flaw_unless (is_some (packed_numbers bytes)) place e
block_flawless well flaw agrees uses.Text place start bytes e = no_flaw_unless (is_utf8 bytes) place e
block_flawless well flaw agrees uses.Bytes place start bytes e = refl
block_flawless well flaw agrees (uses.Message shape) place start bytes e = agrees shape place start bytes e

content_flawless : (well : Shape → List ℕ → Bool) (flaw : MessageFlaw) → Agrees well flaw → (shape : Shape) (start place number size : ℕ) (content : Content) →
    field_well well shape (field_with number content) ≡ true → record_flaw flaw shape start (record { place = place; entry = record { number = number; content = content; size = size } }) ≡ None
content_flawless well flaw agrees shape start place number size (Varint value) e = refl
content_flawless well flaw agrees shape start place number size (Eight value) e = refl
content_flawless well flaw agrees shape start place number size (Bytes bytes) e = block_flawless well flaw agrees (use_of shape number) _ _ bytes e
content_flawless well flaw agrees shape start place number size (Four value) e = refl

flawless_along : (well : Shape → List ℕ → Bool) (flaw : MessageFlaw) → Agrees well flaw → (shape : Shape) (start : ℕ) (records : List Placed) (broken : Option ℕ) → is_none broken ≡ true → list_all (field_well well shape) (map field_of records) ≡ true →
    first_flaw (record_flaw flaw shape start) start records broken ≡ None
flawless_along well flaw agrees shape start [] None whole all = refl
flawless_along well flaw agrees shape start [] (Some place) whole all = absurd (cc)
flawless_along well flaw agrees shape start (placed ∷ records) broken whole all =
    let both = and_parts (field_well well shape (field_of placed)) (list_all (field_well well shape) (map field_of records)) all in
    ap (λ found. option_or found (first_flaw (record_flaw flaw shape start) start records broken)) (content_flawless well flaw agrees shape start placed.place placed.entry.number placed.entry.size placed.entry.content both.0)
    ∙ flawless_along well flaw agrees shape start records broken whole both.1

flawless : (levels : ℕ) (shape : Shape) (place start : ℕ) (bytes : List ℕ) → is_readable levels shape bytes ≡ true → message_flaw levels shape place start bytes ≡ None
unfolding message_flaw is_readable fields_of is_whole
flawless zero shape place start bytes e = absurd (cc)
flawless (suc levels) shape place start bytes e =
    let both = and_parts (is_none (records_of bytes).broken) (list_all (field_well (is_readable levels) shape) (map field_of (records_of bytes).records)) e in
    flawless_along (is_readable levels) (message_flaw levels) (flawless levels) shape start (records_of bytes).records (records_of bytes).broken both.0 both.1

pub no_flaw : (bytes : List ℕ) → is_readable 100 s.Plan bytes ≡ true → flaw bytes ≡ None
unfolding flaw
no_flaw bytes e = flawless 100 s.Plan 0 0 bytes e

-- ---- lists
append_each : {A : Type 0} (P : A → Type 0) (xs ys : List A) → AllByRecursion P xs → AllByRecursion P ys → AllByRecursion P (xs ++ ys)
append_each P [] ys p q = q
append_each P (x ∷ xs) ys p q = (p.0, append_each P xs ys p.1 q)

pub split_each : {A : Type 0} (P : A → Type 0) (xs ys : List A) → AllByRecursion P (xs ++ ys) → AllByRecursion P xs × AllByRecursion P ys
split_each P [] ys p = (tt, p)
split_each P (x ∷ xs) ys p = let rest = split_each P xs ys p.1 in ((p.0, rest.0), rest.1)

pub to_each : {A : Type 0} (P : A → Type 0) (xs : List A) → All P xs → AllByRecursion P xs
to_each P [] all = tt
to_each P (x ∷ xs) all = (All-head P x xs all, to_each P xs (All-tail P x xs all))

-- ---- the blocks of a message are no longer than the message
abbrev pub HasShortBlock : Field → Type 0
HasShortBlock field = elim field.content [
  | Varint value ↦ Unit {0}
  | Eight value ↦ Unit {0}
  | Bytes bytes ↦ IsLong (length bytes)
  | Four value ↦ Unit {0}
]

short_block : (number : ℕ) (content : Content) (rest : List ℕ) → IsLong (length (record_bytes (field_with number content) ++ rest)) → HasShortBlock (field_with number content)
unfolding record_bytes
short_block number (Varint value) rest long = tt
short_block number (Eight value) rest long = tt
short_block number (Bytes bytes) rest long =
    omega (arith, long, length-append (key_bytes number 2 ++ (varint_bytes (length bytes) ++ bytes)) rest, length-append (key_bytes number 2) (varint_bytes (length bytes) ++ bytes), length-append (varint_bytes (length bytes)) bytes)
short_block number (Four value) rest long = tt

pub short_blocks : (fields : List Field) → IsLong (length (message_bytes fields)) → AllByRecursion HasShortBlock fields
unfolding message_bytes
short_blocks [] long = tt
short_blocks (field ∷ fields) long =
    let rest : IsLong (length (message_bytes fields)) = omega (arith, long, length-append (record_bytes field) (message_bytes fields)) in
    (short_block field.number field.content (message_bytes fields) long, short_blocks fields rest)

long_long : (z : ℤ) → FitsSigned w64 z → IsLong (whole_varint z)
long_long (pos n) fits = omega (arith, fits.sfits)
long_long (negsuc n) fits = omega arith

truths_long : (values : List Bool) → All IsLong (map truth_varint values)
truths_long [] = All-nil IsLong
truths_long (true ∷ values) = All-cons IsLong 1 (map truth_varint values) (omega arith) (truths_long values)
truths_long (false ∷ values) = All-cons IsLong 0 (map truth_varint values) (omega arith) (truths_long values)

-- ---- what was written could be
module _ (number : ℕ) (some : 1 ≤ number) (within : number < 2 ^ 29) where
  varints_can : (values : List ℕ) → All IsLong values → AllByRecursion IsWritable (map (field_with number) (map Varint values))
  varints_can [] long = tt
  varints_can (value ∷ values) long = (record { some = some; within = within; payload = All-head IsLong value values long }, varints_can values (All-tail IsLong value values long))

  blocks_can : (values : List (List ℕ)) → AllByRecursion HasShortBlock (map (field_with number) (map Bytes values)) → AllByRecursion IsWritable (map (field_with number) (map Bytes values))
  blocks_can [] short = tt
  blocks_can (value ∷ values) short = (record { some = some; within = within; payload = short.0 }, blocks_can values short.1)

  held_can : (inner : (shape : Shape) → Node shape → Type 0) (holds : Use) (write : Writer) (held : Held) → IsFitting inner holds held → AllByRecursion HasShortBlock (map (field_with number) (contents write held)) → AllByRecursion IsWritable (map (field_with number) (contents write held))
  held_can inner holds write (Uint32s values) fits short = varints_can values (λ k d h. omega (arith, fits k d h))
  held_can inner holds write (Int32s values) fits short = varints_can (map whole_varint values) (All_map (FitsSigned w32) IsLong whole_varint values whole_long fits)
  held_can inner holds write (Int64s values) fits short = varints_can (map whole_varint values) (All_map (FitsSigned w64) IsLong whole_varint values long_long fits)
  held_can inner holds write (Truths values) fits short = varints_can (map truth_varint values) (truths_long values)
  held_can inner holds write (PackedUint32s values) fits short = blocks_can (packed values) short
  held_can inner holds write (PackedInt32s values) fits short = blocks_can (packed (map whole_varint values)) short
  held_can inner holds write (Blocks values) fits short = blocks_can values short
  held_can inner holds write (Messages shape nodes) fits short = blocks_can (map (write shape) nodes) short

pub writable : (inner : (shape : Shape) → Node shape → Type 0) (shape : Shape) (write : Writer) (parts : List Part) → are_numbered parts ≡ true → AllByRecursion (HasFitting inner shape) parts → AllByRecursion HasShortBlock (fields_by write parts) → AllByRecursion IsWritable (fields_by write parts)
writable inner shape write [] numbered fits short = tt
writable inner shape write (part ∷ parts) numbered fits short =
    let both = and_parts (nat_le 1 part.number && nat_lt part.number (2 ^ 29)) _ numbered in
    let bounds = and_parts (nat_le 1 part.number) (nat_lt part.number (2 ^ 29)) both.0 in
    let rest = and_parts _ (are_numbered parts) both.1 in
    let shorts = split_each HasShortBlock (part_fields write part) (fields_by write parts) short in
    append_each IsWritable (part_fields write part) (fields_by write parts)
    (held_can part.number (leb-true 1 part.number bounds.0) (ltb-true part.number (2 ^ 29) bounds.1) inner (use_of shape part.number) write part.held fits.0 shorts.0)
    (writable inner shape write parts rest.1 fits.1 shorts.1)

-- ---- each field holds what the table of messages says
abbrev pub IsBlockUse : Use → Type 0
IsBlockUse uses.Text = Unit {0}
IsBlockUse uses.Bytes = Unit {0}
IsBlockUse _ = ⊥

abbrev pub IsHeldOfUse : Use → Held → Type 0
IsHeldOfUse holds (PackedUint32s values) = holds ≡ uses.Numbers
IsHeldOfUse holds (PackedInt32s values) = holds ≡ uses.Numbers
IsHeldOfUse holds (Blocks blocks) = IsBlockUse holds
IsHeldOfUse holds (Messages shape nodes) = holds ≡ uses.Message shape
IsHeldOfUse holds _ = Unit {0}

abbrev pub AreOfUse : Shape → List Part → Type 0
AreOfUse shape [] = Unit {0}
AreOfUse shape (part ∷ parts) = IsHeldOfUse (use_of shape part.number) part.held × AreOfUse shape parts

-- the messages of a field are readable, by this test
abbrev pub IsHeldReadable : (Shape → List ℕ → Bool) → Writer → Held → Type 0
IsHeldReadable message write (Messages shape nodes) = All (λ node. message shape (write shape node) ≡ true) nodes
IsHeldReadable message write _ = Unit {0}

module _ (message : Shape → List ℕ → Bool) (shape : Shape) (number : ℕ) where
  well_varints : (values : List ℕ) → list_all (field_well message shape) (map (field_with number) (map Varint values)) ≡ true
  well_varints [] = refl
  well_varints (value ∷ values) = well_varints values

  well_blocks : (values : List (List ℕ)) → All (λ block. block_well message (use_of shape number) block ≡ true) values → list_all (field_well message shape) (map (field_with number) (map Bytes values)) ≡ true
  well_blocks [] all = refl
  well_blocks (value ∷ values) all =
      let P : List ℕ → Type 0 = λ block. block_well message (use_of shape number) block ≡ true in
      and_from _ _ (All-head P value values all) (well_blocks values (All-tail P value values all))

  well_packed : (values : List ℕ) → use_of shape number ≡ uses.Numbers → All IsLong values → All (λ block. block_well message (use_of shape number) block ≡ true) (packed values)
  well_packed [] e long = All-nil (λ block. block_well message (use_of shape number) block ≡ true)
  well_packed (value ∷ values) e long =
      let P : List ℕ → Type 0 = λ block. block_well message (use_of shape number) block ≡ true in
      All-cons P (packed_bytes (value ∷ values)) [] (ap (λ holds. block_well message holds (packed_bytes (value ∷ values))) e ∙ ap is_some (packed_read (value ∷ values) long)) (All-nil P)

  well_texts : (holds : Use) (values : List (List ℕ)) → IsBlockUse holds → IsOfUse holds values → All (λ block. block_well message holds block ≡ true) values
  well_texts uses.Text values of all = all
  well_texts uses.Bytes values of all = λ k d h. refl
  well_texts _ values of all = absurd of

  well_messages : (inner : Shape) (write : Writer) (nodes : List (Node inner)) → use_of shape number ≡ uses.Message inner → All (λ node. message inner (write inner node) ≡ true) nodes → All (λ block. block_well message (use_of shape number) block ≡ true) (map (write inner) nodes)
  well_messages inner write nodes e all =
      All_map (λ node. message inner (write inner node) ≡ true) (λ block. block_well message (use_of shape number) block ≡ true) (write inner) nodes
      (λ node well. ap (λ holds. block_well message holds (write inner node)) e ∙ well) all

  well_held : (inner : (shape : Shape) → Node shape → Type 0) (write : Writer) (held : Held) → IsHeldOfUse (use_of shape number) held → IsFitting inner (use_of shape number) held → IsHeldReadable message write held → list_all (field_well message shape) (map (field_with number) (contents write held)) ≡ true
  well_held inner write (Uint32s values) of fits all = well_varints values
  well_held inner write (Int32s values) of fits all = well_varints (map whole_varint values)
  well_held inner write (Int64s values) of fits all = well_varints (map whole_varint values)
  well_held inner write (Truths values) of fits all = well_varints (map truth_varint values)
  well_held inner write (PackedUint32s values) of fits all = well_blocks (packed values) (well_packed values of (λ k d h. omega (arith, fits k d h)))
  well_held inner write (PackedInt32s values) of fits all = well_blocks (packed (map whole_varint values)) (well_packed (map whole_varint values) of (All_map (FitsSigned w32) IsLong whole_varint values whole_long fits))
  well_held inner write (Blocks values) of fits all = well_blocks values (well_texts (use_of shape number) values of fits)
  well_held inner write (Messages kind nodes) of fits all = well_blocks (map (write kind) nodes) (well_messages kind write nodes of all)

pub fields_well : (message : Shape → List ℕ → Bool) (inner : (shape : Shape) → Node shape → Type 0) (shape : Shape) (write : Writer) (parts : List Part) → AreOfUse shape parts → AllByRecursion (HasFitting inner shape) parts → AllByRecursion (λ part. IsHeldReadable message write part.held) parts →
    list_all (field_well message shape) (fields_by write parts) ≡ true
fields_well message inner shape write [] of fits all = refl
fields_well message inner shape write (part ∷ parts) of fits all =
    list_all-append (field_well message shape) (part_fields write part) (fields_by write parts)
    ∙ and_from _ _ (well_held message shape part.number inner write part.held of.0 fits.0 all.0) (fields_well message inner shape write parts of.1 fits.1 all.1)

-- what each field has is true at each number
module _ (Q : ℕ → Held → Type 0) (none : (number : ℕ) → Q number (Blocks [])) where
  pub at_number : (parts : List Part) → AllByRecursion (λ part. Q part.number part.held) parts → (number : ℕ) → Q number (held_at number parts)
  at_number [] all number = none number
  at_number (part ∷ parts) all number = (elim (nat_eq part.number number) as (λ b. nat_eq part.number number ≡ b → Q number (cond b part.held (held_at number parts))) [
    | true ↦ λ same. let P : ℕ → Type 0 = λ n. Q n part.held in subst P (eqb-true part.number number same) all.0
    | false ↦ λ other. at_number parts all.1 number
  ]) refl
