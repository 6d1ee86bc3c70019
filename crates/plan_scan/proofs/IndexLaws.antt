-- An index of a message's fields: empty at first, with one payload more after each record of theirs.
use Rattle.std.proofs.Common.{◌≡◌, ◌∙◌, ◌<◌, ◌≤◌, ◌+◌, ℕ, zero, suc, List, [], ◌∷◌, ◌++◌, length, slice_set, slice_index_or, sym, ap, refl, append-nil, Vec, Bor, cond, Some, None, arith}
use Rattle.std.specs.List.{cons_option}
use Rattle.std.specs.Global.{Global}
use Rattle.std.proofs.lemmas.List.{map-append}
use Rattle.std.proofs.lemmas.Bool.{ne_eqb, eq-eqb}
use Rattle.std.proofs.Math.Seq.{append_snoc}
use Rattle.pb_wire.specs.Records.{Bytes}
use Rattle.pb_wire.specs.declared.record.Payload.{Payload}
use Rattle.pb_wire.specs.declared.record.Payload.TheVariants as payloads
use Rattle.pb_wire.specs.declared.record.Record.{Record}
use Rattle.pb_wire.specs.Seen.{content_of, field_seen}
use Rattle.pb_wire.specs.Payloads.{Field, block_in, blocks}
use Rattle.plan_scan.specs.Pieces.{pieces_of}
use Rattle.plan_scan.specs.Index.{AreIndexed}

-- lists from a number on
abbrev Lists : Type 0
Lists = List (Vec (Bor (List ℕ)) Global)

-- one more list, which has nothing yet
pub one_list_more : (number : ℕ) (index : Lists) (found : Vec (Bor (List ℕ)) Global) (all : List Field) → found.items ≡ [] → AreIndexed number index all all → AreIndexed number (index ++ found ∷ []) all all
one_list_more number [] found all none before = (ap (λ items. pieces_of items ++ blocks number all) none, tt)
one_list_more number (first ∷ index) found all none before = (before.0, one_list_more (suc number) index found all none before.1)

-- a record that is of none of the fields
pub of_no_field : (number : ℕ) (index : Lists) (field : Field) (left all : List Field) → ((n : ℕ) → number ≤ n → n < number + length index → block_in n field ≡ None) → AreIndexed number index (field ∷ left) all → AreIndexed number index left all
of_no_field number [] field left all none before = tt
of_no_field number (first ∷ index) field left all none before = (
  ap (λ found. pieces_of first.items ++ cons_option found (blocks number left)) (sym (none number (omega arith) (omega arith))) ∙ before.0,
  of_no_field (suc number) index field left all (λ n from below. none n (omega (arith, from)) (omega (arith, below))) before.1,
)

other_number : (here n : ℕ) (bytes : List ℕ) → (here ≡ n → ⊥) → block_in n (record { number = here; content = Bytes bytes }) ≡ None
other_number here n bytes other = ap (λ same. cond same (Some bytes) None) (ne_eqb here n other)

same_number : (here n : ℕ) (bytes : List ℕ) → here ≡ n → block_in n (record { number = here; content = Bytes bytes }) ≡ Some bytes
same_number here n bytes same = ap (λ b. cond b (Some bytes) None) (eq-eqb here n same)

no_block : (payload : Payload) (here n : ℕ) → ((block : Bor (List ℕ)) → payload ≡ payloads.Bytes block → ⊥) → block_in n (record { number = here; content = content_of payload }) ≡ None
no_block (payloads.Varint value) here n none = refl
no_block (payloads.Eight value) here n none = refl
no_block (payloads.Bytes block) here n none = absurd (none block refl)
no_block (payloads.Four value) here n none = refl

-- a record with no payload
pub of_no_block : (number : ℕ) (index : Lists) (found : Record) (left all : List Field) → ((block : Bor (List ℕ)) → found.payload ≡ payloads.Bytes block → ⊥) → AreIndexed number index (field_seen found ∷ left) all → AreIndexed number index left all
of_no_block number index found left all none before = of_no_field number index (field_seen found) left all (λ n _ _. no_block found.payload found.number n none) before

abbrev the_field : ℕ → Payload → Field
the_field number payload = record { number = number; content = content_of payload }

-- a record with a payload
pub with_block : (found : Record) (block : Bor (List ℕ)) → found.payload ≡ payloads.Bytes block → field_seen found ≡ record { number = found.number; content = Bytes block.now }
with_block found block e = ap (λ (payload : Payload). the_field found.number payload) e

-- a payload of a higher number
pub of_higher : (number here : ℕ) (bytes : List ℕ) (index : Lists) (left all : List Field) → number + length index ≤ here → AreIndexed number index (record { number = here; content = Bytes bytes } ∷ left) all → AreIndexed number index left all
of_higher number here bytes index left all high before = of_no_field number index _ left all (λ n _ below. other_number here n bytes (λ same. omega (arith, high, below, same))) before

-- a payload of the field at a place of the lists
pub of_field_at : (number place here : ℕ) (block : Bor (List ℕ)) (index : Lists) (old new : Vec (Bor (List ℕ)) Global) (left all : List Field) → here ≡ number + place → place < length index → old ≡ slice_index_or index place old → new.items ≡ old.items ++ block ∷ [] →
    AreIndexed number index (record { number = here; content = Bytes block.now } ∷ left) all → AreIndexed number (slice_set index place new) left all
of_field_at number place here block [] old new left all at within is_old more before = cc
of_field_at number zero here block (first ∷ index) old new left all at within is_old more before = (
  ap (λ items. pieces_of items ++ blocks number left) more
      ∙ ap (λ pieces. pieces ++ blocks number left) (map-append (λ (slice : Bor (List ℕ)). slice.now) old.items (block ∷ []))
      ∙ append_snoc (pieces_of old.items) block.now (blocks number left)
      ∙ ap (λ found. pieces_of old.items ++ cons_option found (blocks number left)) (sym (same_number here number block.now (omega (arith, at))))
      ∙ ap (λ (v : Vec (Bor (List ℕ)) Global). pieces_of v.items ++ blocks number (record { number = here; content = Bytes block.now } ∷ left)) is_old
      ∙ before.0,
  of_no_field (suc number) index _ left all (λ n from _. other_number here n block.now (λ same. omega (arith, at, from, same))) before.1,
)
of_field_at number (suc place) here block (first ∷ index) old new left all at within is_old more before = (
  ap (λ found. pieces_of first.items ++ cons_option found (blocks number left)) (sym (other_number here number block.now (λ same. omega (arith, at, same)))) ∙ before.0,
  of_field_at (suc number) place here block index old new left all (omega (arith, at)) (omega (arith, within)) is_old more before.1,
)

-- the list at a place has the payloads of its field
pub list_of_field : (number place here : ℕ) (index : Lists) (found : Vec (Bor (List ℕ)) Global) (all : List Field) → here ≡ number + place → place < length index → found ≡ slice_index_or index place found → AreIndexed number index [] all → pieces_of found.items ≡ blocks here all
list_of_field number place here [] found all at within is_found indexed = absurd (omega (arith, within))
list_of_field number zero here (first ∷ index) found all at within is_found indexed =
    ap (λ (v : Vec (Bor (List ℕ)) Global). pieces_of v.items) is_found
    ∙ sym (append-nil (pieces_of first.items))
    ∙ indexed.0
    ∙ (let same : number ≡ here = omega (arith, at) in ap (λ n. blocks n all) same)
list_of_field number (suc place) here (first ∷ index) found all at within is_found indexed =
    list_of_field (suc number) place here index found all (omega (arith, at)) (omega (arith, within)) is_found indexed.1
