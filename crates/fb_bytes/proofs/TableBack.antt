-- A table that is laid out reads back, slot by slot.
use Rattle.std.proofs.Common.{◌≡◌, ◌≤◌, ◌<◌, ◌⊎◌, ◌+◌, ◌-◌, ◌*◌, ◌%◌, ◌^◌, ℕ, zero, suc, inl, inr, Bool, true, false, cond, eqb, leb, List, [], ◌∷◌, ◌++◌, length, drop, replicate, Option, Some, None, Result, Ok, refl, sym, ap, ◌∙◌, subst, arith, append_assoc, length-append}
use Rattle.std.proofs.lemmas.List.{append-nil, length-replicate}
use Rattle.std.proofs.lemmas.Bool.{cases_lt, eqb-true, eq-eqb, false≢true}
use Rattle.std.proofs.Math.Nat.{mod-eq_of_lt}
use Rattle.byteorder.specs.Endian.{little_bytes, little_number}
use Rattle.fb_bytes.specs.declared.bad_buffer.BadBuffer.{BadBuffer}
use Rattle.fb_bytes.specs.Layout.{Laid, Part, Number, Offset, part_slot, slot_count, fields_width, part_at, Cell, Value, Target, cell_slot, cell_width, cells, behind, by_width, cell_bytes, row_bytes, entry, entries, round_up, filled, vtable, table_place, table_end, table_own, table_laid}
use Rattle.fb_bytes.specs.Object.{IsWidth}
use Rattle.fb_bytes.specs.Reading.{number_at, offset_at, TableAt, vtable_size, table_at, entry_of, field_of, when_present, scalar_of, reference_of}
use Rattle.sub_types.specs.ResultSteps.{◌>>=◌}
use Rattle.fb_bytes.specs.ReadBack.{LeadsTo, AreParts, ReadsSlot, ReadsTable}
use Rattle.fb_bytes.proofs.CellLemmas.{shapes, part_shapes, shapes-cells, Lacks, Lacks-by_widths, entry_same, entry_absent, row_width, length-cell_bytes}
use Rattle.fb_bytes.proofs.TableLemmas.{LacksIn, AreParts-behind, slot_count-bound, length-parts-bound, fields_width-bound, row_width-parts, LacksIn-front, LacksIn-back, Lacks-parts, table_place-least, table_place-bound, length-vtable, length-own-filled, length-table_own, own_round, round_up-least, length-entries}
use Rattle.fb_bytes.proofs.BegunLemmas.{behind-append, cells-append}
use Rattle.fb_bytes.proofs.ReadLemmas.{number_first, drop_stands, number_back, offset_back, table_found, fits, past}

-- one entry among the others
record EntryRound (n slot : ℕ) (cs : List Cell) : Type 0 where
  later : List ℕ
  there : entries n cs ≡ entries slot cs ++ (little_bytes 2 (entry slot 4 cs) ++ later)

entry_last : (n : ℕ) (cs : List Cell) → EntryRound (suc n) n cs
entry_last n cs = record { later = []; there = ap (λ (r : List ℕ). entries n cs ++ r) (sym (append-nil (little_bytes 2 (entry n 4 cs)))) }

entry_earlier : (n slot : ℕ) (cs : List Cell) → EntryRound n slot cs → EntryRound (suc n) slot cs
entry_earlier n slot cs r = record {
  later = r.later ++ little_bytes 2 (entry n 4 cs);
  there =
      ap (λ (x : List ℕ). x ++ little_bytes 2 (entry n 4 cs)) r.there
      ∙ append_assoc (entries slot cs) (little_bytes 2 (entry slot 4 cs) ++ r.later) (little_bytes 2 (entry n 4 cs));
}

entry_round : (n slot : ℕ) (cs : List Cell) → slot < n → EntryRound n slot cs
entry_round zero slot cs h = absurd (omega arith)
entry_round (suc n) slot cs h = pick (λ below. entry_round n slot cs below) (cases_lt slot n)
  where
    pick : (slot < n → EntryRound n slot cs) → (slot < n) ⊎ (n ≤ slot) → EntryRound (suc n) slot cs
    pick ih (inl below) = entry_earlier n slot cs (ih below)
    pick ih (inr above) = let same : n ≡ slot = omega arith in subst (λ (s : ℕ). EntryRound (suc n) s cs) same (entry_last n cs)

pub entry-bound : (slot from : ℕ) (cs : List Cell) → entry slot from cs ≤ from + row_width cs
entry-bound slot from [] = omega arith
entry-bound slot from (c ∷ cs) = pick (eqb (cell_slot c) slot) (entry slot (from + cell_width c) cs) (entry-bound slot (from + cell_width c) cs)
  where
    pick : (b : Bool) (later : ℕ) → later ≤ from + cell_width c + row_width cs → cond b from later ≤ from + (cell_width c + row_width cs)
    pick true later h = omega arith
    pick false later h = omega arith

-- the slots of parts are below their count
LacksIn-past : (slot : ℕ) (ps : List Part) → slot_count ps ≤ slot → LacksIn slot (part_shapes ps)
LacksIn-past slot [] h = tt
LacksIn-past slot (p ∷ ps) h = (omega arith, LacksIn-past slot ps (omega arith))

LacksIn-none : (slot : ℕ) (ps : List Part) → part_at slot ps ≡ None → LacksIn slot (part_shapes ps)
LacksIn-none slot [] h = tt
LacksIn-none slot (p ∷ ps) h = pick (λ k. LacksIn-none slot ps k) (eqb (part_slot p) slot) refl h
  where
    pick : (part_at slot ps ≡ None → LacksIn slot (part_shapes ps)) → (b : Bool) → eqb (part_slot p) slot ≡ b → cond b (Some p) (part_at slot ps) ≡ None → LacksIn slot (part_shapes (p ∷ ps))
    pick ih true e k = cc
    pick ih false e k = (λ s. false≢true (sym e ∙ eq-eqb (part_slot p) slot s), ih k)

-- where the part of a slot stands among the parts
record PartFound (slot : ℕ) (ps : List Part) (p : Part) : Type 0 where
  front : List Part
  back : List Part
  split : ps ≡ front ++ p ∷ back
  slot_is : part_slot p ≡ slot

part_found : (slot : ℕ) (ps : List Part) (p : Part) → part_at slot ps ≡ Some p → PartFound slot ps p
part_found slot [] p h = cc
part_found slot (q ∷ ps) p h = pick (λ k. part_found slot ps p k) (eqb (part_slot q) slot) refl h
  where
    pick : (part_at slot ps ≡ Some p → PartFound slot ps p) → (b : Bool) → eqb (part_slot q) slot ≡ b → cond b (Some q) (part_at slot ps) ≡ Some p → PartFound slot (q ∷ ps) p
    pick ih true e k =
        let same : q ≡ p = cc in
        record { front = []; back = ps; split = ap (λ (r : Part). r ∷ ps) same; slot_is = ap part_slot (sym same) ∙ eqb-true (part_slot q) slot e }
    pick ih false e k =
        let r = ih k in
        record { front = q ∷ r.front; back = r.back; split = ap (λ (x : List Part). q ∷ x) r.split; slot_is = r.slot_is }

-- these bytes stand in others at a place
record Piece (own x : List ℕ) (place : ℕ) : Type 0 where
  before : List ℕ
  after : List ℕ
  there : own ≡ before ++ (x ++ after)
  at : place ≡ length before

-- what stands in the own bytes of an object stands in the bytes that it stands in
piece_of : (bytes front own behind back x : List ℕ) (place : ℕ) → bytes ≡ front ++ ((filled own ++ behind) ++ back) → Piece own x place → Piece bytes x (length front + place)
unfolding filled
piece_of bytes front own behind back x place stands p =
    let zeros = replicate {A = ℕ} (round_up (length own) - length own) 0 in
    record {
      before = front ++ p.before;
      after = p.after ++ (zeros ++ (behind ++ back));
      there =
          stands ∙ ap (λ (r : List ℕ). front ++ (((r ++ zeros) ++ behind) ++ back)) p.there ∙ regroup front p.before x p.after zeros behind back;
      at = let l = length-append front p.before in let a = p.at in omega arith;
    }
  where
    regroup : (f b x a z h k : List ℕ) → f ++ ((((b ++ (x ++ a)) ++ z) ++ h) ++ k) ≡ (f ++ b) ++ (x ++ (a ++ (z ++ (h ++ k))))
    regroup f b x a z h k = simp append_assoc

own_vtable : (parts : List Part) (cs : List Cell) → Piece (table_own parts cs) (little_bytes 2 (4 + 2 * slot_count parts)) 0
unfolding table_own vtable
own_vtable parts cs =
    let n = slot_count parts in
    let inner = little_bytes 2 (4 + fields_width parts) ++ entries n (by_width (cells 0 parts)) in
    let rest = replicate {A = ℕ} (table_place n - (4 + 2 * n)) 0 ++ (little_bytes 4 (table_place n) ++ row_bytes (table_place n + 4) (by_width cs)) in
    record { before = []; after = inner ++ rest; there = append_assoc (little_bytes 2 (4 + 2 * n)) inner rest; at = refl }

own_distance : (parts : List Part) (cs : List Cell) → Piece (table_own parts cs) (little_bytes 4 (table_place (slot_count parts))) (table_place (slot_count parts))
unfolding table_own
own_distance parts cs =
    let n = slot_count parts in
    let zeros = replicate {A = ℕ} (table_place n - (4 + 2 * n)) 0 in
    record {
      before = vtable parts ++ zeros;
      after = row_bytes (table_place n + 4) (by_width cs);
      there = sym (append_assoc (vtable parts) zeros (little_bytes 4 (table_place n) ++ row_bytes (table_place n + 4) (by_width cs)));
      at =
          let l = length-append (vtable parts) zeros in
          let v = length-vtable parts in
          let z = length-replicate {A = ℕ} (table_place n - (4 + 2 * n)) 0 in
          let least = table_place-least n in
          omega arith;
    }

own_entry : (parts : List Part) (cs : List Cell) (slot : ℕ) → slot < slot_count parts → Piece (table_own parts cs) (little_bytes 2 (entry slot 4 (by_width (cells 0 parts)))) (4 + 2 * slot)
unfolding table_own vtable
own_entry parts cs slot h =
    let n = slot_count parts in
    let e = by_width (cells 0 parts) in
    let r = entry_round n slot e h in
    let size = little_bytes 2 (4 + 2 * n) in
    let width = little_bytes 2 (4 + fields_width parts) in
    let x = little_bytes 2 (entry slot 4 e) in
    let rest = replicate {A = ℕ} (table_place n - (4 + 2 * n)) 0 ++ (little_bytes 4 (table_place n) ++ row_bytes (table_place n + 4) (by_width cs)) in
    record {
      before = size ++ (width ++ entries slot e);
      after = r.later ++ rest;
      there = ap (λ (y : List ℕ). (size ++ (width ++ y)) ++ rest) r.there ∙ regroup size width (entries slot e) x r.later rest;
      at = let l = length-entries slot e in omega arith;
    }
  where
    regroup : (a b c x y z : List ℕ) → (a ++ (b ++ (c ++ (x ++ y)))) ++ z ≡ (a ++ (b ++ c)) ++ (x ++ (y ++ z))
    regroup a b c x y z = simp append_assoc

-- A table stands in the bytes.
record Standing (bytes : List ℕ) (parts : List Part) : Type 0 where
  front : List ℕ
  back : List ℕ
  stands : bytes ≡ front ++ ((filled (table_own parts (cells (table_end parts) parts)) ++ behind parts) ++ back)
  small : length bytes < 2 ^ 31
  sound : AreParts 0 parts

abbrev own_of : List Part → List ℕ
own_of parts = table_own parts (cells (table_end parts) parts)

pieces : (bytes : List ℕ) (parts : List Part) (s : Standing bytes parts) (x : List ℕ) (place : ℕ) → Piece (own_of parts) x place → Piece bytes x (length s.front + place)
pieces bytes parts s x place p = piece_of bytes s.front (own_of parts) (behind parts) s.back x place s.stands p

own_inside : (bytes : List ℕ) (parts : List Part) (s : Standing bytes parts) → length s.front + (table_end parts + length (behind parts)) ≤ length bytes
own_inside bytes parts s =
    let own = filled (own_of parts) in
    let l = ap length s.stands in
    let a = length-append s.front ((own ++ behind parts) ++ s.back) in
    let b = length-append (own ++ behind parts) s.back in
    let c = length-append own (behind parts) in
    let d = length-own-filled parts (cells (table_end parts) parts) s.sound (shapes-cells (table_end parts) parts) in
    omega arith

table_end-least : (parts : List Part) → table_place (slot_count parts) + 4 + fields_width parts ≤ table_end parts
unfolding table_end
table_end-least parts = round_up-least (table_place (slot_count parts) + 4 + fields_width parts)

abbrev table_there : (bytes : List ℕ) (parts : List Part) (s : Standing bytes parts) → TableAt
table_there bytes parts s = record { bytes = bytes; place = length s.front + table_place (slot_count parts); vtable = length s.front }

found : (bytes : List ℕ) (parts : List Part) (s : Standing bytes parts) → table_at bytes (length s.front + table_place (slot_count parts)) ≡ Ok (table_there bytes parts s)
found bytes parts s =
    let n = slot_count parts in
    let v = pieces bytes parts s (little_bytes 2 (4 + 2 * n)) 0 (own_vtable parts (cells (table_end parts) parts)) in
    let d = pieces bytes parts s (little_bytes 4 (table_place n)) (table_place n) (own_distance parts (cells (table_end parts) parts)) in
    let few = slot_count-bound 0 parts s.sound in
    let bound = table_place-bound n in
    let least = table_place-least n in
    let inside = own_inside bytes parts s in
    let ends = table_end-least parts in
    let va = v.at in
    let start : length v.before ≡ length s.front = omega arith in
    table_found bytes v.before v.after d.before d.after (length s.front + table_place n) (table_place n) (4 + 2 * n) v.there d.there d.at (omega arith) (omega arith) (omega arith) (omega arith) (omega arith)
    ∙ ap (λ (x : ℕ). Ok (record { bytes = bytes; place = length s.front + table_place n; vtable = x })) start

-- the entry of a slot, as the vtable has it
entry_of-there : (bytes : List ℕ) (parts : List Part) (s : Standing bytes parts) (slot : ℕ) → entry_of (table_there bytes parts s) slot ≡ entry slot 4 (by_width (cells 0 parts))
unfolding entry_of
entry_of-there bytes parts s slot = pick (cases_lt slot (slot_count parts))
  where
    lf : ℕ
    lf = length s.front

    n : ℕ
    n = slot_count parts

    size : vtable_size bytes (length s.front) ≡ 4 + 2 * slot_count parts
    size =
        let v = pieces bytes parts s (little_bytes 2 (4 + 2 * slot_count parts)) 0 (own_vtable parts (cells (table_end parts) parts)) in
        let few = slot_count-bound 0 parts s.sound in
        let va = v.at in
        ap (little_number 2) (drop_stands bytes v.before (little_bytes 2 (4 + 2 * slot_count parts) ++ v.after) (length s.front) v.there (omega arith)) ∙ number_first 2 (4 + 2 * slot_count parts) v.after ∙ mod-eq_of_lt (omega arith)

    small : entry slot 4 (by_width (cells 0 parts)) < 256 ^ 2
    small =
        let e = entry-bound slot 4 (by_width (cells 0 parts)) in
        let w = row_width-parts parts (cells 0 parts) s.sound (shapes-cells 0 parts) in
        let b = fields_width-bound 0 parts s.sound in
        let l = length-parts-bound 0 parts s.sound (omega arith) in
        omega arith

    pick : (slot < slot_count parts) ⊎ (slot_count parts ≤ slot) → cond (leb (6 + 2 * slot) (vtable_size bytes (length s.front))) (little_number 2 (drop (length s.front + 4 + 2 * slot) bytes)) 0 ≡ entry slot 4 (by_width (cells 0 parts))
    pick (inl below) =
        let p = pieces bytes parts s (little_bytes 2 (entry slot 4 (by_width (cells 0 parts)))) (4 + 2 * slot) (own_entry parts (cells (table_end parts) parts) slot below) in
        let at = p.at in
        let z = size in
        fits (6 + 2 * slot) (vtable_size bytes (length s.front)) _ 0 (omega arith)
        ∙ ap (little_number 2) (drop_stands bytes p.before (little_bytes 2 (entry slot 4 (by_width (cells 0 parts))) ++ p.after) (length s.front + 4 + 2 * slot) p.there (omega arith))
        ∙ number_first 2 (entry slot 4 (by_width (cells 0 parts))) p.after ∙ mod-eq_of_lt small
    pick (inr above) =
        let z = size in
        past (6 + 2 * slot) (vtable_size bytes (length s.front)) (little_number 2 (drop (length s.front + 4 + 2 * slot) bytes)) 0 (omega arith)
        ∙ sym (entry_absent slot 4 (by_width (cells 0 parts)) (Lacks-by_widths slot (8 ∷ 4 ∷ 2 ∷ 1 ∷ []) (cells 0 parts) (Lacks-parts slot (cells 0 parts) parts (shapes-cells 0 parts) (LacksIn-past slot parts above))))

field_absent : (t : TableAt) (slot : ℕ) → entry_of t slot ≡ 0 → field_of t slot ≡ None
unfolding field_of
field_absent t slot e = ap (λ (n : ℕ). cond (eqb n 0) None (Some (t.place + n))) e

field_present : (t : TableAt) (slot n : ℕ) → entry_of t slot ≡ n → 0 < n → field_of t slot ≡ Some (t.place + n)
unfolding field_of
field_present t slot n e h = ap (λ (m : ℕ). cond (eqb m 0) None (Some (t.place + m))) e ∙ above n h
  where
    above : (m : ℕ) → 0 < m → cond (eqb m 0) None (Some (t.place + m)) ≡ Some (t.place + m)
    above m k = grind arith

absent_back : (bytes : List ℕ) (parts : List Part) (s : Standing bytes parts) (slot : ℕ) → part_at slot parts ≡ None → field_of (table_there bytes parts s) slot ≡ None
absent_back bytes parts s slot h =
    field_absent (table_there bytes parts s) slot
    (entry_of-there bytes parts s slot
    ∙ entry_absent slot 4 (by_width (cells 0 parts)) (Lacks-by_widths slot (8 ∷ 4 ∷ 2 ∷ 1 ∷ []) (cells 0 parts) (Lacks-parts slot (cells 0 parts) parts (shapes-cells 0 parts) (LacksIn-none slot parts h))))

-- where the field of a cell stands in the bytes
record FieldStands (bytes : List ℕ) (parts : List Part) (s : Standing bytes parts) (c : Cell) : Type 0 where
  from : ℕ
  piece : Piece bytes (cell_bytes from c) (length s.front + from)
  field : field_of (table_there bytes parts s) (cell_slot c) ≡ Some (length s.front + from)
  inside : from + cell_width c ≤ table_end parts

field_stands : (bytes : List ℕ) (parts front back : List Part) (s : Standing bytes parts) (p : Part) (c : Cell) (rest : List Cell) → parts ≡ front ++ p ∷ back
    → cells (table_end parts + length (behind front)) (p ∷ back) ≡ c ∷ rest → shapes rest ≡ part_shapes back
    → cell_slot c ≡ part_slot p → IsWidth (cell_width c) → FieldStands bytes parts s c
field_stands bytes parts front back s p c rest split next same slot_is wide =
    let e = table_end parts in
    let cs = cells e front in
    let r = own_round parts cs rest (cell_width c) wide in
    let all : cells e parts ≡ cs ++ c ∷ rest = ap (cells e) split ∙ cells-append e front (p ∷ back) ∙ ap (λ (x : List Cell). cs ++ x) next in
    let sound : AreParts 0 (front ++ p ∷ back) = subst (AreParts 0) split s.sound in
    let lf : Lacks (cell_slot c) cs = subst (λ (x : ℕ). Lacks x cs) (sym slot_is) (Lacks-parts (part_slot p) cs front (shapes-cells e front) (LacksIn-front 0 front back p sound)) in
    let lb : Lacks (cell_slot c) rest = subst (λ (x : ℕ). Lacks x rest) (sym slot_is) (Lacks-parts (part_slot p) rest back same (LacksIn-back 0 front back p sound)) in
    let place : length r.before ≡ table_place (slot_count parts) + entry (cell_slot c) 4 (by_width (cs ++ c ∷ rest)) = r.place_is c refl lf lb in
    let entry_is : entry (cell_slot c) 4 (by_width (cs ++ c ∷ rest)) ≡ entry (cell_slot c) 4 (by_width (cells 0 parts)) =
    entry_same (cell_slot c) 4 (8 ∷ 4 ∷ 2 ∷ 1 ∷ []) (cs ++ c ∷ rest) (cells 0 parts) (ap shapes (sym all) ∙ shapes-cells e parts ∙ sym (shapes-cells 0 parts)) in
    let own : own_of parts ≡ r.before ++ (cell_bytes (length r.before) c ++ r.after) = ap (table_own parts) all ∙ r.there c refl in
    let mine : Piece (own_of parts) (cell_bytes (length r.before) c) (length r.before) = record { before = r.before; after = r.after; there = own; at = refl } in
    let behind_head = r.behind_head in
    let l = ap length own ∙ length-append r.before (cell_bytes (length r.before) c ++ r.after) in
    let m = length-append (cell_bytes (length r.before) c) r.after in
    let w = length-cell_bytes (length r.before) c in
    let o = length-table_own parts (cells e parts) s.sound (shapes-cells e parts) in
    let ends = table_end-least parts in
    record {
      from = length r.before;
      piece = pieces bytes parts s (cell_bytes (length r.before) c) (length r.before) mine;
      field =
          field_present (table_there bytes parts s) (cell_slot c) (entry (cell_slot c) 4 (by_width (cells 0 parts))) (entry_of-there bytes parts s (cell_slot c)) (omega arith)
          ∙ ap (λ (x : ℕ). Some x) (omega arith);
      inside = omega arith;
    }

number_slot : (bytes : List ℕ) (parts front back : List Part) (s : Standing bytes parts) (slot w v : ℕ) → parts ≡ front ++ Number slot w v ∷ back → scalar_of (table_there bytes parts s) slot w ≡ Ok (Some (v % 256 ^ w))
unfolding scalar_of
number_slot bytes parts front back s slot w v split =
    let next = table_end parts + length (behind front) in
    let later = AreParts-behind 0 front (Number slot w v ∷ back) (subst (AreParts 0) split s.sound) in
    let f = field_stands bytes parts front back s (Number slot w v) (Value slot w v) (cells next back) split refl (shapes-cells next back) refl later.2.2 in
    ap (λ (o : Option ℕ). when_present o (number_at bytes w)) f.field
    ∙ ap (λ (r : Result ℕ BadBuffer). r >>= λ x. Ok (Some x)) (number_back bytes f.piece.before f.piece.after (length s.front + f.from) w v f.piece.there f.piece.at)

record OffsetReads (bytes : List ℕ) (parts : List Part) (s : Standing bytes parts) (slot : ℕ) (object : Laid) : Type 0 where
  place : ℕ
  reference : reference_of (table_there bytes parts s) slot ≡ Ok (Some place)
  leads : LeadsTo bytes place object

offset_slot : (bytes : List ℕ) (parts front back : List Part) (s : Standing bytes parts) (slot : ℕ) (object : Laid) → parts ≡ front ++ Offset slot object ∷ back → OffsetReads bytes parts s slot object
unfolding reference_of
offset_slot bytes parts front back s slot object split =
    let e = table_end parts in
    let next = e + length (behind front) in
    let target = next + object.lead in
    let later = AreParts-behind 0 front (Offset slot object ∷ back) (subst (AreParts 0) split s.sound) in
    let near = later.2.2 in
    let rest = cells (next + length object.bytes) back in
    let f = field_stands bytes parts front back s (Offset slot object) (Target slot target) rest split refl (shapes-cells (next + length object.bytes) back) refl (inr (inr (inl refl))) in
    let from = f.from in
    let inside = f.inside in
    let all = own_inside bytes parts s in
    let behind_is : behind parts ≡ behind front ++ (object.bytes ++ behind back) = ap behind split ∙ behind-append front (Offset slot object ∷ back) in
    let b = ap length behind_is ∙ length-append (behind front) (object.bytes ++ behind back) in
    let small = s.small in
    let own = filled (own_of parts) in
    let o = length-own-filled parts (cells e parts) s.sound (shapes-cells e parts) in
    let a1 = length-append s.front (own ++ behind front) in
    let a2 = length-append own (behind front) in
    record {
      place = length s.front + target;
      reference =
          ap (λ (x : Option ℕ). when_present x (offset_at bytes)) f.field
          ∙ ap (λ (r : Result ℕ BadBuffer). r >>= λ x. Ok (Some x)) (offset_back bytes f.piece.before f.piece.after (length s.front + from) (target - from) f.piece.there f.piece.at (omega arith))
          ∙ ap (λ (n : ℕ). Ok (Some n)) (omega arith);
      leads = record {
        front = s.front ++ (own ++ behind front);
        back = behind back ++ s.back;
        stands = s.stands ∙ ap (λ (x : List ℕ). s.front ++ ((own ++ x) ++ s.back)) behind_is ∙ regroup s.front own (behind front) object.bytes (behind back) s.back;
        leads = omega arith;
      };
    }
  where
    regroup : (f w a x b k : List ℕ) → f ++ ((w ++ (a ++ (x ++ b))) ++ k) ≡ (f ++ (w ++ a)) ++ (x ++ (b ++ k))
    regroup f w a x b k = simp append_assoc

slot_back : (bytes : List ℕ) (parts : List Part) (s : Standing bytes parts) (slot : ℕ) (p : Option Part) → part_at slot parts ≡ p → ReadsSlot (table_there bytes parts s) slot p
slot_back bytes parts s slot None h = absent_back bytes parts s slot h
slot_back bytes parts s slot (Some (Number n w v)) h =
    let f = part_found slot parts (Number n w v) h in
    let split : parts ≡ f.front ++ Number slot w v ∷ f.back = f.split ∙ ap (λ (m : ℕ). f.front ++ Number m w v ∷ f.back) f.slot_is in
    number_slot bytes parts f.front f.back s slot w v split
slot_back bytes parts s slot (Some (Offset n object)) h =
    let f = part_found slot parts (Offset n object) h in
    let split : parts ≡ f.front ++ Offset slot object ∷ f.back = f.split ∙ ap (λ (m : ℕ). f.front ++ Offset m object ∷ f.back) f.slot_is in
    let r = offset_slot bytes parts f.front f.back s slot object split in
    (r.place, r.reference, r.leads)

standing : (bytes : List ℕ) (place : ℕ) (parts : List Part) → length bytes < 2 ^ 31 → AreParts 0 parts → LeadsTo bytes place (table_laid parts) → Standing bytes parts
unfolding table_laid
standing bytes place parts small sound l = record { front = l.front; back = l.back; stands = l.stands; small = small; sound = sound }

-- a table that stands reads back with its parts
pub table_back : (bytes : List ℕ) (place : ℕ) (parts : List Part) → length bytes < 2 ^ 31 → AreParts 0 parts → LeadsTo bytes place (table_laid parts) → ReadsTable bytes place parts
unfolding table_laid standing
table_back bytes place parts small sound l =
    let s = standing bytes place parts small sound l in (
      table_there bytes parts s,
      ap (table_at bytes) l.leads ∙ found bytes parts s,
      record { same = refl; slots = λ slot. slot_back bytes parts s slot (part_at slot parts) refl },
    )
