-- A table's own bytes, round one of its fields.
use Rattle.std.proofs.Common.{◌≡◌, ◌≢◌, ◌≤◌, ◌<◌, ◌+◌, ◌-◌, ◌*◌, inl, inr, ℕ, zero, suc, List, [], ◌∷◌, ◌++◌, length, replicate, refl, sym, ap, ◌∙◌, subst, arith, append_assoc, length-append}
use Rattle.std.proofs.lemmas.List.{length-replicate}
use Rattle.byteorder.specs.Endian.{little_bytes}
use Rattle.byteorder.specs.Numbers.{length-bytes_low_first}
use Rattle.fb_bytes.specs.Layout.{Part, Number, Offset, part_slot, part_width, slot_count, fields_width, Cell, cell_slot, cell_width, cells, by_width, cell_bytes, row_bytes, entry, entries, round_up, filled, vtable, table_place, table_end, table_own}
use Rattle.fb_bytes.specs.Object.{IsWidth}
use Rattle.fb_bytes.specs.ReadBack.{AreParts}
use Rattle.fb_bytes.proofs.CellLemmas.{shapes, part_shapes, Lacks, HasWidths, row_width, row_width-by_width, length-row_bytes, round}

-- Numbers.

pub round_up-least : (n : ℕ) → n ≤ round_up n
unfolding round_up
round_up-least n = omega arith

pub round_up-bound : (n : ℕ) → round_up n ≤ n + 7
unfolding round_up
round_up-bound n = omega arith

pub table_place-least : (n : ℕ) → 4 + 2 * n ≤ table_place n
unfolding table_place
table_place-least n = let h = round_up-least (2 * n) in omega arith

pub table_place-bound : (n : ℕ) → table_place n ≤ 2 * n + 11
unfolding table_place
table_place-bound n = let h = round_up-bound (2 * n) in omega arith

-- Parts that a table can hold.

pub slot_count-bound : (low : ℕ) (ps : List Part) → AreParts low ps → slot_count ps ≤ 64
slot_count-bound low [] h = omega arith
slot_count-bound low (Number slot width value ∷ ps) h = let ih = slot_count-bound (slot + 1) ps h.3 in let s = h.1 in omega arith
slot_count-bound low (Offset slot object ∷ ps) h = let ih = slot_count-bound (slot + 1) ps h.3 in let s = h.1 in omega arith

pub length-parts-bound : (low : ℕ) (ps : List Part) → AreParts low ps → low ≤ 64 → low + length ps ≤ 64
length-parts-bound low [] h l = omega arith
length-parts-bound low (Number slot width value ∷ ps) h l = let s = h.1 in let m = h.0 in let ih = length-parts-bound (slot + 1) ps h.3 (omega arith) in omega arith
length-parts-bound low (Offset slot object ∷ ps) h l = let s = h.1 in let m = h.0 in let ih = length-parts-bound (slot + 1) ps h.3 (omega arith) in omega arith

width-bound : (w : ℕ) → IsWidth w → w ≤ 8
width-bound w (inl e) = omega arith
width-bound w (inr (inl e)) = omega arith
width-bound w (inr (inr (inl e))) = omega arith
width-bound w (inr (inr (inr e))) = omega arith

pub fields_width-bound : (low : ℕ) (ps : List Part) → AreParts low ps → fields_width ps ≤ 8 * length ps
fields_width-bound low [] h = omega arith
fields_width-bound low (Number slot width value ∷ ps) h = let ih = fields_width-bound (slot + 1) ps h.3 in let w = width-bound width h.2 in omega arith
fields_width-bound low (Offset slot object ∷ ps) h = let ih = fields_width-bound (slot + 1) ps h.3 in omega arith

-- Fields whose slots and widths are those of parts.

abbrev width_of : List (ℕ × ℕ) → ℕ
width_of [] = 0
width_of (s ∷ ss) = s.1 + width_of ss

row_width-shapes : (cs : List Cell) → row_width cs ≡ width_of (shapes cs)
row_width-shapes [] = refl
row_width-shapes (c ∷ cs) = ap (λ (n : ℕ). cell_width c + n) (row_width-shapes cs)

fields_width-shapes : (ps : List Part) → fields_width ps ≡ width_of (part_shapes ps)
fields_width-shapes [] = refl
fields_width-shapes (p ∷ ps) = ap (λ (n : ℕ). part_width p + n) (fields_width-shapes ps)

abbrev AreWide : List (ℕ × ℕ) → Type 0
AreWide [] = Unit {0}
AreWide (s ∷ ss) = IsWidth s.1 × AreWide ss

HasWidths-shapes : (cs : List Cell) → AreWide (shapes cs) → HasWidths cs
HasWidths-shapes [] h = tt
HasWidths-shapes (c ∷ cs) h = (h.0, HasWidths-shapes cs h.1)

AreWide-parts : (low : ℕ) (ps : List Part) → AreParts low ps → AreWide (part_shapes ps)
AreWide-parts low [] h = tt
AreWide-parts low (Number slot width value ∷ ps) h = (h.2, AreWide-parts (slot + 1) ps h.3)
AreWide-parts low (Offset slot object ∷ ps) h = (inr (inr (inl refl)), AreWide-parts (slot + 1) ps h.3)

pub row_width-parts : (ps : List Part) (cs : List Cell) → AreParts 0 ps → shapes cs ≡ part_shapes ps → row_width (by_width cs) ≡ fields_width ps
row_width-parts ps cs h e =
    row_width-by_width cs (HasWidths-shapes cs (subst AreWide (sym e) (AreWide-parts 0 ps h)))
    ∙ row_width-shapes cs ∙ ap width_of e ∙ sym (fields_width-shapes ps)

-- no slot of these is this one
abbrev pub LacksIn : ℕ → List (ℕ × ℕ) → Type 0
LacksIn slot [] = Unit {0}
LacksIn slot (s ∷ ss) = (s.0 ≢ slot) × LacksIn slot ss

Lacks-shapes : (slot : ℕ) (cs : List Cell) → LacksIn slot (shapes cs) → Lacks slot cs
Lacks-shapes slot [] h = tt
Lacks-shapes slot (c ∷ cs) h = (h.0, Lacks-shapes slot cs h.1)

pub Lacks-parts : (slot : ℕ) (cs : List Cell) (ps : List Part) → shapes cs ≡ part_shapes ps → LacksIn slot (part_shapes ps) → Lacks slot cs
Lacks-parts slot cs ps e h = Lacks-shapes slot cs (subst (LacksIn slot) (sym e) h)

pub LacksIn-above : (slot low : ℕ) (ps : List Part) → slot < low → AreParts low ps → LacksIn slot (part_shapes ps)
LacksIn-above slot low [] l h = tt
LacksIn-above slot low (Number s width value ∷ ps) l h = let m = h.0 in (omega arith, LacksIn-above slot (s + 1) ps (omega arith) h.3)
LacksIn-above slot low (Offset s object ∷ ps) l h = let m = h.0 in (omega arith, LacksIn-above slot (s + 1) ps (omega arith) h.3)

-- the parts behind a front rise too, from somewhere that is not below
pub AreParts-behind : (low : ℕ) (front back : List Part) → AreParts low (front ++ back) → (above : ℕ) × (low ≤ above) × AreParts above back
AreParts-behind low [] back h = (low, omega arith, h)
AreParts-behind low (Number s width value ∷ ps) back h = let m = h.0 in let r = AreParts-behind (s + 1) ps back h.3 in let k = r.1 in (r.0, omega arith, r.2)
AreParts-behind low (Offset s object ∷ ps) back h = let m = h.0 in let r = AreParts-behind (s + 1) ps back h.3 in let k = r.1 in (r.0, omega arith, r.2)

-- the slot of a part is not that of a part before it
pub LacksIn-front : (low : ℕ) (front back : List Part) (p : Part) → AreParts low (front ++ p ∷ back) → LacksIn (part_slot p) (part_shapes front)
LacksIn-front low [] back p h = tt
LacksIn-front low (Number s width value ∷ ps) back p h =
    let r = AreParts-behind (s + 1) ps (p ∷ back) h.3 in
    let k = r.1 in
    let m = low_of r.0 p back r.2 in
    (omega arith, LacksIn-front (s + 1) ps back p h.3)
  where
    low_of : (above : ℕ) (p : Part) (back : List Part) → AreParts above (p ∷ back) → above ≤ part_slot p
    low_of above (Number slot width value) back h = h.0
    low_of above (Offset slot object) back h = h.0
LacksIn-front low (Offset s object ∷ ps) back p h =
    let r = AreParts-behind (s + 1) ps (p ∷ back) h.3 in
    let k = r.1 in
    let m = low_of r.0 p back r.2 in
    (omega arith, LacksIn-front (s + 1) ps back p h.3)
  where
    low_of : (above : ℕ) (p : Part) (back : List Part) → AreParts above (p ∷ back) → above ≤ part_slot p
    low_of above (Number slot width value) back h = h.0
    low_of above (Offset slot object) back h = h.0

LacksIn-next : (above : ℕ) (p : Part) (back : List Part) → AreParts above (p ∷ back) → LacksIn (part_slot p) (part_shapes back)
LacksIn-next above (Number slot width value) back h = LacksIn-above slot (slot + 1) back (omega arith) h.3
LacksIn-next above (Offset slot object) back h = LacksIn-above slot (slot + 1) back (omega arith) h.3

-- nor that of a part behind it
pub LacksIn-back : (low : ℕ) (front back : List Part) (p : Part) → AreParts low (front ++ p ∷ back) → LacksIn (part_slot p) (part_shapes back)
LacksIn-back low front back p h = let r = AreParts-behind low front (p ∷ back) h in LacksIn-next r.0 p back r.2

-- Lengths.

pub length-little : (n x : ℕ) → length (little_bytes n x) ≡ n
length-little n x = length-bytes_low_first 0 n x

pub length-entries : (n : ℕ) (cs : List Cell) → length (entries n cs) ≡ 2 * n
length-entries zero cs = refl
length-entries (suc n) cs =
    let ih = length-entries n cs in
    let e = length-append (entries n cs) (little_bytes 2 (entry n 4 cs)) in
    omega arith

pub length-vtable : (parts : List Part) → length (vtable parts) ≡ 4 + 2 * slot_count parts
unfolding vtable
length-vtable parts = let e = length-entries (slot_count parts) (by_width (cells 0 parts)) in omega arith

pub length-filled : (xs : List ℕ) → length (filled xs) ≡ round_up (length xs)
unfolding filled
length-filled xs =
    let e = length-append xs (replicate (round_up (length xs) - length xs) 0) in
    let r = length-replicate {A = ℕ} (round_up (length xs) - length xs) 0 in
    let l = round_up-least (length xs) in
    omega arith

-- what stands before the fields of a table
pub head_of : List Part → List ℕ
head_of parts = vtable parts ++ (replicate (table_place (slot_count parts) - (4 + 2 * slot_count parts)) 0 ++ little_bytes 4 (table_place (slot_count parts)))

pub length-head_of : (parts : List Part) → length (head_of parts) ≡ table_place (slot_count parts) + 4
unfolding head_of
length-head_of parts =
    let place = table_place (slot_count parts) in
    let pad = place - (4 + 2 * slot_count parts) in
    let v = length-vtable parts in
    let r = length-replicate {A = ℕ} pad 0 in
    let a = length-append (vtable parts) (replicate pad 0 ++ little_bytes 4 place) in
    let b = length-append (replicate {A = ℕ} pad 0) (little_bytes 4 place) in
    let l = table_place-least (slot_count parts) in
    omega arith

pub table_own-head : (parts : List Part) (cs : List Cell) → table_own parts cs ≡ head_of parts ++ row_bytes (table_place (slot_count parts) + 4) (by_width cs)
unfolding table_own head_of
table_own-head parts cs = simp append_assoc

pub length-table_own : (parts : List Part) (cs : List Cell) → AreParts 0 parts → shapes cs ≡ part_shapes parts → length (table_own parts cs) ≡ table_place (slot_count parts) + 4 + fields_width parts
length-table_own parts cs h e =
    let place = table_place (slot_count parts) in
    ap length (table_own-head parts cs) ∙ length-append (head_of parts) (row_bytes (place + 4) (by_width cs))
    ∙ ap (λ (n : ℕ). n + length (row_bytes (place + 4) (by_width cs))) (length-head_of parts)
    ∙ ap (λ (n : ℕ). place + 4 + n) (length-row_bytes (place + 4) (by_width cs) ∙ row_width-parts parts cs h e)

-- the table's own bytes end where the objects begin that it leads to
pub length-own-filled : (parts : List Part) (cs : List Cell) → AreParts 0 parts → shapes cs ≡ part_shapes parts → length (filled (table_own parts cs)) ≡ table_end parts
unfolding table_end
length-own-filled parts cs h e = length-filled (table_own parts cs) ∙ ap round_up (length-table_own parts cs h e)

-- A table's own bytes round one field, whatever stands in it.
pub record OwnRound (parts : List Part) (front back : List Cell) (w : ℕ) : Type 0 where
  pub before : List ℕ
  pub after : List ℕ
  pub behind_head : table_place (slot_count parts) + 4 ≤ length before
  pub there : (c : Cell) → cell_width c ≡ w → table_own parts (front ++ c ∷ back) ≡ before ++ (cell_bytes (length before) c ++ after)
  pub place_is : (c : Cell) → cell_width c ≡ w → Lacks (cell_slot c) front → Lacks (cell_slot c) back → length before ≡ table_place (slot_count parts) + entry (cell_slot c) 4 (by_width (front ++ c ∷ back))

pub own_round : (parts : List Part) (front back : List Cell) (w : ℕ) → IsWidth w → OwnRound parts front back w
own_round parts front back w h =
    let place = table_place (slot_count parts) in
    let r = round (place + 4) w front back h in
    let n : length (head_of parts ++ r.before) ≡ place + 4 + length r.before = length-append (head_of parts) r.before ∙ ap (λ (m : ℕ). m + length r.before) (length-head_of parts) in
    record {
      before = head_of parts ++ r.before;
      after = r.after;
      behind_head = omega arith;
      there = λ c e.
          table_own-head parts (front ++ c ∷ back) ∙ ap (λ (x : List ℕ). head_of parts ++ x) (r.there c e)
          ∙ sym (append_assoc (head_of parts) r.before (cell_bytes (place + 4 + length r.before) c ++ r.after))
          ∙ ap (λ (m : ℕ). (head_of parts ++ r.before) ++ (cell_bytes m c ++ r.after)) (sym n);
      place_is = λ c e f k. let q = r.entry_is c e f k in omega arith;
    }
