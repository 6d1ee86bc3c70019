-- Fields by width: where they stand, whatever stands in them.
use Rattle.std.proofs.Common.{◌≡◌, ◌≢◌, ◌+◌, inl, inr, ℕ, zero, suc, Bool, true, false, cond, eqb, List, [], ◌∷◌, ◌++◌, length, map, filter, refl, sym, ap, ◌∙◌, subst, arith, append_assoc, length-append}
use Rattle.byteorder.specs.Endian.{little_bytes}
use Rattle.byteorder.specs.Numbers.{length-bytes_low_first}
use Rattle.fb_bytes.specs.Layout.{Part, Number, Offset, part_slot, part_width, Cell, Value, Target, cell_slot, cell_width, cells, of_width, by_widths, by_width, cell_bytes, row_bytes, entry, entries}
use Rattle.fb_bytes.specs.Object.{IsWidth}
use Rattle.fb_bytes.specs.Writing.{blanks}

-- Where a field stands depends on the slots and widths alone.

abbrev shape : Cell → ℕ × ℕ
shape c = (cell_slot c, cell_width c)

abbrev pub shapes : List Cell → List (ℕ × ℕ)
shapes cs = map shape cs

entry_in : ℕ → ℕ → List (ℕ × ℕ) → ℕ
entry_in slot from [] = 0
entry_in slot from (s ∷ ss) = cond (eqb s.0 slot) from (entry_in slot (from + s.1) ss)

entry-shapes : (slot from : ℕ) (cs : List Cell) → entry slot from cs ≡ entry_in slot from (shapes cs)
unfolding entry_in
entry-shapes slot from [] = refl
entry-shapes slot from (c ∷ cs) = ap (λ (r : ℕ). cond (eqb (cell_slot c) slot) from r) (entry-shapes slot (from + cell_width c) cs)

abbrev shapes_of_width : ℕ → List (ℕ × ℕ) → List (ℕ × ℕ)
shapes_of_width w ss = filter (λ s. eqb s.1 w) ss

shapes_by : List ℕ → List (ℕ × ℕ) → List (ℕ × ℕ)
shapes_by [] ss = []
shapes_by (w ∷ ws) ss = shapes_of_width w ss ++ shapes_by ws ss

shapes-append : (xs ys : List Cell) → shapes (xs ++ ys) ≡ shapes xs ++ shapes ys
shapes-append [] ys = refl
shapes-append (x ∷ xs) ys = ap (λ (r : List (ℕ × ℕ)). shape x ∷ r) (shapes-append xs ys)

shapes_kept : (b : Bool) (c : Cell) (xs : List Cell) (ys : List (ℕ × ℕ)) → shapes xs ≡ ys → shapes (cond b (c ∷ xs) xs) ≡ cond b (shape c ∷ ys) ys
shapes_kept true c xs ys e = ap (λ (r : List (ℕ × ℕ)). shape c ∷ r) e
shapes_kept false c xs ys e = e

shapes-of_width : (w : ℕ) (cs : List Cell) → shapes (of_width w cs) ≡ shapes_of_width w (shapes cs)
shapes-of_width w [] = refl
shapes-of_width w (c ∷ cs) = shapes_kept (eqb (cell_width c) w) c (of_width w cs) _ (shapes-of_width w cs)

shapes-by_widths : (ws : List ℕ) (cs : List Cell) → shapes (by_widths ws cs) ≡ shapes_by ws (shapes cs)
unfolding shapes_by
shapes-by_widths [] cs = refl
shapes-by_widths (w ∷ ws) cs =
    shapes-append (of_width w cs) (by_widths ws cs)
    ∙ ap (λ (r : List (ℕ × ℕ)). r ++ shapes (by_widths ws cs)) (shapes-of_width w cs)
    ∙ ap (λ (r : List (ℕ × ℕ)). shapes_of_width w (shapes cs) ++ r) (shapes-by_widths ws cs)

pub entry_same : (slot from : ℕ) (ws : List ℕ) (a b : List Cell) → shapes a ≡ shapes b → entry slot from (by_widths ws a) ≡ entry slot from (by_widths ws b)
entry_same slot from ws a b e =
    entry-shapes slot from (by_widths ws a) ∙ ap (entry_in slot from) (shapes-by_widths ws a ∙ ap (shapes_by ws) e ∙ sym (shapes-by_widths ws b)) ∙ sym (entry-shapes slot from (by_widths ws b))

pub entries_same : (n : ℕ) (ws : List ℕ) (a b : List Cell) → shapes a ≡ shapes b → entries n (by_widths ws a) ≡ entries n (by_widths ws b)
entries_same zero ws a b e = refl
entries_same (suc n) ws a b e =
    ap (λ (r : List ℕ). r ++ little_bytes 2 (entry n 4 (by_widths ws a))) (entries_same n ws a b e)
    ∙ ap (λ (r : ℕ). entries n (by_widths ws b) ++ little_bytes 2 r) (entry_same n 4 ws a b e)

abbrev pub part_shapes : List Part → List (ℕ × ℕ)
part_shapes ps = map (λ p. (part_slot p, part_width p)) ps

pub shapes-cells : (next : ℕ) (ps : List Part) → shapes (cells next ps) ≡ part_shapes ps
shapes-cells next [] = refl
shapes-cells next (Number slot width value ∷ ps) = ap (λ (r : List (ℕ × ℕ)). (slot, width) ∷ r) (shapes-cells next ps)
shapes-cells next (Offset slot object ∷ ps) = ap (λ (r : List (ℕ × ℕ)). (slot, 4) ∷ r) (shapes-cells (next + length object.bytes) ps)

pub shapes-blanks : (ps : List Part) → shapes (blanks ps) ≡ part_shapes ps
shapes-blanks [] = refl
shapes-blanks (Number slot width value ∷ ps) = ap (λ (r : List (ℕ × ℕ)). (slot, width) ∷ r) (shapes-blanks ps)
shapes-blanks (Offset slot object ∷ ps) = ap (λ (r : List (ℕ × ℕ)). (slot, 4) ∷ r) (shapes-blanks ps)

-- fields of which the first are laid out and the others blank
pub shapes-begun : (next : ℕ) (front back : List Part) → shapes (cells next front ++ blanks back) ≡ part_shapes (front ++ back)
shapes-begun next [] back = shapes-blanks back
shapes-begun next (Number slot width value ∷ ps) back = ap (λ (r : List (ℕ × ℕ)). (slot, width) ∷ r) (shapes-begun next ps back)
shapes-begun next (Offset slot object ∷ ps) back = ap (λ (r : List (ℕ × ℕ)). (slot, 4) ∷ r) (shapes-begun (next + length object.bytes) ps back)

-- The bytes of fields one after the other.

abbrev pub row_width : List Cell → ℕ
row_width [] = 0
row_width (c ∷ cs) = cell_width c + row_width cs

pub row_width-append : (xs ys : List Cell) → row_width (xs ++ ys) ≡ row_width xs + row_width ys
row_width-append [] ys = omega arith
row_width-append (x ∷ xs) ys = let ih = row_width-append xs ys in omega arith

pub length-cell_bytes : (place : ℕ) (c : Cell) → length (cell_bytes place c) ≡ cell_width c
length-cell_bytes place (Value slot width value) = length-bytes_low_first 0 width value
length-cell_bytes place (Target slot target) = refl

pub length-row_bytes : (place : ℕ) (cs : List Cell) → length (row_bytes place cs) ≡ row_width cs
length-row_bytes place [] = refl
length-row_bytes place (c ∷ cs) =
    length-append (cell_bytes place c) (row_bytes (place + cell_width c) cs) ∙ ap (λ (r : ℕ). r + length (row_bytes (place + cell_width c) cs)) (length-cell_bytes place c) ∙ ap (λ (r : ℕ). cell_width c + r) (length-row_bytes (place + cell_width c) cs)

pub row_bytes-append : (place : ℕ) (xs ys : List Cell) → row_bytes place (xs ++ ys) ≡ row_bytes place xs ++ row_bytes (place + row_width xs) ys
row_bytes-append place [] ys = ap (λ (p : ℕ). row_bytes p ys) (omega arith)
row_bytes-append place (c ∷ cs) ys =
    ap (λ (r : List ℕ). cell_bytes place c ++ r) (row_bytes-append (place + cell_width c) cs ys)
    ∙ sym (append_assoc (cell_bytes place c) (row_bytes (place + cell_width c) cs) (row_bytes (place + cell_width c + row_width cs) ys))
    ∙ ap (λ (p : ℕ). (cell_bytes place c ++ row_bytes (place + cell_width c) cs) ++ row_bytes p ys) (omega arith)

-- no field is of the slot
abbrev pub Lacks : ℕ → List Cell → Type 0
Lacks slot [] = Unit {0}
Lacks slot (c ∷ cs) = (cell_slot c ≢ slot) × Lacks slot cs

pub Lacks-append : (slot : ℕ) (xs ys : List Cell) → Lacks slot xs → Lacks slot ys → Lacks slot (xs ++ ys)
Lacks-append slot [] ys a b = b
Lacks-append slot (x ∷ xs) ys a b = (a.0, Lacks-append slot xs ys a.1 b)

Lacks_kept : (b : Bool) (slot : ℕ) (c : Cell) (xs : List Cell) → (cell_slot c ≢ slot) → Lacks slot xs → Lacks slot (cond b (c ∷ xs) xs)
Lacks_kept true slot c xs h t = (h, t)
Lacks_kept false slot c xs h t = t

Lacks-of_width : (slot w : ℕ) (cs : List Cell) → Lacks slot cs → Lacks slot (of_width w cs)
Lacks-of_width slot w [] h = tt
Lacks-of_width slot w (c ∷ cs) h = Lacks_kept (eqb (cell_width c) w) slot c (of_width w cs) h.0 (Lacks-of_width slot w cs h.1)

pub Lacks-by_widths : (slot : ℕ) (ws : List ℕ) (cs : List Cell) → Lacks slot cs → Lacks slot (by_widths ws cs)
Lacks-by_widths slot [] cs h = tt
Lacks-by_widths slot (w ∷ ws) cs h =
    Lacks-append slot (of_width w cs) (by_widths ws cs) (Lacks-of_width slot w cs h) (Lacks-by_widths slot ws cs h)

cond_false : {A : Type 0} (m n : ℕ) (x y : A) → m ≢ n → cond (eqb m n) x y ≡ y
cond_false m n x y h = grind arith

cond_true : {A : Type 0} (m n : ℕ) (x y : A) → m ≡ n → cond (eqb m n) x y ≡ x
cond_true m n x y h = grind arith

pub entry-append : (slot from : ℕ) (xs ys : List Cell) → Lacks slot xs → entry slot from (xs ++ ys) ≡ entry slot (from + row_width xs) ys
entry-append slot from [] ys h = ap (λ (p : ℕ). entry slot p ys) (omega arith)
entry-append slot from (c ∷ cs) ys h =
    cond_false (cell_slot c) slot from _ h.0 ∙ entry-append slot (from + cell_width c) cs ys h.1 ∙ ap (λ (p : ℕ). entry slot p ys) (omega arith)

pub entry_here : (slot from : ℕ) (c : Cell) (ys : List Cell) → cell_slot c ≡ slot → entry slot from (c ∷ ys) ≡ from
entry_here slot from c ys h = cond_true (cell_slot c) slot from _ h

pub entry_absent : (slot from : ℕ) (cs : List Cell) → Lacks slot cs → entry slot from cs ≡ 0
entry_absent slot from [] h = refl
entry_absent slot from (c ∷ cs) h = cond_false (cell_slot c) slot from _ h.0 ∙ entry_absent slot (from + cell_width c) cs h.1

-- One field among the others, by width.

of_width-append : (w : ℕ) (xs ys : List Cell) → of_width w (xs ++ ys) ≡ of_width w xs ++ of_width w ys
of_width-append w [] ys = refl
of_width-append w (x ∷ xs) ys = kept (eqb (cell_width x) w) _ _ _ (of_width-append w xs ys)
  where
    kept : (b : Bool) (l m n : List Cell) → l ≡ m ++ n → cond b (x ∷ l) l ≡ cond b (x ∷ m) m ++ n
    kept true l m n e = ap (λ (r : List Cell). x ∷ r) e
    kept false l m n e = e

of_width-hit : (w : ℕ) (front back : List Cell) (c : Cell) → cell_width c ≡ w → of_width w (front ++ c ∷ back) ≡ of_width w front ++ c ∷ of_width w back
of_width-hit w front back c h =
    of_width-append w front (c ∷ back) ∙ ap (λ (r : List Cell). of_width w front ++ r) (cond_true (cell_width c) w (c ∷ of_width w back) (of_width w back) h)

of_width-miss : (w : ℕ) (front back : List Cell) (c : Cell) → cell_width c ≢ w → of_width w (front ++ c ∷ back) ≡ of_width w (front ++ back)
of_width-miss w front back c h =
    of_width-append w front (c ∷ back) ∙ ap (λ (r : List Cell). of_width w front ++ r) (cond_false (cell_width c) w (c ∷ of_width w back) (of_width w back) h) ∙ sym (of_width-append w front back)

-- none of the widths is w
abbrev Misses : ℕ → List ℕ → Type 0
Misses w [] = Unit {0}
Misses w (u ∷ us) = (w ≢ u) × Misses w us

by_widths-miss : (ws : List ℕ) (front back : List Cell) (c : Cell) → Misses (cell_width c) ws → by_widths ws (front ++ c ∷ back) ≡ by_widths ws (front ++ back)
by_widths-miss [] front back c h = refl
by_widths-miss (w ∷ ws) front back c h =
    ap (λ (r : List Cell). r ++ by_widths ws (front ++ c ∷ back)) (of_width-miss w front back c h.0) ∙ ap (λ (r : List Cell). of_width w (front ++ back) ++ r) (by_widths-miss ws front back c h.1)

by_widths-append : (us vs : List ℕ) (cs : List Cell) → by_widths (us ++ vs) cs ≡ by_widths us cs ++ by_widths vs cs
by_widths-append [] vs cs = refl
by_widths-append (u ∷ us) vs cs =
    ap (λ (r : List Cell). of_width u cs ++ r) (by_widths-append us vs cs) ∙ sym (append_assoc (of_width u cs) (by_widths us cs) (by_widths vs cs))

-- a field of width w between these others stands between these, by width
pub record Between (ws : List ℕ) (front back : List Cell) (w : ℕ) : Type 0 where
  pub before : List Cell
  pub after : List Cell
  pub there : (c : Cell) → cell_width c ≡ w → by_widths ws (front ++ c ∷ back) ≡ before ++ c ∷ after
  pub others : by_widths ws (front ++ back) ≡ before ++ after
  pub lacks : (slot : ℕ) → Lacks slot front → Lacks slot back → Lacks slot before

between : (us vs : List ℕ) (w : ℕ) (front back : List Cell) → Misses w us → Misses w vs → Between (us ++ w ∷ vs) front back w
between us vs w front back hu hv = record {
  before = by_widths us (front ++ back) ++ of_width w front;
  after = of_width w back ++ by_widths vs (front ++ back);
  there = λ c h.
      let miss_u : Misses (cell_width c) us = subst (λ (x : ℕ). Misses x us) (sym h) hu in
      let miss_v : Misses (cell_width c) vs = subst (λ (x : ℕ). Misses x vs) (sym h) hv in
      by_widths-append us (w ∷ vs) (front ++ c ∷ back)
      ∙ ap (λ (r : List Cell). r ++ by_widths (w ∷ vs) (front ++ c ∷ back)) (by_widths-miss us front back c miss_u)
      ∙ ap (λ (r : List Cell). by_widths us (front ++ back) ++ (r ++ by_widths vs (front ++ c ∷ back))) (of_width-hit w front back c h)
      ∙ ap (λ (r : List Cell). by_widths us (front ++ back) ++ ((of_width w front ++ c ∷ of_width w back) ++ r)) (by_widths-miss vs front back c miss_v)
      ∙ simp append_assoc;
  others =
      by_widths-append us (w ∷ vs) (front ++ back)
      ∙ ap (λ (r : List Cell). by_widths us (front ++ back) ++ (r ++ by_widths vs (front ++ back))) (of_width-append w front back)
      ∙ simp append_assoc;
  lacks = λ slot f b. Lacks-append slot (by_widths us (front ++ back)) (of_width w front) (Lacks-by_widths slot us (front ++ back) (Lacks-append slot front back f b)) (Lacks-of_width slot w front f);
}

-- a field of 1, 2, 4 or 8 bytes
pub between_widths : (w : ℕ) (front back : List Cell) → IsWidth w → Between (8 ∷ 4 ∷ 2 ∷ 1 ∷ []) front back w
between_widths w front back (inl e) = subst (Between (8 ∷ 4 ∷ 2 ∷ 1 ∷ []) front back) (sym e) (between (8 ∷ 4 ∷ 2 ∷ []) [] 1 front back (omega arith, (omega arith, (omega arith, tt))) tt)
between_widths w front back (inr (inl e)) = subst (Between (8 ∷ 4 ∷ 2 ∷ 1 ∷ []) front back) (sym e) (between (8 ∷ 4 ∷ []) (1 ∷ []) 2 front back (omega arith, (omega arith, tt)) (omega arith, tt))
between_widths w front back (inr (inr (inl e))) = subst (Between (8 ∷ 4 ∷ 2 ∷ 1 ∷ []) front back) (sym e) (between (8 ∷ []) (2 ∷ 1 ∷ []) 4 front back (omega arith, tt) (omega arith, (omega arith, tt)))
between_widths w front back (inr (inr (inr e))) = subst (Between (8 ∷ 4 ∷ 2 ∷ 1 ∷ []) front back) (sym e) (between [] (4 ∷ 2 ∷ 1 ∷ []) 8 front back tt (omega arith, (omega arith, (omega arith, tt))))

-- every field has 1, 2, 4 or 8 bytes
abbrev pub HasWidths : List Cell → Type 0
HasWidths [] = Unit {0}
HasWidths (c ∷ cs) = IsWidth (cell_width c) × HasWidths cs

-- by width, the fields take as many bytes as before
pub row_width-by_width : (cs : List Cell) → HasWidths cs → row_width (by_width cs) ≡ row_width cs
row_width-by_width [] h = refl
row_width-by_width (c ∷ cs) h =
    let b = between_widths (cell_width c) [] cs h.0 in
    let ih = row_width-by_width cs h.1 in
    let there : row_width (by_width (c ∷ cs)) ≡ row_width b.before + (cell_width c + row_width b.after) = ap row_width (b.there c refl) ∙ row_width-append b.before (c ∷ b.after) in
    let others : row_width (by_width cs) ≡ row_width b.before + row_width b.after = ap row_width b.others ∙ row_width-append b.before b.after in
    omega arith

-- The bytes of a row of fields that begins at a place, round one field: what stands before and behind it,
-- whatever stands in the field, as long as it keeps its width.
pub record Round (place : ℕ) (front back : List Cell) (w : ℕ) : Type 0 where
  pub before : List ℕ
  pub after : List ℕ
  pub there : (c : Cell) → cell_width c ≡ w → row_bytes place (by_width (front ++ c ∷ back)) ≡ before ++ (cell_bytes (place + length before) c ++ after)
  pub entry_is : (c : Cell) → cell_width c ≡ w → Lacks (cell_slot c) front → Lacks (cell_slot c) back → entry (cell_slot c) 4 (by_width (front ++ c ∷ back)) ≡ 4 + length before

pub round : (place w : ℕ) (front back : List Cell) → IsWidth w → Round place front back w
round place w front back h =
    let b = between_widths w front back h in
    let n : length (row_bytes place b.before) ≡ row_width b.before = length-row_bytes place b.before in
    record {
      before = row_bytes place b.before;
      after = row_bytes (place + row_width b.before + w) b.after;
      there = λ c e.
          ap (row_bytes place) (b.there c e) ∙ row_bytes-append place b.before (c ∷ b.after)
          ∙ ap (λ (p : ℕ). row_bytes place b.before ++ (cell_bytes (place + p) c ++ row_bytes (place + row_width b.before + cell_width c) b.after)) (sym n)
          ∙ ap (λ (p : ℕ). row_bytes place b.before ++ (cell_bytes (place + length (row_bytes place b.before)) c ++ row_bytes (place + row_width b.before + p) b.after)) e;
      entry_is = λ c e f k.
          ap (entry (cell_slot c) 4) (b.there c e) ∙ entry-append (cell_slot c) 4 b.before (c ∷ b.after) (b.lacks (cell_slot c) f k)
          ∙ entry_here (cell_slot c) (4 + row_width b.before) c b.after refl ∙ ap (λ (p : ℕ). 4 + p) (sym n);
    }
