-- A table or a vector of offsets of which the first objects stand: how one more object changes it.
use Rattle.std.proofs.Common.{◌≡◌, ◌+◌, ◌-◌, ◌*◌, ℕ, inl, inr, List, [], ◌∷◌, ◌++◌, length, take, drop, replicate, refl, sym, ap, ◌∙◌, subst, arith, append_assoc, length-append}
use Rattle.std.proofs.lemmas.List.{append-nil, take_at, drop_at, replicate-append-replicate, length-replicate}
use Rattle.byteorder.specs.Endian.{little_bytes}
use Rattle.byteorder.specs.Numbers.{length-bytes_low_first}
use Rattle.fb_bytes.specs.Layout.{Laid, Part, Number, Offset, slot_count, Cell, Value, Target, cells, behind, by_width, entry, round_up, filled, table_place, table_end, table_own, table_laid, offsets, in_order, tables_laid}
use Rattle.fb_bytes.specs.ReadBack.{AreParts}
use Rattle.fb_bytes.specs.Writing.{blanks}
use Rattle.fb_bytes.proofs.CellLemmas.{shapes, part_shapes, shapes-begun, shapes-blanks, shapes-cells, Lacks, entry_same}
use Rattle.fb_bytes.proofs.TableLemmas.{length-own-filled, length-filled, own_round, Lacks-parts, LacksIn-front, LacksIn-back}

-- four bytes among others are written over
pub patched : (p : ℕ) (o h z x k b out : List ℕ) → length z ≡ 4 → p ≡ length o + length h → out ≡ o ++ ((h ++ (z ++ k)) ++ b) → take p out ++ (x ++ drop (p + 4) out) ≡ o ++ ((h ++ (x ++ k)) ++ b)
patched p o h z x k b out four at e =
    let first : out ≡ (o ++ h) ++ (z ++ (k ++ b)) = e ∙ simp append_assoc in
    let second : out ≡ ((o ++ h) ++ z) ++ (k ++ b) = e ∙ simp append_assoc in
    let n : length (o ++ h) ≡ p = length-append o h ∙ sym at in
    let m : length ((o ++ h) ++ z) ≡ p + 4 = length-append (o ++ h) z ∙ (omega arith) in
    let front : take p out ≡ o ++ h = ap (take p) first ∙ take_at (o ++ h) (z ++ (k ++ b)) p n in
    let back : drop (p + 4) out ≡ k ++ b = ap (drop (p + 4)) second ∙ drop_at ((o ++ h) ++ z) (k ++ b) (p + 4) m in
    ap (λ (r : List ℕ). r ++ (x ++ drop (p + 4) out)) front ∙ ap (λ (r : List ℕ). (o ++ h) ++ (x ++ r)) back ∙ simp append_assoc

regroup : (o x b c : List ℕ) → (o ++ (x ++ b)) ++ c ≡ o ++ (x ++ (b ++ c))
regroup o x b c = simp append_assoc

-- the zeros that fill up n bytes
pub pad : ℕ → List ℕ
pad n = replicate (round_up n - n) 0

pub filled_round : (h z k : List ℕ) (n : ℕ) → length z ≡ n → filled (h ++ (z ++ k)) ≡ h ++ (z ++ (k ++ pad (length h + (n + length k))))
unfolding filled pad
filled_round h z k n e =
    let l : length (h ++ (z ++ k)) ≡ length h + (n + length k) = length-append h (z ++ k) ∙ ap (λ (m : ℕ). length h + m) (length-append z k ∙ ap (λ (m : ℕ). m + length k) e) in
    ap (λ (m : ℕ). (h ++ (z ++ k)) ++ replicate (round_up m - m) 0) l ∙ simp append_assoc

pub cells-append : (next : ℕ) (xs ys : List Part) → cells next (xs ++ ys) ≡ cells next xs ++ cells (next + length (behind xs)) ys
cells-append next [] ys = ap (λ (n : ℕ). cells n ys) (omega arith)
cells-append next (Number slot width value ∷ xs) ys = ap (λ (r : List Cell). Value slot width value ∷ r) (cells-append next xs ys)
cells-append next (Offset slot object ∷ xs) ys =
    let l = length-append object.bytes (behind xs) in
    ap (λ (r : List Cell). Target slot (next + object.lead) ∷ r) (cells-append (next + length object.bytes) xs ys ∙ ap (λ (n : ℕ). cells (next + length object.bytes) xs ++ cells n ys) (omega arith))

pub behind-append : (xs ys : List Part) → behind (xs ++ ys) ≡ behind xs ++ behind ys
behind-append [] ys = refl
behind-append (Number slot width value ∷ xs) ys = behind-append xs ys
behind-append (Offset slot object ∷ xs) ys = ap (λ (r : List ℕ). object.bytes ++ r) (behind-append xs ys) ∙ sym (append_assoc object.bytes (behind xs) (behind ys))

-- A table of which the objects of the parts in front stand, and those of the parts behind do not yet.
unfoldable pub begun : List Part → List Part → List Part → List ℕ
begun parts front back = filled (table_own parts (cells (table_end parts) front ++ blanks back)) ++ behind front

pub begun_start : (parts : List Part) → begun parts [] parts ≡ filled (table_own parts (blanks parts))
unfolding begun
begun_start parts = append-nil (filled (table_own parts (blanks parts)))

pub begun_end : (parts : List Part) → begun parts parts [] ≡ (table_laid parts).bytes
unfolding begun table_laid
begun_end parts = ap (λ (cs : List Cell). filled (table_own parts cs) ++ behind parts) (append-nil (cells (table_end parts) parts))

-- a number stands from the first on
pub begun_number : (parts front back : List Part) (slot width value : ℕ) → begun parts (front ++ Number slot width value ∷ []) back ≡ begun parts front (Number slot width value ∷ back)
unfolding begun
begun_number parts front back slot width value =
    let e = table_end parts in
    let c : cells e (front ++ Number slot width value ∷ []) ++ blanks back ≡ cells e front ++ (Value slot width value ∷ blanks back) =
    ap (λ (cs : List Cell). cs ++ blanks back) (cells-append e front (Number slot width value ∷ [])) ∙ append_assoc (cells e front) (Value slot width value ∷ []) (blanks back) in
    let b : behind (front ++ Number slot width value ∷ []) ≡ behind front = behind-append front (Number slot width value ∷ []) ∙ append-nil (behind front) in
    ap (λ (cs : List Cell). filled (table_own parts cs) ++ behind (front ++ Number slot width value ∷ [])) c
    ∙ ap (λ (bs : List ℕ). filled (table_own parts (cells e front ++ (Value slot width value ∷ blanks back))) ++ bs) b

-- an object was appended, and its offset written over the zeros
pub begun_child : (parts front back : List Part) (slot : ℕ) (object : Laid) (p v lead : ℕ) (o was out : List ℕ) → AreParts 0 parts → parts ≡ front ++ Offset slot object ∷ back
    → was ≡ o ++ begun parts front (Offset slot object ∷ back) → out ≡ was ++ object.bytes
    → p ≡ length o + table_place (slot_count parts) + entry slot 4 (by_width (blanks parts)) → lead ≡ object.lead → v ≡ length was + lead - p
    → take p out ++ (little_bytes 4 v ++ drop (p + 4) out) ≡ o ++ begun parts (front ++ Offset slot object ∷ []) back
unfolding begun
begun_child parts front back slot object p v lead o was out sound split w q at led vis =
    let e = table_end parts in
    let cs = cells e front in
    let bs = blanks back in
    let r = own_round parts cs bs 4 (inr (inr (inl refl))) in
    let target = e + length (behind front) + object.lead in
    let zeros : Cell = Value slot 4 0 in
    let set : Cell = Target slot target in
    let begun_shapes : shapes (cs ++ zeros ∷ bs) ≡ part_shapes parts = shapes-begun e front (Offset slot object ∷ back) ∙ ap part_shapes (sym split) in
    let sound' : AreParts 0 (front ++ Offset slot object ∷ back) = subst (AreParts 0) split sound in
    let lf : Lacks slot cs = Lacks-parts slot cs front (shapes-cells e front) (LacksIn-front 0 front back (Offset slot object) sound') in
    let lb : Lacks slot bs = Lacks-parts slot bs back (shapes-blanks back) (LacksIn-back 0 front back (Offset slot object) sound') in
    let place : length r.before ≡ table_place (slot_count parts) + entry slot 4 (by_width (blanks parts)) =
    r.place_is zeros refl lf lb
    ∙ ap (λ (n : ℕ). table_place (slot_count parts) + n) (entry_same slot 4 (8 ∷ 4 ∷ 2 ∷ 1 ∷ []) (cs ++ zeros ∷ bs) (blanks parts) (begun_shapes ∙ sym (shapes-blanks parts))) in
    let own_was : table_own parts (cs ++ zeros ∷ bs) ≡ r.before ++ (little_bytes 4 0 ++ r.after) = r.there zeros refl in
    let own_now : table_own parts (cs ++ set ∷ bs) ≡ r.before ++ (little_bytes 4 (target - length r.before) ++ r.after) = r.there set refl in
    let k = r.after ++ pad (length r.before + (4 + length r.after)) in
    let filled_was : filled (table_own parts (cs ++ zeros ∷ bs)) ≡ r.before ++ (little_bytes 4 0 ++ k) = ap filled own_was ∙ filled_round r.before (little_bytes 4 0) r.after 4 refl in
    let filled_now : filled (table_own parts (cs ++ set ∷ bs)) ≡ r.before ++ (little_bytes 4 (target - length r.before) ++ k) =
    ap filled own_now ∙ filled_round r.before (little_bytes 4 (target - length r.before)) r.after 4 (length-bytes_low_first 0 4 (target - length r.before)) in
    let whole : out ≡ o ++ ((r.before ++ (little_bytes 4 0 ++ k)) ++ (behind front ++ object.bytes)) =
    q ∙ ap (λ (x : List ℕ). x ++ object.bytes) w ∙ ap (λ (x : List ℕ). (o ++ (x ++ behind front)) ++ object.bytes) filled_was ∙ regroup o (r.before ++ (little_bytes 4 0 ++ k)) (behind front) object.bytes in
    let stood : length was ≡ length o + (e + length (behind front)) =
    ap length w ∙ length-append o (filled (table_own parts (cs ++ zeros ∷ bs)) ++ behind front)
    ∙ ap (λ (n : ℕ). length o + n) (length-append (filled (table_own parts (cs ++ zeros ∷ bs))) (behind front) ∙ ap (λ (n : ℕ). n + length (behind front)) (length-own-filled parts (cs ++ zeros ∷ bs) sound begun_shapes)) in
    let value : v ≡ target - length r.before = omega arith in
    let now_cells : cells e (front ++ Offset slot object ∷ []) ++ bs ≡ cs ++ set ∷ bs =
    ap (λ (x : List Cell). x ++ bs) (cells-append e front (Offset slot object ∷ [])) ∙ append_assoc cs (set ∷ []) bs in
    let now_behind : behind (front ++ Offset slot object ∷ []) ≡ behind front ++ object.bytes =
    behind-append front (Offset slot object ∷ []) ∙ ap (λ (x : List ℕ). behind front ++ x) (append-nil object.bytes) in
    ap (λ (n : ℕ). take p out ++ (little_bytes 4 n ++ drop (p + 4) out)) value
    ∙ patched p o r.before (little_bytes 4 0) (little_bytes 4 (target - length r.before)) k (behind front ++ object.bytes) out refl (omega arith) whole
    ∙ ap (λ (x : List ℕ). o ++ (x ++ (behind front ++ object.bytes))) (sym filled_now)
    ∙ ap (λ (x : List Cell). o ++ (filled (table_own parts x) ++ (behind front ++ object.bytes))) (sym now_cells)
    ∙ ap (λ (x : List ℕ). o ++ (filled (table_own parts (cells e (front ++ Offset slot object ∷ []) ++ bs)) ++ x)) (sym now_behind)

pub in_order-append : (xs ys : List Laid) → in_order (xs ++ ys) ≡ in_order xs ++ in_order ys
in_order-append [] ys = refl
in_order-append (x ∷ xs) ys = ap (λ (r : List ℕ). x.bytes ++ r) (in_order-append xs ys) ∙ sym (append_assoc x.bytes (in_order xs) (in_order ys))

pub length-offsets : (place next : ℕ) (xs : List Laid) → length (offsets place next xs) ≡ 4 * length xs
length-offsets place next [] = refl
length-offsets place next (x ∷ xs) = let ih = length-offsets (place + 4) (next + length x.bytes) xs in omega arith

pub offsets-append : (place next : ℕ) (xs : List Laid) (y : Laid) → offsets place next (xs ++ y ∷ []) ≡ offsets place next xs ++ little_bytes 4 (next + length (in_order xs) + y.lead - (place + 4 * length xs))
offsets-append place next [] y = ap (λ (n : ℕ). little_bytes 4 n) (omega arith)
offsets-append place next (x ∷ xs) y =
    let l = length-append x.bytes (in_order xs) in
    ap (λ (r : List ℕ). little_bytes 4 (next + x.lead - place) ++ r) (offsets-append (place + 4) (next + length x.bytes) xs y ∙ ap (λ (n : ℕ). offsets (place + 4) (next + length x.bytes) xs ++ little_bytes 4 n) (omega arith))

-- A vector of n offsets of which the objects in front stand, and `left` more do not yet.
unfoldable pub vector_begun : ℕ → List Laid → ℕ → List ℕ
vector_begun n front left =
    filled (little_bytes 4 n ++ (offsets 4 (round_up (4 + 4 * n)) front ++ replicate (4 * left) 0)) ++ in_order front

pub length-vector_begun : (n : ℕ) (front : List Laid) (left : ℕ) → n ≡ length front + left → length (vector_begun n front left) ≡ round_up (4 + 4 * n) + length (in_order front)
unfolding vector_begun
length-vector_begun n front left count =
    let e = round_up (4 + 4 * n) in
    let own = length-offsets 4 e front in
    let filling = length-replicate {A = ℕ} (4 * left) 0 in
    let joined = length-append (offsets 4 e front) (replicate (4 * left) 0) in
    let all : length (little_bytes 4 n ++ (offsets 4 e front ++ replicate (4 * left) 0)) ≡ 4 + 4 * n = omega arith in
    length-append (filled (little_bytes 4 n ++ (offsets 4 e front ++ replicate (4 * left) 0))) (in_order front)
    ∙ ap (λ (m : ℕ). m + length (in_order front)) (length-filled (little_bytes 4 n ++ (offsets 4 e front ++ replicate (4 * left) 0)) ∙ ap round_up all)

pub vector_start : (n : ℕ) → vector_begun n [] n ≡ filled (little_bytes 4 n ++ replicate (4 * n) 0)
unfolding vector_begun
vector_start n = append-nil (filled (little_bytes 4 n ++ replicate (4 * n) 0))

pub vector_end : (objects : List Laid) → vector_begun (length objects) objects 0 ≡ (tables_laid objects).bytes
unfolding vector_begun tables_laid
vector_end objects =
    ap (λ (r : List ℕ). filled (little_bytes 4 (length objects) ++ r) ++ in_order objects) (append-nil (offsets 4 (round_up (4 + 4 * length objects)) objects))

-- an object was appended, and its offset written over the zeros
pub vector_more : (n left : ℕ) (front : List Laid) (object : Laid) (p v lead : ℕ) (o was out : List ℕ) → n ≡ length front + (left + 1)
    → was ≡ o ++ vector_begun n front (left + 1) → out ≡ was ++ object.bytes
    → p ≡ length o + 4 + 4 * length front → lead ≡ object.lead → v ≡ length was + lead - p
    → take p out ++ (little_bytes 4 v ++ drop (p + 4) out) ≡ o ++ vector_begun n (front ++ object ∷ []) left
unfolding vector_begun
vector_more n left front object p v lead o was out count w q at led vis =
    let e = round_up (4 + 4 * n) in
    let h = little_bytes 4 n ++ offsets 4 e front in
    let zeros = replicate {A = ℕ} (4 * left) 0 in
    let x = little_bytes 4 (e + length (in_order front) + object.lead - (4 + 4 * length front)) in
    let own_len = length-offsets 4 e front in
    let h_len : length h ≡ 4 + 4 * length front = omega arith in
    let more : replicate {A = ℕ} (4 * (left + 1)) 0 ≡ little_bytes 4 0 ++ zeros = ap (λ (m : ℕ). replicate {A = ℕ} m 0) (omega arith) ∙ sym (replicate-append-replicate 4 (4 * left) 0) in
    let k = zeros ++ pad (length h + (4 + length zeros)) in
    let filled_was : filled (little_bytes 4 n ++ (offsets 4 e front ++ replicate (4 * (left + 1)) 0)) ≡ h ++ (little_bytes 4 0 ++ k) =
    ap (λ (r : List ℕ). filled (little_bytes 4 n ++ (offsets 4 e front ++ r))) more ∙ filled_round h (little_bytes 4 0) zeros 4 refl in
    let filled_now : filled (little_bytes 4 n ++ (offsets 4 e (front ++ object ∷ []) ++ zeros)) ≡ h ++ (x ++ k) =
    ap (λ (r : List ℕ). filled (little_bytes 4 n ++ r)) (ap (λ (r : List ℕ). r ++ zeros) (offsets-append 4 e front object) ∙ append_assoc (offsets 4 e front) x zeros)
    ∙ filled_round h x zeros 4 refl in
    let stood : length was ≡ length o + (e + length (in_order front)) =
    ap length w ∙ length-append o (vector_begun n front (left + 1)) ∙ ap (λ (m : ℕ). length o + m) (length-vector_begun n front (left + 1) count) in
    let value : v ≡ e + length (in_order front) + object.lead - (4 + 4 * length front) = omega arith in
    let whole : out ≡ o ++ ((h ++ (little_bytes 4 0 ++ k)) ++ (in_order front ++ object.bytes)) =
    q ∙ ap (λ (r : List ℕ). r ++ object.bytes) w ∙ ap (λ (r : List ℕ). (o ++ (r ++ in_order front)) ++ object.bytes) filled_was ∙ regroup o (h ++ (little_bytes 4 0 ++ k)) (in_order front) object.bytes in
    let behind_now : in_order (front ++ object ∷ []) ≡ in_order front ++ object.bytes = in_order-append front (object ∷ []) ∙ ap (λ (r : List ℕ). in_order front ++ r) (append-nil object.bytes) in
    ap (λ (m : ℕ). take p out ++ (little_bytes 4 m ++ drop (p + 4) out)) value
    ∙ patched p o h (little_bytes 4 0) x k (in_order front ++ object.bytes) out refl (omega arith) whole
    ∙ ap (λ (r : List ℕ). o ++ (r ++ (in_order front ++ object.bytes))) (sym filled_now)
    ∙ ap (λ (r : List ℕ). o ++ (filled (little_bytes 4 n ++ (offsets 4 e (front ++ object ∷ []) ++ zeros)) ++ r)) (sym behind_now)
