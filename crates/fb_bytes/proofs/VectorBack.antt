-- Vectors, texts and buffers that are laid out read back.
use Rattle.std.proofs.Common.{◌≡◌, ◌≤◌, ◌<◌, ◌+◌, ◌-◌, ◌*◌, ◌/◌, ◌%◌, ◌^◌, ℕ, zero, suc, cond, leb, List, [], ◌∷◌, ◌++◌, length, take, drop, replicate, Option, Some, None, Result, Ok, pos, refl, sym, ap, ◌∙◌, subst, arith, append_assoc, length-append}
use Rattle.std.specs.List.{slice_get}
use Rattle.std.proofs.lemmas.List.{append-nil, length-drop, take_at, take-append-le, drop-append-le, drop-drop}
use Rattle.std.proofs.lemmas.List.Elements.{All-head, All-tail}
use Rattle.std.proofs.Math.Nat.{mod-eq_of_lt, mul-le-mul_left, mul-le-mul_right}
use Rattle.byteorder.specs.Endian.{little_bytes}
use Rattle.fb_bytes.specs.declared.bad_buffer.BadBuffer.{BadBuffer}
use Rattle.fb_bytes.specs.Layout.{Laid, round_up, filled, offsets, in_order, tables_laid, structs_laid, text_laid, buffer_of}
use Rattle.fb_bytes.specs.Object.{AreStructs}
use Rattle.fb_bytes.specs.Reading.{bad, offset_at, VectorAt, vector_at, item_of, elements_of, text_at}
use Rattle.sub_types.specs.ResultSteps.{◌>>=◌}
use Rattle.fb_bytes.specs.ReadBack.{LeadsTo, IsNear, AreNear, ReadsItem, ReadsTables, ReadsStructs}
use Rattle.fb_bytes.proofs.TableLemmas.{length-filled, round_up-least}
use Rattle.fb_bytes.proofs.BegunLemmas.{in_order-append, length-offsets}
use Rattle.fb_bytes.proofs.ReadLemmas.{number_back, offset_back, drop_stands, room_stands, fits}

-- a vector whose count stands, with room for its elements behind it
pub vector_back : (bytes before after : List ℕ) (place width count : ℕ) → bytes ≡ before ++ (little_bytes 4 count ++ after) → place ≡ length before → count < 2 ^ 32 → place + 4 + width * count ≤ length bytes
    → vector_at bytes width place ≡ Ok (record { bytes = bytes; start = place + 4; count = count; width = width })
unfolding vector_at
vector_back bytes before after place width count e at small room =
    ap (λ (r : Result ℕ BadBuffer). r >>= λ n. cond (leb (place + 4 + width * n) (length bytes)) (Ok (record { bytes = bytes; start = place + 4; count = n; width = width })) (bad (pos place)))
    (number_back bytes before after place 4 count e at ∙ ap (λ (n : ℕ). Ok n) (mod-eq_of_lt small))
    ∙ fits (place + 4 + width * count) (length bytes) (Ok (record { bytes = bytes; start = place + 4; count = count; width = width })) (bad (pos place)) room

-- where an object stands among others
record Among (objects : List Laid) (i : ℕ) (object : Laid) : Type 0 where
  front : List Laid
  back : List Laid
  split : objects ≡ front ++ object ∷ back
  place : length front ≡ i

among : (objects : List Laid) (i : ℕ) (object : Laid) → slice_get objects i ≡ Some object → Among objects i object
among [] i object h = cc
among (x ∷ xs) zero object h = let same : x ≡ object = cc in record { front = []; back = xs; split = ap (λ (y : Laid). y ∷ xs) same; place = refl }
among (x ∷ xs) (suc i) object h =
    let r = among xs i object h in
    let p = r.place in
    record { front = x ∷ r.front; back = r.back; split = ap (λ (y : List Laid). x ∷ y) r.split; place = omega arith }

offsets-split : (place next : ℕ) (xs : List Laid) (y : Laid) (ys : List Laid) → offsets place next (xs ++ y ∷ ys) ≡ offsets place next xs ++ (little_bytes 4 (next + length (in_order xs) + y.lead - (place + 4 * length xs)) ++ offsets (place + 4 * length xs + 4) (next + length (in_order xs) + length y.bytes) ys)
offsets-split place next [] y ys =
    ap (λ (n : ℕ). little_bytes 4 n ++ offsets (place + 4) (next + length y.bytes) ys) (omega arith)
    ∙ ap (λ (n : ℕ). little_bytes 4 (next + 0 + y.lead - (place + 4 * 0)) ++ offsets n (next + length y.bytes) ys) (omega arith)
    ∙ ap (λ (n : ℕ). little_bytes 4 (next + 0 + y.lead - (place + 4 * 0)) ++ offsets (place + 4 * 0 + 4) n ys) (omega arith)
offsets-split place next (x ∷ xs) y ys =
    let l = length-append x.bytes (in_order xs) in
    let first = little_bytes 4 (next + x.lead - place) in
    ap (λ (r : List ℕ). first ++ r)
    (offsets-split (place + 4) (next + length x.bytes) xs y ys
    ∙ ap (λ (n : ℕ). offsets (place + 4) (next + length x.bytes) xs ++ (little_bytes 4 n ++ offsets (place + 4 + 4 * length xs + 4) (next + length x.bytes + length (in_order xs) + length y.bytes) ys)) (omega arith)
    ∙ ap (λ (n : ℕ). offsets (place + 4) (next + length x.bytes) xs ++ (little_bytes 4 (next + length (in_order (x ∷ xs)) + y.lead - (place + 4 * length (x ∷ xs))) ++ offsets n (next + length x.bytes + length (in_order xs) + length y.bytes) ys)) (omega arith)
    ∙ ap (λ (n : ℕ). offsets (place + 4) (next + length x.bytes) xs ++ (little_bytes 4 (next + length (in_order (x ∷ xs)) + y.lead - (place + 4 * length (x ∷ xs))) ++ offsets (place + 4 * length (x ∷ xs) + 4) n ys)) (omega arith))

near_at : (objects : List Laid) (i : ℕ) (object : Laid) → AreNear objects → slice_get objects i ≡ Some object → IsNear object
near_at [] i object h e = cc
near_at (x ∷ xs) zero object h e = let same : x ≡ object = cc in subst IsNear same (All-head IsNear x xs h)
near_at (x ∷ xs) (suc i) object h e = near_at xs i object (All-tail IsNear x xs h) e

pub tables_back : (bytes : List ℕ) (place : ℕ) (objects : List Laid) → length bytes < 2 ^ 31 → AreNear objects → LeadsTo bytes place (tables_laid objects) → ReadsTables bytes place objects
unfolding tables_laid filled
tables_back bytes place objects small near l =
    let n = length objects in
    let e = round_up (4 + 4 * n) in
    let own = little_bytes 4 n ++ offsets 4 e objects in
    let zeros = replicate {A = ℕ} (round_up (length own) - length own) 0 in
    let stands : bytes ≡ l.front ++ (((own ++ zeros) ++ in_order objects) ++ l.back) = l.stands in
    let counted : bytes ≡ l.front ++ (little_bytes 4 n ++ ((offsets 4 e objects ++ (zeros ++ in_order objects)) ++ l.back)) = stands ∙ regroup l.front (little_bytes 4 n) (offsets 4 e objects) zeros (in_order objects) l.back in
    let o = length-offsets 4 e objects in
    let whole = room_stands bytes l.front (little_bytes 4 n ++ offsets 4 e objects) (zeros ++ (in_order objects ++ l.back)) (length l.front) (stands ∙ regroup_own l.front (little_bytes 4 n ++ offsets 4 e objects) zeros (in_order objects) l.back) refl in
    let leads = l.leads in (
      record { bytes = bytes; start = place + 4; count = n; width = 4 },
      vector_back bytes l.front ((offsets 4 e objects ++ (zeros ++ in_order objects)) ++ l.back) place 4 n counted (omega arith) (omega arith) (omega arith),
      record { same = refl; count = refl; items = λ i. item i (slice_get objects i) refl },
    )
  where
    regroup : (f a b z h k : List ℕ) → f ++ ((((a ++ b) ++ z) ++ h) ++ k) ≡ f ++ (a ++ ((b ++ (z ++ h)) ++ k))
    regroup f a b z h k = simp append_assoc

    regroup_own : (f a z h k : List ℕ) → f ++ (((a ++ z) ++ h) ++ k) ≡ f ++ (a ++ (z ++ (h ++ k)))
    regroup_own f a z h k = simp append_assoc

    regroup_entry : (f a b x c z h k : List ℕ) → f ++ ((((a ++ (b ++ (x ++ c))) ++ z) ++ h) ++ k) ≡ (f ++ (a ++ b)) ++ (x ++ (c ++ (z ++ (h ++ k))))
    regroup_entry f a b x c z h k = simp append_assoc

    regroup_object : (f w b x c k : List ℕ) → f ++ ((w ++ (b ++ (x ++ c))) ++ k) ≡ (f ++ (w ++ b)) ++ (x ++ (c ++ k))
    regroup_object f w b x c k = simp append_assoc

    item : (i : ℕ) (o : Option Laid) → slice_get objects i ≡ o → ReadsItem (record { bytes = bytes; start = place + 4; count = length objects; width = 4 }) i o
    item i None h = tt
    item i (Some object) h =
        let n = length objects in
        let e = round_up (4 + 4 * n) in
        let own = little_bytes 4 n ++ offsets 4 e objects in
        let zeros = replicate {A = ℕ} (round_up (length own) - length own) 0 in
        let a = among objects i object h in
        let before = in_order a.front in
        let v = e + length before + object.lead - (4 + 4 * length a.front) in
        let later = offsets (4 + 4 * length a.front + 4) (e + length before + length object.bytes) a.back in
        let stands : bytes ≡ l.front ++ (((own ++ zeros) ++ in_order objects) ++ l.back) = l.stands in
        let entries : offsets 4 e objects ≡ offsets 4 e a.front ++ (little_bytes 4 v ++ later) = ap (offsets 4 e) a.split ∙ offsets-split 4 e a.front object a.back in
        let behind : in_order objects ≡ before ++ (object.bytes ++ in_order a.back) = ap in_order a.split ∙ in_order-append a.front (object ∷ a.back) in
        let there : bytes ≡ (l.front ++ (little_bytes 4 n ++ offsets 4 e a.front)) ++ (little_bytes 4 v ++ (later ++ (zeros ++ (in_order objects ++ l.back)))) =
        stands ∙ ap (λ (r : List ℕ). l.front ++ ((((little_bytes 4 n ++ r) ++ zeros) ++ in_order objects) ++ l.back)) entries
        ∙ regroup_entry l.front (little_bytes 4 n) (offsets 4 e a.front) (little_bytes 4 v) later zeros (in_order objects) l.back in
        let here : bytes ≡ (l.front ++ ((own ++ zeros) ++ before)) ++ (object.bytes ++ (in_order a.back ++ l.back)) =
        stands ∙ ap (λ (r : List ℕ). l.front ++ (((own ++ zeros) ++ r) ++ l.back)) behind ∙ regroup_object l.front (own ++ zeros) before object.bytes (in_order a.back) l.back in
        let o1 = length-offsets 4 e a.front in
        let o2 = length-offsets 4 e objects in
        let p = a.place in
        let leads = l.leads in
        let at1 = length-append l.front (little_bytes 4 n ++ offsets 4 e a.front) in
        let full : length (own ++ zeros) ≡ e = length-filled own ∙ ap round_up (omega arith) in
        let at2 = length-append l.front ((own ++ zeros) ++ before) in
        let at3 = length-append (own ++ zeros) before in
        let count = ap length a.split ∙ length-append a.front (object ∷ a.back) in
        let up = round_up-least (4 + 4 * n) in
        let close = near_at objects i object near h in
        let inside = room_stands bytes (l.front ++ ((own ++ zeros) ++ before)) object.bytes (in_order a.back ++ l.back) (length (l.front ++ ((own ++ zeros) ++ before))) here refl in (
          place + e + length before + object.lead,
          offset_back bytes (l.front ++ (little_bytes 4 n ++ offsets 4 e a.front)) (later ++ (zeros ++ (in_order objects ++ l.back))) (place + 4 + 4 * i) v there (omega arith) (omega arith) ∙ ap (λ (m : ℕ). Ok m) (omega arith),
          record { front = l.front ++ ((own ++ zeros) ++ before); back = in_order a.back ++ l.back; stands = here; leads = omega arith },
        )

pub text_back : (bytes : List ℕ) (place : ℕ) (text : List ℕ) → length bytes < 2 ^ 31 → LeadsTo bytes place (text_laid text) → text_at bytes place ≡ Ok text
unfolding text_laid filled text_at elements_of
text_back bytes place text small l =
    let n = length text in
    let own = little_bytes 4 n ++ (text ++ 0 ∷ []) in
    let zeros = replicate {A = ℕ} (round_up (length own) - length own) 0 in
    let stands : bytes ≡ l.front ++ ((own ++ zeros) ++ l.back) = l.stands in
    let there : bytes ≡ l.front ++ (little_bytes 4 n ++ (text ++ (0 ∷ [] ++ (zeros ++ l.back)))) = stands ∙ regroup l.front (little_bytes 4 n) text (0 ∷ []) zeros l.back in
    let behind : bytes ≡ (l.front ++ little_bytes 4 n) ++ (text ++ (0 ∷ [] ++ (zeros ++ l.back))) = there ∙ sym (append_assoc l.front (little_bytes 4 n) (text ++ (0 ∷ [] ++ (zeros ++ l.back)))) in
    let leads = l.leads in
    let at = length-append l.front (little_bytes 4 n) in
    let room = room_stands bytes (l.front ++ little_bytes 4 n) text (0 ∷ [] ++ (zeros ++ l.back)) (place + 4) behind (omega arith) in
    ap (λ (r : Result VectorAt BadBuffer). r >>= λ v. Ok (take (v.width * v.count) (drop v.start v.bytes)))
    (vector_back bytes l.front (text ++ (0 ∷ [] ++ (zeros ++ l.back))) place 1 n there (omega arith) (omega arith) (omega arith))
    ∙ ap (λ (r : List ℕ). Ok (take (1 * n) r)) (drop_stands bytes (l.front ++ little_bytes 4 n) (text ++ (0 ∷ [] ++ (zeros ++ l.back))) (place + 4) behind (omega arith))
    ∙ ap (λ (r : List ℕ). Ok r) (take_at text (0 ∷ [] ++ (zeros ++ l.back)) (1 * n) (omega arith))
  where
    regroup : (f a b c z k : List ℕ) → f ++ (((a ++ (b ++ c)) ++ z) ++ k) ≡ f ++ (a ++ (b ++ (c ++ (z ++ k))))
    regroup f a b c z k = simp append_assoc

pub structs_back : (bytes : List ℕ) (place width : ℕ) (structs : List ℕ) → length bytes < 2 ^ 31 → AreStructs width structs → LeadsTo bytes place (structs_laid width structs) → ReadsStructs bytes place width structs
unfolding structs_laid filled item_of
structs_back bytes place width structs small sound l =
    let n = length structs / width in
    let own = replicate {A = ℕ} 4 0 ++ (little_bytes 4 n ++ structs) in
    let zeros = replicate {A = ℕ} (round_up (length own) - length own) 0 in
    let stands : bytes ≡ l.front ++ ((own ++ zeros) ++ l.back) = l.stands in
    let there : bytes ≡ (l.front ++ replicate 4 0) ++ (little_bytes 4 n ++ (structs ++ (zeros ++ l.back))) = stands ∙ regroup l.front (replicate 4 0) (little_bytes 4 n) structs zeros l.back in
    let behind : bytes ≡ ((l.front ++ replicate 4 0) ++ little_bytes 4 n) ++ (structs ++ (zeros ++ l.back)) = there ∙ sym (append_assoc (l.front ++ replicate 4 0) (little_bytes 4 n) (structs ++ (zeros ++ l.back))) in
    let leads = l.leads in
    let at1 = length-append l.front (replicate {A = ℕ} 4 0) in
    let at2 = length-append (l.front ++ replicate {A = ℕ} 4 0) (little_bytes 4 n) in
    let room = room_stands bytes ((l.front ++ replicate 4 0) ++ little_bytes 4 n) structs (zeros ++ l.back) (place + 4) behind (omega arith) in
    let exact : width * n ≡ length structs = whole (length structs) width sound.0 sound.2 in
    let few : n ≤ width * n = at_least width n sound.0 in (
      record { bytes = bytes; start = place + 4; count = n; width = width },
      vector_back bytes (l.front ++ replicate 4 0) (structs ++ (zeros ++ l.back)) place width n there (omega arith) (omega arith) (omega arith),
      record {
        same = refl;
        count = exact;
        items = λ i h.
            let inside : width * i + width ≤ length structs = below i n width (length structs) h exact in
            let dropped = drop_stands bytes ((l.front ++ replicate 4 0) ++ little_bytes 4 n) (structs ++ (zeros ++ l.back)) (place + 4) behind (omega arith) in
            ap (take width) (sym (drop-drop (width * i) (place + 4) bytes) ∙ ap (drop (width * i)) dropped ∙ drop-append-le (width * i) structs (zeros ++ l.back) (omega arith))
            ∙ take-append-le width (drop (width * i) structs) (zeros ++ l.back) (simp length-drop (omega arith));
      },
    )
  where
    regroup : (f a b c z k : List ℕ) → f ++ (((a ++ (b ++ c)) ++ z) ++ k) ≡ (f ++ a) ++ (b ++ (c ++ (z ++ k)))
    regroup f a b c z k = simp append_assoc

    whole : (m w : ℕ) → 0 < w → m % w ≡ 0 → w * (m / w) ≡ m
    whole m w h e = omega arith

    at_least : (w m : ℕ) → 0 < w → m ≤ w * m
    at_least w m h = let k : 1 * m ≤ w * m = mul-le-mul_right m h in omega arith

    below : (i m w s : ℕ) → i < m → w * m ≡ s → w * i + w ≤ s
    below i m w s h e = let k : i + 1 ≤ m = omega arith in let g : w * (i + 1) ≤ w * m = mul-le-mul_left w k in omega arith

pub root_back : (root : Laid) → length (buffer_of root) < 2 ^ 31 → IsNear root → (offset_at (buffer_of root) 0 ≡ Ok (8 + root.lead)) × LeadsTo (buffer_of root) (8 + root.lead) root
unfolding buffer_of
root_back root small near = (
  offset_back (little_bytes 4 (8 + root.lead) ++ (replicate 4 0 ++ root.bytes)) [] (replicate 4 0 ++ root.bytes) 0 (8 + root.lead) refl refl (omega arith) ∙ ap (λ (n : ℕ). Ok n) (omega arith),
  record {
    front = little_bytes 4 (8 + root.lead) ++ replicate 4 0;
    back = [];
    stands = ap (λ (r : List ℕ). little_bytes 4 (8 + root.lead) ++ (replicate 4 0 ++ r)) (sym (append-nil root.bytes));
    leads = refl;
  },
)
