-- Objects and their fields, as lists of what is laid out.
use Rattle.std.proofs.Common.{Vec, Global, ◌≡◌, ◌≤◌, ◌<◌, ◌+◌, ◌-◌, ◌*◌, ◌/◌, ◌^◌, replicate, ℕ, zero, suc, inl, inr, List, [], ◌∷◌, ◌++◌, length, get_or, take, drop, refl, sym, ap, ◌∙◌, subst, arith, append_assoc, length-append}
use Rattle.std.specs.List.{All}
use Rattle.std.proofs.lemmas.List.{at_drop_more, take_all, take_at, drop_all, length-map, length-take-le, map_more, map-append, take-append-drop, append-nil}
use Rattle.std.proofs.lemmas.List.Elements.{All-nil, All-cons, All-head, All-tail, All-get_or}
use Rattle.byteorder.specs.Endian.{little_bytes}
use Rattle.fb_bytes.specs.declared.object.FbField.{FbField, Scalar, Child}
use Rattle.fb_bytes.specs.declared.object.FbObject.{FbObject, Table', Tables', Structs, Text, Row_of-FbField, end_of-FbField, more_of-FbField, Row_of-FbObject, end_of-FbObject, more_of-FbObject, items-the_row-FbField, items-the_row-FbObject, items_hidden-the_row-FbField-0, items_hidden-the_row-FbObject-1, Table, Tables}
use Rattle.fb_bytes.specs.Layout.{Laid, Part, Offset, part_slot, slot_count, fields_width, Cell, cells, behind, by_width, entry, filled, round_up, table_place, table_end, table_own, table_laid, tables_laid, structs_laid, text_laid, buffer_of, in_order}
use Rattle.fb_bytes.specs.Object.{laid, part_of, parts_in, parts_of, laid_in, laid_each, IsSound, IsSoundField, IsSoundTable, AreSoundFields, AllSoundFields, AllSoundTables, HasRisingSlots}
use Rattle.fb_bytes.specs.ReadBack.{AreParts, IsNear}
use Rattle.fb_bytes.specs.Writing.{blank, blanks}
use Rattle.fb_bytes.proofs.CellLemmas.{part_shapes, shapes, shapes-begun, shapes-blanks}
use Rattle.fb_bytes.proofs.TableLemmas.{table_place-bound, length-parts-bound, length-own-filled, length-filled, length-table_own, round_up-least, own_round, Lacks-parts, LacksIn-front, LacksIn-back}
use Rattle.fb_bytes.proofs.BegunLemmas.{begun, begun_end, begun_child, begun_number, behind-append, in_order-append, vector_begun, vector_end, vector_more, length-vector_begun}

pub parts_in-items : (m : _) (row : Row_of-FbField m) → parts_in row ≡ parts_of (items-the_row-FbField m row)
parts_in-items m end_of-FbField = refl
parts_in-items m (more_of-FbField field rest) = ap (λ (r : List Part). part_of field ∷ r) (parts_in-items _ rest)

pub laid_in-items : (m : _) (row : Row_of-FbObject m) → laid_in row ≡ laid_each (items-the_row-FbObject m row)
laid_in-items m end_of-FbObject = refl
laid_in-items m (more_of-FbObject object rest) = ap (λ (r : List Laid). laid object ∷ r) (laid_in-items _ rest)

pub sound_items : (m : _) (row : Row_of-FbField m) → AllSoundFields row → AreSoundFields (items-the_row-FbField m row)
sound_items m end_of-FbField h = tt
sound_items m (more_of-FbField field rest) h = (h.0, sound_items _ rest h.1)

pub sound_row : (m : _) (row : Row_of-FbField m) → AreSoundFields (items-the_row-FbField m row) → AllSoundFields row
sound_row m end_of-FbField h = tt
sound_row m (more_of-FbField field rest) h = (h.0, sound_row _ rest h.1)

pub tables_items : (m : _) (row : Row_of-FbObject m) → AllSoundTables row → All IsSoundTable (items-the_row-FbObject m row)
tables_items m end_of-FbObject h = All-nil IsSoundTable
tables_items m (more_of-FbObject object rest) h = All-cons IsSoundTable object _ (h.0, h.1) (tables_items _ rest h.2)

pub tables_row : (m : _) (row : Row_of-FbObject m) → All IsSoundTable (items-the_row-FbObject m row) → AllSoundTables row
tables_row m end_of-FbObject h = tt
tables_row m (more_of-FbObject object rest) h =
    let here = All-head IsSoundTable object _ h in
    (here.0, here.1, tables_row _ rest (All-tail IsSoundTable object _ h))

pub rising_count : (low : ℕ) (ps : List Part) → HasRisingSlots low ps → slot_count ps ≤ 64
rising_count low [] h = omega arith
rising_count low (p ∷ ps) h = let ih = rising_count (part_slot p + 1) ps h.2 in let s = h.1 in omega arith

-- an object that can be laid out is near
pub near_laid : (object : FbObject) → IsSound object → (laid object).lead < 2 ^ 10
unfolding table_laid tables_laid structs_laid text_laid
near_laid (Table' shape fields) h = let n = rising_count 0 (parts_in fields) h.0 in let b = table_place-bound (slot_count (parts_in fields)) in omega arith
near_laid (Tables' shape objects) h = omega arith
near_laid (Structs width bytes) h = omega arith
near_laid (Text bytes) h = omega arith

pub near : (object : FbObject) → IsSound object → IsNear (laid object)
near object h = let b = near_laid object h in omega arith

pub sound_parts : (low : ℕ) (fields : List FbField) → HasRisingSlots low (parts_of fields) → AreSoundFields fields → AreParts low (parts_of fields)
sound_parts low [] h s = tt
sound_parts low (Scalar slot width value ∷ fs) h s = (h.0, h.1, s.0, sound_parts (slot + 1) fs h.2 s.1)
sound_parts low (Child slot object ∷ fs) h s = (h.0, h.1, near object s.0, sound_parts (slot + 1) fs h.2 s.1)

-- what is known of a table's fields
pub record TableFacts (object : FbObject) (fields : List FbField) : Type 0 where
  pub laid_is : laid object ≡ table_laid (parts_of fields)
  pub rising : HasRisingSlots 0 (parts_of fields)
  pub sound : AreSoundFields fields
  pub slots : slot_count (parts_of fields) ≤ 64
  pub few : length fields ≤ 64

table_row_facts : (object : FbObject) (shape : _) (row : Row_of-FbField _) (fields : List FbField) → object ≡ Table' shape row → items-the_row-FbField _ row ≡ fields → IsSound object → TableFacts object fields
table_row_facts object shape row fields is items h =
    let parts : parts_in row ≡ parts_of fields = parts_in-items _ row ∙ ap parts_of items in
    let here : IsSound (Table' shape row) = subst IsSound is h in
    let rising : HasRisingSlots 0 (parts_of fields) = subst (HasRisingSlots 0) parts here.0 in
    let sound : AreSoundFields fields = subst AreSoundFields items (sound_items _ row here.1) in
    let many = length-parts-bound 0 (parts_of fields) (sound_parts 0 fields rising sound) (omega arith) in
    let each = length-map fields part_of in
    record { laid_is = ap laid is ∙ ap table_laid parts; rising = rising; sound = sound; slots = rising_count 0 (parts_of fields) rising; few = omega arith }

pub table_facts : (object : FbObject) (v : Vec FbField Global) (fields : List FbField) → object ≡ Table v → fields ≡ v.items → IsSound object → TableFacts object fields
table_facts object v fields is same h = table_row_facts object _ _ fields is (items_hidden-the_row-FbField-0 v ∙ sym same) h

pub record TablesFacts (object : FbObject) (objects : List FbObject) : Type 0 where
  pub laid_is : laid object ≡ tables_laid (laid_each objects)
  pub sound : All IsSoundTable objects

tables_row_facts : (object : FbObject) (shape : _) (row : Row_of-FbObject _) (objects : List FbObject) → object ≡ Tables' shape row → items-the_row-FbObject _ row ≡ objects → IsSound object → TablesFacts object objects
tables_row_facts object shape row objects is items h =
    let all : laid_in row ≡ laid_each objects = laid_in-items _ row ∙ ap laid_each items in
    let here : IsSound (Tables' shape row) = subst IsSound is h in
    record { laid_is = ap laid is ∙ ap tables_laid all; sound = subst (All IsSoundTable) items (tables_items _ row here) }

pub tables_facts : (object : FbObject) (v : Vec FbObject Global) (objects : List FbObject) → object ≡ Tables v → objects ≡ v.items → IsSound object → TablesFacts object objects
tables_facts object v objects is same h = tables_row_facts object _ _ objects is (items_hidden-the_row-FbObject-1 v ∙ sym same) h

pub sound_at : (fields : List FbField) (i : ℕ) (f : FbField) → AreSoundFields fields → i < length fields → f ≡ get_or fields i f → IsSoundField f
sound_at [] i f h l e = absurd (omega arith)
sound_at (x ∷ xs) zero f h l e = subst IsSoundField (sym e) h.0
sound_at (x ∷ xs) (suc i) f h l e = sound_at xs i f h.1 (omega arith) e

parts_take : (fields : List FbField) (i : ℕ) (f : FbField) → i < length fields → f ≡ get_or fields i f → parts_of (take (i + 1) fields) ≡ parts_of (take i fields) ++ part_of f ∷ []
parts_take fields i f l e = map_more part_of fields i f l ∙ ap (λ (g : FbField). parts_of (take i fields) ++ part_of g ∷ []) (sym e)

parts_drop : (fields : List FbField) (i : ℕ) (f : FbField) → i < length fields → f ≡ get_or fields i f → parts_of (drop i fields) ≡ part_of f ∷ parts_of (drop (i + 1) fields)
parts_drop fields i f l e = at_drop_more parts_of fields i f l ∙ ap (λ (g : FbField). part_of g ∷ parts_of (drop (i + 1) fields)) (sym e)

map_split : (fields : List FbField) (i : ℕ) → parts_of fields ≡ parts_of (take i fields) ++ parts_of (drop i fields)
map_split fields i = ap parts_of (sym (take-append-drop i fields)) ∙ map-append part_of (take i fields) (drop i fields)

pub few_fields : (fields : List FbField) → HasRisingSlots 0 (parts_of fields) → AreSoundFields fields → length fields ≤ 64
few_fields fields rising sound =
    let many = length-parts-bound 0 (parts_of fields) (sound_parts 0 fields rising sound) (omega arith) in
    let each = length-map fields part_of in
    omega arith

pub same_field : (fields : List FbField) (i : ℕ) (x f : FbField) → x ≡ get_or fields i x → x ≡ f → f ≡ get_or fields i f
same_field fields i x f is e = sym e ∙ is ∙ ap (get_or fields i) e

-- all fields were gone over
pub all_fields : (fields : List FbField) (i : ℕ) (o : List ℕ) → length fields ≤ i → o ++ begun (parts_of fields) (parts_of (take i fields)) (parts_of (drop i fields)) ≡ o ++ (table_laid (parts_of fields)).bytes
all_fields fields i o h =
    ap (λ (fs : List FbField). o ++ begun (parts_of fields) (parts_of fs) (parts_of (drop i fields))) (take_all i fields h)
    ∙ ap (λ (fs : List FbField). o ++ begun (parts_of fields) (parts_of fields) (parts_of fs)) (drop_all i fields h)
    ∙ ap (λ (r : List ℕ). o ++ r) (begun_end (parts_of fields))

-- The next field of a table is a number, which stands already.
pub number_step : (fields : List FbField) (i : ℕ) (slot width value : ℕ) (o was : List ℕ) → i < length fields → Scalar slot width value ≡ get_or fields i (Scalar slot width value)
    → was ≡ o ++ begun (parts_of fields) (parts_of (take i fields)) (parts_of (drop i fields))
    → was ≡ o ++ begun (parts_of fields) (parts_of (take (i + 1) fields)) (parts_of (drop (i + 1) fields))
number_step fields i slot width value o was l e w =
    let f : FbField = Scalar slot width value in
    let back = parts_of (drop (i + 1) fields) in
    w ∙ ap (λ (ps : List Part). o ++ begun (parts_of fields) (parts_of (take i fields)) ps) (parts_drop fields i f l e)
    ∙ ap (λ (r : List ℕ). o ++ r) (sym (begun_number (parts_of fields) (parts_of (take i fields)) back slot width value))
    ∙ ap (λ (ps : List Part). o ++ begun (parts_of fields) ps back) (sym (parts_take fields i f l e))

-- The next field leads to an object: there is room for it, its offset stands inside, and once it's written all is as before one field on.
pub record ChildStep (fields : List FbField) (i slot : ℕ) (object : FbObject) (o was : List ℕ) (p : ℕ) : Type 0 where
  pub room : length was + length (laid object).bytes ≤ length o + length (table_laid (parts_of fields)).bytes
  pub inside : p + 4 ≤ length was
  pub next : (lead v : ℕ) (out : List ℕ) → lead ≡ (laid object).lead → v ≡ length was + lead - p → out ≡ was ++ (laid object).bytes
      → take p out ++ (little_bytes 4 v ++ drop (p + 4) out) ≡ o ++ begun (parts_of fields) (parts_of (take (i + 1) fields)) (parts_of (drop (i + 1) fields))

entry_inside : (parts front back : List Part) (slot : ℕ) (object : Laid) → AreParts 0 parts → parts ≡ front ++ Offset slot object ∷ back → table_place (slot_count parts) + entry slot 4 (by_width (blanks parts)) + 4 ≤ table_end parts
unfolding table_end
entry_inside parts front back slot object sound split =
    let bs = blanks back in
    let fs = blanks front in
    let r = own_round parts fs bs 4 (inr (inr (inl refl))) in
    let zeros = blank (Offset slot object) in
    let same : blanks parts ≡ fs ++ zeros ∷ bs = ap blanks split ∙ map-append blank front (Offset slot object ∷ back) in
    let sound' : AreParts 0 (front ++ Offset slot object ∷ back) = subst (AreParts 0) split sound in
    let lf = Lacks-parts slot fs front (shapes-blanks front) (LacksIn-front 0 front back (Offset slot object) sound') in
    let lb = Lacks-parts slot bs back (shapes-blanks back) (LacksIn-back 0 front back (Offset slot object) sound') in
    let place = r.place_is zeros refl lf lb ∙ ap (λ (cs : List Cell). table_place (slot_count parts) + entry slot 4 (by_width cs)) (sym same) in
    let own = length-table_own parts (fs ++ zeros ∷ bs) sound (ap shapes (sym same) ∙ shapes-blanks parts) in
    let there = ap length (r.there zeros refl) ∙ length-append r.before (little_bytes 4 0 ++ r.after) in
    let up = round_up-least (table_place (slot_count parts) + 4 + fields_width parts) in
    omega arith

length-begun : (parts front back : List Part) → AreParts 0 parts → parts ≡ front ++ back → length (begun parts front back) ≡ table_end parts + length (behind front)
unfolding begun
length-begun parts front back sound split =
    length-append (filled (table_own parts (cells (table_end parts) front ++ blanks back))) (behind front)
    ∙ ap (λ (n : ℕ). n + length (behind front)) (length-own-filled parts (cells (table_end parts) front ++ blanks back) sound (shapes-begun (table_end parts) front back ∙ ap part_shapes (sym split)))

pub child_step : (fields : List FbField) (i slot : ℕ) (object : FbObject) (o was : List ℕ) (p : ℕ) → HasRisingSlots 0 (parts_of fields) → AreSoundFields fields
    → i < length fields → Child slot object ≡ get_or fields i (Child slot object)
    → was ≡ o ++ begun (parts_of fields) (parts_of (take i fields)) (parts_of (drop i fields))
    → p ≡ length o + table_place (slot_count (parts_of fields)) + entry slot 4 (by_width (blanks (parts_of fields)))
    → ChildStep fields i slot object o was p
child_step fields i slot object o was p rising sound l e w at =
    let parts = parts_of fields in
    let front = parts_of (take i fields) in
    let back = parts_of (drop (i + 1) fields) in
    let f : FbField = Child slot object in
    let are = sound_parts 0 fields rising sound in
    let later = parts_drop fields i f l e in
    let split : parts ≡ front ++ Offset slot (laid object) ∷ back = map_split fields i ∙ ap (λ (ps : List Part). front ++ ps) later in
    let stood : was ≡ o ++ begun parts front (Offset slot (laid object) ∷ back) = w ∙ ap (λ (ps : List Part). o ++ begun parts front ps) later in
    let long : length was ≡ length o + (table_end parts + length (behind front)) =
    ap length stood ∙ length-append o (begun parts front (Offset slot (laid object) ∷ back)) ∙ ap (λ (n : ℕ). length o + n) (length-begun parts front (Offset slot (laid object) ∷ back) are split) in
    let whole : length (table_laid parts).bytes ≡ table_end parts + length (behind parts) =
    ap length (sym (begun_end parts)) ∙ length-begun parts parts [] are (sym (append-nil parts)) in
    let behind_all : length (behind parts) ≡ length (behind front) + (length (laid object).bytes + length (behind back)) =
    ap length (ap behind split ∙ behind-append front (Offset slot (laid object) ∷ back)) ∙ length-append (behind front) ((laid object).bytes ++ behind back) ∙ ap (λ (n : ℕ). length (behind front) + n) (length-append (laid object).bytes (behind back)) in
    let inside = entry_inside parts front back slot (laid object) are split in
    record {
      room = omega arith;
      inside = omega arith;
      next = λ lead v out led vis q.
          begun_child parts front back slot (laid object) p v lead o was out are split stood q at led vis
          ∙ ap (λ (ps : List Part). o ++ begun parts ps back) (sym (parts_take fields i f l e));
    }

laid_take : (objects : List FbObject) (i : ℕ) (x : FbObject) → i < length objects → x ≡ get_or objects i x → laid_each (take (i + 1) objects) ≡ laid_each (take i objects) ++ laid x ∷ []
laid_take objects i x l e = map_more laid objects i x l ∙ ap (λ (y : FbObject). laid_each (take i objects) ++ laid y ∷ []) (sym e)

laid_drop : (objects : List FbObject) (i : ℕ) (x : FbObject) → i < length objects → x ≡ get_or objects i x → laid_each (drop i objects) ≡ laid x ∷ laid_each (drop (i + 1) objects)
laid_drop objects i x l e = at_drop_more laid_each objects i x l ∙ ap (λ (y : FbObject). laid y ∷ laid_each (drop (i + 1) objects)) (sym e)

pub table_sound_at : (objects : List FbObject) (i : ℕ) (x : FbObject) → All IsSoundTable objects → i < length objects → x ≡ get_or objects i x → IsSoundTable x
table_sound_at objects i x h l e = subst IsSoundTable (sym e) (All-get_or IsSoundTable objects i x l h)

-- The same for the next table of a vector.
pub record TableStep (objects : List FbObject) (i : ℕ) (object : FbObject) (o was : List ℕ) (p : ℕ) : Type 0 where
  pub room : length was + length (laid object).bytes ≤ length o + length (tables_laid (laid_each objects)).bytes
  pub inside : p + 4 ≤ length was
  pub next : (lead v : ℕ) (out : List ℕ) → lead ≡ (laid object).lead → v ≡ length was + lead - p → out ≡ was ++ (laid object).bytes
      → take p out ++ (little_bytes 4 v ++ drop (p + 4) out) ≡ o ++ vector_begun (length objects) (laid_each (take (i + 1) objects)) (length objects - (i + 1))

pub table_step : (objects : List FbObject) (i : ℕ) (object : FbObject) (o was : List ℕ) (p : ℕ) → i < length objects → object ≡ get_or objects i object
    → was ≡ o ++ vector_begun (length objects) (laid_each (take i objects)) (length objects - i)
    → p ≡ length o + 4 + 4 * i
    → TableStep objects i object o was p
table_step objects i object o was p l e w at =
    let n = length objects in
    let front = laid_each (take i objects) in
    let count : length front ≡ i = length-map (take i objects) laid ∙ length-take-le i objects (omega arith) in
    let left : n - i ≡ n - (i + 1) + 1 = omega arith in
    let stood : was ≡ o ++ vector_begun n front (n - (i + 1) + 1) = w ∙ ap (λ (m : ℕ). o ++ vector_begun n front m) left in
    let long : length was ≡ length o + (round_up (4 + 4 * n) + length (in_order front)) =
    ap length stood ∙ length-append o (vector_begun n front (n - (i + 1) + 1)) ∙ ap (λ (m : ℕ). length o + m) (length-vector_begun n front (n - (i + 1) + 1) (omega arith)) in
    let all = laid_each objects in
    let all_count : length all ≡ n = length-map objects laid in
    let whole : length (tables_laid all).bytes ≡ round_up (4 + 4 * n) + length (in_order all) =
    ap length (sym (vector_end all)) ∙ length-vector_begun (length all) all 0 (omega arith) ∙ ap (λ (m : ℕ). round_up (4 + 4 * m) + length (in_order all)) all_count in
    let split : all ≡ front ++ laid object ∷ laid_each (drop (i + 1) objects) =
    ap laid_each (sym (take-append-drop i objects)) ∙ map-append laid (take i objects) (drop i objects) ∙ ap (λ (r : List Laid). front ++ r) (laid_drop objects i object l e) in
    let behind_all : length (in_order all) ≡ length (in_order front) + (length (laid object).bytes + length (in_order (laid_each (drop (i + 1) objects)))) =
    ap length (ap in_order split ∙ in_order-append front (laid object ∷ laid_each (drop (i + 1) objects))) ∙ length-append (in_order front) ((laid object).bytes ++ in_order (laid_each (drop (i + 1) objects)))
    ∙ ap (λ (m : ℕ). length (in_order front) + m) (length-append (laid object).bytes (in_order (laid_each (drop (i + 1) objects)))) in
    let up = round_up-least (4 + 4 * n) in
    record {
      room = omega arith;
      inside = omega arith;
      next = λ lead v out led vis q.
          vector_more n (n - (i + 1)) front (laid object) p v lead o was out (omega arith) stood q (omega arith) led vis
          ∙ ap (λ (r : List Laid). o ++ vector_begun n r (n - (i + 1))) (sym (laid_take objects i object l e));
    }

pub all_tables : (objects : List FbObject) (i left : ℕ) (o : List ℕ) → length objects ≤ i → left ≡ 0 → o ++ vector_begun (length objects) (laid_each (take i objects)) left ≡ o ++ (tables_laid (laid_each objects)).bytes
all_tables objects i left o h none =
    ap (λ (xs : List FbObject). o ++ vector_begun (length objects) (laid_each xs) left) (take_all i objects h)
    ∙ ap (λ (n : ℕ). o ++ vector_begun n (laid_each objects) left) (sym (length-map objects laid))
    ∙ ap (λ (m : ℕ). o ++ vector_begun (length (laid_each objects)) (laid_each objects) m) none
    ∙ ap (λ (r : List ℕ). o ++ r) (vector_end (laid_each objects))

-- Objects are at least as long as what they hold.

pub tables_long : (objects : List FbObject) → 4 + 4 * length objects ≤ length (tables_laid (laid_each objects)).bytes
tables_long objects =
    let all = laid_each objects in
    let count : length all ≡ length objects = length-map objects laid in
    let whole = ap length (sym (vector_end all)) ∙ length-vector_begun (length all) all 0 (omega arith) in
    let up = round_up-least (4 + 4 * length all) in
    omega arith

pub structs_long : (width : ℕ) (structs : List ℕ) → length structs ≤ length (structs_laid width structs).bytes
unfolding structs_laid filled
structs_long width structs =
    let e = length-append structs (replicate {A = ℕ} (round_up (length (replicate {A = ℕ} 4 0 ++ (little_bytes 4 (length structs / width) ++ structs))) - length (replicate {A = ℕ} 4 0 ++ (little_bytes 4 (length structs / width) ++ structs))) 0) in
    omega arith

pub text_long : (text : List ℕ) → length text ≤ length (text_laid text).bytes
unfolding text_laid
text_long text =
    let e = length-filled (little_bytes 4 (length text) ++ (text ++ 0 ∷ [])) in
    let up = round_up-least (length (little_bytes 4 (length text) ++ (text ++ 0 ∷ []))) in
    let a = length-append text (0 ∷ []) in
    omega arith

-- what was appended stands behind what was there
pub appended : (n : ℕ) (o x out : List ℕ) → n ≡ length o → out ≡ o ++ x → out ≡ take n out ++ x
appended n o x out h e = e ∙ ap (λ (r : List ℕ). r ++ x) (sym (take_at o x n (sym h)) ∙ ap (take n) (sym e))

pub appended_front : (n : ℕ) (o x out : List ℕ) → n ≡ length o → out ≡ o ++ x → take n out ≡ o
appended_front n o x out h e = ap (take n) e ∙ take_at o x n (sym h)

pub appended_long : (o x out : List ℕ) → out ≡ o ++ x → length o ≤ length out
appended_long o x out e = let l = ap length e ∙ length-append o x in omega arith

pub length-buffer_of : (root : Laid) → length (buffer_of root) ≡ 8 + length root.bytes
unfolding buffer_of
length-buffer_of root = omega arith

-- a buffer is its offset, four zeros and the object, one after the other
pub buffer_appended : (root : Laid) (lead : ℕ) (first second out : List ℕ) → lead ≡ root.lead → first ≡ little_bytes 4 (8 + lead) → second ≡ first ++ replicate 4 0 → out ≡ second ++ root.bytes → out ≡ buffer_of root
unfolding buffer_of
buffer_appended root lead first second out l a b c =
    c ∙ ap (λ (x : List ℕ). x ++ root.bytes) (b ∙ ap (λ (x : List ℕ). x ++ replicate 4 0) (a ∙ ap (λ (n : ℕ). little_bytes 4 (8 + n)) l)) ∙ append_assoc (little_bytes 4 (8 + root.lead)) (replicate 4 0) root.bytes

-- Objects made of their fields or tables.

row_laid : (object : FbObject) (shape : _) (row : Row_of-FbField _) (fields : List FbField) → object ≡ Table' shape row → items-the_row-FbField _ row ≡ fields → laid object ≡ table_laid (parts_of fields)
row_laid object shape row fields is items = ap laid is ∙ ap table_laid (parts_in-items _ row ∙ ap parts_of items)

pub laid_of_fields : (v : Vec FbField Global) → laid (Table v) ≡ table_laid (parts_of v.items)
laid_of_fields v = row_laid (Table v) _ _ v.items refl (items_hidden-the_row-FbField-0 v)

row_sound : (object : FbObject) (shape : _) (row : Row_of-FbField _) (fields : List FbField) → object ≡ Table' shape row → items-the_row-FbField _ row ≡ fields → HasRisingSlots 0 (parts_of fields) → AreSoundFields fields → IsSound object
row_sound object shape row fields is items rising sound =
    let here : IsSound (Table' shape row) = (subst (HasRisingSlots 0) (sym (parts_in-items _ row ∙ ap parts_of items)) rising, sound_row _ row (subst AreSoundFields (sym items) sound)) in
    subst IsSound (sym is) here

pub sound_of_fields : (v : Vec FbField Global) → HasRisingSlots 0 (parts_of v.items) → AreSoundFields v.items → IsSound (Table v)
sound_of_fields v = row_sound (Table v) _ _ v.items refl (items_hidden-the_row-FbField-0 v)

row_laid_tables : (object : FbObject) (shape : _) (row : Row_of-FbObject _) (objects : List FbObject) → object ≡ Tables' shape row → items-the_row-FbObject _ row ≡ objects → laid object ≡ tables_laid (laid_each objects)
row_laid_tables object shape row objects is items = ap laid is ∙ ap tables_laid (laid_in-items _ row ∙ ap laid_each items)

pub laid_of_tables : (v : Vec FbObject Global) → laid (Tables v) ≡ tables_laid (laid_each v.items)
laid_of_tables v = row_laid_tables (Tables v) _ _ v.items refl (items_hidden-the_row-FbObject-1 v)

row_sound_tables : (object : FbObject) (shape : _) (row : Row_of-FbObject _) (objects : List FbObject) → object ≡ Tables' shape row → items-the_row-FbObject _ row ≡ objects → All IsSoundTable objects → IsSound object
row_sound_tables object shape row objects is items sound =
    let here : IsSound (Tables' shape row) = tables_row _ row (subst (All IsSoundTable) (sym items) sound) in
    subst IsSound (sym is) here

pub sound_of_tables : (v : Vec FbObject Global) → All IsSoundTable v.items → IsSound (Tables v)
sound_of_tables v = row_sound_tables (Tables v) _ _ v.items refl (items_hidden-the_row-FbObject-1 v)
