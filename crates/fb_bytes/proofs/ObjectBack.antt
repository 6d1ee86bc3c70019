-- Each object of a laid-out buffer reads back, with all that it leads to.
use Rattle.std.proofs.Common.{◌≡◌, ◌<◌, ◌+◌, ◌*◌, ◌^◌, ℕ, Bool, true, false, cond, eqb, List, [], ◌∷◌, ◌++◌, length, Some, Ok, refl, sym, ap, ◌∙◌, subst, arith, append_assoc, length-append}
use Rattle.std.specs.List.{slice_get}
use Rattle.std.proofs.lemmas.List.Elements.{All-nil, All-cons}
use Rattle.std.proofs.lemmas.Bool.{eq-eqb, eqb-true}
use Rattle.fb_bytes.specs.declared.object.FbField.{FbField, Scalar, Child}
use Rattle.fb_bytes.specs.declared.object.FbObject.{FbObject, Table', Tables', Structs, Text, Row_of-FbField, end_of-FbField, more_of-FbField, Row_of-FbObject, end_of-FbObject, more_of-FbObject}
use Rattle.fb_bytes.specs.Layout.{Laid, Part, part_slot, part_at}
use Rattle.fb_bytes.specs.Object.{laid, part_of, parts_in, laid_in, buffer, IsSound, IsSoundField, AllSoundFields, AllSoundTables, HasRisingSlots}
use Rattle.fb_bytes.specs.Reading.{TableAt, VectorAt, offset_at}
use Rattle.fb_bytes.specs.ReadBack.{LeadsTo, IsNear, AreNear, AreParts, ReadsSlot, ReadsItem, ReadsObject, ReadsField, ReadsFields, ReadsItems, ReadsBuffer}
use Rattle.fb_bytes.proofs.CellLemmas.{part_shapes}
use Rattle.fb_bytes.proofs.TableLemmas.{LacksIn, LacksIn-front}
use Rattle.fb_bytes.proofs.ObjectLemmas.{near}
use Rattle.fb_bytes.proofs.TableBack.{table_back}
use Rattle.fb_bytes.proofs.VectorBack.{tables_back, text_back, structs_back, root_back}

sound_in : (low : ℕ) (m : _) (row : Row_of-FbField m) → HasRisingSlots low (parts_in row) → AllSoundFields row → AreParts low (parts_in row)
sound_in low m end_of-FbField h s = tt
sound_in low m (more_of-FbField (Scalar slot width value) rest) h s = (h.0, h.1, s.0, sound_in (slot + 1) _ rest h.2 s.1)
sound_in low m (more_of-FbField (Child slot object) rest) h s = (h.0, h.1, near object s.0, sound_in (slot + 1) _ rest h.2 s.1)

near_in : (m : _) (row : Row_of-FbObject m) → AllSoundTables row → AreNear (laid_in row)
near_in m end_of-FbObject h = All-nil IsNear
near_in m (more_of-FbObject x rest) h = All-cons IsNear (laid x) (laid_in rest) (near x h.1) (near_in _ rest h.2)

-- a part behind others of other slots is the one in its slot
part_at-there : (front back : List Part) (p : Part) → LacksIn (part_slot p) (part_shapes front) → part_at (part_slot p) (front ++ p ∷ back) ≡ Some p
part_at-there [] back p h = ap (λ (b : Bool). cond b (Some p) (part_at (part_slot p) back)) (eq-eqb (part_slot p) (part_slot p) refl)
part_at-there (q ∷ front) back p h = skip (eqb (part_slot q) (part_slot p)) refl ∙ part_at-there front back p h.1
  where
    skip : (b : Bool) → eqb (part_slot q) (part_slot p) ≡ b → cond b (Some q) (part_at (part_slot p) (front ++ p ∷ back)) ≡ part_at (part_slot p) (front ++ p ∷ back)
    skip true e = absurd (h.0 (eqb-true (part_slot q) (part_slot p) e))
    skip false e = refl

slice_get-there : (front back : List Laid) (x : Laid) → slice_get (front ++ x ∷ back) (length front) ≡ Some x
slice_get-there [] back x = refl
slice_get-there (y ∷ front) back x = slice_get-there front back x

mutual
  pub reads_object : (bytes : List ℕ) → length bytes < 2 ^ 31 → (object : FbObject) (place : ℕ) → IsSound object → LeadsTo bytes place (laid object) → ReadsObject bytes place object
  reads_object bytes small (Table' shape fields) place sound l =
      let parts = parts_in fields in
      let are = sound_in 0 _ fields sound.0 sound.1 in
      let r = table_back bytes place parts small are l in (
        r.0,
        r.1,
        reads_fields bytes small r.0 r.2.same parts r.2.slots are _ fields [] refl sound.1,
        λ slot none. subst (ReadsSlot r.0 slot) none (r.2.slots slot),
      )
  reads_object bytes small (Tables' shape objects) place sound l =
      let r = tables_back bytes place (laid_in objects) small (near_in _ objects sound) l in
      (r.0, r.1, reads_items bytes small r.0 r.2.same (laid_in objects) r.2.items r.2.count _ objects [] 0 refl refl sound)
  reads_object bytes small (Structs width structs) place sound l = structs_back bytes place width structs small sound l
  reads_object bytes small (Text text) place sound l = text_back bytes place text small l

  reads_field : (bytes : List ℕ) → length bytes < 2 ^ 31 → (table : TableAt) → table.bytes ≡ bytes → (field : FbField) → IsSoundField field → ReadsSlot table (part_slot (part_of field)) (Some (part_of field)) → ReadsField bytes table field
  reads_field bytes small table same (Scalar slot width value) sound r = r
  reads_field bytes small table same (Child slot object) sound r =
      (r.0, r.1, reads_object bytes small object r.0 sound (subst (λ (b : List ℕ). LeadsTo b r.0 (laid object)) same r.2))

  reads_fields : (bytes : List ℕ) → length bytes < 2 ^ 31 → (table : TableAt) → table.bytes ≡ bytes → (parts : List Part) → ((slot : ℕ) → ReadsSlot table slot (part_at slot parts)) → AreParts 0 parts
      → (m : _) (row : Row_of-FbField m) (front : List Part) → parts ≡ front ++ parts_in row → AllSoundFields row → ReadsFields bytes table row
  reads_fields bytes small table same parts slots are m end_of-FbField front split sound = tt
  reads_fields bytes small table same parts slots are m (more_of-FbField field rest) front split sound =
      let p = part_of field in
      let lacks = LacksIn-front 0 front (parts_in rest) p (subst (AreParts 0) split are) in
      let here : part_at (part_slot p) parts ≡ Some p = ap (part_at (part_slot p)) split ∙ part_at-there front (parts_in rest) p lacks in (
        reads_field bytes small table same field sound.0 (subst (ReadsSlot table (part_slot p)) here (slots (part_slot p))),
        reads_fields bytes small table same parts slots are _ rest (front ++ p ∷ []) (split ∙ sym (append_assoc front (p ∷ []) (parts_in rest))) sound.1,
      )

  reads_items : (bytes : List ℕ) → length bytes < 2 ^ 31 → (vector : VectorAt) → vector.bytes ≡ bytes → (objects : List Laid) → ((i : ℕ) → ReadsItem vector i (slice_get objects i)) → vector.count ≡ length objects
      → (m : _) (row : Row_of-FbObject m) (front : List Laid) (i : ℕ) → i ≡ length front → objects ≡ front ++ laid_in row → AllSoundTables row → ReadsItems bytes vector i row
  reads_items bytes small vector same objects items count m end_of-FbObject front i at split sound =
      let l = ap length split ∙ length-append front [] in omega arith
  reads_items bytes small vector same objects items count m (more_of-FbObject object rest) front i at split sound =
      let here : slice_get objects i ≡ Some (laid object) = ap (λ (n : ℕ). slice_get objects n) at ∙ ap (λ (xs : List Laid). slice_get xs (length front)) split ∙ slice_get-there front (laid_in rest) (laid object) in
      let r : ReadsItem vector i (Some (laid object)) = subst (ReadsItem vector i) here (items i) in
      let next = length-append front (laid object ∷ []) in (
        (r.0, subst (λ (b : List ℕ). offset_at b (vector.start + 4 * i) ≡ Ok r.0) same r.1, reads_object bytes small object r.0 sound.1 (subst (λ (b : List ℕ). LeadsTo b r.0 (laid object)) same r.2)),
        reads_items bytes small vector same objects items count _ rest (front ++ laid object ∷ []) (i + 1) (omega arith) (split ∙ sym (append_assoc front (laid object ∷ []) (laid_in rest))) sound.2,
      )

-- a buffer reads back as its root object
pub reads_buffer : (root : FbObject) → length (buffer root) < 2 ^ 31 → IsSound root → ReadsBuffer (buffer root) root
reads_buffer root small sound =
    let r = root_back (laid root) small (near root sound) in
    (8 + (laid root).lead, r.0, reads_object (buffer root) small root (8 + (laid root).lead) sound r.1)
