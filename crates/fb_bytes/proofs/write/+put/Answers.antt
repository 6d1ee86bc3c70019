use Rattle.std.proofs.Common.{Vec, Global, ◌≡◌, ◌+◌, ◌-◌, ◌*◌, ◌++◌, ℕ, List, [], length, replicate, take, refl, sym, ap, subst, ◌∙◌, arith, rules}
use Rattle.std.proofs.lemmas.List.{length-take-le, length-append}
use Rattle.std.specs.Result.{OnOk}
use Rattle.byteorder.specs.Endian.{little_bytes}
use Rattle.fb_bytes.specs.declared.object.FbField.{FbField, Child}
use Rattle.fb_bytes.specs.declared.object.FbObject.{FbObject, the_lemmas}
use Rattle.fb_bytes.specs.Layout.{Laid, filled, table_own, table_place, table_laid, tables_laid}
use Rattle.fb_bytes.specs.Object.{laid, parts_of, laid_each}
use Rattle.fb_bytes.specs.Writing.{blanks}
use Rattle.fb_bytes.proofs.ObjectLemmas.{appended, appended_front, appended_long, tables_long, structs_long, text_long, ChildStep, child_step, number_step, same_field, few_fields, all_fields, TableStep, table_step, all_tables, TableFacts, table_facts, tables_facts, rising_count, sound_at, table_sound_at}
use Rattle.fb_bytes.proofs.BegunLemmas.{begun_start, vector_begun, vector_start}
use Rattle.fb_bytes.proofs.write.+put.Goals as goal
use Rattle.fb_bytes.proofs.write.+put.Goals.{put_children-After-entry, put_object-After-deref, put_object-After-len, put_tables-After-lead, put_children-in-Scalar, put_children-in-Child+in_ok-put_object-in-Child}

-- put_children

pub put_children-table_place-requires : goal.put_children-table_place-requires
put_children-table_place-requires t c = omega (arith, c.slot_count.ensures, rising_count 0 (parts_of c.args.fields.now) c.requires.slots)

pub put_children-overflow_add-table : goal.put_children-overflow_add-table
put_children-overflow_add-table t c =
    omega (arith, c.table_place.ensures.bound, c.slot_count.ensures, rising_count 0 (parts_of c.args.fields.now) c.requires.slots)

pub put_children-loop-field-init : goal.put_children-loop-field-init
put_children-loop-field-init t c =
    c.requires.own ∙ ap (λ (r : List ℕ). take c.args.start c.args.out.now.items ++ r) (sym (begun_start (parts_of c.args.fields.now)))

pub put_children-entry-requires : goal.put_children-entry-requires
put_children-entry-requires t c = few_fields c.args.fields.now c.requires.slots c.requires.sound

-- the step of the loop at a field that leads to an object
stepped : (t : ℕ) (c : put_children-After-entry t) → ChildStep c.args.fields.now c.loop-field.field-index c.in-Child.slot c.in-Child.object (take c.args.start c.args.out.now.items) c.loop-field.out.items (c.args.start + c.table_place.result + c.entry.result)
stepped t c =
    let start = length-take-le c.args.start c.args.out.now.items (omega arith) in
    let place = c.table_place.ensures.value ∙ ap table_place c.slot_count.ensures in
    child_step c.args.fields.now c.loop-field.field-index c.in-Child.slot c.in-Child.object (take c.args.start c.args.out.now.items) c.loop-field.out.items (c.args.start + c.table_place.result + c.entry.result)
    c.requires.slots c.requires.sound c.loop-field-test.true (same_field c.args.fields.now c.loop-field.field-index _ _ c.field-item.is c.in-Child.is) c.loop-field.invariant
    (omega (arith, start, place, c.entry.ensures))

pub put_children-lead-requires : goal.put_children-lead-requires
put_children-lead-requires t c =
    sound_at c.args.fields.now c.loop-field.field-index (Child c.in-Child.slot c.in-Child.object) c.requires.sound c.loop-field-test.true (same_field c.args.fields.now c.loop-field.field-index _ _ c.field-item.is c.in-Child.is)

pub put_children-overflow_add-place : goal.put_children-overflow_add-place
put_children-overflow_add-place t c = let s = stepped t c in omega (arith, s.inside, s.room)

pub put_children-overflow_sub-offset : goal.put_children-overflow_sub-offset
put_children-overflow_sub-offset t c =
    let s = stepped t (goal.at.put_children-overflow_sub-offset t c).After-entry in
    omega (arith, s.inside)

pub put_children-put_object-requires : goal.put_children-put_object-requires
put_children-put_object-requires t c =
    let s = stepped t (goal.at.put_children-put_object-requires t c).After-entry in
    let start = length-take-le c.args.start c.args.out.now.items (omega arith) in
    (search (rules, the_lemmas), (sound_at c.args.fields.now c.loop-field.field-index (Child c.in-Child.slot c.in-Child.object) c.requires.sound c.loop-field-test.true (same_field c.args.fields.now c.loop-field.field-index _ _ c.field-item.is c.in-Child.is), omega (arith, s.room, start)))

pub put_children-overflow_cast-offset : goal.put_children-overflow_cast-offset
put_children-overflow_cast-offset t c =
    let s = stepped t (goal.at.put_children-overflow_cast-offset t c).After-entry in
    let start = length-take-le c.args.start c.args.out.now.items (omega arith) in
    omega (arith, s.room, s.inside, start, c.lead.ensures.bound)

pub put_children-set_offset-requires : goal.put_children-set_offset-requires
put_children-set_offset-requires t c =
    let s = stepped t (goal.at.put_children-set_offset-requires t c).After-entry in
    let long = ap length c.in_ok-put_object-in-Child.ensures ∙ length-append c.loop-field.out.items (laid c.in-Child.object).bytes in
    omega (arith, s.inside, long)

pub put_children-loop-field-preserved : goal.put_children-loop-field-preserved
put_children-loop-field-preserved t c =
    elim c.match-field.branch [
      | put_children-in-Scalar w ↦
          ap (λ (v : Vec ℕ Global). v.items) w.out-is
          ∙ number_step c.args.fields.now c.loop-field.field-index w.in-Scalar.slot w.in-Scalar.width w.in-Scalar.value (take c.args.start c.args.out.now.items) c.loop-field.out.items
          c.loop-field-test.true (same_field c.args.fields.now c.loop-field.field-index _ _ c.field-item.is w.in-Scalar.is) c.loop-field.invariant
      | put_children-in-Child+in_ok-put_object-in-Child w ↦
          let start = length-take-le c.args.start c.args.out.now.items (omega arith) in
          let place = c.table_place.ensures.value ∙ ap table_place c.slot_count.ensures in
          let s = child_step c.args.fields.now c.loop-field.field-index w.in-Child.slot w.in-Child.object (take c.args.start c.args.out.now.items) c.loop-field.out.items (c.args.start + c.table_place.result + w.entry.result)
          c.requires.slots c.requires.sound c.loop-field-test.true (same_field c.args.fields.now c.loop-field.field-index _ _ c.field-item.is w.in-Child.is) c.loop-field.invariant
          (omega (arith, start, place, w.entry.ensures)) in
          ap (λ (v : Vec ℕ Global). v.items) w.out-is ∙ w.set_offset.ensures
          ∙ s.next w.lead.result _ w.put_object.new.out.items w.lead.ensures.value (omega (arith, w.len.ensures)) w.in_ok-put_object-in-Child.ensures
    ]

pub put_children-returns : goal.put_children-returns
put_children-returns t c = c.loop-field.invariant ∙ all_fields c.args.fields.now c.loop-field.field-index _ (omega arith)

-- put_object

facts : (t : ℕ) (c : put_object-After-deref t) → TableFacts c.args.object.now c.deref.result.now
facts t c = table_facts c.args.object.now c.in-Table.fields c.deref.result.now c.in-Table.is c.deref.ensures.value c.requires.sound

pub put_object-put_table-requires-clause-few : goal.put_object-put_table-requires-clause-few
put_object-put_table-requires-clause-few t c = (facts t c).few

pub put_object-put_table-requires-clause-slots : goal.put_object-put_table-requires-clause-slots
put_object-put_table-requires-clause-slots t c = (facts t c).slots

pub put_object-put_children-requires : goal.put_object-put_children-requires
put_object-put_children-requires t c =
    let f = table_facts c.args.object.now c.in-Table.fields c.deref-in-Table.result.now c.in-Table.is c.deref-in-Table.ensures.value c.requires.sound in
    let same : c.deref.result.now ≡ c.deref-in-Table.result.now = c.deref.ensures.value ∙ sym c.deref-in-Table.ensures.value in
    let own : List FbField → List ℕ = λ fs. filled (table_own (parts_of fs) (blanks (parts_of fs))) in
    let put : c.put_table.new.out.items ≡ c.args.out.now.items ++ own c.deref-in-Table.result.now = c.in_ok-put_table-in-Table.ensures ∙ ap (λ (fs : List FbField). c.args.out.now.items ++ own fs) same in
    let long = appended_long c.args.out.now.items (own c.deref-in-Table.result.now) c.put_table.new.out.items put in
    let size = ap (λ (l : Laid). length l.bytes) f.laid_is in
    let begins = appended c.len-start.result c.args.out.now.items (own c.deref-in-Table.result.now) c.put_table.new.out.items (omega (arith, c.len-start.ensures)) put in
    (search (rules, the_lemmas), (f.rising, (f.sound, (begins, (omega (arith, long, c.len-start.ensures), omega (arith, size, c.len-start.ensures, c.requires.small))))))

pub put_object-put_blank_offsets-requires-clause-few : goal.put_object-put_blank_offsets-requires-clause-few
put_object-put_blank_offsets-requires-clause-few t c =
    let f = tables_facts c.args.object.now c.in-Tables.objects c.in-Tables.objects.items c.in-Tables.is refl c.requires.sound in
    let size = ap (λ (l : Laid). length l.bytes) f.laid_is in
    omega (arith, size, tables_long c.in-Tables.objects.items, c.len.ensures, c.requires.small)

pub put_object-put_blank_offsets-requires-clause-small : goal.put_object-put_blank_offsets-requires-clause-small
put_object-put_blank_offsets-requires-clause-small t c =
    let f = tables_facts c.args.object.now c.in-Tables.objects c.in-Tables.objects.items c.in-Tables.is refl c.requires.sound in
    let size = ap (λ (l : Laid). length l.bytes) f.laid_is in
    omega (arith, size, tables_long c.in-Tables.objects.items, c.len.ensures, c.requires.small)

pub put_object-put_tables-requires : goal.put_object-put_tables-requires
put_object-put_tables-requires t c =
    let f = tables_facts c.args.object.now c.in-Tables.objects c.deref-in-Tables.result.now c.in-Tables.is c.deref-in-Tables.ensures.value c.requires.sound in
    let count : c.len.result ≡ length c.deref-in-Tables.result.now = omega (arith, c.len.ensures, c.deref-in-Tables.ensures.len) in
    let own : ℕ → List ℕ = λ n. filled (little_bytes 4 n ++ replicate (4 * n) 0) in
    let put : c.put_blank_offsets.new.out.items ≡ c.args.out.now.items ++ own (length c.deref-in-Tables.result.now) = c.in_ok-put_blank_offsets-in-Tables.ensures ∙ ap (λ (n : ℕ). c.args.out.now.items ++ own n) count in
    let long = appended_long c.args.out.now.items (own (length c.deref-in-Tables.result.now)) c.put_blank_offsets.new.out.items put in
    let size = ap (λ (l : Laid). length l.bytes) f.laid_is in
    let begins = appended c.len-start.result c.args.out.now.items (own (length c.deref-in-Tables.result.now)) c.put_blank_offsets.new.out.items (omega (arith, c.len-start.ensures)) put in
    (search (rules, the_lemmas), (f.sound, (begins, (omega (arith, long, c.len-start.ensures), omega (arith, size, c.len-start.ensures, c.requires.small)))))

pub put_object-put_structs-requires-clause-small : goal.put_object-put_structs-requires-clause-small
put_object-put_structs-requires-clause-small t c =
    let size = ap (λ (o : FbObject). length (laid o).bytes) c.in-Structs.is in
    omega (arith, size, structs_long c.in-Structs.width c.in-Structs.bytes, ap length c.bytes.ensures, c.requires.small)

pub put_object-put_text-requires : goal.put_object-put_text-requires
put_object-put_text-requires t c =
    let size = ap (λ (o : FbObject). length (laid o).bytes) c.in-Text.is in
    omega (arith, size, text_long c.in-Text.bytes, ap length c.bytes-in-Text.ensures, c.requires.small)

pub put_object-returns-in_ok-put_table-in-Table : goal.put_object-returns-in_ok-put_table-in-Table
put_object-returns-in_ok-put_table-in-Table t c =
    let f = table_facts c.args.object.now c.in-Table.fields c.deref-in-Table.result.now c.in-Table.is c.deref-in-Table.ensures.value c.requires.sound in
    let front = appended_front c.len-start.result c.args.out.now.items _ c.put_table.new.out.items (omega (arith, c.len-start.ensures)) c.in_ok-put_table-in-Table.ensures in
    subst (λ (r : List ℕ). OnOk c.put_children.result (c.put_children.new.out.items ≡ r))
    (ap (λ (r : List ℕ). r ++ (table_laid (parts_of c.deref-in-Table.result.now)).bytes) front ∙ ap (λ (l : Laid). c.args.out.now.items ++ l.bytes) (sym f.laid_is))
    c.put_children.ensures

pub put_object-returns-in_ok-put_blank_offsets-in-Tables : goal.put_object-returns-in_ok-put_blank_offsets-in-Tables
put_object-returns-in_ok-put_blank_offsets-in-Tables t c =
    let f = tables_facts c.args.object.now c.in-Tables.objects c.deref-in-Tables.result.now c.in-Tables.is c.deref-in-Tables.ensures.value c.requires.sound in
    let front = appended_front c.len-start.result c.args.out.now.items _ c.put_blank_offsets.new.out.items (omega (arith, c.len-start.ensures)) c.in_ok-put_blank_offsets-in-Tables.ensures in
    subst (λ (r : List ℕ). OnOk c.put_tables.result (c.put_tables.new.out.items ≡ r))
    (ap (λ (r : List ℕ). r ++ (tables_laid (laid_each c.deref-in-Tables.result.now)).bytes) front ∙ ap (λ (l : Laid). c.args.out.now.items ++ l.bytes) (sym f.laid_is))
    c.put_tables.ensures

-- put_tables

pub put_tables-loop-i-init : goal.put_tables-loop-i-init
put_tables-loop-i-init t c =
    let n = length c.args.objects.now in
    let whole : n ≡ n - 0 = omega arith in
    c.requires.own ∙ ap (λ (r : List ℕ). take c.args.start c.args.out.now.items ++ r) (sym (vector_start n) ∙ ap (λ (m : ℕ). vector_begun n [] m) whole)

-- the step of the loop at a table
table_stepped : (t : ℕ) (c : put_tables-After-lead t) → TableStep c.args.objects.now c.loop-i.i c.index-objects-i.result (take c.args.start c.args.out.now.items) c.loop-i.out.items (c.args.start + 4 + 4 * c.loop-i.i)
table_stepped t c =
    let start = length-take-le c.args.start c.args.out.now.items (omega arith) in
    table_step c.args.objects.now c.loop-i.i c.index-objects-i.result (take c.args.start c.args.out.now.items) c.loop-i.out.items (c.args.start + 4 + 4 * c.loop-i.i)
    c.loop-i-test.true c.index-objects-i.is c.loop-i.invariant (omega (arith, start))

pub put_tables-overflow_sub-offset : goal.put_tables-overflow_sub-offset
put_tables-overflow_sub-offset t c = let s = table_stepped t c in omega (arith, s.inside)

pub put_tables-put_object-requires : goal.put_tables-put_object-requires
put_tables-put_object-requires t c =
    let s = table_stepped t (goal.at.put_tables-put_object-requires t c).After-lead in
    let start = length-take-le c.args.start c.args.out.now.items (omega arith) in
    (search (rules, the_lemmas), ((table_sound_at c.args.objects.now c.loop-i.i c.index-objects-i.result c.requires.sound c.loop-i-test.true c.index-objects-i.is).1, omega (arith, s.room, start)))

pub put_tables-overflow_cast-offset : goal.put_tables-overflow_cast-offset
put_tables-overflow_cast-offset t c =
    let s = table_stepped t (goal.at.put_tables-overflow_cast-offset t c).After-lead in
    let start = length-take-le c.args.start c.args.out.now.items (omega arith) in
    omega (arith, s.room, s.inside, start, c.lead.ensures.bound)

pub put_tables-set_offset-requires : goal.put_tables-set_offset-requires
put_tables-set_offset-requires t c =
    let s = table_stepped t (goal.at.put_tables-set_offset-requires t c).After-lead in
    let long = ap length c.in_ok-put_object.ensures ∙ length-append c.loop-i.out.items (laid c.index-objects-i.result).bytes in
    omega (arith, s.inside, long)

pub put_tables-loop-i-preserved : goal.put_tables-loop-i-preserved
put_tables-loop-i-preserved t c =
    let s = table_stepped t (goal.at.put_tables-loop-i-preserved t c).After-lead in
    c.set_offset.ensures ∙ s.next c.lead.result _ c.put_object.new.out.items c.lead.ensures.value (omega (arith, c.len.ensures)) c.in_ok-put_object.ensures

pub put_tables-returns : goal.put_tables-returns
put_tables-returns t c = c.loop-i.invariant ∙ all_tables c.args.objects.now c.loop-i.i _ _ (omega arith) (omega arith)
