-- The laws of the layout.
use Rattle.std.proofs.Common.{◌≡◌, ◌≤◌, ◌<◌, ◌+◌, ◌*◌, ◌/◌, ◌^◌, ℕ, List, [], ◌∷◌, ◌++◌, length, replicate, Option, Some, Result, Ok, sym, ap, ◌∙◌, arith, length-append}
use Rattle.byteorder.specs.Endian.{little_bytes}
use Rattle.fb_bytes.specs.declared.bad_buffer.BadBuffer.{BadBuffer}
use Rattle.fb_bytes.specs.Layout.{Laid, Part, behind, slot_count, fields_width, cells, filled, table_place, table_end, table_own, table_laid, in_order, tables_laid, structs_laid, text_laid, buffer_of}
use Rattle.fb_bytes.specs.Reading.{when_present, number_at, offset_at, TableAt, root_of, table_at, reference_of, scalar_of, table_of, vector_at, vector_of, text_at, text_of, table_item}
use Rattle.sub_types.specs.ResultSteps.{◌>>=◌}
use Rattle.fb_bytes.specs.ReadBack.{AreParts}
use Rattle.fb_bytes.specs.Laws.{RootReadsBack, TableReadsBack, TablesReadBack, ItemReadsBack, StructsReadBack, TextReadsBack, AbsenceReadsBack, LaidIsNear, LaidLengths}
use Rattle.fb_bytes.proofs.CellLemmas.{shapes-cells}
use Rattle.fb_bytes.proofs.TableLemmas.{slot_count-bound, round_up-bound, table_place-bound, length-filled, length-own-filled}
use Rattle.fb_bytes.proofs.BegunLemmas.{length-vector_begun, vector_end}
use Rattle.fb_bytes.proofs.ObjectLemmas.{length-buffer_of}
use Rattle.fb_bytes.proofs.TableBack.{table_back}
use Rattle.fb_bytes.proofs.VectorBack.{tables_back, structs_back, text_back, root_back}

near_table : (parts : List Part) → AreParts 0 parts → (table_laid parts).lead < 2 ^ 31
unfolding table_laid
near_table parts h = let n = slot_count-bound 0 parts h in let b = table_place-bound (slot_count parts) in omega arith

pub near_laws : LaidIsNear
unfolding tables_laid structs_laid text_laid
near_laws = record { table = near_table; tables = λ objects. omega arith; structs = λ width structs. omega arith; text = λ text. omega arith }

pub root_law : RootReadsBack
unfolding root_of
root_law parts sound small =
    let r = root_back (table_laid parts) small (near_table parts sound) in
    let b = table_back (buffer_of (table_laid parts)) (8 + (table_laid parts).lead) parts small sound r.1 in
    (b.0, ap (λ (q : Result ℕ BadBuffer). q >>= table_at (buffer_of (table_laid parts))) r.0 ∙ b.1, b.2)

-- what a slot leads to is read at the place that its offset leads to
followed : {A : Type 0} (t : TableAt) (slot place : ℕ) (read : ℕ → Result A BadBuffer) (x : A) → reference_of t slot ≡ Ok (Some place) → read place ≡ Ok x → (reference_of t slot >>= λ p. when_present p read) ≡ Ok (Some x)
followed t slot place read x e f =
    ap (λ (q : Result (Option ℕ) BadBuffer). q >>= λ p. when_present p read) e ∙ ap (λ q. q >>= λ y. Ok (Some y)) f

pub table_law : TableReadsBack
unfolding table_of
table_law t slot s parts small sound h =
    let b = table_back t.bytes h.0 parts small sound h.2 in
    (b.0, followed t slot h.0 (table_at t.bytes) b.0 h.1 b.1, b.2)

pub tables_law : TablesReadBack
unfolding vector_of
tables_law t slot s objects small near h =
    let b = tables_back t.bytes h.0 objects small near h.2 in
    (b.0, followed t slot h.0 (vector_at t.bytes 4) b.0 h.1 b.1, b.2)

pub structs_law : StructsReadBack
unfolding vector_of
structs_law t slot s width structs small sound h =
    let b = structs_back t.bytes h.0 width structs small sound h.2 in
    (b.0, followed t slot h.0 (vector_at t.bytes width) b.0 h.1 b.1, b.2)

pub text_law : TextReadsBack
unfolding text_of
text_law t slot s text small h = followed t slot h.0 (text_at t.bytes) text h.1 (text_back t.bytes h.0 text small h.2)

pub item_law : ItemReadsBack
unfolding table_item
item_law v i parts small sound h =
    let b = table_back v.bytes h.0 parts small sound h.2 in
    (b.0, ap (λ (q : Result ℕ BadBuffer). q >>= table_at v.bytes) h.1 ∙ b.1, b.2)

pub absence_law : AbsenceReadsBack
unfolding scalar_of reference_of table_of vector_of text_of
absence_law t slot h = record {
  scalar = λ width. ap (λ (p : Option ℕ). when_present p (number_at t.bytes width)) h;
  table = ap (λ (p : Option ℕ). when_present p (offset_at t.bytes) >>= λ q. when_present q (table_at t.bytes)) h;
  vector = λ width. ap (λ (p : Option ℕ). when_present p (offset_at t.bytes) >>= λ q. when_present q (vector_at t.bytes width)) h;
  text = ap (λ (p : Option ℕ). when_present p (offset_at t.bytes) >>= λ q. when_present q (text_at t.bytes)) h;
}

length-table : (parts : List Part) → AreParts 0 parts → length (table_laid parts).bytes ≤ 2 * slot_count parts + fields_width parts + 22 + length (behind parts)
unfolding table_laid table_end
length-table parts sound =
    let own = filled (table_own parts (cells (table_end parts) parts)) in
    let a = length-append own (behind parts) in
    let o = length-own-filled parts (cells (table_end parts) parts) sound (shapes-cells (table_end parts) parts) in
    let p = table_place-bound (slot_count parts) in
    let u = round_up-bound (table_place (slot_count parts) + 4 + fields_width parts) in
    omega arith

length-tables : (objects : List Laid) → length (tables_laid objects).bytes ≤ 4 * length objects + 11 + length (in_order objects)
length-tables objects =
    let e = ap length (sym (vector_end objects)) ∙ length-vector_begun (length objects) objects 0 (omega arith) in
    let u = round_up-bound (4 + 4 * length objects) in
    omega arith

length-structs : (width : ℕ) (structs : List ℕ) → length (structs_laid width structs).bytes ≤ length structs + 15
unfolding structs_laid
length-structs width structs =
    let e = length-filled (replicate {A = ℕ} 4 0 ++ (little_bytes 4 (length structs / width) ++ structs)) in
    let u = round_up-bound (length (replicate {A = ℕ} 4 0 ++ (little_bytes 4 (length structs / width) ++ structs))) in
    omega arith

length-text : (text : List ℕ) → length (text_laid text).bytes ≤ length text + 12
unfolding text_laid
length-text text =
    let e = length-filled (little_bytes 4 (length text) ++ (text ++ 0 ∷ [])) in
    let u = round_up-bound (length (little_bytes 4 (length text) ++ (text ++ 0 ∷ []))) in
    let a = length-append text (0 ∷ []) in
    omega arith

pub length_laws : LaidLengths
length_laws = record { buffer = length-buffer_of; table = length-table; tables = length-tables; structs = length-structs; text = length-text }
