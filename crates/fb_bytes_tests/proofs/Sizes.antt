-- The buffers of the worked objects are small enough to be written.
use Rattle.std.proofs.Common.{◌≡◌, ◌<◌, ◌≤◌, ◌+◌, ◌^◌, ℕ, List, [], ◌∷◌, ◌++◌, length, ap, sym, subst, arith, lit<}
use Rattle.std.proofs.lemmas.List.{append-nil}
use Rattle.fb_bytes.specs.declared.object.FbObject.{FbObject}
use Rattle.fb_bytes.specs.Layout.{Laid, Offset, round_up, filled, vtable, table_place, table_end, table_own, table_laid, tables_laid, structs_laid, text_laid, buffer_of}
use Rattle.fb_bytes.specs.Object.{laid, buffer}
use Rattle.fb_bytes.specs.ReadBack.{AreParts}
use Rattle.fb_bytes.proofs.LawProofs.{length_laws, near_laws}
use Rattle.fb_bytes_tests.specs.Worked.{widths, one_text}

pub small : (o : FbObject) (l : Laid) → laid o ≡ l → length (buffer_of l) < 2 ^ 31 → length (buffer o) < 2 ^ 31
small o l e h = subst (λ (x : Laid). length (buffer_of x) < 2 ^ 31) (sym e) h

pub widths_small : length (buffer_of widths) < 2 ^ 31
unfolding widths round_up filled vtable table_place table_end table_own table_laid tables_laid structs_laid text_laid buffer_of
widths_small = lit< tt

pub one_text_small : (text : List ℕ) → length text < 64 → length (buffer_of (one_text text)) < 2 ^ 31
one_text_small text h =
    let are : AreParts 0 (Offset 0 (text_laid text) ∷ []) = (omega arith, omega arith, near_laws.text text, tt) in
    let t : length (table_laid (Offset 0 (text_laid text) ∷ [])).bytes ≤ 2 + 4 + 22 + length ((text_laid text).bytes ++ []) = length_laws.table (Offset 0 (text_laid text) ∷ []) are in
    let e : length ((text_laid text).bytes ++ []) ≡ length (text_laid text).bytes = ap length (append-nil (text_laid text).bytes) in
    let x = length_laws.text text in
    let b : length (buffer_of (table_laid (Offset 0 (text_laid text) ∷ []))) ≡ 8 + length (table_laid (Offset 0 (text_laid text) ∷ [])).bytes = length_laws.buffer (table_laid (Offset 0 (text_laid text) ∷ [])) in
    let all : length (buffer_of (table_laid (Offset 0 (text_laid text) ∷ []))) < 2 ^ 31 = omega arith in
    all
