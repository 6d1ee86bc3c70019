-- The rows of a file's blocks are of the kinds of its columns.
use Rattle.std.proofs.Common.{◌≡◌, ℕ, ◌+◌, ◌<◌, List, Option, Some, None, Result, Ok, Err, IfOk, drop, refl, sym, subst, ap, ◌∙◌}
use Rattle.std.specs.Prelude.{slice_get}
use Rattle.std.specs.List.{All, AllByRecursion, range_with_len}
use Rattle.std.specs.Option.{ForSome}
use Rattle.std.specs.Result.{result_ok}
use Rattle.std.proofs.lemmas.List.Elements.{recursion_from_All}
use Rattle.sub_types.specs.declared.kind.Ty.{Ty}
use Rattle.sub_types.specs.declared.value.Value.{Value}
use Rattle.arrow_meta.specs.declared.meta.Block.{Block}
use Rattle.arrow_meta.specs.Head.{Head, footer_place, head_with, head_of, place_body, block_body}
use Rattle.arrow_meta.specs.Messages.{Place}
use Rattle.arrow_meta.specs.Places.{place_in}
use Rattle.arrow_meta.specs.Batch.{rows_in}
use Rattle.arrow_meta.specs.Table.{Opened, opened, rows_with, shapes_of, wanted_in}
use Rattle.arrow_meta.specs.Table as table
use Rattle.arrow_decode.proofs.InKindLaws.{bound}
use Rattle.table_rows.specs.Blocks.{HaveKinds, block_stream, file_streams}
use Rattle.denote_typed.specs.Kinded.{AreInKinds, IsWellKinded}
use Rattle.denote_typed.proofs.RowsLaws.{mapped, every, taken, dropped}
use Rattle.file_kinds.proofs.ColumnLaws.{AreBytes, rows_are, wanted_are}
use Rattle.file_kinds.proofs.DictionaryLaws.{HoldsTexts, dictionaries_hold}
use Rattle.file_kinds.proofs.ShapeLaws.{AreSound, head_is}

-- a head whose columns have shapes that a file can have, and whose dictionaries hold texts
record IsHead (head : Head) : Type 0 where
  pub sound : AreSound head.columns
  pub texts : AllByRecursion HoldsTexts head.dictionaries

head_with_is : (bytes : List ℕ) → IfOk (head_of bytes) IsHead
unfolding head_with
head_with_is bytes = head_is IsHead bytes (λ place footer sound. record { sound = sound; texts = dictionaries_hold _ footer.columns })

ok_is : {A E : Type 0} (P : A → Type 0) (given : Result A E) (x : A) → IfOk given P → given ≡ Ok x → P x
ok_is P (Ok y) x is same = let e : y ≡ x = cc in subst P e is
ok_is P (Err e) x is same = absurd (cc)

-- the body of a block
body_is : (bytes : List ℕ) (place : Option Place) → AreBytes bytes → AreBytes (place_body bytes place)
body_is bytes None all = tt
body_is bytes (Some place) all = taken (λ byte. byte < 256) place.body_len (drop (place.offset + place.meta_len) bytes) (dropped (λ byte. byte < 256) (place.offset + place.meta_len) bytes all)

block_is : (bytes : List ℕ) (footer : ℕ) (block : Block) → AreBytes bytes → AreBytes (block_body bytes footer block)
unfolding block_body
block_is bytes footer block all = body_is bytes (place_in footer block) all

-- the head of a file that is opened
opened_head : (bytes : List ℕ) (head : Head) (file : Opened) → head_of bytes ≡ Ok head → opened bytes ≡ Some file → head ≡ file.head
unfolding opened
opened_head bytes head file is found =
    let footer = bound (result_ok (footer_place bytes)) _ file found in
    let own = bound (result_ok (head_of bytes)) (λ head. Some (record { footer = footer.0; head = head })) file footer.2 in
    let same : record { footer = footer.0; head = own.0 } ≡ file = let e = own.2 in cc in
    let first : Some head ≡ Some own.0 = ap result_ok (sym is) ∙ own.1 in
    let one : head ≡ own.0 = cc in
    one ∙ ap (λ (file : Opened). file.head) same

module _ (bytes : List ℕ) (all : AreBytes bytes) (head : Head) (is : head_of bytes ≡ Ok head) (wanted : List ℕ) (types : List Ty) (kinds : HaveKinds head.columns wanted types) where
  with_rows : (file : Opened) (block : ℕ) → head ≡ file.head → ForSome (rows_with bytes file block wanted) (AllByRecursion (AreInKinds types))
  unfolding rows_with
  with_rows file block same rows found =
      let known : IsHead file.head = subst IsHead same (ok_is IsHead (head_of bytes) head (head_with_is bytes) is) in
      let place = bound (slice_get file.head.blocks block) _ rows found in
      let listed = bound (slice_get file.head.metas block) _ rows place.2 in
      let meta = bound listed.0 (λ meta. rows_in (shapes_of file.head.columns) meta (block_body bytes file.footer place.0) (wanted_in file.head wanted)) rows listed.2 in
      rows_are types (shapes_of file.head.columns) meta.0 (block_body bytes file.footer place.0) (wanted_in file.head wanted) (block_is bytes file.footer place.0 all)
      (wanted_are file.head wanted types known.sound known.texts (subst (λ (one : Head). HaveKinds one.columns wanted types) same kinds)) rows meta.2

  rows_of_block : (block : ℕ) → ForSome (table.rows_of bytes block wanted) (AllByRecursion (AreInKinds types))
  unfolding table.rows_of
  rows_of_block block rows found =
      let file = bound (opened bytes) (λ file. rows_with bytes file block wanted) rows found in
      with_rows file.0 block (opened_head bytes head file.0 is file.1) rows file.2

  stream_is : (relation file block : ℕ) (found : Option (List (List Value))) → ForSome found (AllByRecursion (AreInKinds types)) → IsWellKinded types (block_stream relation file block found)
  stream_is relation file block None k = tt
  stream_is relation file block (Some rows) k = k rows refl

  streams_are : (relation file blocks : ℕ) → AllByRecursion (IsWellKinded types) (file_streams relation file bytes blocks wanted)
  unfolding file_streams
  streams_are relation file blocks =
      mapped (λ _. Unit {0}) (IsWellKinded types) (λ block. block_stream relation file block (table.rows_of bytes block wanted)) (range_with_len 0 blocks) (every (λ _. Unit {0}) (range_with_len 0 blocks) (λ _. tt))
      (λ block _. stream_is relation file block (table.rows_of bytes block wanted) (rows_of_block block))

-- the blocks of a file
pub law_of_files : (relation file : ℕ) (bytes : List ℕ) (head : Head) (blocks : ℕ) (wanted : List ℕ) (types : List Ty) → All (λ byte. byte < 256) bytes → head_of bytes ≡ Ok head → HaveKinds head.columns wanted types
    → AllByRecursion (IsWellKinded types) (file_streams relation file bytes blocks wanted)
law_of_files relation file bytes head blocks wanted types all is kinds = streams_are bytes (recursion_from_All (λ byte. byte < 256) bytes all) head is wanted types kinds relation file blocks
