-- What a worker makes of a block.
use Rattle.std.proofs.Common.{◌≡◌, ◌∙◌, ℕ, ◌<◌, List, Option, Some, None, IfSome, length, get_or, slice_get, vec_len, sym, ap, subst, arith}
use Rattle.std.specs.List.{All}
use Rattle.std.proofs.lemmas.Option.{slice_get-get_or}
use Rattle.sub_types.specs.declared.fault.Fault.{Fault}
use Rattle.sub_types.specs.declared.value.Value.{Value}
use Rattle.sub_types.specs.Stream.{Stream, rows_alone, each}
use Rattle.sub_types.specs.Value.{Fits}
use Rattle.arrow_decode.specs.declared.dictionary.DictColumn.{DictColumn}
use Rattle.arrow_decode.specs.declared.raw.Raw.{Raw}
use Rattle.batch.specs.declared.batch.Batch.{Batch}
use Rattle.batch.specs.BatchRows.{rows_of, types_of}
use Rattle.block_source.specs.declared.file.BlockFile.{BlockFile}
use Rattle.block_source.specs.declared.file.BlockPlace.{BlockPlace}
use Rattle.block_source.specs.Places.{places_of}
use Rattle.block_source.proofs.InPlaces.{place_is_in}
use Rattle.std.proofs.lemmas.Option.{slice_get_within}
use Rattle.table_rows.specs.Blocks.{IsReadFault}
use Rattle.table_rows.specs.Read.{read_row}
use Rattle.table_rows.proofs.EndLaws.{each_ends}
use Rattle.block_rows.specs.declared.table.TableRows.{TableRows}
use Rattle.block_rows.specs.Made.{IsRowsAt, block_at, with_end, number_at, dictionaries_in, rows_by, rows_with}

-- a tested batch as an outcome
pub made_of : (rows : TableRows) (place : BlockPlace) (found : List (List Value)) (batch : Batch) (end : Option Fault) (all : Option (List (List Value))) → types_of batch ≡ rows.types.now → All (Fits rows.types.now) (rows_of batch)
    → record { rows = rows_of batch; end = end } ≡ each (read_row rows.relation rows.types.now) (rows_alone found) → all ≡ Some found → IsRowsAt rows place (block_at rows place all) (with_end batch end)
made_of rows place found batch None all typed fit stream is =
    (record { types_are = typed; fit = fit }, ap (block_at rows place) is ∙ sym stream)
made_of rows place found batch (Some fault) all typed fit stream is =
    let ends = each_ends rows.relation (number_at rows place) place.block rows.types.now found in
    let End : Stream (List Value) → Type 0 = λ s. IfSome s.end (IsReadFault rows.relation (number_at rows place) place.block) in
    (record { types_are = typed; fit = fit }, ap (block_at rows place) is ∙ sym stream, subst End (sym stream) ends)

-- the dictionaries of the file at a place
pub dictionaries_at : (files : List BlockFile) (at : ℕ) (one : BlockFile) (dictionaries : List DictColumn) → at < length files → one ≡ get_or files at one → dictionaries ≡ one.head.dictionaries.items
    → dictionaries_in (slice_get files at) ≡ dictionaries
dictionaries_at files at one dictionaries within is same =
    ap dictionaries_in (slice_get-get_or files at one within ∙ ap (λ (f : BlockFile). Some f) (sym is)) ∙ sym same

pub rows_found : (rows : TableRows) (place : BlockPlace) (raw : Raw) (one : BlockFile) (dictionaries : List DictColumn) (found : Option (List (List Value))) → place.file < vec_len rows.table.now.files
    → one ≡ get_or rows.table.now.files.items place.file one → dictionaries ≡ one.head.dictionaries.items → rows_by dictionaries raw ≡ found → rows_with rows place raw ≡ found
rows_found rows place raw one dictionaries found within is same by =
    ap (λ (d : List DictColumn). rows_by d raw) (dictionaries_at rows.table.now.files.items place.file one dictionaries (omega (arith, within, rows.table.now.files.ok.0)) is same) ∙ by

-- the file of a number's place exists
pub file_within : (rows : TableRows) (number : ℕ) (place : BlockPlace) → Some place ≡ slice_get (places_of rows.table.now.files.items) number → place.file < vec_len rows.table.now.files
file_within rows number place is =
    let in_files = place_is_in rows.table.now.files.items number place (sym is) in
    let within = slice_get_within rows.table.now.files.items place.file in_files.one in_files.is in
    omega (arith, within, rows.table.now.files.ok.0)
