-- The worked file of three rows: one required column of whole numbers, named x, with 1, 2 and -1.
use Rattle.std.proofs.Common.{◌≡◌, ℕ, Some, List, [], ◌∷◌, false, pos, negsuc, refl}
use Rattle.fb_bytes.specs.Layout.{table_laid, tables_laid, structs_laid, text_laid, buffer_of, round_up, filled, vtable, table_place, table_end, table_own}
use Rattle.sub_types.specs.declared.kind.Kind.TheVariants as kinds
use Rattle.sub_types.specs.declared.kind.Ty.{Ty}
use Rattle.sub_types.specs.declared.value.Value.{Value}
use Rattle.sub_types.specs.declared.value.Value.TheVariants as values
use Rattle.fb_bytes.specs.Reading.{number_at, offset_at, whole_vtable, table_at, root_of, entry_of, field_of, scalar_of, reference_of, table_of as fb_table_of, vector_at, vector_of, item_of, elements_of, table_item, text_at, text_of}
use Rattle.arrow_meta.specs.Looked.{number_in, table_in}
use Rattle.arrow_meta.specs.Shapes.{shape_in, type_shape, number_shape, int_in, encoding_in}
use Rattle.arrow_meta.specs.Footer.{footer_in, fields_in, field_at, field_in, blocks_in, block_at}
use Rattle.arrow_meta.specs.Message.{record_in, header_in, batch_in, pairs_in, pair_at}
use Rattle.arrow_meta.specs.Places.{footer_size, place_in, metadata_in}
use Rattle.arrow_meta.specs.Values.{validity_in, bits_in, unsigned_in}
use Rattle.arrow_meta.specs.Batch.{rows_in, count_in, buffer_in, column_buffers, column_in, columns_in}
use Rattle.arrow_meta.specs.Head.{footer_place, footer_at, record_at, dictionary_at, dictionary_block, block_body, has_compression, head_with, head_of}
use Rattle.arrow_meta.specs.Table.{table_of, opened, rows_with, wanted_in}
use Rattle.arrow_meta.specs.Buffers.{packed, validity_buffer}
use Rattle.arrow_meta.specs.File.{file_of, file_head, file_tail, footer_of, batch_message, batches}

types : List Ty
types = record { kind = kinds.I64; nullable = false } ∷ []

rows : List (List Value)
rows = (values.Int (pos 1) ∷ []) ∷ (values.Int (pos 2) ∷ []) ∷ (values.Int (negsuc 0) ∷ []) ∷ []

-- the 546 bytes of its file
bytes : List ℕ
bytes =
    65 ∷ 82 ∷ 82 ∷ 79 ∷ 87 ∷ 49 ∷ 0 ∷ 0 ∷ 255 ∷ 255 ∷ 255 ∷ 255 ∷ 152 ∷ 0 ∷ 0 ∷ 0
    ∷ 20 ∷ 0 ∷ 0 ∷ 0 ∷ 0 ∷ 0 ∷ 0 ∷ 0 ∷ 12 ∷ 0 ∷ 19 ∷ 0 ∷ 16 ∷ 0 ∷ 18 ∷ 0
    ∷ 12 ∷ 0 ∷ 4 ∷ 0 ∷ 12 ∷ 0 ∷ 0 ∷ 0 ∷ 0 ∷ 0 ∷ 0 ∷ 0 ∷ 0 ∷ 0 ∷ 0 ∷ 0
    ∷ 20 ∷ 0 ∷ 0 ∷ 0 ∷ 4 ∷ 0 ∷ 1 ∷ 0 ∷ 8 ∷ 0 ∷ 10 ∷ 0 ∷ 8 ∷ 0 ∷ 4 ∷ 0
    ∷ 0 ∷ 0 ∷ 0 ∷ 0 ∷ 12 ∷ 0 ∷ 0 ∷ 0 ∷ 8 ∷ 0 ∷ 0 ∷ 0 ∷ 0 ∷ 0 ∷ 0 ∷ 0
    ∷ 1 ∷ 0 ∷ 0 ∷ 0 ∷ 24 ∷ 0 ∷ 0 ∷ 0 ∷ 16 ∷ 0 ∷ 18 ∷ 0 ∷ 4 ∷ 0 ∷ 16 ∷ 0
    ∷ 17 ∷ 0 ∷ 8 ∷ 0 ∷ 0 ∷ 0 ∷ 12 ∷ 0 ∷ 0 ∷ 0 ∷ 0 ∷ 0 ∷ 20 ∷ 0 ∷ 0 ∷ 0
    ∷ 16 ∷ 0 ∷ 0 ∷ 0 ∷ 32 ∷ 0 ∷ 0 ∷ 0 ∷ 40 ∷ 0 ∷ 0 ∷ 0 ∷ 0 ∷ 2 ∷ 0 ∷ 0
    ∷ 1 ∷ 0 ∷ 0 ∷ 0 ∷ 120 ∷ 0 ∷ 0 ∷ 0 ∷ 8 ∷ 0 ∷ 9 ∷ 0 ∷ 4 ∷ 0 ∷ 8 ∷ 0
    ∷ 0 ∷ 0 ∷ 0 ∷ 0 ∷ 12 ∷ 0 ∷ 0 ∷ 0 ∷ 64 ∷ 0 ∷ 0 ∷ 0 ∷ 1 ∷ 0 ∷ 0 ∷ 0
    ∷ 0 ∷ 0 ∷ 0 ∷ 0 ∷ 0 ∷ 0 ∷ 0 ∷ 0 ∷ 255 ∷ 255 ∷ 255 ∷ 255 ∷ 136 ∷ 0 ∷ 0 ∷ 0
    ∷ 20 ∷ 0 ∷ 0 ∷ 0 ∷ 0 ∷ 0 ∷ 0 ∷ 0 ∷ 12 ∷ 0 ∷ 19 ∷ 0 ∷ 16 ∷ 0 ∷ 18 ∷ 0
    ∷ 12 ∷ 0 ∷ 4 ∷ 0 ∷ 12 ∷ 0 ∷ 0 ∷ 0 ∷ 24 ∷ 0 ∷ 0 ∷ 0 ∷ 0 ∷ 0 ∷ 0 ∷ 0
    ∷ 20 ∷ 0 ∷ 0 ∷ 0 ∷ 4 ∷ 0 ∷ 3 ∷ 0 ∷ 10 ∷ 0 ∷ 20 ∷ 0 ∷ 4 ∷ 0 ∷ 12 ∷ 0
    ∷ 16 ∷ 0 ∷ 0 ∷ 0 ∷ 12 ∷ 0 ∷ 0 ∷ 0 ∷ 3 ∷ 0 ∷ 0 ∷ 0 ∷ 0 ∷ 0 ∷ 0 ∷ 0
    ∷ 12 ∷ 0 ∷ 0 ∷ 0 ∷ 32 ∷ 0 ∷ 0 ∷ 0 ∷ 0 ∷ 0 ∷ 0 ∷ 0 ∷ 1 ∷ 0 ∷ 0 ∷ 0
    ∷ 3 ∷ 0 ∷ 0 ∷ 0 ∷ 0 ∷ 0 ∷ 0 ∷ 0 ∷ 0 ∷ 0 ∷ 0 ∷ 0 ∷ 0 ∷ 0 ∷ 0 ∷ 0
    ∷ 0 ∷ 0 ∷ 0 ∷ 0 ∷ 2 ∷ 0 ∷ 0 ∷ 0 ∷ 0 ∷ 0 ∷ 0 ∷ 0 ∷ 0 ∷ 0 ∷ 0 ∷ 0
    ∷ 0 ∷ 0 ∷ 0 ∷ 0 ∷ 0 ∷ 0 ∷ 0 ∷ 0 ∷ 0 ∷ 0 ∷ 0 ∷ 0 ∷ 0 ∷ 0 ∷ 0 ∷ 0
    ∷ 24 ∷ 0 ∷ 0 ∷ 0 ∷ 0 ∷ 0 ∷ 0 ∷ 0 ∷ 1 ∷ 0 ∷ 0 ∷ 0 ∷ 0 ∷ 0 ∷ 0 ∷ 0
    ∷ 2 ∷ 0 ∷ 0 ∷ 0 ∷ 0 ∷ 0 ∷ 0 ∷ 0 ∷ 255 ∷ 255 ∷ 255 ∷ 255 ∷ 255 ∷ 255 ∷ 255 ∷ 255
    ∷ 255 ∷ 255 ∷ 255 ∷ 255 ∷ 0 ∷ 0 ∷ 0 ∷ 0 ∷ 20 ∷ 0 ∷ 0 ∷ 0 ∷ 0 ∷ 0 ∷ 0 ∷ 0
    ∷ 12 ∷ 0 ∷ 18 ∷ 0 ∷ 16 ∷ 0 ∷ 4 ∷ 0 ∷ 8 ∷ 0 ∷ 12 ∷ 0 ∷ 12 ∷ 0 ∷ 0 ∷ 0
    ∷ 28 ∷ 0 ∷ 0 ∷ 0 ∷ 128 ∷ 0 ∷ 0 ∷ 0 ∷ 132 ∷ 0 ∷ 0 ∷ 0 ∷ 4 ∷ 0 ∷ 0 ∷ 0
    ∷ 8 ∷ 0 ∷ 10 ∷ 0 ∷ 8 ∷ 0 ∷ 4 ∷ 0 ∷ 0 ∷ 0 ∷ 0 ∷ 0 ∷ 12 ∷ 0 ∷ 0 ∷ 0
    ∷ 8 ∷ 0 ∷ 0 ∷ 0 ∷ 0 ∷ 0 ∷ 0 ∷ 0 ∷ 1 ∷ 0 ∷ 0 ∷ 0 ∷ 24 ∷ 0 ∷ 0 ∷ 0
    ∷ 16 ∷ 0 ∷ 18 ∷ 0 ∷ 4 ∷ 0 ∷ 16 ∷ 0 ∷ 17 ∷ 0 ∷ 8 ∷ 0 ∷ 0 ∷ 0 ∷ 12 ∷ 0
    ∷ 0 ∷ 0 ∷ 0 ∷ 0 ∷ 20 ∷ 0 ∷ 0 ∷ 0 ∷ 16 ∷ 0 ∷ 0 ∷ 0 ∷ 32 ∷ 0 ∷ 0 ∷ 0
    ∷ 40 ∷ 0 ∷ 0 ∷ 0 ∷ 0 ∷ 2 ∷ 0 ∷ 0 ∷ 1 ∷ 0 ∷ 0 ∷ 0 ∷ 120 ∷ 0 ∷ 0 ∷ 0
    ∷ 8 ∷ 0 ∷ 9 ∷ 0 ∷ 4 ∷ 0 ∷ 8 ∷ 0 ∷ 0 ∷ 0 ∷ 0 ∷ 0 ∷ 12 ∷ 0 ∷ 0 ∷ 0
    ∷ 64 ∷ 0 ∷ 0 ∷ 0 ∷ 1 ∷ 0 ∷ 0 ∷ 0 ∷ 0 ∷ 0 ∷ 0 ∷ 0 ∷ 0 ∷ 0 ∷ 0 ∷ 0
    ∷ 0 ∷ 0 ∷ 0 ∷ 0 ∷ 0 ∷ 0 ∷ 0 ∷ 0 ∷ 0 ∷ 0 ∷ 0 ∷ 0 ∷ 1 ∷ 0 ∷ 0 ∷ 0
    ∷ 168 ∷ 0 ∷ 0 ∷ 0 ∷ 0 ∷ 0 ∷ 0 ∷ 0 ∷ 144 ∷ 0 ∷ 0 ∷ 0 ∷ 0 ∷ 0 ∷ 0 ∷ 0
    ∷ 24 ∷ 0 ∷ 0 ∷ 0 ∷ 0 ∷ 0 ∷ 0 ∷ 0 ∷ 192 ∷ 0 ∷ 0 ∷ 0 ∷ 65 ∷ 82 ∷ 82 ∷ 79
    ∷ 87 ∷ 49
    ∷ []

three_rows : file_of ((120 ∷ []) ∷ []) types rows ≡ bytes
unfolding types rows bytes file_of file_head file_tail footer_of batch_message batches packed validity_buffer table_laid tables_laid structs_laid text_laid buffer_of round_up filled vtable table_place table_end table_own
three_rows = refl

-- and the table that is read from it
reads_back : table_of bytes ≡ Some (record { names = (120 ∷ []) ∷ []; types = types; rows = rows })
unfolding types rows bytes table_of opened rows_with wanted_in footer_place footer_at footer_size record_at dictionary_at dictionary_block block_body has_compression head_with head_of place_in metadata_in rows_in count_in buffer_in column_buffers column_in columns_in validity_in bits_in unsigned_in footer_in fields_in field_at field_in blocks_in block_at shape_in type_shape number_shape int_in encoding_in record_in header_in batch_in pairs_in pair_at number_in table_in number_at offset_at whole_vtable table_at root_of entry_of field_of scalar_of reference_of fb_table_of vector_at vector_of item_of elements_of table_item text_at text_of
reads_back = refl
