-- Rows of every kind, with nulls: what the law asks holds of them, and their file reads back by computation too.
use Rattle.std.proofs.Common.{rules, ◌≡◌, ◌<◌, ◌^◌, ℕ, Some, List, [], ◌∷◌, true, false, pos, negsuc, ℤ, IsTrue, refl, lit<, length}
use Rattle.fb_bytes.specs.Layout.{table_laid, tables_laid, structs_laid, text_laid, buffer_of, round_up, filled, vtable, table_place, table_end, table_own}
use Rattle.sub_types.specs.declared.kind.Kind.TheVariants as kinds
use Rattle.sub_types.specs.declared.kind.Ty.{Ty}
use Rattle.sub_types.specs.declared.value.Value.{Value}
use Rattle.sub_types.specs.declared.value.Value.TheVariants as values
use Rattle.fb_bytes.specs.Reading.{number_at, offset_at, whole_vtable, table_at, root_of, entry_of, field_of, scalar_of, reference_of, table_of as fb_table_of, vector_at, vector_of, item_of, elements_of, table_item, text_at, text_of}
use Rattle.arrow_meta.specs.Looked.{number_in, table_in}
use Rattle.arrow_meta.specs.Shapes.{decimal_in, date_in, timestamp_in, shape_in, type_shape, number_shape, int_in, encoding_in}
use Rattle.arrow_meta.specs.Footer.{footer_in, fields_in, field_at, field_in, blocks_in, block_at}
use Rattle.arrow_meta.specs.Message.{record_in, header_in, batch_in, pairs_in, pair_at}
use Rattle.arrow_meta.specs.Places.{footer_size, place_in, metadata_in}
use Rattle.arrow_meta.specs.Values.{validity_in, bits_in, unsigned_in, decimals_in, offsets_in, pieces_in, texts_in}
use Rattle.std.specs.List.{All}
use Rattle.std.proofs.lemmas.List.Elements.{All-from_recursion}
use Rattle.sub_types.specs.Kind.{IsKind}
use Rattle.sub_types.specs.Value.{Fits}
use Rattle.std.specs.Str.{is_utf8, chars, IsUtf8}
use Rattle.std.specs.Char.{encode_utf8}
use Rattle.std.proofs.lemmas.Str.{IsUtf8-from_is_utf8, IsUtf8-nil}
use Rattle.arrow_meta.specs.Batch.{rows_in, count_in, buffer_in, column_buffers, column_in, columns_in}
use Rattle.arrow_meta.specs.Head.{footer_place, footer_at, record_at, dictionary_at, dictionary_block, block_body, has_compression, head_with, head_of}
use Rattle.arrow_meta.specs.Table.{table_of, opened, rows_with, wanted_in, CanBeWritten}
use Rattle.arrow_meta.specs.Buffers.{packed, validity_buffer}
use Rattle.arrow_meta.specs.File.{file_of, file_head, file_tail, footer_of, batch_message, batches}

-- ten columns, one of each kind, the first named x and the second without a name
types : List Ty
types =
    record { kind = kinds.Bool; nullable = true } ∷ record { kind = kinds.I8; nullable = true } ∷ record { kind = kinds.I16; nullable = true }
    ∷ record { kind = kinds.I32; nullable = false } ∷ record { kind = kinds.I64; nullable = false } ∷ record { kind = kinds.Text; nullable = true }
    ∷ record { kind = kinds.Binary; nullable = true } ∷ record { kind = kinds.Date; nullable = true } ∷ record { kind = kinds.Timestamp; nullable = true }
    ∷ record { kind = kinds.Decimal 5 2; nullable = true } ∷ []

names : List (List ℕ)
names = (120 ∷ []) ∷ [] ∷ (98 ∷ []) ∷ (99 ∷ []) ∷ (100 ∷ []) ∷ (101 ∷ []) ∷ (102 ∷ []) ∷ (103 ∷ []) ∷ (104 ∷ []) ∷ (105 ∷ []) ∷ []

rows : List (List Value)
rows =
    (values.Bool true ∷ values.Int (pos 1) ∷ values.Null ∷ values.Int (negsuc 5) ∷ values.Int (pos 77) ∷ values.Null ∷ values.Bytes (200 ∷ 201 ∷ []) ∷ values.Null ∷ values.Int (pos 5) ∷ values.Dec (negsuc 98) ∷ [])
    ∷ (values.Null ∷ values.Int (negsuc 127) ∷ values.Int (pos 300) ∷ values.Int (negsuc 5) ∷ values.Int (pos 77) ∷ values.Bytes [] ∷ values.Bytes [] ∷ values.Int (pos 4) ∷ values.Null ∷ values.Null ∷ [])
    ∷ (values.Bool false ∷ values.Null ∷ values.Int (pos 300) ∷ values.Int (negsuc 5) ∷ values.Int (pos 77) ∷ values.Bytes (104 ∷ 105 ∷ []) ∷ values.Null ∷ values.Int (pos 4) ∷ values.Null ∷ values.Dec (pos 99999) ∷ [])
    ∷ []

-- the table that is read, by computation alone
reads_back : table_of (file_of names types rows) ≡ Some (record { names = names; types = types; rows = rows })
unfolding types names rows table_of opened rows_with wanted_in footer_place footer_at footer_size record_at dictionary_at dictionary_block block_body has_compression head_with head_of place_in metadata_in rows_in count_in buffer_in column_buffers column_in columns_in validity_in bits_in unsigned_in footer_in fields_in field_at field_in blocks_in block_at shape_in type_shape number_shape int_in encoding_in record_in header_in batch_in pairs_in pair_at number_in table_in number_at offset_at whole_vtable table_at root_of entry_of field_of scalar_of reference_of fb_table_of vector_at vector_of item_of elements_of table_item text_at text_of decimal_in date_in timestamp_in decimals_in offsets_in pieces_in texts_in is_utf8 chars encode_utf8 file_of file_head file_tail footer_of batch_message batches packed validity_buffer table_laid tables_laid structs_laid text_laid buffer_of round_up filled vtable table_place table_end table_own
reads_back = refl

footer_length : length (footer_of names types rows) < 2 ^ 31
unfolding types names rows file_of file_head file_tail footer_of batch_message batches packed validity_buffer table_laid tables_laid structs_laid text_laid buffer_of round_up filled vtable table_place table_end table_own
footer_length = lit< tt

file_length : length (file_of names types rows) < 2 ^ 63
unfolding types names rows file_of file_head file_tail footer_of batch_message batches packed validity_buffer table_laid tables_laid structs_laid text_laid buffer_of round_up filled vtable table_place table_end table_own
file_length = lit< tt

-- what the law asks
kinds_are : All (λ ty. IsKind ty.kind) types
unfolding types
kinds_are = All-from_recursion (λ ty. IsKind ty.kind) types (search rules)

-- a whole number isn't null
int_there : (n : ℤ) → values.Int n ≡ values.Null → IsTrue false
int_there n null = cc

no_text : IsUtf8 []
no_text = IsUtf8-nil

word : IsUtf8 (104 ∷ 105 ∷ [])
unfolding is_utf8 chars encode_utf8
word = IsUtf8-from_is_utf8 (104 ∷ 105 ∷ []) refl

rows_fit : All (Fits types) rows
unfolding types rows
rows_fit = All-from_recursion (Fits types) rows (search (rules, int_there, no_text, word) depth 9)

same_count : length names ≡ length types
unfolding names types
same_count = refl

can_be_written : CanBeWritten names types rows
can_be_written = record { same_count = same_count; kinds = kinds_are; fitting = rows_fit; short_footer = footer_length; short_file = file_length }
