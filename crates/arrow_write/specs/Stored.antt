-- The value buffers of a column as it is stored, whatever its kind.
use Rattle.std.specs.Prelude.{ℕ, pos, List, [], ◌∷◌, ◌++◌, false}
use Rattle.std.specs.List.{flat_map, concat}
use Rattle.std.specs.Int.{w8, w16, w32, w64, w128, cast_unsigned}
use Rattle.byteorder.specs.Endian.{little_bytes}
use Rattle.sub_types.specs.Slots.{slots}
use Rattle.batch.specs.declared.column_data.ColumnData.{ColumnData}
use Rattle.batch.specs.declared.column_data.ColumnData.TheVariants as stored
use Rattle.arrow_meta.specs.Buffers.{packed, text_ends}

-- bits, or numbers of a width, or offsets and bytes
abbrev pub stored_buffers : ColumnData → List (List ℕ)
stored_buffers (stored.Bool column) = packed (slots false column) ∷ []
stored_buffers (stored.I8 column) = flat_map (λ n. little_bytes 1 (cast_unsigned w8 n)) (slots (pos 0) column) ∷ []
stored_buffers (stored.I16 column) = flat_map (λ n. little_bytes 2 (cast_unsigned w16 n)) (slots (pos 0) column) ∷ []
stored_buffers (stored.I32 column) = flat_map (λ n. little_bytes 4 (cast_unsigned w32 n)) (slots (pos 0) column) ∷ []
stored_buffers (stored.I64 column) = flat_map (λ n. little_bytes 8 (cast_unsigned w64 n)) (slots (pos 0) column) ∷ []
stored_buffers (stored.I128 column) = flat_map (λ n. little_bytes 16 (cast_unsigned w128 n)) (slots (pos 0) column) ∷ []
stored_buffers (stored.Bytes column) = (little_bytes 4 0 ++ text_ends 0 (slots [] column)) ∷ concat (slots [] column) ∷ []
