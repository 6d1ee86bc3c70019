-- What is so of each open file of a table.
use Rattle.std.specs.Prelude.{◌≡◌, ℕ, List, [], length, map, Option, Some, IsSome, Ok, unwrap_or, Vec}
use Rattle.std.specs.List.{All}
use Rattle.std.specs.Option.{option_map}
use Rattle.std.specs.declared.alloc.Global.{Global}
use Rattle.sub_types.specs.declared.kind.Kind.{Kind}
use Rattle.sub_types.specs.declared.kind.Ty.{Ty}
use Rattle.arrow_meta.specs.declared.field.FieldMeta.{FieldMeta}
use Rattle.arrow_meta.specs.Head.{Head, head_of}
use Rattle.arrow_read.specs.declared.head.FileHead.{FileHead}
use Rattle.arrow_read.specs.Told.{IfTold}
use Rattle.arrow_read.specs.Known.{known_column}
use Rattle.arrow_read.specs.Seen.{head_seen}
use Rattle.table_open.specs.declared.file.OpenFile.{OpenFile}
use Rattle.table_open.specs.Files.{TableFile}

-- the kind of a column that can be read
abbrev pub kind_at : List FieldMeta → ℕ → Option Kind
kind_at columns column = option_map (λ known. known.1) (known_column columns column)

-- a head and the wanted places as the definitions see them
abbrev pub found_seen : FileHead × Vec ℕ Global → Head × List ℕ
found_seen found = (head_seen found.0, found.1.items)

-- an open file as the definitions see it; its bytes are empty where they aren't told
abbrev pub file_seen : {R : Type 0} → (R → Option (List ℕ)) → OpenFile R → TableFile
file_seen bytes one = record { number = one.file; bytes = unwrap_or (bytes one.reader) []; blocks = length one.head.blocks.items; wanted = one.wanted.items }

-- the head is that of the reader's file, and the wanted columns can be read, as values of the table's kinds
pub record IsReady {R : Type 0} (bytes : R → Option (List ℕ)) (types : List Ty) (one : OpenFile R) : Type 0 where
  pub head : IfTold (bytes one.reader) (λ told. head_of told ≡ Ok (head_seen one.head))
  pub kinds : map (kind_at one.head.schema.columns) one.wanted.items ≡ map (λ ty. Some ty.kind) types
  pub wanted : All (λ column. IsSome (known_column one.head.schema.columns column)) one.wanted.items
