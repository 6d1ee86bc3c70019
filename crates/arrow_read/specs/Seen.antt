-- The head of a file, as the definitions see it.
use Rattle.std.specs.Prelude.{map}
use Rattle.arrow_meta.specs.Head.{Head}
use Rattle.arrow_decode.specs.Seen.{dictionary_seen}
use Rattle.arrow_read.specs.declared.head.FileHead.{FileHead}

-- the columns, the blocks with their metadata, and the dictionaries
abbrev pub head_seen : FileHead → Head
head_seen head = record {
  columns = head.schema.columns;
  blocks = head.blocks.items;
  metas = head.metas.items;
  dictionaries = map dictionary_seen head.dictionaries.items;
}
