-- Where messages stand, as the definitions see it.
use Rattle.std.specs.Prelude.{ℕ, ◌+◌, ◌≤◌, List, Vec, map, Option, IfSome}
use Rattle.std.specs.List.{All}
use Rattle.std.specs.Option.{option_map}
use Rattle.std.specs.declared.alloc.Global.{Global}
use Rattle.arrow_meta.specs.declared.meta.RecordMeta.{RecordMeta}
use Rattle.arrow_meta.specs.Messages.{Place}
use Rattle.arrow_meta.specs.Places.{body_in}
use Rattle.arrow_meta.specs.Dictionary.{DictionaryBlock}
use Rattle.arrow_read.specs.declared.extent.Extent.{Extent}
use Rattle.arrow_read.specs.declared.metas.TextBlock.{TextBlock}

abbrev pub extent_seen : Extent → Place
extent_seen extent = record { offset = extent.offset; meta_len = extent.meta_len; body_len = extent.body_len }

abbrev pub bytes_seen : Vec ℕ Global → List ℕ
bytes_seen bytes = bytes.items

-- a dictionary block with its body
abbrev pub block_seen : List ℕ → TextBlock → DictionaryBlock
block_seen told block = record {
  meta = record { id = block.id; is_delta = block.is_delta; values = block.values };
  body = body_in told (extent_seen block.place);
}

-- the metadata at a place
abbrev pub pair_bytes : Extent × Vec ℕ Global → List ℕ
pair_bytes pair = pair.1.items

-- the message ends before a place
abbrev pub IsInside : ℕ → Extent → Type 0
IsInside end extent = extent.offset + extent.meta_len + extent.body_len ≤ end

-- the block ends before a place
abbrev pub IsWithin : ℕ → TextBlock → Type 0
IsWithin end block = IsInside end block.place

-- each good block ends before a place
abbrev pub AreWithin : ℕ → List (Option TextBlock) → Type 0
AreWithin end blocks = All (λ found. IfSome found (IsWithin end)) blocks

abbrev pub metas_seen : Vec (Option RecordMeta) Global → List (Option RecordMeta)
metas_seen metas = metas.items

-- dictionary blocks with their bodies, none for a bad one
abbrev pub blocks_seen : List ℕ → List (Option TextBlock) → List (Option DictionaryBlock)
blocks_seen told blocks = map (option_map (block_seen told)) blocks
