use Rattle.std.proofs.Common.{◌≡◌, ◌≤◌, false, map, take}
use Rattle.std.specs.List.{list_any}
use Rattle.arrow_meta.specs.Head.{is_compressed, dictionary_at, dictionary_block}
use Rattle.arrow_read.specs.Told.{IfTold}
use Rattle.arrow_read.specs.Extents.{blocks_seen, AreWithin}
use Rattle.arrow_read.proofs.metas.text_blocks.Given as goal

-- no block so far is compressed, and what they say is there
abbrev pub invariant-loop-block : goal.invariant-loop-block
invariant-loop-block g l = record {
  bytes : g.R.Reader.bytes l.reader ≡ g.R.Reader.bytes l.initial.reader;
  faults : g.R.Reader.faults l.initial.reader ≤ g.R.Reader.faults l.reader;
  clean : IfTold (g.R.Reader.bytes l.initial.reader) (λ told. list_any (λ block. is_compressed (dictionary_at told l.footer block)) (take l.block-index l.blocks) ≡ false);
  texts : IfTold (g.R.Reader.bytes l.initial.reader) (λ told. map (dictionary_block told l.footer) (take l.block-index l.blocks) ≡ blocks_seen told l.texts.items);
  within : AreWithin l.footer l.texts.items;
}
