use Rattle.std.proofs.Common.{◌≡◌, ◌≤◌, ◌<◌, ◌^◌, length, drop}
use Rattle.arrow_meta.specs.Dictionary.{dictionary_texts}
use Rattle.arrow_decode.specs.Dictionary.{AreTexts}
use Rattle.arrow_read.specs.Told.{IfTold}
use Rattle.arrow_read.specs.Extents.{blocks_seen}
use Rattle.arrow_read.proofs.TextLaws.{texts_left}
use Rattle.arrow_read.proofs.dictionary.dictionary.Given as goal

-- the texts so far, and behind them those of the blocks that are left
abbrev pub invariant-loop-block : goal.invariant-loop-block
invariant-loop-block g l = record {
  bytes : g.R.Reader.bytes l.reader ≡ g.R.Reader.bytes l.initial.reader;
  faults : g.R.Reader.faults l.initial.reader ≤ g.R.Reader.faults l.reader;
  texts : IfTold (g.R.Reader.bytes l.initial.reader) (λ told.
      texts_left l.fn.id l.wide l.texts l.is_first (blocks_seen told (drop l.block-index l.blocks)) ≡ dictionary_texts l.fn.id l.wide (blocks_seen told l.blocks));
  utf8 : AreTexts l.texts;
  count : length l.texts ≡ l.count;
  few : l.count < 2 ^ 31;
}
