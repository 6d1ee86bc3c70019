use Rattle.std.proofs.Common.{◌≡◌, ◌≤◌, false, map, take, vec_len}
use Rattle.std.specs.List.{list_any}
use Rattle.std.specs.Result.{result_ok}
use Rattle.arrow_meta.specs.Head.{is_compressed, record_at}
use Rattle.arrow_read.specs.Told.{IfTold}
use Rattle.arrow_read.specs.Sound.{ArePlaced}
use Rattle.arrow_read.proofs.metas.record_metas.Given as goal

-- no block so far is compressed, and their metadata is there
abbrev pub invariant-loop-block : goal.invariant-loop-block
invariant-loop-block g l = record {
  bytes : g.R.Reader.bytes l.reader ≡ g.R.Reader.bytes l.initial.reader;
  faults : g.R.Reader.faults l.initial.reader ≤ g.R.Reader.faults l.reader;
  clean : IfTold (g.R.Reader.bytes l.initial.reader) (λ told. list_any (λ block. is_compressed (record_at told l.footer block)) (take l.block-index l.blocks) ≡ false);
  metas : IfTold (g.R.Reader.bytes l.initial.reader) (λ told. map (λ block. result_ok (record_at told l.footer block)) (take l.block-index l.blocks) ≡ l.metas.items);
  count : vec_len l.metas ≡ l.block-index;
  placed : ArePlaced (take l.block-index l.blocks) l.metas.items;
}
