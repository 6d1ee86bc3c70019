use Rattle.std.proofs.Common.{◌≡◌, map, sum_by, arith, ◌∙◌}
use Rattle.hand_off.proofs.Popping.{pushed_all}
use Rattle.pipe_labour.specs.declared.labour.PipeLabour.{PipeLabour}
use Rattle.block_source.specs.declared.source.BlockSource.{BlockSource}
use Rattle.block_source.specs.Made.{IsUnused}
use Rattle.block_source.proofs.again.labours_again.Goals as goal

pub loop-preserved : goal.loop-preserved
loop-preserved g c =
    let L = PipeLabour (BlockSource g.row.R.Denot g.R.Reader) g.row.W.Denot g.row.W-Made.Denot in
    let files = c.args.table.now.files.items in
    let bytes = map g.R.Reader.bytes c.args.readers.now.items in
    let i = c.loop.invariant in
    let e = c.in_ok-labour.ensures in
    record {
      count = omega (arith, i.count, c.push_reserved.ensures.len);
      room = omega (arith, i.room, c.push_reserved.ensures.capacity);
      unused = pushed_all
          (λ (o : L). IsUnused files bytes o.source.table.now.files.items (map g.R.Reader.bytes o.source.readers.items) o.source.loaded.items (sum_by g.R.Reader.faults o.source.readers.items) o.outs.items)
          c.loop.labours.items c.push_reserved.new.self.items c.in_ok-labour.labour c.push_reserved.ensures.items i.unused
          record {
            files_are = e.unused.files_are;
            bytes_are = e.unused.bytes_are ∙ i.bytes;
            none_loaded = e.unused.none_loaded;
            no_faults = e.unused.no_faults;
            none_made = e.unused.none_made;
          };
      work = pushed_all (λ (o : L). o.work ≡ c.args.work) c.loop.labours.items c.push_reserved.new.self.items c.in_ok-labour.labour c.push_reserved.ensures.items i.work e.work;
      bytes = e.bytes ∙ i.bytes;
      reads = e.reads ∙ i.reads;
      faults = omega (arith, i.faults, e.cause.never_falls);
      len = e.len ∙ i.len;
    }
