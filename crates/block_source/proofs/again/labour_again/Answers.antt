use Rattle.std.proofs.Common.{map, sum_by, arith, refl, sym, subst}
use Rattle.block_source.specs.declared.source.BlockSource.{BlockSource}
use Rattle.block_source.specs.Bodies.{reading, AreReadFor}
use Rattle.block_source.specs.Made.{IsUnused}
use Rattle.block_source.specs.Seen.{AreHeads}
use Rattle.block_source.proofs.FreshLaws.{fresh_reads, fresh_faults, same_length}
use Rattle.block_source.proofs.again.labour_again.Goals as goal

pub invariant_of-source : goal.invariant_of-source
invariant_of-source g c =
    let files = c.args.table.now.files.items in
    let seconds = c.in_ok-seconds.seconds in
    let e = c.in_ok-seconds.ensures in
    record {
      count = omega (arith, same_length g.R.Reader.bytes g.R.Reader.bytes seconds.items c.args.readers.now.items e.same, seconds.ok.0, c.args.readers.now.ok.0, c.requires.count);
      heads = subst (AreHeads files) (sym e.same) c.requires.heads;
      reads = subst (AreReadFor files (map g.R.Reader.reads seconds.items)) (sym c.new.ensures.items) (fresh_reads g.R.Reader.faults g.R.Reader.reads (reading files) seconds.items e.fresh);
    }

pub returns-clause-unused : goal.returns-clause-unused
returns-clause-unused g c =
    let files = c.args.table.now.files.items in
    let bytes = map g.R.Reader.bytes c.args.readers.now.items in
    let e = c.in_ok-seconds.ensures in
    let n = c.new-labour.ensures in
    subst
    (λ (s : BlockSource g.row.R.Denot g.R.Reader).
    IsUnused files bytes s.table.now.files.items (map g.R.Reader.bytes s.readers.items) s.loaded.items (sum_by g.R.Reader.faults s.readers.items) c.new-labour.result.outs.items)
    (sym n.source)
    record {
      files_are = refl;
      bytes_are = e.same;
      none_loaded = c.new.ensures.items;
      no_faults = fresh_faults g.R.Reader.faults g.R.Reader.reads c.in_ok-seconds.seconds.items e.fresh;
      none_made = n.outs;
    }
