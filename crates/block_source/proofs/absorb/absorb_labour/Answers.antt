use Rattle.std.proofs.Common.{List, length, map, arith, ap, subst}
use Rattle.block_source.specs.declared.file.BlockFile.{BlockFile}
use Rattle.block_source.specs.Bodies.{reading, AreReadFor}
use Rattle.block_source.proofs.ReadLaws.{gained_more}
use Rattle.block_source.proofs.absorb.absorb_labour.Goals as goal

pub absorb_readers-requires : goal.absorb_readers-requires
absorb_readers-requires g c =
    let source = c.args.labour.source in
    omega (arith, source.count, source.table.now.files.ok.0, c.args.table.now.files.ok.0, ap length c.requires.table, c.requires.count)

pub returns-clause-reads : goal.returns-clause-reads
returns-clause-reads g c = λ done start left more all is gained.
    let source = c.args.labour.source in
    let seconds = map g.R.Reader.reads source.readers.items in
    gained_more (reading c.args.table.now.files.items) start (map g.R.Reader.reads c.args.readers.now.items) _ seconds left more all source.loaded.items is
    (λ file. (c.absorb_readers.ensures.reads done).done file (omega arith))
    (subst (λ (fs : List BlockFile). AreReadFor fs seconds source.loaded.items) c.requires.table source.reads)
    gained
