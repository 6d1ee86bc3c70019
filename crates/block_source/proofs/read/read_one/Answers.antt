use Rattle.std.proofs.Common.{Err, arith, ap, ◌∙◌}
use Rattle.block_source.proofs.BlockReadLaws.{failed_read}
use Rattle.block_source.proofs.read.read_one.Goals as goal

pub returns-in-Err-ReadFault-clause-reads : goal.returns-in-Err-ReadFault-clause-reads
returns-in-Err-ReadFault-clause-reads g c =
    let head = c.args.file.now.head in
    failed_read head.metas.items head.blocks.items c.args.block c.read_block.result (g.R.Reader.reads c.args.reader.now) (g.R.Reader.reads c.read_block.new.r)
    (omega (arith, c.requires.exists, head.same_count, head.metas.ok.0, head.blocks.ok.0))
    (c.in-Err-ReadFault.is ∙ ap (λ e. Err e) c.in-Err-ReadFault.field-0-is)
    (λ none. c.read_block.ensures.bad.1 none)
    c.read_block.ensures.reads
