use Rattle.fb_bytes.specs.Object.{laid}
use Rattle.arrow_meta.proofs.Lengths.{schema_root_small}
use Rattle.arrow_meta.proofs.write.message.write_schema_message.Goals as goal

pub root_bytes-requires-clause-short : goal.root_bytes-requires-clause-short
root_bytes-requires-clause-short c =
    schema_root_small c.laid_lengths.ensures.near c.laid_lengths.ensures.lengths c.args.names.now c.args.types.now (laid c.in_ok-root.root) (laid c.in_ok-header.header)
    c.requires.few c.requires.short c.in_ok-header.ensures.laid c.in_ok-root.ensures.laid
