use Rattle.std.proofs.Common.{◌∙◌, List, Option, IfSome, sym, ap, subst}
use Rattle.sub_types.specs.Stream.{Stream}
use Rattle.sub_types.specs.declared.fault.Fault.{Fault}
use Rattle.sub_types.specs.declared.value.Value.{Value}
use Rattle.batch.specs.BatchRows.{rows_of}
use Rattle.table_rows.specs.Read.{kinds_of}
use Rattle.table_rows.specs.Blocks.{IsReadFault}
use Rattle.table_rows.proofs.EndLaws.{each_ends}
use Rattle.table_rows.proofs.KindLaws.{all_known, kinds_are, kinds_sound}
use Rattle.table_rows.proofs.piece.read_piece.Goals as goal

pub read_block-requires-clause-wanted : goal.read_block-requires-clause-wanted
read_block-requires-clause-wanted g c = all_known c.args.head.now.schema.columns c.args.wanted.now c.args.read.now.types.now c.requires.wanted

pub bad_piece-requires : goal.bad_piece-requires
bad_piece-requires g c = kinds_sound c.args.head.now.schema.columns c.args.wanted.now c.args.read.now.types.now c.args.head.now.shapes c.requires.wanted

pub check_batch-requires : goal.check_batch-requires
check_batch-requires g c =
    ap kinds_of c.in-Ok-decode.ensures.types
    ∙ kinds_are c.args.head.now.schema.columns c.in-Ok.raw.columns.items c.args.wanted.now c.args.read.now.types.now c.in-Ok.ensures.columns c.requires.wanted

pub returns-in-Ok-decode-clause-faults : goal.returns-in-Ok-decode-clause-faults
returns-in-Ok-decode-clause-faults g c =
    let read = c.args.read.now in
    let Ends : Option Fault → Type 0 = λ end. IfSome end (IsReadFault read.relation c.args.file c.args.block) in
    subst Ends (sym (ap (λ (s : Stream (List Value)). s.end) c.in_ok-check_batch-in-Ok-decode.ensures.stream))
    (each_ends read.relation c.args.file c.args.block read.types.now (rows_of c.in-Ok-decode.batch))

pub bad_piece-requires-in-Err-BadBatch-decode : goal.bad_piece-requires-in-Err-BadBatch-decode
bad_piece-requires-in-Err-BadBatch-decode g c = kinds_sound c.args.head.now.schema.columns c.args.wanted.now c.args.read.now.types.now c.args.head.now.shapes c.requires.wanted
