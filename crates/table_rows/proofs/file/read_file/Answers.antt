use Rattle.std.proofs.Common.{◌≡◌, ◌∙◌, ◌++◌, ◌∷◌, [], ◌<◌, List, vec_len, add-zero, refl, sym, ap, subst, arith}
use Rattle.std.specs.List.{flat_map}
use Rattle.std.proofs.lemmas.List.{append-nil}
use Rattle.std.proofs.lemmas.Option.{IfSome_then}
use Rattle.sub_types.specs.Stream.{Stream}
use Rattle.sub_types.specs.declared.value.Value.{Value}
use Rattle.batch.specs.declared.batch.Batch.{Batch}
use Rattle.batch.specs.BatchRows.{rows_of, stream_of_piece}
use Rattle.table_rows.specs.Blocks.{AddsBatches, IsReadFault, IsFileFault, file_stream}
use Rattle.table_rows.proofs.FileLaws.{AddsBatches-none, AddsBatches-push, rows-push, file_stream-step, file_stream-stops, file_stream-none, is_none}
use Rattle.table_rows.proofs.file.read_file.Goals as goal

pub loop-block-init : goal.loop-block-init
loop-block-init g c =
    let read = c.args.read.now in
    let old = c.args.batches.now.items in
    record {
      rows = λ bytes told. sym (ap (λ (s : Stream (List Value)). flat_map rows_of old ++ s.rows) (file_stream-none read.relation c.args.file read.types.now bytes c.args.wanted.now) ∙ append-nil (flat_map rows_of old));
      end = λ bytes told. ap (λ (s : Stream (List Value)). s.end) (file_stream-none read.relation c.args.file read.types.now bytes c.args.wanted.now);
      batches = AddsBatches-none read.types.now old;
      count = sym (add-zero (vec_len c.args.batches.now));
      faults = omega arith;
      bytes = refl;
    }

pub loop-block-preserved : goal.loop-block-preserved
loop-block-preserved g c =
    let read = c.args.read.now in
    let old = c.args.batches.now.items in
    let before = c.loop-block.batches.items in
    let i = c.loop-block.block in
    let piece = c.in_ok-batch.field-0 in
    let kept = c.loop-block.invariant in
    let pushed : c.push.new.self.items ≡ before ++ piece.batch ∷ [] = c.in_ok-push.ensures.items in
    let Adds : List Batch → Type 0 = λ batches. AddsBatches read.types.now old batches in
    record {
      rows = λ bytes told.
          let step = file_stream-step read.relation c.args.file read.types.now bytes c.args.wanted.now i (stream_of_piece piece) (kept.end bytes told) (c.in_ok-batch.ensures.stream bytes (kept.bytes ∙ told)) in
          ap (flat_map rows_of) pushed ∙ rows-push old before piece.batch (file_stream read.relation c.args.file read.types.now bytes i c.args.wanted.now).rows (kept.rows bytes told)
          ∙ ap (λ (s : Stream (List Value)). flat_map rows_of old ++ s.rows) (sym step);
      end = λ bytes told.
          let step = file_stream-step read.relation c.args.file read.types.now bytes c.args.wanted.now i (stream_of_piece piece) (kept.end bytes told) (c.in_ok-batch.ensures.stream bytes (kept.bytes ∙ told)) in
          ap (λ (s : Stream (List Value)). s.end) step ∙ is_none piece.end c.if-is_some.ensures;
      batches = subst Adds (sym pushed) (AddsBatches-push read.types.now old before piece.batch kept.batches (record { types_are = c.in_ok-batch.ensures.types; fit = c.in_ok-batch.ensures.fit }));
      count = omega (arith, c.in_ok-push.ensures.len);
      faults = omega (arith, c.in_ok-batch.ensures.cause.never_falls);
      bytes = c.in_ok-batch.ensures.bytes ∙ kept.bytes;
    }

pub returns-then-is_some-clause-rows : goal.returns-then-is_some-clause-rows
returns-then-is_some-clause-rows g c = λ bytes told.
    let read = c.args.read.now in
    let old = c.args.batches.now.items in
    let before = c.loop-block.batches.items in
    let i = c.loop-block.block in
    let n = vec_len c.args.head.now.blocks in
    let piece = c.in_ok-batch.field-0 in
    let kept = c.loop-block.invariant in
    let pushed : c.push.new.self.items ≡ before ++ piece.batch ∷ [] = c.in_ok-push.ensures.items in
    let within : i < n = omega arith in
    let whole = file_stream-stops read.relation c.args.file read.types.now bytes c.args.wanted.now i n (stream_of_piece piece) within (kept.end bytes told) (c.in_ok-batch.ensures.stream bytes (kept.bytes ∙ told)) c.if-is_some.ensures in
    ap (flat_map rows_of) pushed ∙ rows-push old before piece.batch (file_stream read.relation c.args.file read.types.now bytes i c.args.wanted.now).rows (kept.rows bytes told)
    ∙ ap (λ (s : Stream (List Value)). flat_map rows_of old ++ s.rows) (sym whole)

pub returns-then-is_some-clause-end : goal.returns-then-is_some-clause-end
returns-then-is_some-clause-end g c = λ bytes told.
    let read = c.args.read.now in
    let i = c.loop-block.block in
    let n = vec_len c.args.head.now.blocks in
    let piece = c.in_ok-batch.field-0 in
    let kept = c.loop-block.invariant in
    let within : i < n = omega arith in
    let whole = file_stream-stops read.relation c.args.file read.types.now bytes c.args.wanted.now i n (stream_of_piece piece) within (kept.end bytes told) (c.in_ok-batch.ensures.stream bytes (kept.bytes ∙ told)) c.if-is_some.ensures in
    sym (ap (λ (s : Stream (List Value)). s.end) whole)

pub returns-then-is_some-clause-batches : goal.returns-then-is_some-clause-batches
returns-then-is_some-clause-batches g c =
    let read = c.args.read.now in
    let old = c.args.batches.now.items in
    let before = c.loop-block.batches.items in
    let piece = c.in_ok-batch.field-0 in
    let kept = c.loop-block.invariant in
    let pushed : c.push.new.self.items ≡ before ++ piece.batch ∷ [] = c.in_ok-push.ensures.items in
    let Adds : List Batch → Type 0 = λ batches. AddsBatches read.types.now old batches in
    subst Adds (sym pushed) (AddsBatches-push read.types.now old before piece.batch kept.batches (record { types_are = c.in_ok-batch.ensures.types; fit = c.in_ok-batch.ensures.fit }))

pub returns-then-is_some-clause-faults : goal.returns-then-is_some-clause-faults
returns-then-is_some-clause-faults g c =
    let within : c.loop-block.block < vec_len c.args.head.now.blocks = omega arith in
    IfSome_then c.in_ok-batch.field-0.end {P = IsReadFault c.args.read.now.relation c.args.file c.loop-block.block} {Q = IsFileFault c.args.read.now.relation c.args.file (vec_len c.args.head.now.blocks)} c.in_ok-batch.ensures.faults (λ fault of_block. record { block = c.loop-block.block; exists = within; of_block = of_block })
