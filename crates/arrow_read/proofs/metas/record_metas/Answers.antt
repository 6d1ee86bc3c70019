use Rattle.std.proofs.Common.{◌∙◌, ◌+◌, ◌<◌, List, Option, Err, length, take, sym, subst, arith, rules}
use Rattle.std.specs.Result.{result_ok}
use Rattle.arrow_meta.specs.declared.meta.Block.{Block}
use Rattle.arrow_meta.specs.declared.meta.RecordMeta.{RecordMeta}
use Rattle.arrow_meta.specs.Head.{is_compressed, record_at}
use Rattle.arrow_read.specs.Extents.{metas_seen}
use Rattle.arrow_read.specs.Metas.{metas_of}
use Rattle.arrow_read.specs.Refused.{Opens}
use Rattle.arrow_read.specs.Sound.{ArePlaced}
use Rattle.arrow_read.proofs.MetaLaws.{said_clean, said_same, clean_more, map_more, each_all, placed_more}
use Rattle.arrow_read.proofs.OpenLaws.{refused_whole, each_refused}
use Rattle.arrow_read.proofs.metas.record_metas.Goals as goal

pub loop-block-preserved : goal.loop-block-preserved
loop-block-preserved g c =
    let blocks = c.args.blocks.now in
    let i = c.loop-block.block-index in
    let below : i < length blocks = omega arith in
    let pushed = c.in_ok-push.ensures.items in
    let P : List (Option RecordMeta) → Type 0 = λ metas. ArePlaced (take (i + 1) blocks) metas in
    record {
      bytes = c.in_ok-record_meta.ensures.bytes ∙ c.loop-block.invariant.bytes;
      faults = omega (arith, c.in_ok-record_meta.ensures.cause.never_falls, c.loop-block.invariant.faults);
      clean = λ told is. clean_more (λ (block : Block). is_compressed (record_at told c.args.footer block)) blocks i _ below (c.loop-block.invariant.clean told is)
          (said_clean _ _ _ (c.in_ok-record_meta.ensures.meta told (c.loop-block.invariant.bytes ∙ is)));
      metas = λ told is. map_more (λ (block : Block). result_ok (record_at told c.args.footer block)) blocks i _ _ _ below (c.loop-block.invariant.metas told is)
          (said_same _ _ _ (c.in_ok-record_meta.ensures.meta told (c.loop-block.invariant.bytes ∙ is))) ∙ sym pushed;
      count = omega (arith, c.in_ok-push.ensures.len, c.loop-block.invariant.count);
      placed = subst P (sym pushed) (placed_more blocks i _ c.loop-block.metas.items c.in_ok-record_meta.field-0 below (omega (arith, c.loop-block.invariant.count)) c.loop-block.invariant.placed c.in_ok-record_meta.ensures.placed);
    }

pub returns-clause-metas : goal.returns-clause-metas
returns-clause-metas g c = λ told is.
    each_all (λ (block : Block). is_compressed (record_at told c.args.footer block)) (λ (block : Block). result_ok (record_at told c.args.footer block)) c.args.blocks.now c.loop-block.block-index
    c.loop-block.metas.items (omega arith) (c.loop-block.invariant.clean told is) (c.loop-block.invariant.metas told is)

pub returns-in_err-record_meta-clause-metas : goal.returns-in_err-record_meta-clause-metas
returns-in_err-record_meta-clause-metas g c = λ told is.
    let blocks = c.args.blocks.now in
    let i = c.loop-block.block-index in
    let below : i < length blocks = omega arith in
    let e = c.in_err-record_meta.field-0.0 in
    let part = c.in_err-record_meta.ensures.meta told (c.loop-block.invariant.bytes ∙ is) in
    let whole : Opens metas_seen (Err e) (metas_of told c.args.footer blocks) =
    refused_whole (λ (meta : Option RecordMeta). meta) metas_seen _ (metas_of told c.args.footer blocks)
    (λ r h. each_refused (λ (block : Block). is_compressed (record_at told c.args.footer block)) (λ (block : Block). result_ok (record_at told c.args.footer block)) blocks i _ _ r below h) e part in
    search (rules, whole)
