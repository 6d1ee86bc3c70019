use Rattle.std.proofs.Common.{◌∙◌, ◌∷◌, [], ◌<◌, List, Option, Vec, Global, Err, IfSome, length, sym, ap, subst, arith, rules}
use Rattle.std.specs.Option.{option_map}
use Rattle.std.proofs.lemmas.List.{map-append}
use Rattle.std.proofs.lemmas.List.Elements.{All-push}
use Rattle.arrow_meta.specs.declared.meta.Block.{Block}
use Rattle.arrow_meta.specs.Head.{is_compressed, dictionary_at, dictionary_block}
use Rattle.arrow_read.specs.declared.metas.TextBlock.{TextBlock}
use Rattle.arrow_read.specs.Extents.{block_seen, blocks_seen, AreWithin, IsWithin}
use Rattle.arrow_read.specs.Metas.{texts_of}
use Rattle.arrow_read.specs.Refused.{Opens}
use Rattle.arrow_read.proofs.MetaLaws.{said_clean, said_same, clean_more, map_more, each_all}
use Rattle.arrow_read.proofs.OpenLaws.{refused_whole, each_refused}
use Rattle.arrow_read.proofs.metas.text_blocks.Goals as goal

pub loop-block-preserved : goal.loop-block-preserved
loop-block-preserved g c =
    let blocks = c.args.blocks.now in
    let i = c.loop-block.block-index in
    let below : i < length blocks = omega arith in
    let texts = c.loop-block.texts.items in
    let text = c.in_ok-text_block.field-0 in
    let pushed = c.in_ok-push.ensures.items in
    let P : List (Option TextBlock) → Type 0 = λ found. AreWithin c.args.footer found in
    record {
      bytes = c.in_ok-text_block.ensures.bytes ∙ c.loop-block.invariant.bytes;
      faults = omega (arith, c.in_ok-text_block.ensures.cause.never_falls, c.loop-block.invariant.faults);
      clean = λ told is. clean_more (λ (block : Block). is_compressed (dictionary_at told c.args.footer block)) blocks i _ below (c.loop-block.invariant.clean told is)
          (said_clean _ _ _ (c.in_ok-text_block.ensures.block told (c.loop-block.invariant.bytes ∙ is)));
      texts = λ told is. map_more (dictionary_block told c.args.footer) blocks i _ _ _ below (c.loop-block.invariant.texts told is)
          (said_same _ _ _ (c.in_ok-text_block.ensures.block told (c.loop-block.invariant.bytes ∙ is)))
          ∙ sym (ap (blocks_seen told) pushed ∙ map-append (option_map (block_seen told)) texts (text ∷ []));
      within = subst P (sym pushed) (All-push (λ (found : Option TextBlock). IfSome found (IsWithin c.args.footer)) texts text c.loop-block.invariant.within c.in_ok-text_block.ensures.within);
    }

pub returns-clause-blocks : goal.returns-clause-blocks
returns-clause-blocks g c = λ told is.
    each_all (λ (block : Block). is_compressed (dictionary_at told c.args.footer block)) (dictionary_block told c.args.footer) c.args.blocks.now c.loop-block.block-index
    (blocks_seen told c.loop-block.texts.items) (omega arith) (c.loop-block.invariant.clean told is) (c.loop-block.invariant.texts told is)

pub returns-in_err-text_block-clause-blocks : goal.returns-in_err-text_block-clause-blocks
returns-in_err-text_block-clause-blocks g c = λ told is.
    let blocks = c.args.blocks.now in
    let i = c.loop-block.block-index in
    let below : i < length blocks = omega arith in
    let e = c.in_err-text_block.field-0.0 in
    let part = c.in_err-text_block.ensures.block told (c.loop-block.invariant.bytes ∙ is) in
    let whole : Opens {A = Vec (Option TextBlock) Global} (λ found. blocks_seen told found.items) (Err e) (texts_of told c.args.footer blocks) =
    refused_whole {C = Vec (Option TextBlock) Global} (option_map (block_seen told)) (λ found. blocks_seen told found.items) _ (texts_of told c.args.footer blocks)
    (λ r h. each_refused (λ (block : Block). is_compressed (dictionary_at told c.args.footer block)) (dictionary_block told c.args.footer) blocks i _ _ r below h) e part in
    search (rules, whole)
