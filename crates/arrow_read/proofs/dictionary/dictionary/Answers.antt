use Rattle.std.proofs.Common.{◌≡◌, ◌∙◌, ◌+◌, ◌^◌, ◌≤◌, ◌∷◌, ◌++◌, [], ◌<◌, true, false, IfSome, refl, w64, to_z, of_z, length, drop, Option, Some, sym, ap, subst, arith, length-append}
use Rattle.std.proofs.lemmas.Int.{to_z-of_z}
use Rattle.std.specs.Option.{option_map}
use Rattle.std.proofs.lemmas.List.{drop_all}
use Rattle.arrow_decode.specs.Dictionary.{AreTexts}
use Rattle.arrow_meta.specs.Dictionary.{dictionary_texts}
use Rattle.arrow_read.specs.Extents.{block_seen, blocks_seen, IsWithin}
use Rattle.arrow_read.proofs.TextLaws.{texts_left, all_texts, bad_block, other_block, no_delta, bad_texts, many_texts, more_texts, no_more, next_block, texts-append}
use Rattle.arrow_read.proofs.dictionary.dictionary.Goals as goal

pub loop-block-init : goal.loop-block-init
loop-block-init g c = record {
  bytes = refl;
  faults = omega arith;
  texts = λ told is. ap (λ t. texts_left (to_z w64 (of_z w64 c.args.id)) c.args.wide t true (blocks_seen told c.args.blocks.now)) c.new-texts.ensures ∙ all_texts (to_z w64 (of_z w64 c.args.id)) c.args.wide (blocks_seen told c.args.blocks.now);
  utf8 = subst AreTexts (sym c.new-texts.ensures) refl;
  count = ap length c.new-texts.ensures;
  few = omega arith;
}

pub returns-in_default-clause-texts : goal.returns-in_default-clause-texts
returns-in_default-clause-texts g c = λ told is.
    let i = c.loop-block.block-index in
    let blocks = c.args.blocks.now in
    let below : i < length blocks = omega arith in
    let left = texts_left (to_z w64 (of_z w64 c.args.id)) c.args.wide c.loop-block.texts c.loop-block.is_first in
    let rest = blocks_seen told (drop (i + 1) blocks) in
    let here = next_block told blocks i c.block-item.result below ∙ ap (λ o. option_map (block_seen told) o ∷ rest) (sym c.block-item.is ∙ c.in_default.is) in
    sym (ap left here ∙ bad_block (to_z w64 (of_z w64 c.args.id)) c.args.wide c.loop-block.texts c.loop-block.is_first rest) ∙ c.loop-block.invariant.texts told is
    ∙ ap (λ n. dictionary_texts n c.args.wide (blocks_seen told c.args.blocks.now)) (to_z-of_z w64 c.args.id c.ranges.id)

pub loop-block-preserved-then-not-is_of : goal.loop-block-preserved-then-not-is_of
loop-block-preserved-then-not-is_of g c =
    let i = c.loop-block.block-index in
    let blocks = c.args.blocks.now in
    let below : i < length blocks = omega arith in
    record {
      bytes = c.loop-block.invariant.bytes;
      faults = c.loop-block.invariant.faults;
      texts = λ told is.
          let left = texts_left (to_z w64 (of_z w64 c.args.id)) c.args.wide c.loop-block.texts c.loop-block.is_first in
          let rest = blocks_seen told (drop (i + 1) blocks) in
          let here = next_block told blocks i c.block-item.result below ∙ ap (λ o. option_map (block_seen told) o ∷ rest) (sym c.block-item.is ∙ c.in-Some.is) in
          sym (ap left here ∙ other_block (to_z w64 (of_z w64 c.args.id)) c.args.wide c.loop-block.texts c.loop-block.is_first (block_seen told c.in-Some.block) rest (sym c.is_of.ensures ∙ c.if-not-is_of.true))
          ∙ c.loop-block.invariant.texts told is;
      utf8 = c.loop-block.invariant.utf8;
      count = c.loop-block.invariant.count;
      few = c.loop-block.invariant.few;
    }

pub returns-then-not-follows-clause-texts : goal.returns-then-not-follows-clause-texts
returns-then-not-follows-clause-texts g c = λ told is.
    let i = c.loop-block.block-index in
    let blocks = c.args.blocks.now in
    let below : i < length blocks = omega arith in
    let left = texts_left (to_z w64 (of_z w64 c.args.id)) c.args.wide c.loop-block.texts c.loop-block.is_first in
    let rest = blocks_seen told (drop (i + 1) blocks) in
    let here = next_block told blocks i c.block-item.result below ∙ ap (λ o. option_map (block_seen told) o ∷ rest) (sym c.block-item.is ∙ c.in-Some.is) in
    sym (ap left here ∙ no_delta (to_z w64 (of_z w64 c.args.id)) c.args.wide c.loop-block.texts c.loop-block.is_first (block_seen told c.in-Some.block) rest (sym c.is_of.ensures ∙ c.if-not-is_of.false)
    (sym c.follows.ensures ∙ c.if-not-follows.true))
    ∙ c.loop-block.invariant.texts told is
    ∙ ap (λ n. dictionary_texts n c.args.wide (blocks_seen told c.args.blocks.now)) (to_z-of_z w64 c.args.id c.ranges.id)

pub block_texts-requires : goal.block_texts-requires
block_texts-requires g c = λ told is.
    let below : c.loop-block.block-index < length c.args.blocks.now = omega arith in
    let one = c.requires told (sym c.loop-block.invariant.bytes ∙ is) c.loop-block.block-index c.block-item.result below in
    let P : Option _ → Type 0 = λ found. IfSome found (IsWithin (length told)) in
    subst P (sym c.block-item.is ∙ c.in-Some.is) one

pub returns-in_default-2-clause-texts : goal.returns-in_default-2-clause-texts
returns-in_default-2-clause-texts g c = λ told is.
    let i = c.loop-block.block-index in
    let blocks = c.args.blocks.now in
    let below : i < length blocks = omega arith in
    let left = texts_left (to_z w64 (of_z w64 c.args.id)) c.args.wide c.loop-block.texts c.loop-block.is_first in
    let rest = blocks_seen told (drop (i + 1) blocks) in
    let here = next_block told blocks i c.block-item.result below ∙ ap (λ o. option_map (block_seen told) o ∷ rest) (sym c.block-item.is ∙ c.in-Some.is) in
    let bad = sym (c.in_ok-more.ensures.texts told (c.loop-block.invariant.bytes ∙ is)) ∙ c.in_default-2.is in
    sym (ap left here ∙ bad_texts (to_z w64 (of_z w64 c.args.id)) c.args.wide c.loop-block.texts c.loop-block.is_first (block_seen told c.in-Some.block) rest (sym c.is_of.ensures ∙ c.if-not-is_of.false) bad)
    ∙ c.loop-block.invariant.texts told is
    ∙ ap (λ n. dictionary_texts n c.args.wide (blocks_seen told c.args.blocks.now)) (to_z-of_z w64 c.args.id c.ranges.id)

pub returns-then-len-count-clause-texts : goal.returns-then-len-count-clause-texts
returns-then-len-count-clause-texts g c = λ told is.
    let i = c.loop-block.block-index in
    let blocks = c.args.blocks.now in
    let below : i < length blocks = omega arith in
    let left = texts_left (to_z w64 (of_z w64 c.args.id)) c.args.wide c.loop-block.texts c.loop-block.is_first in
    let rest = blocks_seen told (drop (i + 1) blocks) in
    let here = next_block told blocks i c.block-item.result below ∙ ap (λ o. option_map (block_seen told) o ∷ rest) (sym c.block-item.is ∙ c.in-Some.is) in
    let good = sym (c.in_ok-more.ensures.texts told (c.loop-block.invariant.bytes ∙ is)) ∙ c.in-Some-2.is in
    let many : 2 ^ 31 ≤ length c.loop-block.texts + length c.in-Some-2.more = omega (arith, c.len.ensures, c.if-len-count.true, c.loop-block.invariant.count, c.loop-block.invariant.few) in
    sym (ap left here ∙ many_texts (to_z w64 (of_z w64 c.args.id)) c.args.wide c.loop-block.texts c.loop-block.is_first (block_seen told c.in-Some.block) rest c.in-Some-2.more (sym c.is_of.ensures ∙ c.if-not-is_of.false) good many)
    ∙ c.loop-block.invariant.texts told is
    ∙ ap (λ n. dictionary_texts n c.args.wide (blocks_seen told c.args.blocks.now)) (to_z-of_z w64 c.args.id c.ranges.id)

pub loop-block-preserved : goal.loop-block-preserved
loop-block-preserved g c =
    let i = c.loop-block.block-index in
    let blocks = c.args.blocks.now in
    let below : i < length blocks = omega arith in
    let appended : c.append.new.self ≡ c.loop-block.texts ++ c.in-Some-2.more = c.in_ok-append.ensures.ok ∙ ap (λ v. c.loop-block.texts ++ v) c.view.ensures in
    let all : length c.append.new.self ≡ length c.loop-block.texts + length c.in-Some-2.more = ap length appended ∙ length-append c.loop-block.texts c.in-Some-2.more in
    record {
      bytes = c.in_ok-more.ensures.bytes ∙ c.loop-block.invariant.bytes;
      faults = omega (arith, c.in_ok-more.ensures.cause.never_falls, c.loop-block.invariant.faults);
      texts = λ told is.
          let left = texts_left (to_z w64 (of_z w64 c.args.id)) c.args.wide c.loop-block.texts c.loop-block.is_first in
          let rest = blocks_seen told (drop (i + 1) blocks) in
          let here = next_block told blocks i c.block-item.result below ∙ ap (λ o. option_map (block_seen told) o ∷ rest) (sym c.block-item.is ∙ c.in-Some.is) in
          let good = sym (c.in_ok-more.ensures.texts told (c.loop-block.invariant.bytes ∙ is)) ∙ c.in-Some-2.is in
          ap (λ t. texts_left (to_z w64 (of_z w64 c.args.id)) c.args.wide t false rest) appended
          ∙ sym (ap left here ∙ more_texts (to_z w64 (of_z w64 c.args.id)) c.args.wide c.loop-block.texts c.loop-block.is_first (block_seen told c.in-Some.block) rest c.in-Some-2.more (sym c.is_of.ensures ∙ c.if-not-is_of.false)
          (sym c.follows.ensures ∙ c.if-not-follows.false) good)
          ∙ c.loop-block.invariant.texts told is;
      utf8 = subst AreTexts (sym appended) (texts-append c.loop-block.texts c.in-Some-2.more c.loop-block.invariant.utf8 (c.in_ok-more.ensures.utf8 c.in-Some-2.more c.in-Some-2.is));
      count = omega (arith, all, c.len-count.ensures, c.loop-block.invariant.count);
      few = omega (arith, c.len-count.ensures, c.len.ensures, c.if-len-count.false, c.loop-block.invariant.few);
    }

pub returns-clause-texts : goal.returns-clause-texts
returns-clause-texts g c = λ told is.
    let blocks = c.args.blocks.now in
    let left = texts_left (to_z w64 (of_z w64 c.args.id)) c.args.wide c.loop-block.texts c.loop-block.is_first in
    let none : drop c.loop-block.block-index blocks ≡ [] = drop_all c.loop-block.block-index blocks (omega arith) in
    let few : length c.loop-block.texts < 2 ^ 31 = omega (arith, c.loop-block.invariant.count, c.loop-block.invariant.few) in
    ap (λ t. Some t) c.finish.ensures ∙ sym (ap (λ bs. left (blocks_seen told bs)) none ∙ no_more (to_z w64 (of_z w64 c.args.id)) c.args.wide c.loop-block.texts c.loop-block.is_first few)
    ∙ c.loop-block.invariant.texts told is
    ∙ ap (λ n. dictionary_texts n c.args.wide (blocks_seen told c.args.blocks.now)) (to_z-of_z w64 c.args.id c.ranges.id)
