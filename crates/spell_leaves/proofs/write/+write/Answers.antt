use Rattle.std.proofs.Common.{[], ◌∷◌, map, if◌then◌else◌, refl, arith}
use Rattle.std.specs.Option.{option_to_list}
use Rattle.plan_spell.specs.Held.{packed, truth_varint, unless_empty, unless_false, unless_none, unless_zero, whole_varint}
use Rattle.plan_spell.specs.Spelled.{spelled_at}
use Rattle.spell_leaves.specs.declared.part.HeldRef.TheVariants as h
use Rattle.spell_leaves.specs.Seen.{messages_seen, part_seen}
use Rattle.spell_leaves.proofs.FrontLaws.{blocks_arm, message_front, part_front, varints_arm}
use Rattle.spell_leaves.proofs.write.+write.Goals as goal

pub write_part-returns-in-Uint32 : goal.write_part-returns-in-Uint32
write_part-returns-in-Uint32 t c = varints_arm c.args.levels c.args.part.number c.args.part.held (h.Uint32 c.in-Uint32.value) (unless_none c.in-Uint32.value) c.args.out.now c.write_uint32.new.out c.write_uint32.result c.in-Uint32.is refl refl c.write_uint32.ensures

pub write_part-returns-in-Int32 : goal.write_part-returns-in-Int32
write_part-returns-in-Int32 t c = varints_arm c.args.levels c.args.part.number c.args.part.held (h.Int32 c.in-Int32.value) (map whole_varint (unless_zero c.in-Int32.value.now)) c.args.out.now c.write_int32.new.out c.write_int32.result c.in-Int32.is refl refl c.write_int32.ensures

pub write_part-returns-in-Truth : goal.write_part-returns-in-Truth
write_part-returns-in-Truth t c = varints_arm c.args.levels c.args.part.number c.args.part.held (h.Truth c.in-Truth.value) (map truth_varint (unless_false c.in-Truth.value)) c.args.out.now c.write_truth.new.out c.write_truth.result c.in-Truth.is refl refl c.write_truth.ensures

pub write_part-returns-in-Block : goal.write_part-returns-in-Block
write_part-returns-in-Block t c = blocks_arm c.args.levels c.args.part.number c.args.part.held (h.Block c.in-Block.bytes) (unless_empty c.in-Block.bytes.now) c.args.out.now c.write_block.new.out c.write_block.result c.in-Block.is refl refl c.write_block.ensures

pub write_part-returns-in-Int32Member : goal.write_part-returns-in-Int32Member
write_part-returns-in-Int32Member t c = varints_arm c.args.levels c.args.part.number c.args.part.held (h.Int32Member c.in-Int32Member.value) (whole_varint c.in-Int32Member.value.now ∷ []) c.args.out.now c.write_int32_member.new.out c.write_int32_member.result c.in-Int32Member.is refl refl c.write_int32_member.ensures

pub write_part-returns-in-Int64Member : goal.write_part-returns-in-Int64Member
write_part-returns-in-Int64Member t c = varints_arm c.args.levels c.args.part.number c.args.part.held (h.Int64Member c.in-Int64Member.value) (map whole_varint (option_to_list c.in-Int64Member.value)) c.args.out.now c.write_int64.new.out c.write_int64.result c.in-Int64Member.is refl refl c.write_int64.ensures

pub write_part-returns-in-TruthMember : goal.write_part-returns-in-TruthMember
write_part-returns-in-TruthMember t c = varints_arm c.args.levels c.args.part.number c.args.part.held (h.TruthMember c.in-TruthMember.value) (truth_varint c.in-TruthMember.value ∷ []) c.args.out.now c.write_truth_member.new.out c.write_truth_member.result c.in-TruthMember.is refl refl c.write_truth_member.ensures

pub write_part-returns-in-BlockMember : goal.write_part-returns-in-BlockMember
write_part-returns-in-BlockMember t c = blocks_arm c.args.levels c.args.part.number c.args.part.held (h.BlockMember c.in-BlockMember.bytes) (c.in-BlockMember.bytes.now ∷ []) c.args.out.now c.write_block_member.new.out c.write_block_member.result c.in-BlockMember.is refl refl c.write_block_member.ensures

pub write_part-returns-in-EmptyBlock : goal.write_part-returns-in-EmptyBlock
write_part-returns-in-EmptyBlock t c = blocks_arm c.args.levels c.args.part.number c.args.part.held (h.EmptyBlock c.in-EmptyBlock.is_there) (if c.in-EmptyBlock.is_there then [] ∷ [] else []) c.args.out.now c.write_empty.new.out c.write_empty.result c.in-EmptyBlock.is refl refl c.write_empty.ensures

pub write_part-returns-in-PackedUint32s : goal.write_part-returns-in-PackedUint32s
write_part-returns-in-PackedUint32s t c = blocks_arm c.args.levels c.args.part.number c.args.part.held (h.PackedUint32s c.in-PackedUint32s.numbers) (packed c.in-PackedUint32s.numbers.now) c.args.out.now c.write_packed_uint32s.new.out c.write_packed_uint32s.result c.in-PackedUint32s.is refl refl c.write_packed_uint32s.ensures

pub write_part-returns-in-PackedInt32s : goal.write_part-returns-in-PackedInt32s
write_part-returns-in-PackedInt32s t c = blocks_arm c.args.levels c.args.part.number c.args.part.held (h.PackedInt32s c.in-PackedInt32s.numbers) (packed (map whole_varint c.in-PackedInt32s.numbers.now)) c.args.out.now c.write_packed_int32s.new.out c.write_packed_int32s.result c.in-PackedInt32s.is refl refl c.write_packed_int32s.ensures

pub write_part-returns-in-Blocks : goal.write_part-returns-in-Blocks
write_part-returns-in-Blocks t c = blocks_arm c.args.levels c.args.part.number c.args.part.held (h.Blocks c.in-Blocks.values) c.in-Blocks.values.now c.args.out.now c.write_blocks.new.out c.write_blocks.result c.in-Blocks.is refl refl c.write_blocks.ensures

pub write_part-returns-in-Messages : goal.write_part-returns-in-Messages
write_part-returns-in-Messages t c = blocks_arm c.args.levels c.args.part.number c.args.part.held (h.Messages c.in-Messages.messages) (map (spelled_at c.args.levels (messages_seen c.in-Messages.messages).shape) (messages_seen c.in-Messages.messages).nodes) c.args.out.now c.write_messages.new.out c.write_messages.result c.in-Messages.is refl refl c.write_messages.ensures

pub write_parts-loop-left-preserved : goal.write_parts-loop-left-preserved
write_parts-loop-left-preserved t c = (
  omega (arith, c.loop-left.invariant.0),
  part_front part_seen (spelled_at c.args.levels) c.args.parts.now c.loop-left.left c.index-parts-left.result c.index-parts-left.result c.args.out.now c.loop-left.out c.write_part.new.out c.loop-left-test.true c.loop-left.invariant.0 c.index-parts-left.is c.loop-left.invariant.1
      c.in_ok-write_part.ensures,
)

pub write_messages-loop-left-preserved : goal.write_messages-loop-left-preserved
write_messages-loop-left-preserved t c = (
  omega (arith, c.loop-left.invariant.0),
  message_front c.args.number (spelled_at c.args.levels (messages_seen c.args.messages).shape) (messages_seen c.args.messages).nodes c.loop-left.left c.len-before.result c.args.out.now c.loop-left.out c.write_message.new.out c.close.new.self
      c.loop-left-test.true c.loop-left.invariant.0 c.loop-left.invariant.1 c.len-before.ensures c.in_ok-write_message.ensures c.in_ok-close.ensures,
)
