use Rattle.std.proofs.Common.{◌∙◌, ◌+◌, sym, map, drop, arith}
use Rattle.std.proofs.lemmas.Grind.{common_steps}
use Rattle.func_table.specs.Kinds.{short_name}
use Rattle.func_table.proofs.KeyLaws.{parted, joined_names}
use Rattle.func_table.proofs.key.are_names.Goals as goal

pub returns-in_default-after : goal.returns-in_default-after
returns-in_default-after c =
    sym (c.in_default-after.ensures (parted (map short_name c.in-Some.others.now)))
    ∙ sym (joined_names c.args.bytes.now c.as_bytes.result.now c.args.kinds.now _ c.in-Some.others.now c.in-Some.ensures.cases.0 (c.as_bytes.ensures.value ∙ c.short_name.ensures))

pub loop-kind-init : goal.loop-kind-init
loop-kind-init c =
    joined_names c.args.bytes.now c.as_bytes.result.now c.args.kinds.now _ c.in-Some.others.now c.in-Some.ensures.cases.0 (c.as_bytes.ensures.value ∙ c.short_name.ensures)
    ∙ c.in-Some-after.ensures (parted (map short_name c.in-Some.others.now))

pub returns-in_default-after_one_more : goal.returns-in_default-after_one_more
returns-in_default-after_one_more c =
    grind (arith, common_steps, c.in_default-after_one_more.ensures (parted (map short_name (drop (c.loop-kind.kind-index + 1) c.in-Some.others.now))))
