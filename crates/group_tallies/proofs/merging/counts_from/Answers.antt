use Rattle.std.proofs.Common.{◌+◌, map, sym, ap, arith}
use Rattle.group_laws.specs.Merged.{tallies_merged}
use Rattle.group_tallies.specs.Kept.{counted, tally_at}
use Rattle.group_tallies.proofs.KeptLaws.{set_tally, tally_of_item}
use Rattle.group_tallies.proofs.merging.counts_from.Goals as goal

pub overflow_add-index_mut : goal.overflow_add-index_mut
overflow_add-index_mut c =
    let known = ap (λ t. t.count) (tally_of_item counted c.args.counts.now.items c.args.group c.index_mut.result.now c.requires.group c.index_mut.ensures.value) in
    let more = ap (λ t. t.count) (tally_of_item counted c.args.later.now.items c.args.from c.index-more.result.now c.requires.from c.index-more.ensures) in
    omega (arith, known, more, c.requires.room)

pub returns : goal.returns
returns c =
    set_tally counted c.args.counts.now.items c.args.group c.index_mut.result.now (c.index_mut.result.now + c.index-more.result.now) (tally_at (map counted c.args.later.now.items) c.args.from) c.requires.group c.index_mut.ensures.value
    (sym (ap (tallies_merged (counted c.index_mut.result.now)) (tally_of_item counted c.args.later.now.items c.args.from c.index-more.result.now c.requires.from c.index-more.ensures)))
