use Rattle.std.proofs.Common.{◌∙◌, ◌+◌, map, sym, ap, arith}
use Rattle.group_laws.specs.Merged.{tallies_merged}
use Rattle.group_tallies.specs.Totals.{number_of_parts}
use Rattle.group_tallies.specs.Kept.{totalled, summed, tally_at}
use Rattle.group_tallies.proofs.KeptLaws.{set_tally, tally_of_item}
use Rattle.group_tallies.proofs.merging.totals_from.Goals as goal

pub and-requires : goal.and-requires
and-requires c =
    let known = ap (λ t. t.count) (tally_of_item totalled c.args.totals.now.items c.args.group c.index-running.result.now c.requires.group c.index-running.ensures) in
    let more = ap (λ t. t.count) (tally_of_item totalled c.args.later.now.items c.args.from c.index-more.result.now c.requires.from c.index-more.ensures) in
    omega (arith, known, more, c.requires.room)

pub returns : goal.returns
returns c =
    let r = c.index-running.result.now in
    let m = c.index-more.result.now in
    set_tally totalled c.args.totals.now.items c.args.group r c.and.result (tally_at (map totalled c.args.later.now.items) c.args.from) c.requires.group c.index-running.ensures
    (ap (λ n. summed n (number_of_parts c.and.result.high c.and.result.low)) c.and.ensures.count
    ∙ ap (summed (r.count + m.count)) c.and.ensures.total
    ∙ sym (ap (tallies_merged (totalled r)) (tally_of_item totalled c.args.later.now.items c.args.from m c.requires.from c.index-more.ensures)))
