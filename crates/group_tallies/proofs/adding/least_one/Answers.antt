use Rattle.std.proofs.Common.{◌∙◌, true, false, sym, ap}
use Rattle.std.specs.Ordering.{is_lt}
use Rattle.group_tallies.specs.declared.tallies.Keeping.TheVariants as keepings
use Rattle.group_tallies.specs.Kept.{least_kept, kept_of}
use Rattle.group_tallies.proofs.KeptLaws.{null_stays, set_tally, stays_tally, better_picked, least_more}
use Rattle.group_tallies.proofs.adding.least_one.Goals as goal

pub returns-then-is_null : goal.returns-then-is_null
returns-then-is_null c = null_stays least_kept keepings.Least c.args.bests.now.items c.args.group c.args.value c.requires (sym c.if-is_null.ensures)

pub returns-then-is_lesser : goal.returns-then-is_lesser
returns-then-is_lesser c =
    let there = sym c.if-is_null.ensures in
    set_tally least_kept c.args.bests.now.items c.args.group c.index.result.now c.args.value (kept_of keepings.Least c.args.value) c.requires c.index.ensures
    (ap least_kept (sym (better_picked is_lt c.index.result.now c.args.value true there c.if-is_lesser.ensures)) ∙ least_more c.index.result.now c.args.value there)

pub returns-else-is_lesser : goal.returns-else-is_lesser
returns-else-is_lesser c =
    let there = sym c.if-is_null.ensures in
    stays_tally least_kept c.args.bests.now.items c.args.group c.index.result.now (kept_of keepings.Least c.args.value) c.requires c.index.ensures
    (ap least_kept (sym (better_picked is_lt c.index.result.now c.args.value false there c.if-is_lesser.ensures)) ∙ least_more c.index.result.now c.args.value there)
