use Rattle.std.proofs.Common.{◌∙◌, true, false, sym, ap}
use Rattle.std.specs.Ordering.{is_gt}
use Rattle.group_tallies.specs.declared.tallies.Keeping.TheVariants as keepings
use Rattle.group_tallies.specs.Kept.{greatest_kept, kept_of}
use Rattle.group_tallies.proofs.KeptLaws.{null_stays, set_tally, stays_tally, better_picked, greatest_more}
use Rattle.group_tallies.proofs.adding.greatest_one.Goals as goal

pub returns-then-is_null : goal.returns-then-is_null
returns-then-is_null c = null_stays greatest_kept keepings.Greatest c.args.bests.now.items c.args.group c.args.value c.requires (sym c.if-is_null.ensures)

pub returns-then-is_greater : goal.returns-then-is_greater
returns-then-is_greater c =
    let there = sym c.if-is_null.ensures in
    set_tally greatest_kept c.args.bests.now.items c.args.group c.index.result.now c.args.value (kept_of keepings.Greatest c.args.value) c.requires c.index.ensures
    (ap greatest_kept (sym (better_picked is_gt c.index.result.now c.args.value true there c.if-is_greater.ensures)) ∙ greatest_more c.index.result.now c.args.value there)

pub returns-else-is_greater : goal.returns-else-is_greater
returns-else-is_greater c =
    let there = sym c.if-is_null.ensures in
    stays_tally greatest_kept c.args.bests.now.items c.args.group c.index.result.now (kept_of keepings.Greatest c.args.value) c.requires c.index.ensures
    (ap greatest_kept (sym (better_picked is_gt c.index.result.now c.args.value false there c.if-is_greater.ensures)) ∙ greatest_more c.index.result.now c.args.value there)
