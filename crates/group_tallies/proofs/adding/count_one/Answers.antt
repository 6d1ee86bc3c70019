use Rattle.std.proofs.Common.{◌+◌, sym, arith}
use Rattle.group_tallies.specs.declared.tallies.Keeping.TheVariants as keepings
use Rattle.group_tallies.specs.Kept.{counted, kept_of}
use Rattle.group_tallies.proofs.KeptLaws.{null_stays, set_tally, count_more}
use Rattle.group_tallies.proofs.adding.count_one.Goals as goal

pub returns-then-is_null : goal.returns-then-is_null
returns-then-is_null c = null_stays counted keepings.Count c.args.counts.now.items c.args.group c.args.value.now c.requires.group (sym c.if-is_null.ensures)

pub overflow_add-index_mut : goal.overflow_add-index_mut
overflow_add-index_mut c =
    let room = c.requires.room c.index_mut.result.now in
    omega (arith, room, c.index_mut.ensures.value)

pub returns : goal.returns
returns c =
    set_tally counted c.args.counts.now.items c.args.group c.index_mut.result.now (c.index_mut.result.now + 1) (kept_of keepings.Count c.args.value.now) c.requires.group c.index_mut.ensures.value
    (count_more c.index_mut.result.now c.args.value.now (sym c.if-is_null.ensures))
