use Rattle.std.proofs.Common.{◌∙◌, ◌+◌, ◌+ℤ◌, ◌<◌, ◌^◌, FitsSigned, sym, ap, subst, arith}
use Rattle.std.specs.Int.{w128}
use Rattle.std.proofs.lemmas.Int.{to_z-of_z}
use Rattle.group_tallies.specs.declared.running.Running.{Running}
use Rattle.group_tallies.specs.declared.tallies.Keeping.TheVariants as keepings
use Rattle.group_tallies.specs.Totals.{number_of_parts}
use Rattle.group_tallies.specs.Kept.{totalled, summed, kept_of}
use Rattle.group_tallies.proofs.KeptLaws.{null_stays, set_tally, total_more}
use Rattle.group_tallies.proofs.adding.total_one.Goals as goal

pub returns-then-is_null : goal.returns-then-is_null
returns-then-is_null c = null_stays totalled keepings.Total c.args.totals.now.items c.args.group c.args.value.now c.requires.group (sym c.if-is_null.ensures)

pub with-requires : goal.with-requires
with-requires c = subst (λ (r : Running). r.count < 2 ^ 62) (sym c.index-running.ensures) (c.requires.room c.index-running.result.now)

pub returns : goal.returns
returns c =
    let r = c.index-running.result.now in
    let fits : FitsSigned w128 c.number_in.result = record { sfits = c.number_in.type_inv } in
    let read = to_z-of_z w128 c.number_in.result fits in
    set_tally totalled c.args.totals.now.items c.args.group r c.with.result (kept_of keepings.Total c.args.value.now) c.requires.group c.index-running.ensures
    (ap (λ n. summed n (number_of_parts c.with.result.high c.with.result.low)) c.with.ensures.count
    ∙ ap (summed (r.count + 1)) (c.with.ensures.total ∙ ap (λ z. number_of_parts r.high r.low +ℤ z) (read ∙ c.number_in.ensures))
    ∙ total_more r.count (number_of_parts r.high r.low) c.args.value.now (sym c.if-is_null.ensures))
