use Rattle.std.proofs.Common.{◌≡◌, ◌∙◌, Ok, Err, ap, sym, refl}
use Rattle.plan_denote.specs.Denote.{denote}
use Rattle.plan_denote.specs.Holes.{filled}
use Rattle.plan_denote.specs.Subqueries.{worth_of_stream}
use Rattle.row_engine.specs.Tables.{tables_seen}
use Rattle.sub_query.specs.Known.{found_seen, known_seen, worth_seen}
use Rattle.plan_rows.proofs.WorthLaws.{one_more, stopped}
use Rattle.plan_rows.proofs.run.worths_of.Goals as goal

pub returns-in-Err : goal.returns-in-Err
returns-in-Err c =
    let tables = tables_seen c.args.tables.now in
    let sub = c.sub-item.result in
    let known = c.loop-sub.known.items in
    let is : Err c.in-Err.fault ≡ worth_of_stream sub (denote tables (filled (known_seen known) sub.rel)) =
    ap found_seen (sym c.in-Err.is) ∙ c.in_ok-worth.ensures ∙ ap (λ all. worth_of_stream sub (denote tables (filled (known_seen all) sub.rel))) c.deref.ensures.value in
    stopped tables c.args.subs.now c.loop-sub.sub-index sub known c.loop-sub-test.true c.sub-item.is c.in-Err.fault _ is c.loop-sub.invariant

pub loop-sub-preserved : goal.loop-sub-preserved
loop-sub-preserved c =
    let tables = tables_seen c.args.tables.now in
    let sub = c.sub-item.result in
    let known = c.loop-sub.known.items in
    let is : Ok (worth_seen c.in-Ok.worth) ≡ worth_of_stream sub (denote tables (filled (known_seen known) sub.rel)) =
    ap found_seen (sym c.in-Ok.is) ∙ c.in_ok-worth.ensures ∙ ap (λ all. worth_of_stream sub (denote tables (filled (known_seen all) sub.rel))) c.deref.ensures.value in
    rw c.in_ok-push-in-Ok.ensures.items (one_more tables c.args.subs.now c.loop-sub.sub-index sub known c.loop-sub-test.true c.sub-item.is (record { hole = sub.hole; worth = c.in-Ok.worth }) _ refl is c.loop-sub.invariant)
