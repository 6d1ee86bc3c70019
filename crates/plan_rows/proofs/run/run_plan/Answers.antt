use Rattle.std.proofs.Common.{◌≡◌, ◌∙◌, [], Ok, Err, ap, sym}
use Rattle.plan_denote.specs.Subqueries.{worths}
use Rattle.row_engine.specs.Tables.{tables_seen}
use Rattle.sub_query.specs.Known.{known_seen}
use Rattle.plan_rows.specs.Seen.{all_seen}
use Rattle.plan_rows.proofs.WorthLaws.{plan_is}
use Rattle.plan_rows.proofs.run.run_plan.Goals as goal

pub returns-in-Ok : goal.returns-in-Ok
returns-in-Ok c =
    let tables = tables_seen c.args.tables.now in
    let is : Ok (known_seen c.in-Ok.known.items) ≡ worths tables c.args.plan.now.subs [] = ap all_seen (sym c.in-Ok.is) ∙ c.in_ok-known.ensures ∙ ap (λ subs. worths tables subs []) c.as_slice.ensures in
    let whole = plan_is tables c.args.plan.now (Ok (known_seen c.in-Ok.known.items)) is in
    rw (sym whole, sym c.deref.ensures.value) c.rows_filled.ensures

pub returns-in-Err : goal.returns-in-Err
returns-in-Err c =
    let tables = tables_seen c.args.tables.now in
    let is : Err c.in-Err.fault ≡ worths tables c.args.plan.now.subs [] = ap all_seen (sym c.in-Err.is) ∙ c.in_ok-known.ensures ∙ ap (λ subs. worths tables subs []) c.as_slice.ensures in
    c.ended.ensures ∙ plan_is tables c.args.plan.now (Err c.in-Err.fault) is
