use Rattle.std.proofs.Common.{ℕ, ◌<◌, All, length, arith, sym, subst}
use Rattle.std.proofs.lemmas.List.{with_items_is}
use Rattle.scan_claims.specs.Claims.{IsEachOnce}
use Rattle.hand_off_tests.specs.Crew.{IsDone}
use Rattle.hand_off_tests.proofs.Together.{balanced_parts, some_ended}
use Rattle.hand_off_tests.proofs.run.run_numbers.Goals as goal

pub parts_of-requires : goal.parts_of-requires
parts_of-requires g c =
    subst (All (IsDone c.in_ok-claims.claims c.in_ok-hand.hand)) (sym (with_items_is c.in_ok-crew.crew c.run_crew.new.crew (omega arith))) c.run_crew.ensures

pub returns : goal.returns
returns g c =
    let p = c.in_ok-seats.ensures.parts in
    let some : 0 < length c.in_ok-seats.field-0.seats.items = omega (arith, c.in_ok-seats.ensures.count.0, c.in_ok-crew.ensures.count, c.in_ok-claims.ensures.seats) in
    let whole = subst (λ (n : ℕ). IsEachOnce n c.finish-drawn.result) c.in_ok-claims.ensures.claims.0 (c.finish-drawn.ensures.whole (some_ended _ some p.ended)) in
    balanced_parts c.args.n _ _ _ _ _ c.finish-drawn.result c.finish-rest.result.offered c.finish-rest.result.taken c.in_ok-left.left.items
    p c.finish-drawn.ensures.numbers whole c.finish-rest.ensures.offered c.finish-rest.ensures.taken c.in_ok-left.ensures
