use Rattle.std.proofs.Common.{◌≡◌, ◌∙◌, ◌≤◌, true, false, length, sym, ap, arith}
use Rattle.well_typed.specs.Columns.{has_place}
use Rattle.group_sets.proofs.ColumnLaws.{all_more, not_all, all_done}
use Rattle.group_sets.proofs.types.is_in_all.Goals as goal

pub loop-set-preserved : goal.loop-set-preserved
loop-set-preserved c =
    let l = c.loop-set in
    let set = c.set-item.result in
    let has : has_place c.args.place set.items ≡ true = ap (has_place c.args.place) (sym c.as_slice.ensures.value) ∙ sym c.has_place.ensures ∙ c.if-not-has_place.false in
    all_more c.args.place c.args.sets.now l.set-index set c.loop-set-test.true c.set-item.is l.invariant has

pub returns-then-not-has_place : goal.returns-then-not-has_place
returns-then-not-has_place c =
    let l = c.loop-set in
    let set = c.set-item.result in
    let lacks : has_place c.args.place set.items ≡ false = ap (has_place c.args.place) (sym c.as_slice.ensures.value) ∙ sym c.has_place.ensures ∙ c.if-not-has_place.true in
    not_all c.args.place c.args.sets.now l.set-index set c.loop-set-test.true c.set-item.is lacks

pub returns : goal.returns
returns c =
    let l = c.loop-set in
    let all : length c.args.sets.now ≤ l.set-index = omega (arith, c.loop-set-test.false) in
    all_done c.args.place c.args.sets.now l.set-index all l.invariant
