use Rattle.std.proofs.Common.{◌∙◌, ◌<◌, ◌≤◌, length, drop, sym, ap, arith}
use Rattle.std.proofs.lemmas.List.{drop_all}
use Rattle.group_firsts.specs.Firsts.{with_new}
use Rattle.group_firsts.proofs.PairLaws.{added}
use Rattle.group_firsts.proofs.firsts.add_new.Goals as goal

pub loop-row-preserved : goal.loop-row-preserved
loop-row-preserved c =
    let l = c.loop-row in
    let h : l.row < length c.args.places.now = omega (arith, c.loop-row-test.true) in
    let g : l.row < length c.args.numbers.now = omega (arith, h, c.requires) in
    added l.groups.items c.add_one.new.groups.items c.args.places.now c.args.numbers.now l.row h g c.in_ok-add_one.ensures ∙ l.invariant

pub returns : goal.returns
returns c =
    let l = c.loop-row in
    let done : length c.args.places.now ≤ l.row = omega (arith, c.loop-row-test.false) in
    ap (λ ps. with_new l.groups.items ps (drop l.row c.args.numbers.now)) (sym (drop_all l.row c.args.places.now done)) ∙ l.invariant
