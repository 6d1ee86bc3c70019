use Rattle.std.proofs.Common.{◌≡◌, ◌∙◌, ◌+◌, ◌<◌, ◌∷◌, [], length, sym, ap, arith}
use Rattle.std.proofs.lemmas.List.{length-append}
use Rattle.group_tallies.specs.Kept.{none, tallies_in}
use Rattle.group_columns.specs.Columns.{padded}
use Rattle.group_columns.proofs.ColumnLaws.{pad_more, pad_done}
use Rattle.group_firsts.proofs.firsts.none_yet.Goals as goal

pub loop-preserved : goal.loop-preserved
loop-preserved c =
    let old = tallies_in c.loop.tallies in
    let new = tallies_in c.push.new.self in
    let room : length old < c.args.groups = omega (arith, c.loop.invariant.groups, c.loop-test.true) in
    let long : length new ≡ length old + 1 = ap length c.in_ok-push.ensures.tallies ∙ length-append old (none ∷ []) in
    record {
      tallies = ap (padded c.args.groups) c.in_ok-push.ensures.tallies ∙ sym (pad_more c.args.groups old room) ∙ c.loop.invariant.tallies;
      keeping = c.in_ok-push.ensures.keeping ∙ c.loop.invariant.keeping;
      groups = omega (arith, long, c.loop.invariant.groups);
    }

pub returns-clause-tallies : goal.returns-clause-tallies
returns-clause-tallies c =
    let now = tallies_in c.loop.tallies in
    let all : length now ≡ c.args.groups = omega (arith, c.loop.invariant.groups, c.loop-test.false, c.loop.auto.counter-end) in
    sym (pad_done now) ∙ ap (λ n. padded n now) all ∙ c.loop.invariant.tallies
