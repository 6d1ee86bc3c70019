use Rattle.std.proofs.Common.{length}
use Rattle.row_groups.specs.Measured.{key_value}
use Rattle.row_groups.proofs.GroupSetLaws.{one_place_more}
use Rattle.row_groups.proofs.group_sets.key_over.Goals as goal

pub loop-place-preserved : goal.loop-place-preserved
loop-place-preserved c =
    one_place_more (key_value c.args.set.now c.args.key.now) c.loop-place.place (length c.args.key.now) c.loop-place.own c.push.new.self _ c.in_ok-value.value c.loop-place-test.true c.in_ok-value.ensures c.in_ok-push.ensures.ok c.loop-place.invariant
