use Rattle.std.proofs.Common.{◌∙◌, ap, ◌||◌, ◌==◌, ◌<◌, not, Bool, length, map, arith}
use Rattle.std.specs.List.{enumerate_from}
use Rattle.std.proofs.lemmas.List.{get_or_read, take_all}
use Rattle.std.proofs.lemmas.List.FromFn.{length-enumerate_from}
use Rattle.sub_types.specs.declared.kind.Ty.{Ty}
use Rattle.plan_typed.specs.declared.expr.Expr.{Expr}
use Rattle.plan_typed.specs.Types.{ty_of}
use Rattle.well_typed.specs.Columns as spec
use Rattle.pipe_ends.proofs.CountLaws.{placed_more}
use Rattle.pipe_ends.proofs.set_groups.group_types.Goals as goal

abbrev typed : Expr → Bool → Ty
typed expr is_in_all = record { kind = (ty_of expr).kind; nullable = (ty_of expr).nullable || not is_in_all }

pub loop-place-preserved : goal.loop-place-preserved
loop-place-preserved c =
    let expr = c.index-groups-place.result in
    let place = c.loop-place.place in
    let held = c.in_ok-held.held.items in
    let inside : place < length held = omega (arith, c.in_ok-held.ensures.len) in
    let count = get_or_read held place c.index.result.now inside c.index.ensures 0 in
    placed_more (spec.group_type c.args.sets.now) c.args.groups.now place expr c.loop-place.given.items c.push.new.self.items c.group_type.result
    c.loop-place-test.true c.index-groups-place.is c.loop-place.invariant
    (c.group_type.ensures ∙ ap (typed expr) (ap (λ n. n == length c.args.sets.now) count ∙ c.in_ok-held.ensures.all place c.loop-place-test.true)) c.in_ok-push.ensures.items

pub returns : goal.returns
returns c =
    let all = enumerate_from 0 c.args.groups.now in
    c.loop-place.invariant ∙ ap (map (spec.group_type c.args.sets.now)) (take_all c.loop-place.place all (omega (arith, length-enumerate_from 0 c.args.groups.now)))
