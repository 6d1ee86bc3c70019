use Rattle.std.proofs.Common.{◌∙◌, ap, ◌||◌, not, Bool, map, arith, Vec, ℕ, Global}
use Rattle.std.specs.List.{enumerate_from}
use Rattle.std.proofs.lemmas.List.{take_all}
use Rattle.std.proofs.lemmas.List.FromFn.{length-enumerate_from}
use Rattle.sub_types.specs.declared.kind.Ty.{Ty}
use Rattle.plan_typed.specs.declared.expr.Expr.{Expr}
use Rattle.plan_typed.specs.Types.{ty_of}
use Rattle.well_typed.specs.Columns as spec
use Rattle.group_sets.proofs.ColumnLaws.{placed_more}
use Rattle.group_sets.proofs.types.group_types.Goals as goal

abbrev typed : Expr → Bool → Ty
typed expr is_in_all = record { kind = (ty_of expr).kind; nullable = (ty_of expr).nullable || not is_in_all }

pub loop-place-preserved : goal.loop-place-preserved
loop-place-preserved c =
    let expr = c.index-groups-place.result in
    let place = c.loop-place.place in
    placed_more (spec.group_type (map (λ (set : Vec ℕ Global). set.items) c.args.sets.now)) c.args.groups.now place expr c.loop-place.types.items c.push.new.self.items c.group_type.result
    c.loop-place-test.true c.index-groups-place.is c.loop-place.invariant
    (c.group_type.ensures ∙ ap (typed expr) c.is_in_all.ensures) c.in_ok-push.ensures.items

pub returns : goal.returns
returns c =
    let all = enumerate_from 0 c.args.groups.now in
    c.loop-place.invariant ∙ ap (map (spec.group_type (map (λ (set : Vec ℕ Global). set.items) c.args.sets.now))) (take_all c.loop-place.place all (omega (arith, length-enumerate_from 0 c.args.groups.now)))
