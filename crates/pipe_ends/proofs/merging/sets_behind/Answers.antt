use Rattle.std.proofs.Common.{◌≡◌, All, refl, sym, subst, arith}
use Rattle.std.specs.Vec.Iter.{into_iter_items}
use Rattle.std.proofs.lemmas.List.Elements.{All-head, All-tail}
use Rattle.sub_types.specs.Stream.{followed_by, glue}
use Rattle.group_sets.specs.States.{IsOf, IsFor}
use Rattle.pipe_ends.proofs.MergeLaws.{so_far_first, so_far_more, so_far_all}
use Rattle.pipe_ends.proofs.SortLaws.{no_items}
use Rattle.pipe_ends.proofs.merging.sets_behind.Goals as goal

pub loop-later-init : goal.loop-later-init
loop-later-init c =
    let left = into_iter_items c.into_iter-later-iterator.result in
    let same : left ≡ c.args.rest.items = c.into_iter-later-iterator.ensures.into_iter_gives.0 in
    record {
      of = λ rows streams first later. so_far_first (IsOf c.args.spec.now) (followed_by rows (glue streams)) c.args.first c.args.rest.items left rows streams same first later refl;
      over = c.requires.first;
      given = subst (All (IsFor c.args.types.now c.args.spec.now)) (sym same) c.requires.given;
    }

pub merge-requires : goal.merge-requires
merge-requires c =
    let P = IsFor c.args.types.now c.args.spec.now in
    let given = subst (All P) c.in-Some.ensures.steps.0 c.loop-later.invariant.given in
    record { over = (c.args.types.now, c.loop-later.invariant.over, All-head P c.in-Some.later (into_iter_items c.next.new.self) given) }

pub loop-later-preserved : goal.loop-later-preserved
loop-later-preserved c =
    let l = c.loop-later in
    let spec = c.args.spec.now in
    let types = c.args.types.now in
    let P = IsFor types spec in
    let later = c.in-Some.later in
    let rest = into_iter_items c.next.new.self in
    let given = subst (All P) c.in-Some.ensures.steps.0 l.invariant.given in
    record {
      of = λ rows streams first each. so_far_more (IsOf spec) (followed_by rows (glue streams)) l.known c.merge.new.self later (into_iter_items l.later-iterator) rest c.in-Some.ensures.steps.0 c.in_ok-merge.ensures.of (l.invariant.of rows streams first each);
      over = c.in_ok-merge.ensures.over types l.invariant.over (All-head P later rest given);
      given = All-tail P later rest given;
    }

pub returns-clause-of : goal.returns-clause-of
returns-clause-of c =
    let l = c.loop-later in
    let left = into_iter_items l.later-iterator in
    let none = no_items left (omega (arith, l.later-iterator.rest.ok.0, c.in-None.ensures.steps.0)) in
    λ rows streams first each. so_far_all (IsOf c.args.spec.now) (followed_by rows (glue streams)) l.known left none (l.invariant.of rows streams first each)
