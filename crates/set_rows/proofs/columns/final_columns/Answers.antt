use Rattle.std.proofs.Common.{◌≡◌, ◌∙◌, ◌<◌, ◌≤◌, ◌++◌, ◌∷◌, [], length, map, take, drop, get_or, All, refl, ap, sym, subst, arith}
use Rattle.std.specs.Vec.Iter.{into_iter_items}
use Rattle.std.proofs.lemmas.List.{map-append, take_more, take_all, drop_all, append-nil}
use Rattle.std.proofs.lemmas.List.Elements.{All-push, All-nil, All-get_or}
use Rattle.plan_typed.specs.declared.rel.SetMeasure.{SetMeasure}
use Rattle.plan_denote.specs.Aggregate.{MAX_INPUT}
use Rattle.group_tallies.specs.declared.tallies.Tallies.{Tallies}
use Rattle.group_tallies.specs.Kept.{tallies_in, keeping_in}
use Rattle.group_columns.specs.Columns.{count_in}
use Rattle.group_states.specs.States.{kept_in}
use Rattle.set_states.proofs.PushLaws.{first_left, rest_left}
use Rattle.set_states.proofs.SetLaws.{as_kept, within_as}
use Rattle.aggregate.proofs.FinalLaws.{same_at}
use Rattle.set_states.specs.States.{keeping}
use Rattle.set_rows.specs.Rows.{columns_final}
use Rattle.set_rows.proofs.RowLaws.{column_here, column_final, columns_next, few_firsts}
use Rattle.set_rows.proofs.columns.final_columns.Goals as goal

pub loop-tallies-init : goal.loop-tallies-init
loop-tallies-init c =
    let gives = c.into_iter-tallies-iterator.ensures.into_iter_gives.0 in
    let none = c.new-more.ensures.items in
    record {
      left = gives;
      all = omega (arith, ap length gives);
      kinds = ap (map keeping_in) none;
      sized = subst (All (λ (tallies : Tallies). length (tallies_in tallies) ≡ c.args.groups)) (sym none) (All-nil (λ (tallies : Tallies). length (tallies_in tallies) ≡ c.args.groups));
      few = subst (All (λ (tallies : Tallies). count_in (tallies_in tallies) ≤ MAX_INPUT)) (sym none) (All-nil (λ (tallies : Tallies). count_in (tallies_in tallies) ≤ MAX_INPUT));
      known = λ keys entries known kept once many. ap (λ l. map kept_in l ++ columns_final 0 c.args.measures.now entries keys) (sym none);
    }

pub loop-tallies-preserved : goal.loop-tallies-preserved
loop-tallies-preserved c =
    let l = c.loop-tallies in
    let before = l.invariant in
    let step = c.in-Some.ensures.steps.0 in
    let tallies = c.in-Some.tallies in
    let rest = into_iter_items c.next.new.self in
    let columns = c.args.columns.items in
    let measures = c.args.measures.now in
    let measure = c.index-measures-place.result in
    let one = c.in_ok-one.one in
    let e = c.in_ok-one.ensures in
    let items = c.in_ok-push.ensures.items in
    let long : length (into_iter_items l.tallies-iterator) ≡ length (tallies ∷ rest) = ap length step in
    let within : l.place < length columns = omega (arith, before.all, long) in
    let many : length columns ≡ length measures = as_kept keeping_in keeping columns measures c.requires.kinds in
    let there : l.place < length measures = omega (arith, within, many) in
    let at : tallies ∷ rest ≡ drop l.place columns = sym step ∙ before.left in
    let is : tallies ≡ get_or columns l.place tallies = first_left columns rest l.place tallies within at in
    let same : measure ≡ get_or measures l.place measure = c.index-measures-place.is in
    record {
      left = rest_left columns rest l.place tallies within at;
      all = omega (arith, before.all, long);
      kinds =
          ap (map keeping_in) items ∙ map-append keeping_in l.more.items (one ∷ []) ∙ ap (λ k. map keeping_in l.more.items ++ k ∷ []) e.kind
          ∙ ap (λ ks. ks ++ keeping measure ∷ []) before.kinds
          ∙ ap (λ (m : SetMeasure). map keeping (take l.place measures) ++ keeping m ∷ []) same
          ∙ sym (map-append keeping (take l.place measures) (get_or measures l.place measure ∷ []))
          ∙ ap (map keeping) (sym (take_more measures l.place measure there));
      sized = subst (All (λ (tallies : Tallies). length (tallies_in tallies) ≡ c.args.groups)) (sym items) (All-push (λ (tallies : Tallies). length (tallies_in tallies) ≡ c.args.groups) l.more.items one before.sized e.sized);
      few = subst (All (λ (tallies : Tallies). count_in (tallies_in tallies) ≤ MAX_INPUT)) (sym items) (All-push (λ (tallies : Tallies). count_in (tallies_in tallies) ≤ MAX_INPUT) l.more.items one before.few e.few);
      known = λ keys entries known kept once numbered.
          columns_next l.place measures entries keys l.more.items c.push.new.self.items one measure (columns_final 0 measures entries keys) there same items
          (column_final measure entries l.place keys tallies one measure.distinct refl e.kind (column_here l.place measures columns entries keys measure tallies known there same is) e.all
          (λ distinct. e.once keys entries l.place distinct (kept.each l.place there measure same distinct c.index-firsts-place.result c.index-firsts-place.is) once numbered))
          (before.known keys entries known kept once numbered);
    }

pub final_column-requires-clause-kind : goal.final_column-requires-clause-kind
final_column-requires-clause-kind c =
    let l = c.loop-tallies in
    let step = c.in-Some.ensures.steps.0 in
    let tallies = c.in-Some.tallies in
    let rest = into_iter_items c.next.new.self in
    let columns = c.args.columns.items in
    let measures = c.args.measures.now in
    let long : length (into_iter_items l.tallies-iterator) ≡ length (tallies ∷ rest) = ap length step in
    let within : l.place < length columns = omega (arith, l.invariant.all, long) in
    let there : l.place < length measures = omega (arith, within, as_kept keeping_in keeping columns measures c.requires.kinds) in
    let is : tallies ≡ get_or columns l.place tallies = first_left columns rest l.place tallies within (sym step ∙ l.invariant.left) in
    same_at keeping_in keeping columns measures l.place tallies c.index-measures-place.result c.requires.kinds within there is c.index-measures-place.is

pub final_column-requires-clause-sized : goal.final_column-requires-clause-sized
final_column-requires-clause-sized c =
    let l = c.loop-tallies in
    let step = c.in-Some.ensures.steps.0 in
    let tallies = c.in-Some.tallies in
    let rest = into_iter_items c.next.new.self in
    let columns = c.args.columns.items in
    let long : length (into_iter_items l.tallies-iterator) ≡ length (tallies ∷ rest) = ap length step in
    let within : l.place < length columns = omega (arith, l.invariant.all, long) in
    let is : tallies ≡ get_or columns l.place tallies = first_left columns rest l.place tallies within (sym step ∙ l.invariant.left) in
    subst (λ (t : Tallies). length (tallies_in t) ≡ c.args.groups) (sym is) (All-get_or (λ (t : Tallies). length (tallies_in t) ≡ c.args.groups) columns l.place tallies within c.requires.sized)

pub final_column-requires-clause-few : goal.final_column-requires-clause-few
final_column-requires-clause-few c =
    let l = c.loop-tallies in
    let step = c.in-Some.ensures.steps.0 in
    let tallies = c.in-Some.tallies in
    let rest = into_iter_items c.next.new.self in
    let columns = c.args.columns.items in
    let long : length (into_iter_items l.tallies-iterator) ≡ length (tallies ∷ rest) = ap length step in
    let within : l.place < length columns = omega (arith, l.invariant.all, long) in
    let is : tallies ≡ get_or columns l.place tallies = first_left columns rest l.place tallies within (sym step ∙ l.invariant.left) in
    subst (λ (t : Tallies). count_in (tallies_in t) ≤ MAX_INPUT) (sym is) (All-get_or (λ (t : Tallies). count_in (tallies_in t) ≤ MAX_INPUT) columns l.place tallies within c.requires.few)

pub final_column-requires-clause-within : goal.final_column-requires-clause-within
final_column-requires-clause-within c =
    let l = c.loop-tallies in
    let step = c.in-Some.ensures.steps.0 in
    let tallies = c.in-Some.tallies in
    let rest = into_iter_items c.next.new.self in
    let columns = c.args.columns.items in
    let measures = c.args.measures.now in
    let long : length (into_iter_items l.tallies-iterator) ≡ length (tallies ∷ rest) = ap length step in
    let within : l.place < length columns = omega (arith, l.invariant.all, long) in
    let there : l.place < length measures = omega (arith, within, as_kept keeping_in keeping columns measures c.requires.kinds) in
    let keys = c.requires.known.0 in
    let entries = c.requires.known.1 in
    let many = c.requires.known.3 in
    let few = c.requires.known.4 in
    let firsts = c.index-firsts-place.result in
    λ distinct.
    let are = c.requires.known.2.each l.place there c.index-measures-place.result c.index-measures-place.is distinct firsts c.index-firsts-place.is in
    let fewer = few_firsts keys entries l.place firsts are in
    (within_as c.args.groups keys entries l.place firsts (sym many) are, omega (arith, fewer, few))

pub returns-clause-sized : goal.returns-clause-sized
returns-clause-sized c =
    let l = c.loop-tallies in
    let columns = c.args.columns.items in
    let measures = c.args.measures.now in
    let none : length (into_iter_items l.tallies-iterator) ≡ 0 = omega (arith, l.tallies-iterator.rest.ok.0, c.in-None.ensures.steps.0) in
    let done : length measures ≤ l.place = omega (arith, l.invariant.all, none, as_kept keeping_in keeping columns measures c.requires.kinds) in
    record { kinds = l.invariant.kinds ∙ ap (map keeping) (take_all l.place measures done); sized = l.invariant.sized; few = l.invariant.few }

pub returns-clause-tallies : goal.returns-clause-tallies
returns-clause-tallies c =
    let l = c.loop-tallies in
    let columns = c.args.columns.items in
    let measures = c.args.measures.now in
    let none : length (into_iter_items l.tallies-iterator) ≡ 0 = omega (arith, l.tallies-iterator.rest.ok.0, c.in-None.ensures.steps.0) in
    let done : length measures ≤ l.place = omega (arith, l.invariant.all, none, as_kept keeping_in keeping columns measures c.requires.kinds) in
    λ keys entries known kept once many.
    sym (append-nil (map kept_in l.more.items))
    ∙ ap (λ ms. map kept_in l.more.items ++ columns_final l.place ms entries keys) (sym (drop_all l.place measures done))
    ∙ sym (l.invariant.known keys entries known kept once many)
