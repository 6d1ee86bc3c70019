use Rattle.std.proofs.Common.{◌≡◌, ◌≤◌, ◌∙◌, ◌+◌, [], ◌∷◌, length, rules, ap, sym, subst, arith}
use Rattle.std.specs.List.{All}
use Rattle.std.proofs.lemmas.List.{length-set, length-append}
use Rattle.std.proofs.lemmas.List.Elements.{All-set, All-replicate}
use Rattle.group_numbers.specs.Twins.{AreTwins}
use Rattle.group_numbers.proofs.TwinLaws.{no_twins, one_more_twin, remembered_more}
use Rattle.group_numbers.proofs.CodeLaws.{twin_of_code}
use Rattle.group_numbers.proofs.twins.twins_by_codes.Goals as goal

pub loop-row-init : goal.loop-row-init
loop-row-init c = record {
  twins = λ columns batch codes. subst (AreTwins columns batch 0) (sym c.in_ok-twins.ensures.items) (no_twins columns batch);
  remembered = subst (All (λ remembered. remembered ≤ 0)) (sym (c.in_ok-remembered.ensures.items_if_clones_equal (λ y e. e))) (All-replicate (λ remembered. remembered ≤ 0) 256 0 (omega arith));
  places = search rules;
  long = ap length c.in_ok-twins.ensures.items;
  room = c.in_ok-twins.ensures.exact;
}

pub push_reserved-requires : goal.push_reserved-requires
push_reserved-requires c = omega (arith, c.loop-row.invariant.long, c.loop-row.invariant.room, c.loop-row.twins.ok.0, c.loop-row-test.true)

pub loop-row-preserved : goal.loop-row-preserved
loop-row-preserved c =
    let l = c.loop-row in
    let so_far = l.invariant in
    let twin = c.twin_by_code-twin.result in
    let place = c.place_of_code-place.result in record {
      twins = λ columns batch codes. one_more_twin columns batch l.row l.twins.items c.push_reserved.new.self.items twin (so_far.twins columns batch codes) c.push_reserved.ensures.items c.twin_by_code-twin.ensures.before
          (twin_of_code columns batch c.args.codes.now twin l.row codes c.twin_by_code-twin.ensures.before c.loop-row-test.true c.twin_by_code-twin.ensures.same);
      remembered = All-set (λ remembered. remembered ≤ l.row + 1) l.remembered.items place l.row (omega arith) (remembered_more l.remembered.items l.row so_far.remembered);
      places = length-set l.remembered.items place l.row ∙ so_far.places;
      long = ap length c.push_reserved.ensures.items ∙ length-append l.twins.items (twin ∷ []) ∙ ap (λ n. n + 1) so_far.long;
      room = c.push_reserved.ensures.capacity ∙ so_far.room;
    }

pub returns : goal.returns
returns c = λ columns batch codes.
    let all : c.loop-row.row ≡ batch.rows = omega (arith, codes.all) in
    subst (λ n. AreTwins columns batch n c.loop-row.twins.items) all (c.loop-row.invariant.twins columns batch codes)
