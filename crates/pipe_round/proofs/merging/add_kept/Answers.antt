use Rattle.std.proofs.Common.{◌∙◌, [], ◌∷◌, ◌++◌, List, Bool, map, append_assoc, sym, ap, subst}
use Rattle.std.specs.List.{All}
use Rattle.std.specs.Vec.Iter.{into_iter_items}
use Rattle.std.proofs.lemmas.List.Elements.{All-tail}
use Rattle.plan_pipes.specs.Pieces.{merged_each}
use Rattle.pipe_work.specs.Kept.{Part}
use Rattle.pipe_work.specs.declared.kept.Kept.{Kept}
use Rattle.pipe_round.specs.Merged.{HaveSameRows, merged_all}
use Rattle.pipe_round.proofs.merging.add_kept.Goals as goal

pub loop-one-preserved : goal.loop-one-preserved
loop-one-preserved c =
    let l = c.loop-one in
    let one = c.in-Some.one in
    let rest = into_iter_items c.next.new.self in
    let step = c.in-Some.ensures.steps.0 in
    let part = λ (q : Kept). q.part in
    let marks = λ (q : Kept). q.marks.items in
    let P : Kept → Type 0 = HaveSameRows c.args.marks.now in
    record {
      parts = ap (λ (front : List Part). front ++ map part rest) c.in_ok-push.ensures.items
          ∙ append_assoc l.out.items (one.part ∷ []) (map part rest)
          ∙ ap (λ (more : List Kept). l.out.items ++ map part more) (sym step)
          ∙ l.invariant.parts;
      marks = ap (λ (first : List (List Bool)). merged_all first (map marks rest)) (c.merge_each.ensures.merged ∙ ap (merged_each l.marks) c.deref.ensures.value)
          ∙ ap (λ (more : List Kept). merged_all l.marks (map marks more)) (sym step)
          ∙ l.invariant.marks;
      rows = c.merge_each.ensures.rows ∙ l.invariant.rows;
      same = All-tail P one rest (subst (All P) step l.invariant.same);
    }
