use Rattle.std.proofs.Common.{◌≡◌, ◌++◌, ◌∷◌, [], ◌∙◌, length, sym, arith}
use Rattle.std.proofs.lemmas.List.{get_or_read}
use Rattle.plan_denote.specs.Sets.{row_at}
use Rattle.row_sorts.specs.SetPlaces.{takes}
use Rattle.row_sorts.proofs.SetLaws.{taken_left, passed_left, all_left, rows_at_places}
use Rattle.row_sorts.proofs.sets.set_of.Goals as goal
use Rattle.row_sorts.proofs.sets.set_of.Goals.{then-is_taken+in_ok-row+in_ok-push, else-is_taken}

pub loop-place-preserved : goal.loop-place-preserved
loop-place-preserved c =
    let first = c.args.first.now in
    let place = c.loop-place.place in
    let test = takes c.args.op first c.args.others.now in
    elim c.if-is_taken.branch [
      | then-is_taken+in_ok-row+in_ok-push w ↦
          (let row : w.in_ok-row.row ≡ row_at first place = w.in_ok-row.ensures ∙ get_or_read first place w.index-first-place.result c.loop-place-test.true w.index-first-place.is [] in
          let more : c.if-is_taken.rows ≡ c.loop-place.rows ++ w.in_ok-row.row ∷ [] = w.rows-is ∙ w.in_ok-push.ensures.ok in
          taken_left (row_at first) test place (length first) w.in_ok-row.row c.loop-place.rows c.if-is_taken.rows _ c.loop-place-test.true (sym c.is_taken.ensures ∙ w.if-is_taken.true) row more c.loop-place.invariant)
      | else-is_taken w ↦
          passed_left (row_at first) test place (length first) c.loop-place.rows c.if-is_taken.rows _ c.loop-place-test.true (sym c.is_taken.ensures ∙ w.if-is_taken.false) w.rows-is c.loop-place.invariant
    ]

pub returns : goal.returns
returns c = λ h k.
    all_left (row_at c.args.first.now) (takes c.args.op c.args.first.now c.args.others.now) c.loop-place.place (length c.args.first.now) c.loop-place.rows _ (omega arith) c.loop-place.invariant
    ∙ rows_at_places c.args.op c.args.first.now c.args.others.now h k
