use Rattle.std.proofs.Common.{◌∙◌, ℕ, Bool, get_or, sym, ap}
use Rattle.set_places.specs.declared.marks.Mark.TheVariants.{Open}
use Rattle.set_places.specs.Marks.{is_taken}
use Rattle.set_places.proofs.MarkLaws.{where_taken, where_passed}
use Rattle.set_places.proofs.marks.rows_taken.Goals as goal
use Rattle.set_places.proofs.marks.rows_taken.Goals.{then-is_taken+in_ok-push, else-is_taken}

pub loop-row-preserved : goal.loop-row-preserved
loop-row-preserved c =
    let test : ℕ → Bool = λ row. is_taken (get_or c.args.marks.now row Open) in
    elim c.if-is_taken.branch [
      | then-is_taken+in_ok-push w ↦ ap (λ v. v.items) w.rows-is ∙ where_taken test c.loop-row.row c.loop-row.rows.items w.push.new.self.items (sym c.is_taken.ensures ∙ w.if-is_taken.true) w.in_ok-push.ensures.items c.loop-row.invariant
      | else-is_taken w ↦ ap (λ v. v.items) w.rows-is ∙ where_passed test c.loop-row.row c.loop-row.rows.items (sym c.is_taken.ensures ∙ w.if-is_taken.false) c.loop-row.invariant
    ]
