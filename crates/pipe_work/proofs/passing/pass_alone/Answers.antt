use Rattle.std.proofs.Common.{◌≡◌, ◌∙◌, [], ◌∷◌, length, sym, ap, subst}
use Rattle.std.specs.Vec.{with_items}
use Rattle.std.proofs.lemmas.List.{with_items_is}
use Rattle.batch.specs.BatchRows.{stream_of_piece}
use Rattle.plan_pipes.specs.Run.{through}
use Rattle.plan_pipes.specs.Pieces.{Agree, marks_through}
use Rattle.pipe_types.specs.Exact.{exact_steps}
use Rattle.pipe_steps.specs.Marked.{HaveMarks}
use Rattle.pipe_steps.specs.Tables.{joins_of, tables_seen}
use Rattle.pipe_work.specs.Passed.{IsPassed}
use Rattle.pipe_work.specs.Pipe.{StepsSeen}
use Rattle.pipe_work.proofs.PassedLaws.{marked_alone, same_many}
use Rattle.pipe_work.proofs.passing.pass_alone.Goals as goal

pub returns : goal.returns
returns c =
    let tables = tables_seen c.pipe.inside.tables.now in
    let steps = c.pipe.inside.steps.now in
    let piece = stream_of_piece c.args.piece in
    let marks = c.in_ok-marks.marks in
    let new = c.pass.new.marks in
    let e = c.in_ok-passed.ensures in
    let long : length new ≡ marks.len = same_many tables steps new marks.items e.rows c.in_ok-marks.ensures.rows ∙ sym marks.ok.0 in
    let is : (with_items marks new).items ≡ new = with_items_is marks new long in
    let types : c.pipe.inside.types.now ≡ c.args.pipe.now.types = ap (λ (way : StepsSeen). way.types) c.pipe.view_is in
    subst (λ (way : StepsSeen). IsPassed way piece (record { piece = c.in_ok-passed.passed; marks = with_items marks new })) c.pipe.view_is
    (record {
      stream = e.stream;
      stored = record { typed = e.types ∙ ap (through exact_steps (joins_of c.pipe.inside.tables.now) steps) (c.requires.types ∙ sym types); fit = e.fit };
      have = subst (HaveMarks tables steps) (sym is) e.rows;
      marked = λ none. subst (Agree tables steps (marks_through tables steps (piece ∷ []))) (sym is)
          (marked_alone tables steps c.deref_mut.result.now new piece (c.deref_mut.ensures.value ∙ c.in_ok-marks.ensures.none) (e.marked none));
    })
