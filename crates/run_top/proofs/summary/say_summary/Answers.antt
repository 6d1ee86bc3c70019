use Rattle.std.proofs.Common.{◌∙◌, List, ap, sym, rules, arith, inr, take}
use Rattle.sub_types.specs.declared.value.Value.{Value}
use Rattle.world.specs.Notes.{said}
use Rattle.gen_data.specs.Summary.{row_line}
use Rattle.run_words.proofs.SaidLaws.{said-nothing}
use Rattle.run_top.proofs.SummaryLaws.{line_more, line_part, whole_or_part}
use Rattle.run_top.proofs.summary.say_summary.Goals as goal

pub loop-row-init : goal.loop-row-init
loop-row-init g c = record { text = sym (said-nothing (g.N.Notes.text c.args.notes.now)); never_falls = omega arith }

pub loop-row-preserved : goal.loop-row-preserved
loop-row-preserved g c =
    let text = g.N.Notes.text in
    let row = c.as_slice.ensures ∙ c.row-item.is in
    let whole = c.say_row.ensures.whole (search rules) ∙ ap (λ (r : List Value). said (text c.loop-row.notes) (row_line r)) row in
    record {
      text = line_more (text c.args.notes.now) (text c.loop-row.notes) (text c.say_row.new.notes) c.args.rows.now c.loop-row.row-index _ c.loop-row-test.true c.loop-row.invariant.text whole;
      never_falls = omega (arith, c.say_row.ensures.part.never_falls, c.loop-row.invariant.never_falls);
    }

pub returns-then-not-say_row : goal.returns-then-not-say_row
returns-then-not-say_row g c =
    let text = g.N.Notes.text in
    let row = c.as_slice.ensures ∙ c.row-item.is in
    let part = whole_or_part (text c.loop-row.notes) (text c.say_row.new.notes) (row_line c.as_slice.result.now) c.say_row.ensures.part.text in
    let told = part.1 ∙ ap (λ (r : List Value). said (text c.loop-row.notes) (take part.0 (row_line r))) row in
    let all = line_part (text c.args.notes.now) (text c.loop-row.notes) (text c.say_row.new.notes) c.args.rows.now c.loop-row.row-index part.0 _ c.loop-row-test.true c.loop-row.invariant.text told in
    let before = c.loop-row.invariant.never_falls in
    let rose = c.say_row.ensures.failed (search rules) in
    record {
      never_falls = omega (arith, c.say_row.ensures.part.never_falls, before);
      text = inr (all.0, all.1, omega (arith, rose, before));
    }
