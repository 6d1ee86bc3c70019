use Rattle.std.proofs.Common.{◌≡◌, ◌∙◌, length, get_or, sym, ap, arith}
use Rattle.pipe_steps.specs.Tables.{tables_seen}
use Rattle.pipe_steps.proofs.PassLaws.{many_marks, marks_set, step_marks, through_more, all_marked}
use Rattle.pipe_steps.proofs.passing.pass.Goals as goal

pub bounds-marks-at : goal.bounds-marks-at
bounds-marks-at c = omega (arith, many_marks (tables_seen c.args.tables.now) c.args.steps.now c.loop-at.marks c.loop-at.invariant.have)

pub step_over-requires-clause-marks : goal.step_over-requires-clause-marks
step_over-requires-clause-marks c =
    let l = c.loop-at in
    ap length (sym c.index-marks-at.is)
    ∙ step_marks c.args.tables.now c.args.steps.now c.args.marks.now c.args.piece l.at l.marks l.piece l.invariant (omega arith) c.index-steps-at.result c.index-steps-at.is c.index-marks-at.result c.index-marks-at.is

pub returns-in_err-passed-clause-rows : goal.returns-in_err-passed-clause-rows
returns-in_err-passed-clause-rows c =
    let l = c.loop-at in
    let own = c.index-marks-at.result in
    let long : length c.step_over.new.marks ≡ length (get_or l.marks l.at own) = omega (arith, c.in_err-passed.ensures.rows, ap length c.index-marks-at.is) in
    marks_set (tables_seen c.args.tables.now) c.args.steps.now l.marks l.at c.step_over.new.marks own long l.invariant.have

pub loop-at-preserved : goal.loop-at-preserved
loop-at-preserved c =
    let l = c.loop-at in
    let own = get_or l.marks l.at c.index-marks-at.result in
    let is_own : own ≡ get_or l.marks l.at own = ap (λ d. get_or l.marks l.at d) c.index-marks-at.is in
    let passed = c.in_ok-passed.ensures in
    through_more c.args.tables.now c.args.steps.now c.args.marks.now c.args.piece l.at l.marks l.piece l.invariant (omega arith) c.index-steps-at.result c.index-steps-at.is own c.step_over.new.marks is_own
    passed.rows c.in_ok-passed.passed passed.stream passed.types passed.fit passed.marked

pub returns-clause-marked : goal.returns-clause-marked
returns-clause-marked c =
    let l = c.loop-at in
    all_marked c.args.tables.now c.args.steps.now c.args.marks.now c.args.piece l.at l.marks l.piece l.invariant (omega arith)
