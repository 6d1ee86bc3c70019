use Rattle.std.proofs.Common.{arith}
use Rattle.plan_rounds.specs.Inputs.{gathered_stream}
use Rattle.gather_plans.proofs.CloseLaws.{given_back}
use Rattle.gather_plans.proofs.FileLaws.{all_open, inputs_are, rows_over}
use Rattle.gather_plans.proofs.gather.gather_plan.Goals as goal

pub run_plan-ran-requires-clause-files : goal.run_plan-ran-requires-clause-files
run_plan-ran-requires-clause-files g c κs within = all_open g.F.R.Reader.bytes c.args.plan.now c.requires.typed c.args.opened.items c.requires.reads c.in_ok-files.files.items c.in_ok-files.ensures.taken

pub returns-in_err-all-clause-lent : goal.returns-in_err-all-clause-lent
returns-in_err-all-clause-lent g c =
    let back = given_back g.F.R.Reader.bytes c.args.opened.items c.in_ok-files.files.items c.run_plan-ran.new.files.items c.in_ok-files.ensures.taken c.run_plan-ran.ensures.seen in
    omega (arith, c.in_ok-files.ensures.lent, c.close_files-closed.ensures.lent, back)

pub returns-in_err-closed-clause-lent : goal.returns-in_err-closed-clause-lent
returns-in_err-closed-clause-lent g c =
    let back = given_back g.F.R.Reader.bytes c.args.opened.items c.in_ok-files.files.items c.run_plan-ran.new.files.items c.in_ok-files.ensures.taken c.run_plan-ran.ensures.seen in
    omega (arith, c.in_ok-files.ensures.lent, c.close_files-closed.ensures.lent, back)

pub returns-clause-rows : goal.returns-clause-rows
returns-clause-rows g c =
    let rows = c.in_ok-all.ensures.rows in
    rows_over g.F.R.Reader.bytes c.args.plan.now c.requires.typed c.args.opened.items c.requires.reads c.in_ok-files.files.items c.in_ok-files.ensures.taken (gathered_stream c.in_ok-all.all) rows.0 rows.1 rows.2

pub returns-clause-receipts : goal.returns-clause-receipts
returns-clause-receipts g c = λ none.
    inputs_are g.F.R.Reader.bytes c.args.plan.now c.requires.typed c.args.opened.items c.requires.reads c.in_ok-files.files.items c.in_ok-files.ensures.taken c.args.crew.now.workers c.in_ok-all.all.receipts.items (c.in_ok-all.ensures.receipts none)

pub returns-clause-lent : goal.returns-clause-lent
returns-clause-lent g c =
    let back = given_back g.F.R.Reader.bytes c.args.opened.items c.in_ok-files.files.items c.run_plan-ran.new.files.items c.in_ok-files.ensures.taken c.run_plan-ran.ensures.seen in
    omega (arith, c.in_ok-files.ensures.lent, c.close_files-closed.ensures.lent, back)
